-- Calls that give nothing, and the reads that they make, one after another.
use Rattle.std.proofs.Common.{◌≡◌, ℕ, List, [], ◌++◌, append_assoc, refl, sym, ◌∙◌, ap, arith}
use Rattle.std.proofs.lemmas.List.{append-nil}
use Rattle.va_disk.specs.Frames.{OnlyReads, OnlyWrites}
use Rattle.va_disk.specs.declared.storage.Storage.{Ghosts}
use Rattle.va_disk.proofs.Moments.{nothing_leaves, then_leaves, weaker}
use Rattle.va_store.specs.Refits.{GivesNothing, ReadsFirst}

module _ {D : Type 0} {g : Ghosts D} where
  pub quiet_reads : {old new : D} {P : List ℕ → Type 0} → OnlyReads g old new → GivesNothing g old new P
  quiet_reads {old} {new} reads = record {
    given = reads.given;
    sink = reads.sink;
    later = reads.later;
    moments = λ honest. weaker g.clock g.left_since old new _ _ (λ c given no. absurd no) (reads.moments honest);
  }

  pub quiet_writes : {old new : D} {P Q : List ℕ → Type 0} → OnlyWrites g old new P → (g.honest → (c : List ℕ) → P c → Q c) → GivesNothing g old new Q
  quiet_writes {old} {new} writes leads = record {
    given = writes.given;
    sink = writes.sink;
    later = writes.later;
    moments = λ honest. weaker g.clock g.left_since old new _ _ (λ c given has. (leads honest c has.0, has.1)) (writes.moments honest);
  }

  pub quiet_both : {old mid new : D} {P Q R : List ℕ → Type 0} → GivesNothing g old mid P → GivesNothing g mid new Q
      → (g.honest → (c : List ℕ) → P c → R c) → (g.honest → (c : List ℕ) → Q c → R c) → GivesNothing g old new R
  quiet_both {old} {mid} {new} first next before behind = record {
    given = next.given ∙ first.given;
    sink = next.sink ∙ first.sink;
    later = omega (arith, first.later, next.later);
    moments = λ honest. then_leaves g.clock g.left_since old mid new _
        (weaker g.clock g.left_since old mid _ _ (λ c given has. (before honest c has.0, has.1)) (first.moments honest))
        (weaker g.clock g.left_since mid new _ _ (λ c given has. (behind honest c has.0, has.1 ∙ first.given)) (next.moments honest));
  }

  pub quiet_nothing : {state : D} {P : List ℕ → Type 0} → GivesNothing g state state P
  quiet_nothing {state} = record { given = refl; sink = refl; later = omega arith; moments = λ honest. nothing_leaves g.clock g.left_since state _ }

  -- none of these was read
  pub reads_none : {old new : D} (reads : List (ℕ × ℕ)) → g.reads new ≡ g.reads old → ReadsFirst g reads old new
  reads_none {old} {new} reads same = record { made = []; left = reads; split = refl; is = λ told. same ∙ sym (append-nil (g.reads old)) }

  -- all of these were read
  pub reads_all : {old new : D} (reads : List (ℕ × ℕ)) → (g.told → g.reads new ≡ g.reads old ++ reads) → ReadsFirst g reads old new
  reads_all {old} {new} reads is = record { made = reads; left = []; split = append-nil reads; is = is }

  -- these were read, and then the first of some more
  pub reads_behind : {old mid new : D} (before : List (ℕ × ℕ)) {behind all : List (ℕ × ℕ)} → (g.told → g.reads mid ≡ g.reads old ++ before) → ReadsFirst g behind mid new → before ++ behind ≡ all → ReadsFirst g all old new
  reads_behind {old} {mid} {new} before {behind} first next joined = record {
    made = before ++ next.made;
    left = next.left;
    split = append_assoc before next.made next.left ∙ ap (λ (l : List (ℕ × ℕ)). before ++ l) next.split ∙ joined;
    is = λ told. next.is told ∙ ap (λ (l : List (ℕ × ℕ)). l ++ next.made) (first told) ∙ append_assoc (g.reads old) before next.made;
  }
