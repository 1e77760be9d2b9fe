-- Frames of calls, one after another.
use Rattle.std.proofs.Common.{◌≡◌, ◌≤◌, ◌++◌, inr, inl, ⊎_elim, ℕ, List, refl, ◌∙◌, subst, arith}
use Rattle.va_disk.specs.Crashes.{Leaves}
use Rattle.va_disk.specs.Frames.{Goes, OnlyReads, OnlyWrites, OnlyGives}
use Rattle.va_disk.specs.Told.{Gives, GivesPrefix}
use Rattle.va_disk.proofs.Giving.{gives_prefix_after}
use Rattle.va_disk.specs.declared.storage.Storage.{Ghosts}
use Rattle.va_disk.proofs.Moments.{then_leaves, weaker, nothing_leaves}

module _ {D : Type 0} (g : Ghosts D) where
  -- the moments of one call
  pub once : (old new : D) (P : List ℕ → List ℕ → Type 0) → g.honest → Goes g old new → ((c : List ℕ) → g.may_leave new c → P c (g.given new)) → Leaves g.clock g.left_since old new P
  once old new P honest time here = record {
    later = (time honest).later;
    each = λ t c given le left. ⊎_elim (λ was. inl was) (λ now. inr (first c given now)) ((time honest).nothing_else t c given le left);
  }
    where
      first : (c given : List ℕ) → g.may_leave new c × (given ≡ g.given new) → P c given
      first c given now = rw now.1 (here c now.0)

module _ {D : Type 0} {g : Ghosts D} where
  pub reads_once : {old new : D} → g.image new ≡ g.image old → g.size new ≡ g.size old → g.given new ≡ g.given old → g.sink_faults new ≡ g.sink_faults old → g.faults old ≤ g.faults new
      → (g.honest → (c : List ℕ) → g.may_leave new c → g.may_leave old c) → Goes g old new
      → ((t : ℕ) (c : List ℕ) → t ≤ g.clock old → g.may_leave old c → g.left_since old t c (g.given old)) → OnlyReads g old new
  reads_once {old} {new} image size given sink later crash time counts = record {
    image = image;
    size = size;
    given = given;
    sink = sink;
    later = later;
    crash = crash;
    moments = λ honest. record {
      later = (time honest).later;
      each = λ t c given' le left. inl (⊎_elim (λ was. was) (λ now. rw (now.1 ∙ given) (counts t c le (crash honest c now.0))) ((time honest).nothing_else t c given' le left));
    };
  }

  pub writes_once : {old new : D} → g.reads new ≡ g.reads old → g.given new ≡ g.given old → g.sink_faults new ≡ g.sink_faults old → g.faults old ≤ g.faults new → Goes g old new → OnlyWrites g old new (g.may_leave new)
  writes_once reads given sink later time = record { reads = reads; given = given; sink = sink; later = later; moments = λ honest. once g _ _ _ honest time (λ c left. (left, given)) }

  pub gives_once : {text : List ℕ} {old new : D} → g.image new ≡ g.image old → g.size new ≡ g.size old → g.reads new ≡ g.reads old → g.faults new ≡ g.faults old → g.sink_faults old ≤ g.sink_faults new
      → (g.honest → (c : List ℕ) → g.may_leave new c → g.may_leave old c) → GivesPrefix g.told (g.given old) text (g.given new) → Goes g old new → OnlyGives g text old new
  gives_once image size reads faults later crash part time = record {
    image = image;
    size = size;
    reads = reads;
    faults = faults;
    later = later;
    crash = crash;
    moments = λ honest told. once g _ _ _ honest time (λ c left. (crash honest c left, part));
  }

  pub reads_both : {old mid new : D} → OnlyReads g old mid → OnlyReads g mid new → OnlyReads g old new
  reads_both {old} {mid} {new} first next = record {
    image = next.image ∙ first.image;
    size = next.size ∙ first.size;
    given = next.given ∙ first.given;
    sink = next.sink ∙ first.sink;
    later = omega (arith, first.later, next.later);
    crash = λ honest c left. first.crash honest c (next.crash honest c left);
    moments = λ honest. then_leaves g.clock g.left_since old mid new _ (first.moments honest) (next.moments honest);
  }

  pub reads_nothing : {state : D} → OnlyReads g state state
  reads_nothing {state} = record {
    image = refl;
    size = refl;
    given = refl;
    sink = refl;
    later = omega arith;
    crash = λ honest c left. left;
    moments = λ honest. nothing_leaves g.clock g.left_since state _;
  }

  -- more is given behind what was given
  pub gives_on : {old mid new : D} (a : List ℕ) {b text : List ℕ} → a ++ b ≡ text → OnlyGives g text old mid → Gives g.told (g.given old) a (g.given mid) → OnlyGives g b mid new → OnlyGives g text old new
  gives_on {old} {mid} {new} a {b} {text} joined first given next = record {
    image = next.image ∙ first.image;
    size = next.size ∙ first.size;
    reads = next.reads ∙ first.reads;
    faults = next.faults ∙ first.faults;
    later = omega (arith, first.later, next.later);
    crash = λ honest c left. first.crash honest c (next.crash honest c left);
    moments = λ honest told. then_leaves g.clock g.left_since old mid new _ (first.moments honest told)
        (weaker g.clock g.left_since mid new _ _
        (λ c given' has. (first.crash honest c has.0, subst (λ (l : List ℕ). GivesPrefix g.told (g.given old) l given') joined (gives_prefix_after g.told (g.given old) (g.given mid) given' a b given has.1)))
        (next.moments honest told));
  }

  -- one run of writes after another
  pub writes_both : {old mid new : D} {P Q R : List ℕ → Type 0} → OnlyWrites g old mid P → OnlyWrites g mid new Q
      → (g.honest → (c : List ℕ) → P c → R c) → (g.honest → (c : List ℕ) → Q c → R c) → OnlyWrites g old new R
  writes_both {old} {mid} {new} first next before behind = record {
    reads = next.reads ∙ first.reads;
    given = next.given ∙ first.given;
    sink = next.sink ∙ first.sink;
    later = omega (arith, first.later, next.later);
    moments = λ honest. then_leaves g.clock g.left_since old mid new _
        (weaker g.clock g.left_since old mid _ _ (λ c given has. (before honest c has.0, has.1)) (first.moments honest))
        (weaker g.clock g.left_since mid new _ _ (λ c given has. (behind honest c has.0, has.1 ∙ first.given)) (next.moments honest));
  }

  pub writes_weaker : {old new : D} {P Q : List ℕ → Type 0} → OnlyWrites g old new P → (g.honest → (c : List ℕ) → P c → Q c) → OnlyWrites g old new Q
  writes_weaker {old} {new} frame leads = record {
    reads = frame.reads;
    given = frame.given;
    sink = frame.sink;
    later = frame.later;
    moments = λ honest. weaker g.clock g.left_since old new _ _ (λ c given has. (leads honest c has.0, has.1)) (frame.moments honest);
  }

  -- a call that reads nothing and writes nothing, as a sync
  pub writes_nothing : {old new : D} {P : List ℕ → Type 0} → g.reads new ≡ g.reads old → OnlyReads g old new → OnlyWrites g old new P
  writes_nothing {old} {new} reads frame = record {
    reads = reads;
    given = frame.given;
    sink = frame.sink;
    later = frame.later;
    moments = λ honest. weaker g.clock g.left_since old new _ _ (λ c given no. absurd no) (frame.moments honest);
  }

  -- where the disk tells its contents
  pub told_moments : {old new : D} {P : List ℕ → Type 0} → OnlyWrites g old new (λ c. g.told → P c) → g.honest → g.told → Leaves g.clock g.left_since old new (λ c given. P c × (given ≡ g.given old))
  told_moments {old} {new} frame honest told = weaker g.clock g.left_since old new _ _ (λ c given has. (has.0 told, has.1)) (frame.moments honest)
