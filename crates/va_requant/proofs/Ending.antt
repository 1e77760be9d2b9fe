-- What a conversion leaves once it has ended, with ids that are left or with the switch.
use Rattle.std.proofs.Common.{◌≡◌, ◌⊎◌, ⊎_elim, inl, inr, ℕ, zero, suc, ◌+◌, ◌-◌, ◌≤◌, ◌<◌, List, [], ◌∷◌, ◌++◌, length, drop, Bool, true, false, if◌then◌else◌, nat_lt, Option, Some, None, Result, Ok, Err, refl, sym, ◌∙◌, ap, subst, arith}
use Rattle.std.proofs.lemmas.Bool.{lt-ltb, le-ltb}
use Rattle.va_disk.specs.Frames.{OnlyWrites}
use Rattle.va_disk.specs.declared.storage.Storage.{Ghosts}
use Rattle.va_disk.proofs.Moments.{weaker}
use Rattle.va_layout.specs.Stands.{Kept, Stands, with_marks, Building, progress_of}
use Rattle.va_requant.specs.Refitting.{SameOrChanged, kept_after, waiting}
use Rattle.va_requant.proofs.Advancing.{is_of_first}
use Rattle.va_core.specs.Above.{is_above, live_above, placed}
use Rattle.va_store.specs.Builds.{last_of, marks_of_building}
use Rattle.va_store.specs.Ids.{IsAbove, IsNextLive}
use Rattle.va_store.specs.Known.{Becomes, BeforeOrAfter, IsOf, Known}
use Rattle.va_store.specs.Refits.{GivesNothing, ReadsThese, StaysIn, converted, refitted, same_kept, switched}
use Rattle.va_store.proofs.Quiet.{quiet_both, quiet_writes, reads_all}

module _ (n : ℕ) (known : Known) where
  pub kept_more : n < length (waiting known) → (kept : Kept) → kept_after n known kept ≡ kept
  kept_more less kept = ap (λ (b : Bool). if b then kept else refitted known kept) (lt-ltb n (length (waiting known)) less)

  pub kept_all : length (waiting known) ≤ n → (kept : Kept) → kept_after n known kept ≡ refitted known kept
  kept_all le kept = ap (λ (b : Bool). if b then kept else refitted known kept) (le-ltb n (length (waiting known)) le)

placed_some : (b : Bool) (x y : ℕ) (behind before : List ℕ) → (if b then y ∷ behind else x ∷ before) ≡ [] → ⊥
placed_some true x y behind before e = cc
placed_some false x y behind before e = cc

not_placed : (x : ℕ) (l : List ℕ) → placed x l ≡ [] → ⊥
not_placed x [] e = cc
not_placed x (y ∷ l) e = placed_some (nat_lt y x) x y (placed x l) (y ∷ l) e

left_out : (b : Bool) (x : ℕ) (l : List ℕ) → (if b then placed x l else l) ≡ [] → b ≡ false
left_out true x l e = absurd (not_placed x l e)
left_out false x l e = refl

none_behind : (b : Bool) (x : ℕ) (l : List ℕ) → (if b then placed x l else l) ≡ [] → l ≡ []
none_behind true x l e = absurd (not_placed x l e)
none_behind false x l e = e

above_true : (after : Option ℕ) (id : ℕ) → IsAbove after id → is_above after id ≡ true
above_true None id above = refl
above_true (Some after) id above = lt-ltb after id above

-- where no live id is above another
pub empty_above : (after : Option ℕ) (ids : List (Option ℕ)) → live_above after ids ≡ [] → IsNextLive after ids None
empty_above after [] empty id place lives over = cc
empty_above after (None ∷ ids) empty id zero lives over = cc
empty_above after (None ∷ ids) empty id (suc place) lives over = empty_above after ids empty id place lives over
empty_above after (Some x ∷ ids) empty id zero lives over =
    let same : x ≡ id = cc in
    let in_front : is_above after x ≡ true = above_true after x (subst (IsAbove after) (sym same) over) in
    let out : is_above after x ≡ false = left_out (is_above after x) x (live_above after ids) empty in
    let e : true ≡ false = sym in_front ∙ out in cc
empty_above after (Some x ∷ ids) empty id (suc place) lives over = empty_above after ids (none_behind (is_above after x) x (live_above after ids) empty) id place lives over

drop_all : (n : ℕ) (l : List ℕ) → length l ≤ n → drop n l ≡ []
drop_all zero [] le = refl
drop_all zero (x ∷ l) le = absurd (omega (arith, le))
drop_all (suc n) [] le = refl
drop_all (suc n) (x ∷ l) le = drop_all n l (omega (arith, le))

-- nothing is waiting once all that waited were converted
pub all_converted : (first known : Known) (count : ℕ) → count ≡ length (waiting first) → waiting known ≡ drop count (waiting first) → IsNextLive (last_of known.building) known.ids None
all_converted first known count is left = empty_above (last_of known.building) known.ids (left ∙ drop_all count (waiting first) (omega (arith, is)))

module _ (first : Known) {known : Known} (same : known ≡ record first { building = known.building }) (marks : marks_of_building known.building ≡ marks_of_building first.building) where
  pub switched_same : switched known ≡ switched first
  switched_same = ap switched same ∙ ap (λ (m : List (List ℕ)). switched (record first { building = Some (record { marks = m; last = None }) })) marks

  pub refitted_same : (kept : Kept) → refitted known kept ≡ refitted first kept
  refitted_same kept = ap (λ (m : List (List ℕ)). with_marks m kept) marks

  pub of_known : {kept : Kept} → IsOf first kept → IsOf known kept
  of_known {kept} is = subst (λ (k : Known). IsOf k kept) (sym same) (is_of_first known.building is)

  pub stands_switched_to : {D : Type 0} (g : Ghosts D) (start mid after : D) → Becomes g first same_kept start mid → Becomes g known (refitted known) mid after → Becomes g first (refitted first) start after
  stands_switched_to {D} g start mid after before behind = λ told kept is stood.
      subst (λ (k : Kept). Stands k (g.image after)) (refitted_same kept) (behind told kept (of_known is) (before told kept is stood))

  pub frame_switched : {D : Type 0} {g : Ghosts D} {start mid after : D} → GivesNothing g start mid (StaysIn g first start) → (g.honest → (c : List ℕ) → g.may_leave mid c → StaysIn g first start c)
      → OnlyWrites g mid after (BeforeOrAfter g known (refitted known) mid) → GivesNothing g start after (SameOrChanged g first (refitted first) start)
  frame_switched {D} {g} {start} {mid} {after} before outcomes behind = quiet_both before (quiet_writes behind (λ honest x has. has))
      (λ honest x stays told kept is each. inl (stays kept is each).0)
      (λ honest x has told kept is each. ⊎_elim (λ was. inl was) (λ now. inr (subst (λ (k : Kept). Stands k x) (refitted_same kept) now))
      (has told kept (of_known is) (λ y left. (outcomes honest y left kept is each).0)))

-- what stays stands for what is kept
pub frame_same : {D : Type 0} {g : Ghosts D} {first : Known} {start after : D} (change : Kept → Kept) → GivesNothing g start after (StaysIn g first start) → GivesNothing g start after (SameOrChanged g first change start)
frame_same {D} {g} {first} {start} {after} change before = record {
  given = before.given;
  sink = before.sink;
  later = before.later;
  moments = λ honest. weaker g.clock g.left_since start after _ _ (λ c given has. ((λ told kept is each. inl (has.0 kept is each).0), has.1)) (before.moments honest);
}

-- two changes that are the same
pub frame_changed : {D : Type 0} {g : Ghosts D} {first : Known} {start after : D} (change other : Kept → Kept) → ((kept : Kept) → other kept ≡ change kept)
    → GivesNothing g start after (SameOrChanged g first change start) → GivesNothing g start after (SameOrChanged g first other start)
frame_changed {D} {g} {first} {start} {after} change other same before = record {
  given = before.given;
  sink = before.sink;
  later = before.later;
  moments = λ honest. weaker g.clock g.left_since start after _ _
      (λ c given has. ((λ told kept is each. ⊎_elim (λ was. inl was) (λ now. inr (subst (λ (k : Kept). Stands k c) (sym (same kept)) now)) (has.0 told kept is each)), has.1)) (before.moments honest);
}

-- all of these were read, whatever the call answers
pub reads_these : {D T E : Type 0} {g : Ghosts D} {old new : D} (reads : List (ℕ × ℕ)) (result : Result T E) → (g.told → g.reads new ≡ g.reads old ++ reads) → ReadsThese g reads old new result
reads_these reads (Ok x) is = record { ok = is; err = tt }
reads_these reads (Err e) is = record { ok = tt; err = reads_all reads is }

-- the last id that was converted, where marks are being built
last_known : (building : Option Building) {last : Option ℕ} → progress_of building ≡ Some last → last ≡ last_of building
last_known None e = cc
last_known (Some b) e = cc

-- and so how many are waiting
pub waiting_count : (known : Known) {asked : Option (Option ℕ)} {last : Option ℕ} {count : ℕ} → asked ≡ progress_of known.building → asked ≡ Some last → count ≡ length (live_above last known.ids) → count ≡ length (waiting known)
waiting_count known asks is count = count ∙ ap (λ (last : Option ℕ). length (live_above last known.ids)) (last_known known.building (sym asks ∙ is))
