-- Slots that were read, and the reads that they took.
use Rattle.std.proofs.Common.{◌≡◌, ⊎_elim, ℕ, ◌+◌, ◌-◌, ◌*◌, ◌≤◌, ◌<◌, List, [], ◌∷◌, ◌++◌, length, take, drop, get_or, refl, sym, ◌∙◌, ap, add-zero, append_assoc, append-nil, arith}
use Rattle.std.proofs.lemmas.Bool.{cases_order}
use Rattle.std.proofs.lemmas.List.{get_or-take, get_or-append_right, get_or_append_left, length-take-le, length-drop}
use Rattle.std.proofs.lemmas.Slice.{take-put_mid}
use borrow.Rule.Slice.PartMut.{put_mid}
use Rattle.va_layout.specs.Parts.{part, byte_at}
use Rattle.va_layout.specs.Layout.{slot_at}
use Rattle.va_layout.proofs.Parts.{part_within}
use Rattle.va_rows.specs.declared.slot.Slot.{Slot}
use Rattle.va_rows.specs.Slots.{slot_from, slot_of, HoldsSlots, InTable, ReadsSlots}

-- the 8 bytes of a slot hold what the image has there
slot_there : (p : ℕ) (image : List ℕ) → slot_from (part (slot_at p) 8 image) ≡ slot_of p image
slot_there p image =
    let gate : byte_at 0 (part (slot_at p) 8 image) ≡ byte_at (slot_at p) image =
    ap (λ (l : List ℕ). get_or l 0 0) (part_within (slot_at p) 0 1 8 image (omega arith) ∙ ap (λ (at : ℕ). part at 1 image) (add-zero (slot_at p))) in
    rw (gate, part_within (slot_at p) 4 4 8 image (omega arith)) refl

next_slots : (first k : ℕ) → slot_at first + 8 * k ≡ slot_at (first + k)
next_slots first k = omega arith

-- the k-th of the slots that were read
pub slot_read : (first count k : ℕ) (image bytes : List ℕ) → k < count → bytes ≡ part (slot_at first) (8 * count) image → slot_from (part (8 * k) 8 bytes) ≡ slot_of (first + k) image
slot_read first count k image bytes less is =
    ap (λ (l : List ℕ). slot_from (part (8 * k) 8 l)) is
    ∙ ap slot_from (part_within (slot_at first) (8 * k) 8 (8 * count) image (omega arith) ∙ ap (λ (at : ℕ). part at 8 image) (next_slots first k))
    ∙ slot_there (first + k) image

pub piece_length : {A : Type 0} (done n : ℕ) (l : List A) → done + n ≤ length l → length (take (done + n - done) (drop done l)) ≡ n
piece_length done n l le =
    let same : done + n - done ≡ n = omega arith in
    rw same (length-take-le n (drop done l) (omega (arith, length-drop done l)))

-- the slots of a piece go behind those that were read before
pub holds_more : (done count k : ℕ) (image : List ℕ) (out piece : List Slot) → HoldsSlots done image out → done + count ≤ length out → length piece ≡ count
    → ((k : ℕ) (other : Slot) → k < count → get_or piece k other ≡ slot_of (done + k) image) → HoldsSlots (done + count) image (put_mid done k out piece)
holds_more done count k image out piece before fits long now = λ p other less.
    let front : take (done + count) (put_mid done k out piece) ≡ take done out ++ piece = take-put_mid done k out piece (done + count) (omega arith) (omega arith) in
    let first : length (take done out) ≡ done = length-take-le done out (omega arith) in
    let behind : done ≤ p → get_or (take done out ++ piece) p other ≡ slot_of p image = λ le.
    (let there : done + (p - done) ≡ p = omega arith in
    get_or-append_right (take done out) piece done p other first le ∙ now (p - done) other (omega arith) ∙ ap (λ (q : ℕ). slot_of q image) there) in
    sym (get_or-take (done + count) (put_mid done k out piece) p other less)
    ∙ ap (λ (l : List Slot). get_or l p other) front
    ∙ ⊎_elim (λ same. behind (omega (arith, same)))
    (λ order. ⊎_elim
    (λ lt. get_or_append_left (take done out) piece other p (omega (arith, lt, first)) ∙ get_or-take done out p other lt ∙ before p other lt)
    (λ gt. behind (omega (arith, gt))) order)
    (cases_order p done)

in_table_both : (capacity : ℕ) (a b : List (ℕ × ℕ)) → InTable capacity a → InTable capacity b → InTable capacity (a ++ b)
in_table_both capacity [] b first next = next
in_table_both capacity (read ∷ a) b first next = (first.0, in_table_both capacity a b first.1 next)

pub reads_none : (capacity : ℕ) (old : List (ℕ × ℕ)) → ReadsSlots capacity old old
reads_none capacity old = record { added = []; is = sym (append-nil old); in_table = tt }

-- one read more
pub reads_more : (capacity first count : ℕ) (old mid new : List (ℕ × ℕ)) → ReadsSlots capacity old mid → new ≡ mid ++ (slot_at first, 8 * count) ∷ [] → first + count ≤ capacity → count ≤ 512 → ReadsSlots capacity old new
reads_more capacity first count old mid new before is fits few = record {
  added = before.added ++ (slot_at first, 8 * count) ∷ [];
  is = is ∙ ap (λ (l : List (ℕ × ℕ)). l ++ (slot_at first, 8 * count) ∷ []) before.is ∙ append_assoc old before.added ((slot_at first, 8 * count) ∷ []);
  in_table = in_table_both capacity before.added ((slot_at first, 8 * count) ∷ []) before.in_table ((omega arith, omega arith, omega arith), tt);
}
