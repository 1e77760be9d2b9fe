-- Ranges that were written: which places they have, and what setting them to one value comes to.
use Rattle.std.proofs.Common.{◌≡◌, ◌⊎◌, inl, inr, ⊎_elim, ℕ, ◌+◌, ◌-◌, ◌<◌, ◌≤◌, List, [], ◌∷◌, ◌++◌, length, get_or, take, drop, replicate, refl, sym, ◌∙◌, ap, subst, arith, length-append, length-take, zero, suc}
use Rattle.std.proofs.lemmas.Bool.{cases_lt}
use Rattle.std.proofs.lemmas.List.{get_or-take, get_or-drop, get_or_append_left, get_or-append_right, get_or-replicate, length-replicate}
use Rattle.va_disk.specs.Crashes.{Torn, Holds}
use Rattle.va_disk.specs.TornLaws.{torn_of_holds, holds_length}
use Rattle.va_disk.specs.DiskModel.{IsWritten, SetsWritten, AreWithin}

-- the range has the place, or it doesn't
pub is_in : (at n place : ℕ) → ((at ≤ place) × (place < at + n)) ⊎ ((place < at) ⊎ (at + n ≤ place))
is_in at n place = elim (cases_lt place at) [
  | inl before ↦ inr (inl before)
  | inr from ↦ elim (cases_lt place (at + n)) [
    | inl to ↦ inl (from, to)
    | inr past ↦ inr (inr past)
  ]
]

-- a place that isn't written is outside the first range
pub apart : (range : ℕ × ℕ) (others : List (ℕ × ℕ)) (place : ℕ) → ¬ IsWritten (range ∷ others) place → (place < range.0) ⊎ (range.0 + range.1 ≤ place)
apart range others place unwritten = elim (is_in range.0 range.1 place) [
  | inl has ↦ absurd (unwritten (inl has))
  | inr out ↦ out
]

pub not_in : (at n place : ℕ) → (place < at) ⊎ (at + n ≤ place) → ¬ ((at ≤ place) × (place < at + n))
not_in at n place (inl before) has = omega (arith, before, has.0)
not_in at n place (inr past) has = omega (arith, past, has.1)

-- a place outside the first range and the others isn't written
pub unwritten : (range : ℕ × ℕ) (others : List (ℕ × ℕ)) (place : ℕ) → (place < range.0) ⊎ (range.0 + range.1 ≤ place) → ¬ IsWritten others place → ¬ IsWritten (range ∷ others) place
unwritten range others place out none (inl has) = not_in range.0 range.1 place out has
unwritten range others place out none (inr has) = none has

pub written_before : (ranges : List (ℕ × ℕ)) (range : ℕ × ℕ) (place : ℕ) → IsWritten ranges place → IsWritten (ranges ++ range ∷ []) place
written_before [] range place has = absurd has
written_before (r ∷ ranges) range place (inl has) = inl has
written_before (r ∷ ranges) range place (inr has) = inr (written_before ranges range place has)

pub written_last : (ranges : List (ℕ × ℕ)) (range : ℕ × ℕ) (place : ℕ) → (range.0 ≤ place) × (place < range.0 + range.1) → IsWritten (ranges ++ range ∷ []) place
written_last [] range place has = inl has
written_last (r ∷ ranges) range place has = inr (written_last ranges range place has)

pub written_either : (ranges : List (ℕ × ℕ)) (range : ℕ × ℕ) (place : ℕ) → IsWritten (ranges ++ range ∷ []) place → IsWritten ranges place ⊎ ((range.0 ≤ place) × (place < range.0 + range.1))
written_either [] range place (inl has) = inr has
written_either [] range place (inr has) = absurd has
written_either (r ∷ ranges) range place (inl has) = inl (inl has)
written_either (r ∷ ranges) range place (inr has) = ⊎_elim (λ before. inl (inr before)) (λ last. inr last) (written_either ranges range place has)

torn_behind : (at n : ℕ) (a b : List ℕ) (j : ℕ) → Torn at n a b → get_or b ((at + n) + j) 0 ≡ get_or a ((at + n) + j) 0
torn_behind at n a b j torn = sym (get_or-drop (at + n) b j 0) ∙ ap (λ (l : List ℕ). get_or l j 0) torn.after ∙ get_or-drop (at + n) a j 0

-- what is torn in a range stays outside it
pub torn_stays : (at n : ℕ) (a b : List ℕ) (place : ℕ) → Torn at n a b → (place < at) ⊎ (at + n ≤ place) → get_or b place 0 ≡ get_or a place 0
torn_stays at n a b place torn (inl lt) = sym (get_or-take at b place 0 lt) ∙ ap (λ (l : List ℕ). get_or l place 0) torn.before ∙ get_or-take at a place 0 lt
torn_stays at n a b place torn (inr ge) =
    let is : (at + n) + (place - (at + n)) ≡ place = omega arith in
    subst (λ (m : ℕ). get_or b m 0 ≡ get_or a m 0) is (torn_behind at n a b (place - (at + n)) torn)

-- one range more is set
module _ (image now next : List ℕ) (ranges : List (ℕ × ℕ)) (range : ℕ × ℕ) (byte : ℕ) (inside : range.0 + range.1 ≤ length image)
    (so_far : SetsWritten image ranges byte now) (holds : Holds now range.0 (replicate range.1 byte) next) where
  run : List ℕ
  run = replicate range.1 byte

  torn : Torn range.0 range.1 now next
  torn = subst (λ (n : ℕ). Torn range.0 n now next) (length-replicate range.1 byte) (torn_of_holds range.0 now (replicate range.1 byte) (omega (arith, inside, so_far.size)) next holds)

  size : length next ≡ length image
  size = omega (arith, holds_length range.0 now (replicate range.1 byte) (omega (arith, inside, so_far.size)) next holds, length-replicate range.1 byte, so_far.size, inside)

  in_range : (place : ℕ) → (range.0 ≤ place) × (place < range.0 + range.1) → get_or next place 0 ≡ byte
  in_range place has =
      let front = take range.0 now in
      let front_is : length front ≡ range.0 = omega (arith, length-take range.0 now, inside, so_far.size) in
      let run_is : length (replicate range.1 byte) ≡ range.1 = length-replicate range.1 byte in
      ap (λ (l : List ℕ). get_or l place 0) holds
      ∙ get_or_append_left (front ++ replicate range.1 byte) (drop (range.0 + length (replicate range.1 byte)) now) 0 place (omega (arith, length-append front (replicate range.1 byte), front_is, run_is, has.1))
      ∙ get_or-append_right front (replicate range.1 byte) range.0 place 0 front_is has.0
      ∙ get_or-replicate range.1 (place - range.0) byte 0 (omega (arith, has.0, has.1))

  pub sets_more : SetsWritten image (ranges ++ range ∷ []) byte next
  sets_more = record {
    size = size;
    written = λ place lt has. elim (is_in range.0 range.1 place) [
      | inl here ↦ in_range place here
      | inr out ↦ torn_stays range.0 range.1 now next place torn out ∙ ⊎_elim (λ before. so_far.written place lt before) (λ last. absurd (not_in range.0 range.1 place out last)) (written_either ranges range place has)
    ];
    others = λ place lt unwritten. elim (is_in range.0 range.1 place) [
      | inl here ↦ absurd (unwritten (written_last ranges range place here))
      | inr out ↦ torn_stays range.0 range.1 now next place torn out ∙ so_far.others place lt (λ before. unwritten (written_before ranges range place before))
    ];
  }

pub sets_none : (image : List ℕ) (byte : ℕ) → SetsWritten image [] byte image
sets_none image byte = record { size = refl; written = λ place lt has. absurd has; others = λ place lt unwritten. refl }

-- the range at an index ends inside
pub within_at : (size : ℕ) (ranges : List (ℕ × ℕ)) (i : ℕ) → AreWithin size ranges → i < length ranges → (get_or ranges i (0, 0)).0 + (get_or ranges i (0, 0)).1 ≤ size
within_at size [] i within lt = omega (arith, lt)
within_at size (r ∷ ranges) zero within lt = within.0
within_at size (r ∷ ranges) (suc i) within lt = within_at size ranges i within.1 (omega (arith, lt))
