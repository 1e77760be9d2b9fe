-- An image has at most one first fault.
use Rattle.std.proofs.Common.{◌≡◌, ⊎_elim, ℕ, ◌<◌, List, get_or, Option, None, Some, sym, ◌∙◌, ap}
use Rattle.std.proofs.lemmas.Bool.{cases_order}
use Rattle.va_core.specs.Shape.{Shape}
use Rattle.va_layout.specs.declared.region.Region.{Region}
use Rattle.va_layout.specs.Fields.{head_in, marks_in}
use Rattle.va_layout.specs.Header.{shape_in}
use Rattle.va_layout.specs.Stands.{selected_in}
use Rattle.va_marks.proofs.RoundTrip.{marks_read_has_shape}
use Rattle.va_store.specs.Image.{IsCodeFault, IsFault, IsMarksFault, IsPlaceFault, IsRegionFault, ids_in}
use Rattle.va_store.specs.declared.faults.OpenFault.{OpenFault}
use Rattle.va_store.specs.declared.faults.OpenFault.TheVariants as faults
use Rattle.va_store.proofs.Found.{lives_some, marks_faultless}

some_fault : {a b : OpenFault} → Some a ≡ Some b → a ≡ b
some_fault {a} {b} e = cc

-- two least numbers are one
one_least : (a b : ℕ) → (a < b → ⊥) → (b < a → ⊥) → a ≡ b
one_least a b below above = ⊎_elim (λ same. same) (λ order. ⊎_elim (λ less. absurd (below less)) (λ more. absurd (above more)) order) (cases_order a b)

module _ (shape : Shape) (region : Region) (image : List ℕ) {a b : OpenFault} where
  one_marks : IsMarksFault shape region image a → IsMarksFault shape region image b → a ≡ b
  one_marks first second =
      let same : first.0 ≡ second.0 = one_least first.0 second.0 (λ less. first.2.invalid (second.2.valid_before first.0 less)) (λ less. second.2.invalid (first.2.valid_before second.0 less)) in
      first.1 ∙ ap (λ (n : ℕ). faults.Marks n) same ∙ sym second.1

  one_code : (marks : List (List ℕ)) (ids : List (Option ℕ)) → IsCodeFault shape region marks ids image a → IsCodeFault shape region marks ids image b → a ≡ b
  one_code marks ids first second =
      let here = lives_some (get_or ids first.0 None) first.2.lives in
      let there = lives_some (get_or ids second.0 None) second.2.lives in
      let same : first.0 ≡ second.0 = one_least first.0 second.0 (λ less. first.2.unnamed (second.2.named_before first.0 here.0 less here.1)) (λ less. second.2.unnamed (first.2.named_before second.0 there.0 less there.1)) in
      first.1 ∙ ap (λ (n : ℕ). faults.Code n) same ∙ sym second.1

  one_place : (marks : List (List ℕ)) (ids : List (Option ℕ)) → IsPlaceFault shape region marks ids image a → IsPlaceFault shape region marks ids image b → a ≡ b
  one_place marks ids first second = ⊎_elim
      (λ x. ⊎_elim (λ y. some_fault (sym x ∙ y)) (λ y. absurd (let e = sym x ∙ y.0 in cc)) second)
      (λ x. ⊎_elim (λ y. absurd (let e = sym y ∙ x.0 in cc)) (λ y. one_code marks ids x.1 y.1) second)
      first

  one_region : IsRegionFault shape region image a → IsRegionFault shape region image b → a ≡ b
  one_region first second = ⊎_elim
      (λ x. ⊎_elim (λ y. one_marks x y) (λ y. absurd (marks_faultless shape region image (marks_read_has_shape shape _) y.0 x)) second)
      (λ x. ⊎_elim (λ y. absurd (marks_faultless shape region image (marks_read_has_shape shape _) x.0 y)) (λ y. one_place (marks_in shape region image) (ids_in shape.capacity image) x.1 y.1) second)
      first

pub one_fault : (image : List ℕ) {a b : OpenFault} → IsFault image a → IsFault image b → a ≡ b
one_fault image {a} {b} first second = ⊎_elim
    (λ x. ⊎_elim (λ y. some_fault (sym x ∙ y)) (λ y. absurd (let e = sym x ∙ y.0 in cc)) second)
    (λ x. ⊎_elim (λ y. absurd (let e = sym y ∙ x.0 in cc)) (λ y. one_region (shape_in (head_in image)) (selected_in image) image x.1 y.1) second)
    first
