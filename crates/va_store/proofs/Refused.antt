-- An image is refused as blank exactly where it is blank.
use Rattle.std.proofs.Common.{◌≡◌, ◌⊎◌, ⊎_elim, inl, inr, ℕ, zero, suc, List, length, Bool, true, false, if◌then◌else◌, ltb, Option, None, Some, Result, Ok, Err, refl, sym, ◌∙◌, ap}
use Rattle.va_layout.specs.declared.header.Header.{Header}
use Rattle.va_layout.specs.declared.header.HeadFault.{HeadFault}
use Rattle.va_layout.specs.declared.header.HeadFault.TheVariants as heads
use Rattle.va_layout.specs.Fields.{head_in}
use Rattle.va_layout.specs.Header.{header_of, shape_in}
use Rattle.va_layout.specs.Layout.{layout_len}
use Rattle.va_layout.specs.Stands.{IsBlank}
use Rattle.va_store.specs.Image.{IsFault, first_below, first_or, head_fault, ids_in, length_behind, repeat_at, same_at, same_fault}
use Rattle.va_store.specs.Openings.{Answers}
use Rattle.va_store.specs.declared.faults.OpenFault.{OpenFault}
use Rattle.va_store.specs.declared.faults.OpenFault.TheVariants as faults

same_or_none : (q : ℕ) (p : Option ℕ) → same_fault q p ≡ Some faults.Blank → ⊥
same_or_none q None is = cc
same_or_none q (Some p) is = cc

either_blank : (first second : Option OpenFault) → first_or first second ≡ Some faults.Blank → (first ≡ Some faults.Blank → ⊥) → (second ≡ Some faults.Blank → ⊥) → ⊥
either_blank None second is first_not second_not = second_not is
either_blank (Some x) second is first_not second_not = first_not is

repeats_blank : (ids : List (Option ℕ)) (n : ℕ) → first_below (repeat_at ids) n ≡ Some faults.Blank → ⊥
repeats_blank ids zero is = cc
repeats_blank ids (suc n) is = either_blank (first_below (repeat_at ids) n) (repeat_at ids n) is (repeats_blank ids n) (same_or_none n (first_below (same_at ids n) n))

length_blank : (short : Bool) (need have : ℕ) → (if short then Some (faults.Length need have) else None) ≡ Some faults.Blank → ⊥
length_blank true need have is = cc
length_blank false need have is = cc

behind_blank : (head : Result Header HeadFault) (image : List ℕ) → length_behind head image ≡ Some faults.Blank → head ≡ Err heads.Blank
behind_blank (Err heads.Blank) image is = refl
behind_blank (Err heads.Magic) image is = cc
behind_blank (Err (heads.Shape fault)) image is = cc
behind_blank (Ok header) image is = absurd (length_blank (ltb (length image) (layout_len header.shape)) (layout_len header.shape) (length image) is)

pub fault_blank : (image : List ℕ) → IsFault image faults.Blank → IsBlank image
fault_blank image fault = ⊎_elim
    (λ head. behind_blank (header_of (head_in image)) image head)
    (λ rest. absurd (⊎_elim
    (λ marks. (let e = marks.1 in cc))
    (λ places. ⊎_elim (λ repeats. repeats_blank (ids_in (shape_in (head_in image)).capacity image) (length (ids_in (shape_in (head_in image)).capacity image)) repeats) (λ code. (let e = code.1.1 in cc)) places.1) rest.1))
    fault

blank_head : (image : List ℕ) → IsBlank image → head_fault image ≡ Some faults.Blank
blank_head image blank = ap (λ (r : Result Header HeadFault). length_behind r image) blank

-- the answers for a blank image
pub answers_blank : (image : List ℕ) (why : OpenFault) → IsBlank image → Answers image why → (why ≡ faults.Disk) ⊎ (why ≡ faults.Blank)
answers_blank image why blank answers = ⊎_elim (λ disk. inl disk)
    (λ rest. ⊎_elim
    (λ memory. absurd (let e = sym memory.1 ∙ blank_head image blank in cc))
    (λ fault. ⊎_elim (λ head. inr (some_fault why faults.Blank (sym head ∙ blank_head image blank))) (λ rest. absurd (let e = sym rest.0 ∙ blank_head image blank in cc)) fault) rest) answers
  where
    some_fault : (a b : OpenFault) → Some a ≡ Some b → a ≡ b
    some_fault a b e = cc

pub blank_answer : (image : List ℕ) (why : OpenFault) → Answers image why → why ≡ faults.Blank → IsBlank image
blank_answer image why answers is_blank = ⊎_elim (λ disk. absurd (let e : faults.Blank ≡ faults.Disk = sym is_blank ∙ disk in cc))
    (λ rest. ⊎_elim
    (λ memory. absurd (let e : faults.Blank ≡ faults.Memory = sym is_blank ∙ memory.0 in cc))
    (λ fault. fault_blank image (rw is_blank at fault)) rest) answers

-- a blank image has a fault
pub blank_faults : (image : List ℕ) → IsBlank image → ((why : OpenFault) → IsFault image why → ⊥) → ⊥
blank_faults image blank none = none faults.Blank (inl (blank_head image blank))
