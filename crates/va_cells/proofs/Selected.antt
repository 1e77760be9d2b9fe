-- A region that was selected.
use Rattle.std.proofs.Common.{◌≡◌, ℕ, ◌<◌, List, length, get_or, drop, slice_set, if◌then◌else◌, eqb, refl, ◌∙◌, ap, arith}
use Rattle.std.proofs.lemmas.List.{get_or-drop, get_or-set_same, get_or-take}
use Rattle.va_cells.specs.Selecting.{selection_of}
use Rattle.va_layout.specs.declared.region.Region.{Region}
use Rattle.va_layout.specs.declared.region.Region.TheVariants.{A, B}
use Rattle.va_layout.specs.Parts.{byte_at}
use Rattle.va_layout.specs.Fields.{head_in}
use Rattle.va_layout.specs.Stands.{selected_in}
use Rattle.va_layout.proofs.Parts.{part_of_front}

-- the letter of a region selects it
selects : (region : Region) → (if eqb (selection_of region) 66 then B else A) ≡ region
selects A = refl
selects B = refl

byte_first : (c : List ℕ) → byte_at 16 c ≡ get_or c 16 0
byte_first c = get_or-take 1 (drop 16 c) 0 0 (omega arith) ∙ get_or-drop 16 c 0 0

pub selected : (region : Region) (letter : ℕ) (a c : List ℕ) → 16 < length a → letter ≡ selection_of region → c ≡ slice_set a 16 letter → selected_in c ≡ region
selected region letter a c long is set =
    let byte : byte_at 16 (head_in c) ≡ selection_of region =
    ap (λ (l : List ℕ). get_or l 0 0) (part_of_front 16 1 32 c (omega arith)) ∙ byte_first c ∙ ap (λ (l : List ℕ). get_or l 16 0) set ∙ get_or-set_same a 16 letter 0 long ∙ is in
    ap (λ (n : ℕ). if eqb n 66 then B else A) byte ∙ selects region
