-- A scan that goes on.
use Rattle.std.proofs.Common.{◌≡◌, ⊎_elim, ℕ, ◌+◌, ◌<◌, ◌≤◌, List, Option, Some, None, get_or, subst, sym, arith}
use Rattle.std.proofs.lemmas.Bool.{cases_lt}
use Rattle.va_cells.specs.Scans.{ReadsPieces, Scan}
use Rattle.va_cells.proofs.Pieces.{range_both}
use Rattle.va_core.specs.Shape.{Shape}
use Rattle.va_disk.specs.declared.storage.Storage.{Ghosts}
use Rattle.va_layout.specs.declared.region.Region.{Region}
use Rattle.va_layout.specs.Fields.{NamesCell, code_in}

-- so many pieces of a region, and then more of it
pub pieces_on : {D : Type 0} (g : Ghosts D) (shape : Shape) (region : Region) (from : ℕ) (mid : Scan) (to : ℕ) {old between new : D} → mid.shape ≡ shape → mid.region ≡ region
    → ReadsPieces g shape region from mid.end old between → ReadsPieces g mid.shape mid.region mid.end to between new → ReadsPieces g shape region from to old new
pieces_on g shape region from mid to {old} {between} {new} same_shape same_region first next =
    range_both first (subst (λ (s : Shape). ReadsPieces g s region mid.end to between new) same_shape (subst (λ (r : Region). ReadsPieces g mid.shape r mid.end to between new) same_region next))

-- the code that was given stands in the region, as it stood at the start
pub code_given : (shape : Shape) (region : Region) (scan : Scan) (place : ℕ) (start image code : List ℕ) → scan.shape ≡ shape → scan.region ≡ region → image ≡ start → code ≡ code_in scan.shape scan.region place image → code ≡ code_in shape region place start
code_given shape region scan place start image code same_shape same_region same is = rw (same_shape, same_region, same) at is

-- the codes before a place name cells, and that of the place does too
pub named_more : (shape : Shape) (region : Region) (marks : List (List ℕ)) (ids : List (Option ℕ)) (image : List ℕ) (place : ℕ)
    → ((q id : ℕ) → q < place → get_or ids q None ≡ Some id → NamesCell shape marks (code_in shape region q image)) → ((id : ℕ) → get_or ids place None ≡ Some id → NamesCell shape marks (code_in shape region place image))
    → (q id : ℕ) → q < place + 1 → get_or ids q None ≡ Some id → NamesCell shape marks (code_in shape region q image)
named_more shape region marks ids image place before here q id less live = ⊎_elim
    (λ (below : q < place). before q id below live)
    (λ (from : place ≤ q). (let is : q ≡ place = omega (arith, from, less) in
    subst (λ (n : ℕ). NamesCell shape marks (code_in shape region n image)) (sym is) (here id (subst (λ (n : ℕ). get_or ids n None ≡ Some id) is live))))
    (cases_lt q place)
