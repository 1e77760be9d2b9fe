-- What of a map must be read to know an answer. A map gives each of its members a vector. The box of each member is known,
-- and so are the vectors of some members. The answer is a parameter: the k nearest, what lies within a radius, or another.
use Rattle.std.specs.Prelude.{◌≡◌, ℕ, Bool, true, List, ◌==◌, if◌then◌else◌}
use Rattle.std.specs.List.{AllByRecursion, list_any}
use Rattle.va_core.specs.declared.pair.Pair.{Pair}
use Rattle.va_core.specs.Ranking.{answer, within}
use Rattle.va_core.specs.Approximations.{Approximations, pairs}
use Rattle.va_core.specs.Boxes.{Span, Lies, low_of, high_of}
use Rattle.va_core.specs.Cells.{box_of}
use Rattle.va_core.specs.Marks.{cell}
use Rattle.va_core.specs.Vectors.{IsVector}

-- each vector lies in its box
abbrev pub AllLie : {X : Type 0} → (X → List Span) → List X → (X → List ℕ) → Type 0
AllLie boxes members vectors = AllByRecursion (λ i. Lies (boxes i) (vectors i)) members

-- the new map lies in the boxes, and has the known vectors of the old one
pub record Agrees {X : Type 0} (boxes : X → List Span) (members : List X) (known : X → Bool) (old new : X → List ℕ) : Type 0 where
  pub lies : AllLie boxes members new
  pub equal : AllByRecursion (λ i. known i ≡ true → new i ≡ old i) members

-- every map that agrees has the same answer
abbrev pub Determines : {X A : Type 0} → ((X → List ℕ) → A) → (X → List Span) → List X → (X → Bool) → (X → List ℕ) → Type 0
Determines {X} answers boxes members known old = (new : X → List ℕ) → Agrees boxes members known old new → answers new ≡ answers old

-- it determines the answer, and whatever determines the answer has each of its members
pub record IsLeast {X A : Type 0} (answers : (X → List ℕ) → A) (boxes : X → List Span) (members : List X) (known : X → Bool) (old : X → List ℕ) : Type 0 where
  pub enough : Determines answers boxes members known old
  pub needed : (other : X → Bool) → Determines answers boxes members other old → AllByRecursion (λ i. known i ≡ true → other i ≡ true) members

-- what the boxes tell under the distance f
abbrev pub bounded : {X : Type 0} → (X → ℕ) → (List ℕ → ℕ) → (X → List Span) → Approximations X
bounded name f boxes = record { name = name; low = λ i. low_of f (boxes i); high = λ i. high_of f (boxes i) }

-- the k nearest of a map
abbrev pub nearest_of : {X : Type 0} → (X → ℕ) → (List ℕ → ℕ) → List X → ℕ → (X → List ℕ) → List Pair
nearest_of name f members k vectors = answer (pairs name (λ i. f (vectors i)) members) k

-- what of a map lies within a radius
abbrev pub within_of : {X : Type 0} → (X → ℕ) → (List ℕ → ℕ) → List X → ℕ → (X → List ℕ) → List Pair
within_of name f members radius vectors = within (pairs name (λ i. f (vectors i)) members) radius

-- the map with another vector at the name of i
abbrev pub replaced : {X : Type 0} → (X → ℕ) → (X → List ℕ) → X → List ℕ → X → List ℕ
replaced name vectors i x j = if name j == name i then x else vectors j

-- the members that a list of names has
abbrev pub is_listed : {X : Type 0} → (X → ℕ) → List ℕ → X → Bool
is_listed name names i = list_any (λ n. n == name i) names

-- Where marks are known: the box of each vector's cell.
abbrev pub own_boxes : {X : Type 0} → List (List ℕ) → (X → List ℕ) → X → List Span
own_boxes marks vectors i = box_of marks (vectors i)

-- each member has a vector of so many dimensions
abbrev pub AllVectors : {X : Type 0} → ℕ → List X → (X → List ℕ) → Type 0
AllVectors dims members vectors = AllByRecursion (λ i. IsVector dims (vectors i)) members

-- the new map has vectors of the same cells, and the known vectors of the old one
pub record SharesCells {X : Type 0} (dims : ℕ) (marks : List (List ℕ)) (members : List X) (known : X → Bool) (old new : X → List ℕ) : Type 0 where
  pub vectors : AllVectors dims members new
  pub cells : AllByRecursion (λ i. cell marks (new i) ≡ cell marks (old i)) members
  pub equal : AllByRecursion (λ i. known i ≡ true → new i ≡ old i) members

-- determining, and least, where the marks and the cells are what is known beside the vectors that were read
abbrev pub DeterminesUnder : {X A : Type 0} → ((X → List ℕ) → A) → ℕ → List (List ℕ) → List X → (X → Bool) → (X → List ℕ) → Type 0
DeterminesUnder {X} answers dims marks members known old = (new : X → List ℕ) → SharesCells dims marks members known old new → answers new ≡ answers old

pub record IsLeastUnder {X A : Type 0} (answers : (X → List ℕ) → A) (dims : ℕ) (marks : List (List ℕ)) (members : List X) (known : X → Bool) (old : X → List ℕ) : Type 0 where
  pub enough : DeterminesUnder answers dims marks members known old
  pub needed : (other : X → Bool) → DeterminesUnder answers dims marks members other old → AllByRecursion (λ i. known i ≡ true → other i ≡ true) members
