-- What the substitutes of a certificate show.
use Rattle.std.specs.Prelude.{◌≡◌, ◌≢◌, ℕ, List, length, Contains}
use Rattle.std.specs.List.{AllByRecursion}
use Rattle.va_core.specs.Determining.{nearest_of, replaced}
use Rattle.va_core.specs.Distance.{Query, distance}
use Rattle.va_core.specs.Marks.{cell}
use Rattle.va_core.specs.Places.{Item}
use Rattle.va_core.specs.ReadLaws as laws
use Rattle.va_core.specs.Vectors.{IsVector}
use Rattle.va_cert.specs.declared.certificate.Taken.{Taken}
use Rattle.va_cert.specs.Made.{AreOfShape, cert}

-- An entry has the vector of an item. Its substitute is a vector of the same cell, and the map with the substitute in place
-- of the vector has another answer.
pub record IsTelling (marks : List (List ℕ)) (query : Query) (k : ℕ) (items : List Item) (taken : Taken) : Type 0 where
  pub item : Item
  pub among : Contains items item
  pub id : taken.id ≡ item.id
  pub own : taken.vector ≡ item.vector
  pub is_vector : IsVector (length marks) taken.other
  pub same_cell : cell marks taken.other ≡ cell marks taken.vector
  pub tells : nearest_of laws.id_of (distance query) items k (replaced laws.id_of laws.vector_of item taken.other)
      ≢ nearest_of laws.id_of (distance query) items k laws.vector_of

abbrev pub AreTelling : List Item → List (List ℕ) → Query → ℕ → List Taken → Type 0
AreTelling items marks query k fetched = AllByRecursion (IsTelling marks query k items) fetched

-- each vector that the certificate of a search lists has a substitute that tells
abbrev pub MadeTells : Type 0
MadeTells = (dims : ℕ) (items : List Item) (marks : List (List ℕ)) (query : Query) (k : ℕ) →
    AreOfShape dims items marks query k → AreTelling items marks query k (cert items marks query k).fetched
