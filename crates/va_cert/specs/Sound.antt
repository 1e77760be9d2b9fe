-- What an accepted certificate shows.
use Rattle.std.specs.Prelude.{◌≡◌, ◌≢◌, ℕ, ◌==◌, List, map, None, if◌then◌else◌}
use Rattle.std.specs.List.{AllByRecursion}
use Rattle.va_core.specs.declared.pair.Pair.{Pair}
use Rattle.va_core.specs.Boxes.{Lies}
use Rattle.va_core.specs.Distance.{pairs_of}
use Rattle.va_core.specs.Places.{Item}
use Rattle.va_core.specs.Ranking.{answer}
use Rattle.va_cert.specs.declared.certificate.BoxRow.{BoxRow}
use Rattle.va_cert.specs.declared.certificate.Certificate.{Certificate}
use Rattle.va_cert.specs.Known.{box_of, box_at}
use Rattle.va_cert.specs.Reasons.{first_of, form_rows, Accepts}

-- a map that gives each id of the boxes a vector
abbrev pub items_of : List BoxRow → (ℕ → List ℕ) → List Item
items_of boxes vectors = map (λ row. record { id = row.id; vector = vectors row.id }) boxes

-- its answer to the query
abbrev pub answer_in : Certificate → (ℕ → List ℕ) → List Pair
answer_in c vectors = answer (pairs_of (record { objects = c.objects; weights = c.weights }) (items_of c.boxes vectors)) c.k

-- the map lies in the boxes, and has the vectors that were fetched
pub record IsMapOf (c : Certificate) (vectors : ℕ → List ℕ) : Type 0 where
  pub lie : AllByRecursion (λ row. Lies (box_of row) (vectors row.id)) c.boxes
  pub hold : AllByRecursion (λ taken. vectors taken.id ≡ taken.vector) c.fetched

-- the map with another vector in one place
abbrev pub replaced : (ℕ → List ℕ) → ℕ → List ℕ → ℕ → List ℕ
replaced vectors id vector other = if other == id then vector else vectors other

pub record IsSound (c : Certificate) : Type 0 where
  pub well_formed : first_of (form_rows c) ≡ None
  pub vectors_lie : AllByRecursion (λ taken. Lies (box_at c.boxes taken.id) taken.vector) c.fetched
  pub others_lie : AllByRecursion (λ taken. Lies (box_at c.boxes taken.id) taken.other) c.fetched
  -- every such map has the certificate's answer
  pub determined : (vectors : ℕ → List ℕ) → IsMapOf c vectors → answer_in c vectors ≡ c.answer
  -- and another one with any substitute in its place
  pub needed : (vectors : ℕ → List ℕ) → IsMapOf c vectors → AllByRecursion (λ taken. answer_in c (replaced vectors taken.id taken.other) ≢ answer_in c vectors) c.fetched

abbrev pub AcceptedIsSound : Type 0
AcceptedIsSound = (c : Certificate) → Accepts c → IsSound c
