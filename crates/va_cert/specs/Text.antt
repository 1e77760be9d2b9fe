-- A certificate as JSON data, and its text.
use Rattle.std.specs.Prelude.{ℕ, ◌^◌, ◌<◌, List, [], ◌∷◌, map, codes}
use Rattle.std.specs.List.{AllByRecursion}
use Rattle.serde_json.specs.Data.{Data, Members, unsigned, number, array, object, no_members, member}
use Rattle.serde_json.specs.View.{items_of}
use Rattle.serde_json.specs.Written.{compact_text}
use Rattle.va_core.specs.declared.pair.Pair.{Pair}
use Rattle.va_core.specs.Vectors.{AreBytes}
use Rattle.va_cert.specs.declared.certificate.BoxRow.{BoxRow}
use Rattle.va_cert.specs.declared.certificate.Taken.{Taken}
use Rattle.va_cert.specs.declared.certificate.Certificate.{Certificate}
use Rattle.va_core.specs.Texts.{IsOneLine}

abbrev pub list : List Data → Data
list ds = array (items_of ds)

abbrev pub whole : ℕ → Data
whole n = number (unsigned n)

abbrev pub wholes : List ℕ → Data
wholes ns = list (map whole ns)

abbrev pub pair_data : Pair → Data
pair_data p = list (whole p.id ∷ whole p.dist ∷ [])

abbrev pub row_data : BoxRow → Data
row_data row = list (whole row.id ∷ wholes row.low ∷ wholes row.high ∷ [])

abbrev pub taken_data : Taken → Data
taken_data taken = list (whole taken.id ∷ wholes taken.vector ∷ wholes taken.other ∷ [])

abbrev pub members_of : Certificate → Members
members_of c =
    member (codes "answer") (list (map pair_data c.answer))
    (member (codes "boxes") (list (map row_data c.boxes))
    (member (codes "fetched") (list (map taken_data c.fetched))
    (member (codes "k") (whole c.k)
    (member (codes "objects") (list (map wholes c.objects))
    (member (codes "weights") (wholes c.weights)
    no_members)))))

abbrev pub data_of : Certificate → Data
data_of c = object (members_of c)

-- the object without blanks, its keys in ascending order
abbrev pub text_of : Certificate → List ℕ
text_of c = compact_text (data_of c)

-- the text of a certificate is one line, whether or not its numbers are of their types
abbrev pub TextIsOneLine : Type 0
TextIsOneLine = (c : Certificate) → IsOneLine (text_of c)

-- each number is one of its type
pub record Fits (c : Certificate) : Type 0 where
  pub answer : AllByRecursion (λ (p : Pair). (p.id < 2 ^ 32) × (p.dist < 2 ^ 64)) c.answer
  pub boxes : AllByRecursion (λ (row : BoxRow). (row.id < 2 ^ 32) × AreBytes row.low × AreBytes row.high) c.boxes
  pub fetched : AllByRecursion (λ (taken : Taken). (taken.id < 2 ^ 32) × AreBytes taken.vector × AreBytes taken.other) c.fetched
  pub k : c.k < 2 ^ 16
  pub objects : AllByRecursion (λ object. AreBytes object) c.objects
  pub weights : AllByRecursion (λ weight. weight < 2 ^ 16) c.weights
