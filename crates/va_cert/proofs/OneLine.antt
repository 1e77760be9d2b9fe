-- The text of a certificate has no newline.
use Rattle.std.proofs.Common.{◌≡◌, ℕ, Bool, true, false, List, [], ◌∷◌, ◌++◌, map, codes, refl, lit<}
use Rattle.std.specs.List.{AllByRecursion}
use Rattle.json.specs.Print.{quoted, escape_byte}
use Rattle.serde_json.specs.Data.{Data, Members, no_members, member}
use Rattle.serde_json.specs.View.{items_of}
use Rattle.serde_json.specs.Written.{compact_text, items_text, members_text, comma_if}
use Rattle.va_core.specs.Texts.{IsOneLine}
use Rattle.va_core.proofs.Texts.{decimal_lacks, lacks_both}
use Rattle.va_cert.specs.declared.certificate.BoxRow.{BoxRow}
use Rattle.va_cert.specs.declared.certificate.Taken.{Taken}
use Rattle.va_cert.specs.Text.{list, whole, wholes, pair_data, row_data, taken_data, members_of, TextIsOneLine}

both : (a b : List ℕ) → IsOneLine a → IsOneLine b → IsOneLine (a ++ b)
both = lacks_both 10

-- lists
comma_line : (later : Bool) → IsOneLine (comma_if later)
comma_line true = refl
comma_line false = refl

items_line : (later : Bool) (ds : List Data) → AllByRecursion (λ d. IsOneLine (compact_text d)) ds → IsOneLine (items_text later (items_of ds))
items_line later [] h = refl
items_line later (d ∷ ds) h =
    both (comma_if later) (compact_text d ++ items_text true (items_of ds)) (comma_line later)
    (both (compact_text d) (items_text true (items_of ds)) h.0 (items_line true ds h.1))

list_line : (ds : List Data) → AllByRecursion (λ d. IsOneLine (compact_text d)) ds → IsOneLine (compact_text (list ds))
list_line ds h = both (91 ∷ []) (items_text false (items_of ds)) refl (items_line false ds h)

mapped_line : {A : Type 0} (f : A → Data) → ((a : A) → IsOneLine (compact_text (f a))) → (l : List A) → AllByRecursion (λ d. IsOneLine (compact_text d)) (map f l)
mapped_line f each [] = tt
mapped_line f each (a ∷ l) = (each a, mapped_line f each l)

each_line : {A : Type 0} (f : A → Data) → ((a : A) → IsOneLine (compact_text (f a))) → (l : List A) → IsOneLine (compact_text (list (map f l)))
each_line f each l = list_line (map f l) (mapped_line f each l)

whole_line : (n : ℕ) → IsOneLine (compact_text (whole n))
whole_line n = decimal_lacks 10 n (lit< tt)

wholes_line : (ns : List ℕ) → IsOneLine (compact_text (wholes ns))
wholes_line ns = each_line whole whole_line ns

three_line : (id : ℕ) (a b : List ℕ) → IsOneLine (compact_text (list (whole id ∷ wholes a ∷ wholes b ∷ [])))
three_line id a b = list_line (whole id ∷ wholes a ∷ wholes b ∷ []) (whole_line id, (wholes_line a, (wholes_line b, tt)))

-- each key and each value is one line
abbrev AreLines : Members → Type 0
AreLines no_members = Unit {0}
AreLines (member key d rest) = IsOneLine (quoted key) × IsOneLine (compact_text d) × AreLines rest

members_line : (later : Bool) (members : Members) → AreLines members → IsOneLine (members_text later members)
members_line later no_members are = refl
members_line later (member key d rest) are =
    both (comma_if later) (quoted key ++ 58 ∷ (compact_text d ++ members_text true rest)) (comma_line later)
    (both (quoted key) (58 ∷ (compact_text d ++ members_text true rest)) are.0
    (both (58 ∷ []) (compact_text d ++ members_text true rest) refl
    (both (compact_text d) (members_text true rest) are.1 (members_line true rest are.2))))

pub text_is_one_line : TextIsOneLine
unfolding escape_byte
text_is_one_line c =
    both (123 ∷ []) (members_text false (members_of c)) refl (members_line false (members_of c) (
      refl,
      each_line pair_data (λ p. list_line (whole p.id ∷ whole p.dist ∷ []) (whole_line p.id, (whole_line p.dist, tt))) c.answer,
      (
        refl,
        each_line row_data (λ (row : BoxRow). three_line row.id row.low row.high) c.boxes,
        (
          refl,
          each_line taken_data (λ (taken : Taken). three_line taken.id taken.vector taken.other) c.fetched,
          (
            refl,
            whole_line c.k,
            (
              refl,
              each_line wholes wholes_line c.objects,
              (refl, wholes_line c.weights, tt),
            ),
          ),
        ),
      ),
    ))
