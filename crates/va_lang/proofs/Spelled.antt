-- What is read between separators has one spelling, if each part has.
use Rattle.std.proofs.Common.{◌≡◌, ℕ, ◌<◌, ◌≤◌, Bool, true, false, List, [], ◌∷◌, Option, Some, None, length, map, leb, eqb, if◌then◌else◌, refl, ap, sym, ◌∙◌, subst, arith}
use Rattle.std.specs.List.{AllByRecursion}
use Rattle.std.proofs.lemmas.Bool.{le-leb}
use Rattle.std.proofs.lemmas.Bool.Decides.{nat_tests}
use Rattle.va_lang.specs.Grammar.{onto, all_read, at_most, separated}
use Rattle.va_lang.specs.Spelling.{IsList}
use Rattle.va_lang.specs.Texts.{split_at, joined}
use Rattle.va_lang.proofs.Separated.{joined_split, split_joined, split_some, all_lack, lacks_joined}
use Rattle.va_core.proofs.Tests.{both_and}
use Rattle.va_core.specs.Texts.{lacks}

-- these texts are how these values are written, and each has P
record Spells {A : Type 0} (write : A → List ℕ) (P : A → Type 0) (texts : List (List ℕ)) (values : List A) : Type 0 where
  spelled : texts ≡ map write values
  each : AllByRecursion P values

length_map : {A : Type 0} (write : A → List ℕ) (values : List A) → length (map write values) ≡ length values
length_map write [] = refl
length_map write (a ∷ values) = omega (arith, length_map write values)

short : {A : Type 0} (most : ℕ) (all values : List A) (c : Bool) → leb (length all) most ≡ c → (if c then Some all else None) ≡ Some values →
    (Some all ≡ Some values) × (length values ≤ most)
short most all values true le e =
    let same : all ≡ values = cc in
    let few : length all ≤ most = grind (arith, nat_tests) in
    (ap Some same, omega (arith, few, ap length same))
short most all values false le e = cc

most_at : {A : Type 0} (most : ℕ) (read : Option (List A)) (values : List A) → at_most most read ≡ Some values → (read ≡ Some values) × (length values ≤ most)
most_at most None values e = cc
most_at most (Some all) values e = short most all values (leb (length all) most) refl e

module _ {A : Type 0} (separator most : ℕ) (read : List ℕ → Option A) (write : A → List ℕ) (P : A → Type 0) where
  module _ (spells : (text : List ℕ) (a : A) → read text ≡ Some a → (text ≡ write a) × P a) where
    values_at : (text : List ℕ) (texts : List (List ℕ)) (first : Option A) (more : Option (List A)) (values : List A) →
        read text ≡ first → onto first more ≡ Some values →
        ((rest : List A) → more ≡ Some rest → Spells write P texts rest) → Spells write P (text ∷ texts) values
    values_at text texts None more values is e others = cc
    values_at text texts (Some a) None values is e others = cc
    values_at text texts (Some a) (Some rest) values is e others =
        let one = spells text a is in
        let behind = others rest refl in
        let all : a ∷ rest ≡ values = cc in
        let Q : List A → Type 0 = λ l. Spells write P (text ∷ texts) l in
        subst Q all (record { spelled = rw (one.0, behind.spelled) refl; each = (one.1, behind.each) })

    values_spelled : (texts : List (List ℕ)) (values : List A) → all_read read texts ≡ Some values → Spells write P texts values
    values_spelled [] values e =
        let none : [] ≡ values = cc in
        let Q : List A → Type 0 = λ l. Spells write P [] l in
        subst Q none (record { spelled = refl; each = tt })
    values_spelled (text ∷ texts) values e =
        values_at text texts (read text) (all_read read texts) values refl e (λ rest f. values_spelled texts rest f)

    -- the text is how its values are written
    pub separated_spelled : (text : List ℕ) (values : List A) → separated separator most read text ≡ Some values →
        (text ≡ joined separator (map write values)) × IsList most P values
    separated_spelled text values e =
        let all = most_at most (all_read read (split_at separator text)) values e in
        let parts = values_spelled (split_at separator text) values all.0 in (
          sym (joined_split separator text) ∙ ap (joined separator) parts.spelled,
          record {
            some = omega (arith, split_some separator text, ap length parts.spelled, length_map write values);
            few = all.1;
            each = parts.each;
          },
        )

  all_lack_by : (byte : ℕ) → ((a : A) → lacks byte (write a) ≡ true) → (values : List A) → all_lack byte (map write values) ≡ true
  all_lack_by byte lack [] = refl
  all_lack_by byte lack (a ∷ values) = both_and (lacks byte (write a)) (all_lack byte (map write values)) (lack a) (all_lack_by byte lack values)

  -- it lacks what each part lacks
  pub separated_lacks : (byte : ℕ) → eqb separator byte ≡ false → ((a : A) → lacks byte (write a) ≡ true) → (values : List A) →
      lacks byte (joined separator (map write values)) ≡ true
  separated_lacks byte other lack values = lacks_joined separator byte (map write values) other (all_lack_by byte lack values)

  module _ (back : (a : A) → P a → read (write a) ≡ Some a) (lack : (a : A) → lacks separator (write a) ≡ true) where
    values_back : (values : List A) → AllByRecursion P values → all_read read (map write values) ≡ Some values
    values_back [] each = refl
    values_back (a ∷ values) each = rw (back a each.0, values_back values each.1) refl

    -- how values are written is read back
    pub separated_back : (values : List A) → IsList most P values → separated separator most read (joined separator (map write values)) ≡ Some values
    separated_back values is =
        let some : 0 < length (map write values) = omega (arith, is.some, length_map write values) in
        rw (split_joined separator (map write values) some (all_lack_by separator lack values), values_back values is.each)
        (rw (le-leb (length values) most is.few) refl)
