-- The words behind the path of a store, and the mode that they ask for: an option is a name behind two dashes, and its
-- value stands behind an equals sign or in the next word.
use Rattle.std.specs.Prelude.{ℕ, ◌==◌, ◌&&◌, Bool, List, [], ◌∷◌, drop, nat_le, nat_eq, Option, None, Some, if◌then◌else◌, codes, decimal, option_map}
use Rattle.std.specs.List.{before_first, after_first, list_any, starts_with}
use Rattle.std.specs.Str.{bytes_eq}
use Rattle.std.specs.Str.Parse.{digits_value}
use Rattle.va_words.specs.declared.form.Mode.{Mode}
use Rattle.va_words.specs.declared.form.Mode.TheVariants.{Plain, Csv, Export, Work}

-- the number from 1 to the most that the text is the numeral of, if it is one
abbrev pub number_to : ℕ → List ℕ → Option ℕ
number_to most text =
    if bytes_eq (decimal (digits_value 10 text)) text
    && (nat_le 1 (digits_value 10 text) && nat_le (digits_value 10 text) most)
    then Some (digits_value 10 text) else None

abbrev pub is_equals : ℕ → Bool
is_equals byte = byte == 61

-- what stands behind the first equals sign, if there is one
abbrev pub value_in : List ℕ → Option (List ℕ)
value_in text = if list_any is_equals text then Some (after_first is_equals text) else None

-- the mode of an option, by its name and its value, if it has one
abbrev pub mode_named : List ℕ → Option (List ℕ) → Option Mode
mode_named name None =
    if bytes_eq (codes "csv") name then Some Csv else if bytes_eq (codes "export") name then Some Export else None
mode_named name (Some value) =
    if bytes_eq (codes "work") name then option_map (λ n. Work n) (number_to 20000 value) else None

abbrev pub has_dashes : List ℕ → Bool
has_dashes word = starts_with nat_eq word (codes "--")

-- the mode that words ask for, if they have a form
abbrev pub mode_of : List (List ℕ) → Option Mode
mode_of [] = Some Plain
mode_of (word ∷ []) =
    if has_dashes word then mode_named (before_first is_equals (drop 2 word)) (value_in (drop 2 word)) else None
mode_of (name ∷ value ∷ []) = if has_dashes name then mode_named (drop 2 name) (Some value) else None
mode_of (one ∷ two ∷ three ∷ words) = None
