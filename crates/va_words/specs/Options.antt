-- The options as clap has them, and when clap is asked.
use Rattle.std.specs.Prelude.{◌≡◌, ◌==◌, ◌&&◌, ◌||◌, Bool, true, false, not, List, [], ◌∷◌, Option, None, Some, nat_le, codes, option_map}
use Rattle.std.specs.Str.{bytes_eq}
use Rattle.clap.specs.Words.{App, Row, Rule, Text, first_of, new_app, new_rule, one_of, with_rule}
use Rattle.clap.specs.Simple.{on_top}
use Rattle.clap.specs.declared.builder.action.ArgAction.{ArgAction}
use Rattle.clap.specs.declared.builder.action.ArgAction.TheVariants.{Set, SetTrue}
use Rattle.va_words.specs.Words.{number_to}
use Rattle.va_words.specs.declared.form.Mode.{Mode}
use Rattle.va_words.specs.declared.form.Mode.TheVariants.{Plain, Csv, Export, Work}

-- the option of a name, without or with a value
abbrev pub option_rule : Text → ArgAction → Rule
option_rule name action = record (new_rule name) { long = Some name; action = Some action }

-- one simple command: no subcommands, no help flag, no version flag, no binary name
abbrev pub bare_app : App
bare_app = on_top (λ s. record s { no_binary_name = true; disable_help_flag = true }) (new_app (codes "va_cli"))

abbrev pub options_app : App
options_app =
    with_rule (with_rule (with_rule bare_app
    (option_rule (codes "csv") SetTrue)) (option_rule (codes "export") SetTrue)) (option_rule (codes "work") Set)

abbrev pub flag_text : Bool → Text
flag_text true = codes "true"
flag_text false = codes "false"

-- the matches say of each option whether it was there, and its value
pub record Shows (rows : List Row) (csv export : Bool) (work : Option Text) : Type 0 where
  pub csv_shown : one_of (codes "csv") rows ≡ Some (flag_text csv)
  pub export_shown : one_of (codes "export") rows ≡ Some (flag_text export)
  pub work_shown : first_of (codes "work") rows ≡ work

-- the mode of what matches show
abbrev pub mode_shown : Bool → Bool → Option Text → Option Mode
mode_shown true export work = Some Csv
mode_shown false true work = Some Export
mode_shown false false None = Some Plain
mode_shown false false (Some text) = option_map (λ n. Work n) (number_to 20000 text)

abbrev pub has_name : Text → Bool
has_name [] = false
has_name (byte ∷ name) = true

abbrev pub second_dash : Text → Bool
second_dash [] = false
second_dash (byte ∷ name) = (byte == 45) && has_name name

-- where a word begins with a dash, a second one follows, and a name
abbrev pub names_option : Text → Bool
names_option [] = true
names_option (byte ∷ word) = not (byte == 45) || second_dash word

abbrev pub begins_with_dash : Text → Bool
begins_with_dash [] = false
begins_with_dash (byte ∷ word) = byte == 45

-- one option at most, and no bare dashes
abbrev pub is_simple_use : List Text → Bool
is_simple_use [] = true
is_simple_use (word ∷ []) = names_option word
is_simple_use (name ∷ value ∷ []) = bytes_eq name (codes "--work") && not (begins_with_dash value)
is_simple_use (one ∷ two ∷ three ∷ words) = false

-- the first byte is a digit above 0
abbrev pub begins_above_zero : Text → Bool
begins_above_zero [] = false
begins_above_zero (byte ∷ text) = nat_le 49 byte && nat_le byte 57
