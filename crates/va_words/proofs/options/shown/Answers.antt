use Rattle.std.proofs.Common.{◌≡◌, ◌∙◌, List, ℕ, Bool, true, false, Option, Some, codes}
use Rattle.clap.specs.Words.{found_of}
use Rattle.clap.proofs.WalkLemmas.{first_value-rows, one_text-rows}
use Rattle.va_words.specs.Options.{flag_text}
use Rattle.va_words.proofs.options.shown.Goals as goal

flag_is : (flag answer : Bool) (text : Option (List ℕ)) → text ≡ Some (flag_text flag) → (text ≡ Some (codes "true") → answer ≡ true) →
    (text ≡ Some (codes "false") → answer ≡ false) → answer ≡ flag
flag_is true answer text is set unset = set is
flag_is false answer text is set unset = unset is

pub returns : goal.returns
returns c csv export work shows =
    let found = found_of c.args.matches.now in
    let csv_is = flag_is csv c.get_flag-csv.result _ (one_text-rows found (codes "csv") ∙ shows.csv_shown) c.get_flag-csv.ensures.value c.get_flag-csv.ensures.other in
    let export_is = flag_is export c.get_flag-export.result _ (one_text-rows found (codes "export") ∙ shows.export_shown) c.get_flag-export.ensures.value c.get_flag-export.ensures.other in
    let work_is = c.get_str.ensures ∙ first_value-rows found (codes "work") ∙ shows.work_shown in
    rw (csv_is, export_is, work_is) at c.chosen.ensures
