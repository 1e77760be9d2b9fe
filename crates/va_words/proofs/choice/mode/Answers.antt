use Rattle.std.proofs.Common.{rules, ◌≡◌, map, string_bytes, true, false, Option, Some, None, Result, MatchResult, sym}
use Rattle.std.specs.Option.{ok_or}
use Rattle.va_words.specs.Options.{is_simple_use}
use Rattle.va_words.specs.Words.{mode_of}
use Rattle.va_words.specs.declared.form.Mode.{Mode}
use Rattle.va_words.specs.declared.form.WordsFault.{WordsFault}
use Rattle.va_words.specs.declared.form.WordsFault.TheVariants as faults
use Rattle.va_words.proofs.Parses.{accepted, refused}
use Rattle.va_words.proofs.Unused.{unused}
use Rattle.va_words.proofs.choice.mode.Goals as goal

gives : (r : Result Mode WordsFault) (answer wanted : Option Mode) → r ≡ ok_or answer faults.Usage → answer ≡ wanted →
    MatchResult r (λ mode. wanted ≡ Some mode) (λ fault. fault ≡ faults.Usage → wanted ≡ None)
gives r None wanted is same = rw is (λ _. sym same)
gives r (Some mode) wanted is same = rw is (sym same)

pub returns-then-not-is_simple_use : goal.returns-then-not-is_simple_use
returns-then-not-is_simple_use c =
    let other : is_simple_use (map string_bytes c.args.words.now) ≡ false = search rules in
    λ _. unused (map string_bytes c.args.words.now) other

pub returns-in-Ok-try_get_matches_from : goal.returns-in-Ok-try_get_matches_from
returns-in-Ok-try_get_matches_from c =
    let words = map string_bytes c.args.words.now in
    let simple : is_simple_use words ≡ true = search rules in
    let parse = c.in-Ok-try_get_matches_from.ensures in
    gives c.ok_or.result c.shown.result (mode_of words) c.ok_or.ensures.value
    (accepted words _ c.in-Ok.ensures simple c.in-Ok-try_get_matches_from.matches c.shown.result parse.kinds parse.matches c.shown.ensures)

pub returns-in-Err : goal.returns-in-Err
returns-in-Err c = λ usage.
    let words = map string_bytes c.args.words.now in
    let simple : is_simple_use words ≡ true = search rules in
    refused words _ c.in-Ok.ensures simple c.in-Err.error c.in-Err.ensures.kinds (c.refusal.ensures usage)
