use Rattle.std.proofs.Common.{◌≡◌, None, refl}
use Rattle.va_lang.specs.Grammar.{alone}
use Rattle.va_lang.specs.SaidCommand.{meant}
use Rattle.va_lang.proofs.Fields.{one_word}
use Rattle.va_lang.proofs.parsing.alone.Goals as goal

pub returns-in-Some : goal.returns-in-Some
returns-in-Some c = λ room. one_word (λ words. alone (meant c.args.command room) words ≡ None) (λ one words. refl) c.in-Some.is
