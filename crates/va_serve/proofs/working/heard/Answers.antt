use Rattle.std.proofs.Common.{◌∙◌, List, ap, sym}
use Rattle.va_core.specs.declared.pair.Pair.{Pair}
use Rattle.va_lang.specs.Reply.{near}
use Rattle.va_model.specs.Silent.{told_by}
use Rattle.va_serve.specs.Answers.{said_answer}
use Rattle.va_serve.specs.Working.{adding}
use Rattle.va_serve.specs.declared.answer.Answer.{Answer}
use Rattle.va_serve.proofs.working.heard.Goals as goal

pub returns-in-Near-clause-adds : goal.returns-in-Near-clause-adds
returns-in-Near-clause-adds c = λ lent.
    c.with.ensures 0
    ∙ ap (λ (pairs : List Pair). adding c.args.totals (told_by (near pairs c.in-Near.fetched c.in-Near.candidates 0))) c.as_slice.ensures
    ∙ ap (λ (answer : Answer). adding c.args.totals (told_by (said_answer answer lent))) (sym c.in-Near.is)
