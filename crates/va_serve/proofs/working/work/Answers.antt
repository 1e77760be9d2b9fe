use Rattle.std.proofs.Common.{◌≡◌, ◌∙◌, [], List, ℕ, ap, false, map, subst, sym, true}
use Rattle.va_lang.specs.Reply.{error, reply_line}
use Rattle.va_lang.specs.SaidReply.{said}
use Rattle.va_lang.specs.declared.reply.Why.TheVariants.{Exists}
use Rattle.va_model.specs.Lines.{line_of}
use Rattle.va_model.specs.Silent.{no_sums}
use Rattle.va_serve.specs.Session.{has_store}
use Rattle.va_serve.specs.Working.{AddsUp}
use Rattle.va_serve.proofs.ScriptRuns.{runs_none}
use Rattle.va_serve.proofs.WorkRuns.{lines_blank, lines_holding, reply_holding, says_sums, work_lasts, work_tells}
use Rattle.va_serve.proofs.working.work.Goals as goal

pub returns-then-has_store-clause-worked : goal.returns-then-has_store-clause-worked
returns-then-has_store-clause-worked g c =
    let sitting = c.args.session.now.sitting in
    let some : has_store sitting ≡ true = sym c.has_store.ensures ∙ c.if-has_store.true in
    work_tells g.D.Storage c.args.n [] (λ told start at. lines_holding c.args.n start sitting.store sitting.cursors at.is some) runs_none
    (reply_line (error Exists)) (λ told start at. ap reply_line (reply_holding c.args.n start sitting.store sitting.cursors at.is some)) c.tell.ensures.frame c.tell.result c.tell.ensures.tells

pub returns-in-Ok-clause-worked : goal.returns-in-Ok-clause-worked
returns-in-Ok-clause-worked g c =
    let D = g.D.Storage in
    let sitting = c.args.session.now.sitting in
    let none : has_store sitting ≡ false = sym c.has_store.ensures ∙ c.if-has_store.false in
    let adds = subst (λ (script : List (List ℕ)). AddsUp D (map line_of script) sitting c.args.desk.now no_sums c.in-Ok.totals) c.new.ensures c.in-Ok.ensures.adds in
    work_tells D c.args.n (map line_of c.new.result) (λ told start at. lines_blank c.args.n start sitting.store sitting.cursors at.is none ∙ ap (map line_of) (sym c.new.ensures)) c.in-Ok.ensures.ran
    (reply_line (said c.reply.result)) (λ told start at. says_sums D c.args.n none adds told start at ∙ ap reply_line (sym c.reply.ensures)) c.tell-in-Ok.ensures.frame c.tell-in-Ok.result c.tell-in-Ok.ensures.tells

pub returns-in-Ok-clause-moments : goal.returns-in-Ok-clause-moments
returns-in-Ok-clause-moments g c =
    let D = g.D.Storage in
    let sitting = c.args.session.now.sitting in
    let none : has_store sitting ≡ false = sym c.has_store.ensures ∙ c.if-has_store.false in
    let adds = subst (λ (script : List (List ℕ)). AddsUp D (map line_of script) sitting c.args.desk.now no_sums c.in-Ok.totals) c.new.ensures c.in-Ok.ensures.adds in
    work_lasts D c.args.n (map line_of c.new.result) (λ told start at. lines_blank c.args.n start sitting.store sitting.cursors at.is none ∙ ap (map line_of) (sym c.new.ensures)) c.in-Ok.ensures.ran
    (reply_line (said c.reply.result)) (λ told start at. says_sums D c.args.n none adds told start at ∙ ap reply_line (sym c.reply.ensures)) c.tell-in-Ok.ensures.frame c.run_script.ensures.moments
