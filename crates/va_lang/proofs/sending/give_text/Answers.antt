use Rattle.std.proofs.Common.{◌++◌, append-nil}
use Rattle.std.proofs.lemmas.Result.{on_err_weaker, on_ok_weaker}
use Rattle.va_disk.proofs.Giving.{gives_both, gives_part_after}
use Rattle.va_lang.proofs.sending.give_text.Goals as goal

pub returns-clause-given : goal.returns-clause-given
returns-clause-given g c =
    let D = g.D.Storage in
    let line = c.args.line.now in
    let text = c.args.text.now in
    on_ok_weaker c.give_all-2.result
    (λ last. rw c.clear.ensures (record { front = line ++ text; is = append-nil (line ++ text); given = gives_both D.told _ _ _ line text (rw c.as_slice.ensures at c.in_ok-give_all.ensures.given) last }))
    c.give_all-2.ensures.given

pub returns-clause-part : goal.returns-clause-part
returns-clause-part g c =
    let D = g.D.Storage in
    on_err_weaker c.give_all-2.result
    (λ last. gives_part_after D.told _ _ _ c.args.line.now c.args.text.now (rw c.as_slice.ensures at c.in_ok-give_all.ensures.given) last)
    c.give_all-2.ensures.part
