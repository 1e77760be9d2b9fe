use Rattle.std.proofs.Common.{◌++◌, List, ℕ, ◌∙◌, subst}
use Rattle.std.proofs.lemmas.Result.{err_from_is_err_and, IfErr-weaker}
use Rattle.va_disk.specs.Frames.{OnlyGives}
use Rattle.va_disk.specs.Told.{GivesPart}
use Rattle.va_disk.proofs.Giving.{gives_part_first}
use Rattle.va_lang.specs.Gathering.{Gathers, head_text, middle_text, tail_text}
use Rattle.va_lang.specs.Reply.{reply_line}
use Rattle.va_lang.specs.SaidReply.{said}
use Rattle.va_lang.proofs.Gathering.{gathers_more, gathers_part, gives_longer, gives_waiting}
use Rattle.va_lang.proofs.ReplyParts.{in_parts}
use Rattle.va_lang.proofs.sending.send_long.Goals as goal

pub returns-in_err-gather_middle-clause-part : goal.returns-in_err-gather_middle-clause-part
returns-in_err-gather_middle-clause-part g c =
    let D = g.D.Storage in
    let reply = said c.args.reply.now in
    let p = err_from_is_err_and c.from_residual.result c.from_residual.ensures.1 in
    let P : List ℕ → Type 0 = λ text. GivesPart D.told (D.given c.args.desk.now) text (D.given c.gather_middle.new.desk) in
    let part = rw c.push_head.ensures.text at c.in_err-gather_middle.ensures.part in
    rw p.1 (subst P (in_parts reply) (gives_part_first D.told _ (D.given c.args.desk.now) _ (head_text reply ++ middle_text reply) (tail_text reply) part))

pub returns-in_err-gather_middle-clause-frame : goal.returns-in_err-gather_middle-clause-frame
returns-in_err-gather_middle-clause-frame g c =
    let reply = said c.args.reply.now in
    let P : List ℕ → Type 0 = λ text. OnlyGives g.D.Storage text c.args.desk.now c.gather_middle.new.desk in
    let frame = rw c.push_head.ensures.text at c.in_err-gather_middle.ensures.frame in
    subst P (in_parts reply) (gives_longer (tail_text reply) frame)

pub returns-clause-part : goal.returns-clause-part
returns-clause-part g c =
    let D = g.D.Storage in
    let reply = said c.args.reply.now in
    let P : List ℕ → Type 0 = λ text. Gathers D.told (D.given c.args.desk.now) text (c.gather_middle.new.line ++ tail_text reply) (D.given c.gather_middle.new.desk) in
    let given = rw c.push_head.ensures.text at c.in_ok-gather_middle.ensures.given in
    let all = subst P (in_parts reply) (gathers_more given (tail_text reply)) in
    IfErr-weaker c.give_all.result (λ _. GivesPart D.told (D.given c.gather_middle.new.desk) (c.gather_middle.new.line ++ tail_text reply) (D.given c.give_all.new.desk))
    (λ _. GivesPart D.told (D.given c.args.desk.now) (reply_line reply) (D.given c.give_all.new.desk))
    (λ _ failed. gathers_part all failed)
    (rw (c.as_slice.ensures, c.push_tail.ensures) at c.give_all.ensures.part)

pub returns-clause-frame : goal.returns-clause-frame
returns-clause-frame g c =
    let D = g.D.Storage in
    let reply = said c.args.reply.now in
    let P : List ℕ → Type 0 = λ text. Gathers D.told (D.given c.args.desk.now) text (c.gather_middle.new.line ++ tail_text reply) (D.given c.gather_middle.new.desk) in
    let Q : List ℕ → Type 0 = λ text. OnlyGives D text c.args.desk.now c.gather_middle.new.desk in
    let R : List ℕ → Type 0 = λ text. OnlyGives D text c.gather_middle.new.desk c.give_all.new.desk in
    let given = rw c.push_head.ensures.text at c.in_ok-gather_middle.ensures.given in
    let frame = rw c.push_head.ensures.text at c.in_ok-gather_middle.ensures.frame in
    gives_waiting (subst Q (in_parts reply) (gives_longer (tail_text reply) frame)) (subst P (in_parts reply) (gathers_more given (tail_text reply)))
    (subst R (c.as_slice.ensures ∙ c.push_tail.ensures) c.give_all.ensures.frame)
