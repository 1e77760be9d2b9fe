use Rattle.std.proofs.Common.{◌≡◌, ◌++◌, ◌∙◌, None, ap, get_or, subst, sym}
use Rattle.va_disk.specs.Crashes.{Leaves}
use Rattle.va_disk.specs.Told.{GivesPart, GivesPrefix}
use Rattle.va_lang.specs.Reply.{LendsLine, Reply, reply_line}
use Rattle.va_serve.specs.Answers.{said_answer}
use Rattle.va_serve.specs.Answers.{fault_status}
use Rattle.va_serve.specs.Progress.{LineShows}
use Rattle.va_serve.specs.Session.{Seat, Sitting, line_handed}
use Rattle.va_serve.proofs.Progressing.{rose_since}
use Rattle.va_serve.proofs.Bounds.{bounds_status, held_since}
use Rattle.va_serve.proofs.Showing.{gives_nothing, gives_one, gives_part}
use Rattle.va_serve.proofs.Stepping.{carried_lasts, carried_reads, carried_settles, carried_steps, failed_fails, failed_lasts, failed_reads, failed_rises, failed_shows, unsent, unsent_reads}
use Rattle.va_serve.proofs.session.Session.step.Goals as goal

pub returns-in-Ok-send-clause-stepped : goal.returns-in-Ok-send-clause-stepped
returns-in-Ok-send-clause-stepped g c =
    let D = g.D.Storage in
    let says = c.reply.ensures.says ∙ ap (λ (seat : Seat). said_answer c.in-Ok.answer seat.lent) c.self.view_is in
    carried_steps c.in-Ok.ensures.owes.obeys c.answer.ensures.frame.given c.send.new.desk c.send.ensures.frame.reads c.send.ensures.frame.image
    (subst (λ (reply : Reply). D.told → D.given c.send.new.desk ≡ D.given c.answer.new.desk ++ reply_line reply) says c.in-Ok-send.ensures.given)

pub returns-in-Ok-send-clause-read : goal.returns-in-Ok-send-clause-read
returns-in-Ok-send-clause-read g c =
    let D = g.D.Storage in
    let says = c.reply.ensures.says ∙ ap (λ (seat : Seat). said_answer c.in-Ok.answer seat.lent) c.self.view_is in
    carried_reads c.in-Ok.ensures.owes.obeys c.answer.ensures.frame.given c.send.new.desk c.send.ensures.frame.reads c.send.ensures.frame.image
    (subst (λ (reply : Reply). D.told → D.given c.send.new.desk ≡ D.given c.answer.new.desk ++ reply_line reply) says c.in-Ok-send.ensures.given)

pub returns-in-Ok-send-clause-settled : goal.returns-in-Ok-send-clause-settled
returns-in-Ok-send-clause-settled g c =
    let D = g.D.Storage in
    let says = c.reply.ensures.says ∙ ap (λ (seat : Seat). said_answer c.in-Ok.answer seat.lent) c.self.view_is in
    carried_settles c.in-Ok.ensures.owes.obeys c.answer.ensures.frame.given c.send.new.desk c.send.ensures.frame.reads c.send.ensures.frame.image
    (subst (λ (reply : Reply). D.told → D.given c.send.new.desk ≡ D.given c.answer.new.desk ++ reply_line reply) says c.in-Ok-send.ensures.given) c.send.ensures.frame.crash

pub returns-in-Ok-send-clause-moments : goal.returns-in-Ok-send-clause-moments
returns-in-Ok-send-clause-moments g c =
    let D = g.D.Storage in
    let says = c.reply.ensures.says ∙ ap (λ (seat : Seat). said_answer c.in-Ok.answer seat.lent) c.self.view_is in
    carried_lasts c.in-Ok.ensures.owes.obeys c.answer.ensures.frame.given c.send.new.desk
    (subst (λ (reply : Reply). D.honest → D.told → Leaves D.clock D.left_since c.answer.new.desk c.send.new.desk (λ image given. D.may_leave c.answer.new.desk image × GivesPrefix D.told (D.given c.answer.new.desk) (reply_line reply) given))
    says c.send.ensures.frame.moments)

pub returns-in-Ok-clause-failed : goal.returns-in-Ok-clause-failed
returns-in-Ok-clause-failed g c =
    let D = g.D.Storage in
    let says = c.reply.ensures.says ∙ ap (λ (seat : Seat). said_answer c.in-Ok.answer seat.lent) c.self.view_is in
    unsent c.in-Ok.ensures.owes.obeys c.answer.ensures.frame.given c.send.new.desk c.send.ensures.frame.reads c.send.ensures.frame.image
    (subst (λ (reply : Reply). GivesPart D.told (D.given c.answer.new.desk) (reply_line reply) (D.given c.send.new.desk)) says c.in-Err-send.ensures.part)

pub returns-in-Ok-clause-read_first : goal.returns-in-Ok-clause-read_first
returns-in-Ok-clause-read_first g c =
    let D = g.D.Storage in
    let says = c.reply.ensures.says ∙ ap (λ (seat : Seat). said_answer c.in-Ok.answer seat.lent) c.self.view_is in
    unsent_reads c.in-Ok.ensures.owes.obeys c.answer.ensures.frame.given c.send.new.desk c.send.ensures.frame.reads c.send.ensures.frame.image
    (subst (λ (reply : Reply). GivesPart D.told (D.given c.answer.new.desk) (reply_line reply) (D.given c.send.new.desk)) says c.in-Err-send.ensures.part)

pub returns-in-Ok-clause-moments : goal.returns-in-Ok-clause-moments
returns-in-Ok-clause-moments g c =
    let D = g.D.Storage in
    let says = c.reply.ensures.says ∙ ap (λ (seat : Seat). said_answer c.in-Ok.answer seat.lent) c.self.view_is in
    carried_lasts c.in-Ok.ensures.owes.obeys c.answer.ensures.frame.given c.send.new.desk
    (subst (λ (reply : Reply). D.honest → D.told → Leaves D.clock D.left_since c.answer.new.desk c.send.new.desk (λ image given. D.may_leave c.answer.new.desk image × GivesPrefix D.told (D.given c.answer.new.desk) (reply_line reply) given))
    says c.send.ensures.frame.moments)

pub returns-clause-failed : goal.returns-clause-failed
returns-clause-failed g c = rw c.status_of.ensures (failed_fails g.D.Storage (line_handed c.args.line) c.answer.new.self.lent c.answer.new.self.sitting c.in-Err.fault c.in-Err.ensures.owes.obeys c.answer.ensures.frame.given)

pub returns-clause-read_first : goal.returns-clause-read_first
returns-clause-read_first g c = failed_reads g.D.Storage (line_handed c.args.line) c.answer.new.self.lent c.answer.new.self.sitting c.in-Err.fault c.in-Err.ensures.owes.obeys c.answer.ensures.frame.given

pub returns-clause-shown : goal.returns-clause-shown
returns-clause-shown g c =
    let shows = failed_shows g.D.Storage (line_handed c.args.line) c.answer.new.self.lent c.args.self.now.sitting c.answer.new.self.sitting c.args.desk.now c.answer.new.desk c.in-Err.fault c.in-Err.ensures.owes.obeys in
    rw c.status_of.ensures (subst (λ (sitting : Sitting). LineShows g.D.Storage (fault_status c.in-Err.fault) (line_handed c.args.line) c.args.self.now.sitting sitting c.args.desk.now c.answer.new.desk) (sym (ap (λ (seat : Seat). seat.sitting) c.self.view_is)) shows)

pub returns-clause-moments : goal.returns-clause-moments
returns-clause-moments g c = failed_lasts g.D.Storage (line_handed c.args.line) c.answer.new.self.lent c.answer.new.self.sitting c.in-Err.fault c.in-Err.ensures.owes.obeys

pub returns-in-Ok-send-clause-stayed : goal.returns-in-Ok-send-clause-stayed
returns-in-Ok-send-clause-stayed g c = record {
  disk = c.send.ensures.frame.faults ∙ (c.answer.ensures.cause.stayed (λ wrong. let both = sym c.in-Ok.is ∙ wrong in cc));
  sink = c.in-Ok-send.ensures.cause.stayed ∙ c.answer.ensures.frame.sink;
}

pub returns-in-Ok-clause-cause : goal.returns-in-Ok-clause-cause
returns-in-Ok-clause-cause g c = (rose_since c.answer.ensures.frame.sink c.in-Err-send.ensures.cause.rose, c.send.ensures.frame.faults ∙ (c.answer.ensures.cause.stayed (λ wrong. let both = sym c.in-Ok.is ∙ wrong in cc)))

pub returns-clause-cause : goal.returns-clause-cause
returns-clause-cause g c = rw c.status_of.ensures (failed_rises g.D.Storage (line_handed c.args.line) c.answer.new.self.lent c.args.self.now.sitting c.answer.new.self.sitting c.answer.ensures.frame.sink c.in-Err.fault c.in-Err.is c.in-Err.ensures.owes.obeys c.answer.ensures.cause)

pub returns-clause-bounds : goal.returns-clause-bounds
returns-clause-bounds g c = rw c.status_of.ensures (bounds_status c.in-Err.fault _ c.in-Err.ensures.owes.bounds)

pub returns-in-Ok-send-clause-unwritten : goal.returns-in-Ok-send-clause-unwritten
returns-in-Ok-send-clause-unwritten g c = λ reading. c.send.ensures.frame.image ∙ (c.answer.ensures.owes.unwritten reading).image

pub returns-in-Ok-clause-unwritten : goal.returns-in-Ok-clause-unwritten
returns-in-Ok-clause-unwritten g c = λ reading. c.send.ensures.frame.image ∙ (c.answer.ensures.owes.unwritten reading).image

pub returns-clause-unwritten : goal.returns-clause-unwritten
returns-clause-unwritten g c = λ reading. (c.answer.ensures.owes.unwritten reading).image

pub returns-in-Ok-send-clause-others : goal.returns-in-Ok-send-clause-others
returns-in-Ok-send-clause-others g c = rw c.send.ensures.frame.reads c.answer.ensures.owes.others

pub returns-in-Ok-clause-others : goal.returns-in-Ok-clause-others
returns-in-Ok-clause-others g c = rw c.send.ensures.frame.reads c.answer.ensures.owes.others

pub returns-clause-others : goal.returns-clause-others
returns-clause-others g c = c.answer.ensures.owes.others

pub returns-in-Ok-send-clause-replied : goal.returns-in-Ok-send-clause-replied
returns-in-Ok-send-clause-replied g c =
    let D = g.D.Storage in
    let says = c.reply.ensures.says ∙ ap (λ (seat : Seat). said_answer c.in-Ok.answer seat.lent) c.self.view_is in
    gives_one D _ (subst LendsLine says c.reply.ensures.lends) (subst (λ (reply : Reply). D.told → D.given c.send.new.desk ≡ D.given c.answer.new.desk ++ reply_line reply) says c.in-Ok-send.ensures.given) c.answer.ensures.frame.given

pub returns-in-Ok-clause-unreplied : goal.returns-in-Ok-clause-unreplied
returns-in-Ok-clause-unreplied g c =
    let D = g.D.Storage in
    let says = c.reply.ensures.says ∙ ap (λ (seat : Seat). said_answer c.in-Ok.answer seat.lent) c.self.view_is in
    gives_part D _ (subst LendsLine says c.reply.ensures.lends) (subst (λ (reply : Reply). GivesPart D.told (D.given c.answer.new.desk) (reply_line reply) (D.given c.send.new.desk)) says c.in-Err-send.ensures.part) c.answer.ensures.frame.given

pub returns-clause-unreplied : goal.returns-clause-unreplied
returns-clause-unreplied g c = rw c.status_of.ensures (gives_nothing g.D.Storage c.in-Err.fault c.answer.ensures.frame.given)

pub returns-in-Ok-send-clause-held : goal.returns-in-Ok-send-clause-held
returns-in-Ok-send-clause-held g c = λ name is. held_since g.D.Storage (get_or c.args.self.now.sitting.cursors name None) c.args.desk.now c.answer.new.desk c.send.new.desk c.send.ensures.frame.reads (c.in-Ok.ensures.owes.held name is)

pub returns-in-Ok-clause-held : goal.returns-in-Ok-clause-held
returns-in-Ok-clause-held g c = λ name is. held_since g.D.Storage (get_or c.args.self.now.sitting.cursors name None) c.args.desk.now c.answer.new.desk c.send.new.desk c.send.ensures.frame.reads (c.in-Ok.ensures.owes.held name is)

pub returns-clause-held : goal.returns-clause-held
returns-clause-held g c = rw c.status_of.ensures (bounds_status c.in-Err.fault _ c.in-Err.ensures.owes.held)
