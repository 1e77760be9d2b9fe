use Rattle.std.proofs.Common.{take, drop, rules, arith}
use Rattle.std.proofs.lemmas.List.{take-append-drop}
use Rattle.va_disk.proofs.Frames.{gives_once}
use Rattle.va_disk.proofs.Recorded.{left_after, elapses}
use Rattle.va_disk.proofs.world.desk.WorldDesk.give.Goals as goal

pub returns-in-Ok-clause-time : goal.returns-in-Ok-clause-time
returns-in-Ok-clause-time c = λ honest.
    (let old = c.args.self.now.history in
    let new = c.give.new.self in
    let w = c.in-Ok.ensures in
    elapses old.first.items new.first.items old.calls.items new.calls.items _ w.first w.calls new.given.items new.given_is)

pub returns-in-Ok-clause-frame : goal.returns-in-Ok-clause-frame
returns-in-Ok-clause-frame c =
    let old = c.args.self.now.history in
    let new = c.give.new.self in
    let w = c.in-Ok.ensures in
    let n = c.min-count.result in
    gives_once (search rules) (search rules) (search rules) (search rules) (omega arith)
    (λ honest x left. left_after old.first.items new.first.items old.calls.items new.calls.items _ w.first w.calls x left)
    (record { part = take n c.args.bytes.now; begins = record { rest = drop n c.args.bytes.now; is = take-append-drop n c.args.bytes.now }; given = λ told. search rules })
    (returns-in-Ok-clause-time c)
