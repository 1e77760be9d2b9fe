use Rattle.std.proofs.Common.{rules, arith}
use Rattle.va_disk.specs.declared.call.Call.TheVariants.{Write}
use Rattle.va_disk.proofs.Frames.{writes_once}
use Rattle.va_disk.proofs.Recorded.{write_follows, elapses}
use Rattle.va_disk.proofs.world.disk.WorldDisk.write.Goals as goal

pub returns-in-Ok-clause-crash : goal.returns-in-Ok-clause-crash
returns-in-Ok-clause-crash c =
    let old = c.args.self.now.history in
    let new = c.write.new.self in
    let w = c.in-Ok.ensures in
    write_follows old.first.items new.first.items old.calls.items new.calls.items c.args.at c.args.bytes.now old.image.items w.first w.calls old.image_is c.requires.inside

pub returns-in-Ok-clause-time : goal.returns-in-Ok-clause-time
returns-in-Ok-clause-time c = λ honest.
    (let old = c.args.self.now.history in
    let new = c.write.new.self in
    let w = c.in-Ok.ensures in
    elapses old.first.items new.first.items old.calls.items new.calls.items (Write c.args.at c.args.bytes.now) w.first w.calls new.given.items new.given_is)

pub returns-in-Ok-clause-frame : goal.returns-in-Ok-clause-frame
returns-in-Ok-clause-frame c = writes_once (search rules) (search rules) (search rules) (omega arith) (returns-in-Ok-clause-time c)
