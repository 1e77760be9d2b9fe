use Rattle.std.proofs.Common.{length, rules, arith}
use Rattle.va_disk.specs.declared.call.Call.TheVariants.{Read}
use Rattle.va_disk.specs.ReplayLaws.{now_counts}
use Rattle.va_disk.proofs.Frames.{reads_once}
use Rattle.va_disk.proofs.Recorded.{left_after, elapses}
use Rattle.va_disk.proofs.world.disk.WorldDisk.read.Goals as goal

pub returns-in-Ok-clause-time : goal.returns-in-Ok-clause-time
returns-in-Ok-clause-time c = λ honest.
    (let old = c.args.self.now.history in
    let new = c.read.new.self in
    let w = c.in-Ok.ensures in
    elapses old.first.items new.first.items old.calls.items new.calls.items (Read c.args.at (length c.args.out.now)) w.first w.calls new.given.items new.given_is)

pub returns-in-Ok-clause-frame : goal.returns-in-Ok-clause-frame
returns-in-Ok-clause-frame c =
    let old = c.args.self.now.history in
    let new = c.read.new.self in
    let w = c.in-Ok.ensures in
    reads_once (search rules) (search rules) (search rules) (search rules) (omega arith) (λ honest x left. left_after old.first.items new.first.items old.calls.items new.calls.items (Read c.args.at (length c.args.out.now)) w.first w.calls x left) (returns-in-Ok-clause-time c)
    (λ t x le left. now_counts old.first.items old.calls.items old.given.items t x old.given_is le left)
