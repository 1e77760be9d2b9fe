use Rattle.std.proofs.Common.{sym, ◌∙◌, rules, arith}
use Rattle.va_disk.specs.ReplayLaws.{image_is_outcome, now_counts}
use Rattle.va_disk.specs.declared.call.Call.TheVariants.{Sync}
use Rattle.va_disk.proofs.Frames.{reads_once}
use Rattle.va_disk.proofs.Recorded.{left_after, elapses}
use Rattle.va_disk.proofs.world.disk.WorldDisk.sync.Goals as goal

pub returns-in-Ok-clause-durable : goal.returns-in-Ok-clause-durable
returns-in-Ok-clause-durable c = λ x left.
    let old = c.args.self.now.history in
    let new = c.sync.new.self in
    let w = c.in-Ok.ensures in
    left_after old.first.items new.first.items old.calls.items new.calls.items Sync w.first w.calls x left ∙ sym old.image_is

pub returns-in-Ok-clause-time : goal.returns-in-Ok-clause-time
returns-in-Ok-clause-time c = λ honest.
    (let old = c.args.self.now.history in
    let new = c.sync.new.self in
    let w = c.in-Ok.ensures in
    elapses old.first.items new.first.items old.calls.items new.calls.items Sync w.first w.calls new.given.items new.given_is)

pub returns-in-Ok-clause-frame : goal.returns-in-Ok-clause-frame
returns-in-Ok-clause-frame c =
    let old = c.args.self.now.history in
    reads_once (search rules) (search rules) (search rules) (search rules) (omega arith) (λ honest x left. image_is_outcome old.first.items old.calls.items x (returns-in-Ok-clause-durable c x left ∙ old.image_is)) (returns-in-Ok-clause-time c)
    (λ t x le left. now_counts old.first.items old.calls.items old.given.items t x old.given_is le left)
