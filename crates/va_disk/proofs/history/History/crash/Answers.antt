use Rattle.std.proofs.Common.{◌≡◌, List, ℕ, ◌∙◌, subst, sym, rules}
use Rattle.va_disk.specs.DiskModel.{SetsWritten}
use Rattle.va_disk.specs.Replay.{MayLeave, replay}
use Rattle.va_disk.specs.ReplayLaws.{in_turn_none, image_is_outcome}
use Rattle.va_disk.proofs.DiskModel.{pending_is_within, set_is_outcome}
use Rattle.va_disk.proofs.history.History.crash.Goals as goal

pub returns-then-pick-eq0-clause-outcome : goal.returns-then-pick-eq0-clause-outcome
returns-then-pick-eq0-clause-outcome c =
    let s = c.args.self.now in
    let state = replay s.first.items s.calls.items in
    let same : c.in_ok-stable.stable.items ≡ s.stable.items = search rules in
    subst (λ (l : List ℕ). MayLeave s.first.items s.calls.items l) (sym (same ∙ s.stable_is)) (in_turn_none state.stable state.pending)

pub returns-then-pick-eq1-clause-outcome : goal.returns-then-pick-eq1-clause-outcome
returns-then-pick-eq1-clause-outcome c =
    let s = c.args.self.now in
    let same : c.in_ok-image.image.items ≡ s.image.items = search rules in
    image_is_outcome s.first.items s.calls.items c.in_ok-image.image.items (same ∙ s.image_is)

pub with_written-requires : goal.with_written-requires
with_written-requires c =
    let s = c.args.self.now in
    rw c.deref-2.ensures.value (rw c.deref-3.ensures.value (pending_is_within s.first.items s.calls.items s.stable.items s.pending.items s.image.items s.stable_is s.pending_is s.image_is))

pub returns-clause-outcome : goal.returns-clause-outcome
returns-clause-outcome c =
    let s = c.args.self.now in
    let sets : SetsWritten s.image.items s.pending.items c.args.pick c.in_ok-set.set.items = rw (sym c.deref-2.ensures.value) (rw (sym c.deref-3.ensures.value) c.in_ok-set.ensures) in
    set_is_outcome s.first.items s.calls.items s.stable.items s.pending.items s.image.items s.stable_is s.pending_is s.image_is c.args.pick c.in_ok-set.set.items sets
