use Rattle.va_disk.proofs.DiskModel.{outcomes_are}
use Rattle.va_disk.proofs.world.World.keeps_disk_model.Goals as goal

pub returns : goal.returns
returns c =
    let h = c.args.self.now.history in
    outcomes_are h.first.items h.calls.items h.stable.items h.pending.items h.image.items h.stable_is h.pending_is h.image_is
