use Rattle.std.proofs.Common.{length, ◌∙◌}
use Rattle.va_rows.proofs.Slots.{slot_read}
use Rattle.va_rows.proofs.reading.read_piece.Goals as goal

pub returns-clause-slots : goal.returns-clause-slots
returns-clause-slots g c = λ told k other less.
    let D = g.D.Storage in
    c.unpack.ensures k other less
    ∙ slot_read c.args.first (length c.args.out.now) k (D.image c.args.disk.now) c.read.new.out less
    (rw (c.requires.buffer, c.slot_at.ensures) at (c.in_ok-read.ensures.filled told))
