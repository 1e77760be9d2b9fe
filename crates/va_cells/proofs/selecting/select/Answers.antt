use Rattle.std.proofs.Common.{◌<◌, length, arith}
use Rattle.va_disk.proofs.Frames.{writes_weaker}
use Rattle.va_layout.proofs.Writes.{on_ok, rest_of_torn}
use Rattle.va_cells.proofs.Selected.{selected}
use Rattle.va_cells.proofs.selecting.select.Goals as goal

pub returns-clause-selected : goal.returns-clause-selected
returns-clause-selected g c = on_ok c.commit.result c.commit.ensures.written (λ written told.
    let D = g.D.Storage in
    let long : 16 < length (D.image c.args.disk.now) = omega (arith, g.met.D.Disk.length_told c.args.disk.now told, c.requires.long) in
    selected c.args.region c.selection_byte.result (D.image c.args.disk.now) (D.image c.commit.new.disk) long c.selection_byte.ensures (written told))

pub returns-clause-rest : goal.returns-clause-rest
returns-clause-rest g c = λ told. rest_of_torn 16 1 _ _ (c.commit.ensures.torn told)

pub returns-clause-frame : goal.returns-clause-frame
returns-clause-frame g c = writes_weaker c.commit.ensures.frame (λ honest x torn told. rest_of_torn 16 1 _ _ (torn told))
