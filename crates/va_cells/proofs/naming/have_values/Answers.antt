use Rattle.std.proofs.Common.{get_or, refl}
use Rattle.va_core.specs.Marks.{row_at}
use Rattle.va_cells.proofs.Named.{rising_slice}
use Rattle.va_cells.proofs.naming.have_values.Goals as goal

pub returns-then-rise_strictly : goal.returns-then-rise_strictly
returns-then-rise_strictly c =
    (λ _ dim less. rising_slice (row_at c.args.marks.now dim) (get_or c.args.slices.now dim 0) (c.rise_strictly.ensures.strictly.0 c.if-rise_strictly.true dim less (get_or c.args.slices.now dim 0) (c.requires.inside dim less)), λ _. refl)
