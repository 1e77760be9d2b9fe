use Rattle.std.proofs.Common.{◌≡◌, ℕ, ◌<◌, get_or, None}
use Rattle.va_core.specs.Marks.{interval, row_at}
use Rattle.va_cells.proofs.naming.have_values.Given as goal

abbrev pub invariant-loop-dim : goal.invariant-loop-dim
invariant-loop-dim l = (dim : ℕ) → dim < l.dim → interval (row_at l.marks dim) (get_or l.slices dim 0) ≡ None → ⊥
