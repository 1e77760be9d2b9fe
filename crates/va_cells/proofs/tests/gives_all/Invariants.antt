use Rattle.std.proofs.Common.{◌≡◌}
use Rattle.va_cells.proofs.tests.gives_all.Given as goal

abbrev pub invariant-loop-place : goal.invariant-loop-place
invariant-loop-place g l = record {
  shape : l.pages.shape ≡ l.fn.pages.shape;
  size : g.D.Storage.size l.disk ≡ g.D.Storage.size l.fn.disk;
}
