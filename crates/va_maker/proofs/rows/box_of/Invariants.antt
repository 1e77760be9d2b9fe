use Rattle.std.proofs.Common.{◌≡◌, map, take}
use Rattle.va_core.specs.Boxes.{Span}
use Rattle.va_core.specs.Cells.{box}
use Rattle.va_maker.proofs.rows.box_of.Given as goal

abbrev pub invariant-loop-dim : goal.invariant-loop-dim
invariant-loop-dim l = record {
  low : l.low.items ≡ take l.dim (map (λ (s : Span). s.low) (box l.marks l.cell.code));
  high : l.high.items ≡ take l.dim (map (λ (s : Span). s.high) (box l.marks l.cell.code));
}
