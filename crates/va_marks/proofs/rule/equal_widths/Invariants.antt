use Rattle.std.proofs.Common.{◌≡◌, [], map}
use Rattle.std.specs.List.{range_with_len}
use Rattle.va_core.specs.Marks.{mark_of}
use Rattle.va_marks.proofs.rule.equal_widths.Given as goal

abbrev pub invariant-loop-t : goal.invariant-loop-t
invariant-loop-t l = l.marks.items ≡ map (mark_of l.fn.bits []) (range_with_len 0 l.t)
