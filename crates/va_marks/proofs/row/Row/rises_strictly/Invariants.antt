use Rattle.std.proofs.Common.{ℕ, ◌+◌, ◌<◌, get_or}
use Rattle.va_marks.proofs.row.Row.rises_strictly.Given as goal

abbrev pub invariant-loop-t : goal.invariant-loop-t
invariant-loop-t l = (slice : ℕ) → slice + 1 < l.t → get_or l.marks slice 0 < get_or l.marks (slice + 1) 0
