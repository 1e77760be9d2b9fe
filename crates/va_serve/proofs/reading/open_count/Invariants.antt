use Rattle.std.proofs.Common.{◌≡◌, ◌+◌, drop}
use Rattle.va_serve.specs.Held.{count_open}
use Rattle.va_serve.proofs.reading.open_count.Given as goal

-- what is left comes on top
abbrev pub invariant-loop-cursor : goal.invariant-loop-cursor
invariant-loop-cursor l = l.count + count_open (drop l.cursor-index l.cursors) ≡ count_open l.cursors
