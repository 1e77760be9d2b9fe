use Rattle.std.proofs.Common.{◌≡◌, ◌≤◌, Option, None, replicate, vec_capacity}
use Rattle.va_cursor.specs.Cursors.{Cursor}
use Rattle.va_serve.proofs.workspace.names.Given as goal

abbrev pub invariant-loop : goal.invariant-loop
invariant-loop l = record { some : l.cursors.items ≡ replicate {A = Option Cursor} l.counter None; room : 64 ≤ vec_capacity l.cursors }
