use Rattle.std.proofs.Common.{◌≡◌, ◌∙◌, None, Option, ap, replicate, ℕ, arith}
use Rattle.va_cursor.specs.Cursors.{Cursor}
use Rattle.va_serve.specs.Held.{none_open}
use Rattle.va_serve.proofs.workspace.names.Goals as goal

pub returns : goal.returns
unfolding none_open
returns c =
    let all : c.loop.counter ≡ 64 = omega arith in
    c.loop.invariant.some ∙ ap (λ (n : ℕ). replicate {A = Option Cursor} n None) all
