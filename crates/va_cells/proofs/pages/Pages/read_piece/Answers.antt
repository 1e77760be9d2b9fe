use Rattle.std.proofs.Common.{rules, ◌≡◌, ◌+◌, ◌*◌, ◌≤◌, ap, arith}
use Rattle.va_cells.proofs.Inside.{codes_inside}
use Rattle.va_core.specs.Shape.{code_bytes}
use Rattle.va_layout.specs.Layout.{code_at, layout_len}
use Rattle.va_cells.proofs.pages.Pages.read_piece.Goals as goal

pub read_front-requires-clause-inside : goal.read_front-requires-clause-inside
read_front-requires-clause-inside g c =
    let s = c.self.inside in
    let n = c.min-count.result in
    let fits : n + s.end ≤ s.layout.capacity = search rules in
    let at : c.code_at-at.result ≡ code_at s.layout s.region s.end = search rules in
    let bytes : c.code_bytes.result ≡ code_bytes s.layout = search rules in
    let long : layout_len s.layout ≤ g.D.Storage.size c.args.disk.now = search rules in
    let inside = codes_inside s.layout s.region s.end n (omega (arith, fits)) in
    let same : n * c.code_bytes.result ≡ n * code_bytes s.layout = ap (λ k. n * k) bytes in
    omega (arith, at, same, long, inside)
