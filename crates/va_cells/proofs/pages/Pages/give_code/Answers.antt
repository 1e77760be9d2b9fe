use Rattle.std.proofs.Common.{rules, ◌≡◌, ◌+◌, ◌-◌, ◌*◌, ℕ, List, ap, sym, ◌∙◌}
use Rattle.va_cells.proofs.Scanned.{codes_next}
use Rattle.va_core.specs.Shape.{code_bytes}
use Rattle.va_layout.specs.Parts.{part}
use Rattle.va_cells.proofs.pages.Pages.give_code.Goals as goal

pub returns-clause-scan : goal.returns-clause-scan
returns-clause-scan c =
    let s = c.self.inside in
    let less = c.requires.some in
    let len : c.code_bytes-len.result ≡ code_bytes s.layout = search rules in
    rw (sym c.self.view_is) (ap (λ (codes : List ℕ). record { shape = s.layout; region = s.region; place = s.place + 1; end = s.end; codes = codes })
    (ap (λ n. part (s.begin + n) ((s.end - (s.place + 1)) * code_bytes s.layout) s.piece.items) len
    ∙ codes_next s.begin s.place s.end (code_bytes s.layout) s.piece.items (rw (sym c.self.view_is) at less)))
