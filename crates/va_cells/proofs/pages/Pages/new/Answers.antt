use Rattle.std.proofs.Common.{ℕ, take, zero-mul, ap, ◌∙◌}
use Rattle.va_cells.specs.Scans.{from_start}
use Rattle.va_core.specs.Shape.{Shape, code_bytes}
use Rattle.va_cells.proofs.pages.Pages.new.Goals as goal

pub returns-in-Ok : goal.returns-in-Ok
returns-in-Ok c =
    ap (λ (n : ℕ). record { shape = c.of.result; region = c.args.region; place = 0; end = 0; codes = take n c.in-Ok.piece.items }) (zero-mul (code_bytes c.of.result))
    ∙ ap (λ (s : Shape). from_start s c.args.region) (c.of.ensures ∙ c.shape-in-Ok.ensures)
