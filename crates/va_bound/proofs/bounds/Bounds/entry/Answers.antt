use Rattle.std.proofs.Common.{◌∙◌, ℕ, ap, arith}
use Rattle.va_bound.specs.declared.entry.Entry.{Entry}
use Rattle.va_bound.specs.Tables.{entry_at}
use Rattle.va_bound.proofs.Tables.{extreme_at}
use Rattle.va_bound.proofs.bounds.Bounds.entry.Goals as goal

pub returns-clause-least : goal.returns-clause-least
returns-clause-least c marks query are full =
    ap (λ (entry : Entry). entry.least) (c.at-entry.ensures.entry ∙ ap (λ (dim : ℕ). entry_at c.args.self.now dim c.args.slice) c.from.ensures)
    ∙ (extreme_at marks query c.args.self.now c.args.dim c.args.slice are (omega (arith, are.dims, c.requires.dim)) full).least

pub returns-clause-greatest : goal.returns-clause-greatest
returns-clause-greatest c marks query are full =
    ap (λ (entry : Entry). entry.greatest) (c.at-entry.ensures.entry ∙ ap (λ (dim : ℕ). entry_at c.args.self.now dim c.args.slice) c.from.ensures)
    ∙ (extreme_at marks query c.args.self.now c.args.dim c.args.slice are (omega (arith, are.dims, c.requires.dim)) full).greatest
