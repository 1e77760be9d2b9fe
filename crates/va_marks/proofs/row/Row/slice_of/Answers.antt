use Rattle.std.proofs.Common.{◌∙◌, ap, arith, get_or}
use Rattle.std.proofs.lemmas.List.{get_or_read}
use Rattle.va_core.specs.Marks.{slice_of}
use Rattle.va_marks.proofs.row.Row.slice_of.Goals as goal

pub returns-clause-slice : goal.returns-clause-slice
returns-clause-slice c =
    get_or_read c.self.inside.slices.items c.from.result c.index.result.now (omega arith) c.index.ensures 0
    ∙ ap (λ v. get_or c.self.inside.slices.items v 0) c.from.ensures ∙ c.self.invariant.exact c.args.value (omega arith)
    ∙ ap (λ row. slice_of row c.args.value) c.self.view_is
