use Rattle.std.proofs.Common.{◌≡◌, arith, ap, sym, subst}
use Rattle.va_marks.specs.Counts.{Counted, Tallies}
use Rattle.va_marks.proofs.Counting.{tallies_push}
use Rattle.va_marks.proofs.tally.Tally.add.Goals as goal

pub returns-clause-tallied : goal.returns-clause-tallied
returns-clause-tallied c vectors t =
    let before : Counted = record { shape = c.self.inside.shape; added = c.self.inside.added; columns = c.self.inside.columns.items } in
    let P : Counted → Type 0 = λ tally. Tallies tally vectors in
    let dims : c.self.inside.shape.dims ≡ c.args.self.now.shape.dims = ap (λ (tally : Counted). tally.shape.dims) c.self.view_is in
    tallies_push before _ vectors c.args.vector.now (subst P (sym c.self.view_is) t) (λ i. omega (arith, c.type_inv.vector i))
    (λ dim l. c.add_each.ensures.added dim (omega arith))
