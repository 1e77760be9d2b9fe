use Rattle.std.proofs.Common.{arith, get_or, refl}
use Rattle.va_core.specs.declared.pair.Pair.{Pair}
use Rattle.va_serve.proofs.ScriptRuns.{sum_more}
use Rattle.va_serve.proofs.totals.with_distances.Goals as goal

pub loop-pair-preserved : goal.loop-pair-preserved
loop-pair-preserved c =
    let at = c.loop-pair.pair-index in
    let none : Pair = record { dist = 0; id = 0 } in
    omega (arith, c.loop-pair.invariant, c.saturating_add-total.ensures, sum_more c.args.pairs.now at (get_or c.args.pairs.now at none) none c.loop-pair-test.true refl)
