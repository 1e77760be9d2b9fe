use Rattle.std.proofs.Common.{◌≡◌, [], IsTrue, arith, subst, sym, rules}
use Rattle.std.proofs.lemmas.Bool.{true≢false}
use Rattle.std.proofs.lemmas.List.{get_or_read}
use Rattle.va_core.specs.Marks.{row_at}
use Rattle.va_marks.specs.Tables.{RisesStrictly}
use Rattle.va_marks.proofs.marks.rise_strictly.Goals as goal

pub returns-then-not-rises_strictly : goal.returns-then-not-rises_strictly
returns-then-not-rises_strictly c =
    let row : c.row-item.result ≡ row_at c.args.rows.now c.loop-row.row-index = get_or_read c.args.rows.now c.loop-row.row-index c.row-item.result (omega arith) c.row-item.is [] in (
      λ f. absurd (true≢false (sym f)),
      λ all. let strict : RisesStrictly c.row-item.result = subst RisesStrictly (sym row) (all c.loop-row.row-index (omega arith)) in
          let holds : IsTrue c.rises_strictly.result = c.rises_strictly.ensures.1 strict in search rules,
    )
