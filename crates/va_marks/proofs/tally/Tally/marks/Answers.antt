use Rattle.std.proofs.Common.{◌≡◌, ◌∙◌, List, subst, ℕ}
use Rattle.va_marks.specs.Counts.{Counted}
use Rattle.va_marks.specs.Rows.{AreRows, row_by_counts}
use Rattle.va_marks.proofs.Marking.{rows_tallied, rows_tallied_have_shape}
use Rattle.va_marks.proofs.tally.Tally.marks.Goals as goal

-- the rows are those of the tally
rows_are : (tally seen : Counted) (columns rows : List (List ℕ)) → tally ≡ seen → columns ≡ tally.columns → AreRows (row_by_counts tally.shape tally.added columns) tally.shape.dims rows →
    AreRows (row_by_counts seen.shape seen.added seen.columns) seen.shape.dims rows
rows_are tally seen columns rows same e are =
    let P : Counted → Type 0 = λ counted. AreRows (row_by_counts counted.shape counted.added counted.columns) counted.shape.dims rows in
    let Q : List (List ℕ) → Type 0 = λ counts. AreRows (row_by_counts tally.shape tally.added counts) tally.shape.dims rows in
    subst P same (subst Q e are)

pub returns-in-Ok-clause-marks : goal.returns-in-Ok-clause-marks
returns-in-Ok-clause-marks c vectors t =
    c.from_rows.ensures.marks ∙ rows_tallied c.args.self.now c.in-Ok.rows.items vectors (rows_are _ c.args.self.now _ c.in-Ok.rows.items c.self.view_is c.deref.ensures.value c.in-Ok.ensures) t

pub returns-in-Ok-clause-shape : goal.returns-in-Ok-clause-shape
returns-in-Ok-clause-shape c =
    rw c.from_rows.ensures.marks (rows_tallied_have_shape c.args.self.now c.in-Ok.rows.items (rows_are _ c.args.self.now _ c.in-Ok.rows.items c.self.view_is c.deref.ensures.value c.in-Ok.ensures))
