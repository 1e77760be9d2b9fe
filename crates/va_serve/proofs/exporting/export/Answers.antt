use Rattle.std.proofs.Common.{subst}
use Rattle.va_serve.specs.Exporting.{Exports}
use Rattle.va_serve.specs.Session.{Workspace, sitting_of}
use Rattle.va_serve.proofs.RowsOut.{exports_kept, rows_kept}
use Rattle.va_serve.proofs.exporting.export.Goals as goal

pub returns-in-Some-clause-exported : goal.returns-in-Some-clause-exported
returns-in-Some-clause-exported g c =
    rw c.in-Some.is (subst (λ (work : Workspace). Exports g.D.Storage c.export_all.result (sitting_of work) c.args.desk.now c.export_all.new.desk) c.work.view_is
    (exports_kept g.D.Storage _ _ _ c.work.inside.cursors.items c.export_all.result (rows_kept g.D.Storage _ _ _ c.export_all.result c.export_all.ensures.rows)))
