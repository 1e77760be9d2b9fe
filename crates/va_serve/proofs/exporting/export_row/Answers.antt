use Rattle.std.proofs.Common.{◌∙◌}
use Rattle.va_serve.proofs.RowsOut.{ReadsRow, row_cut_if, row_frame, row_given_if, row_unmade, row_unread}
use Rattle.va_serve.proofs.exporting.export_row.Goals as goal

pub returns-in_default-clause-stopped : goal.returns-in_default-clause-stopped
returns-in_default-clause-stopped g c = row_unread c.get.ensures.frame c.in_default.ensures.reads.err

pub returns-in_default-row-clause-stopped : goal.returns-in_default-row-clause-stopped
returns-in_default-row-clause-stopped g c =
    let row : ReadsRow g.D.Storage c.args.store.now c.args.id c.get.new.out c.args.desk.now c.get.new.disk = record { frame = c.get.ensures.frame; keeps = c.in-Ok.ensures.vector; read = c.in-Ok.ensures.reads.ok } in
    row_unmade row

pub returns-clause-rows : goal.returns-clause-rows
returns-clause-rows g c =
    let row : ReadsRow g.D.Storage c.args.store.now c.args.id c.get.new.out c.args.desk.now c.get.new.disk = record { frame = c.get.ensures.frame; keeps = c.in-Ok.ensures.vector; read = c.in-Ok.ensures.reads.ok } in
    row_given_if row (c.as_slice.ensures ∙ c.in-Ok-row.ensures) c.give_row.ensures.frame c.give_row.result c.give_row.ensures.given

pub returns-clause-stopped : goal.returns-clause-stopped
returns-clause-stopped g c =
    let row : ReadsRow g.D.Storage c.args.store.now c.args.id c.get.new.out c.args.desk.now c.get.new.disk = record { frame = c.get.ensures.frame; keeps = c.in-Ok.ensures.vector; read = c.in-Ok.ensures.reads.ok } in
    row_cut_if row (c.as_slice.ensures ∙ c.in-Ok-row.ensures) c.give_row.ensures.frame c.give_row.result c.give_row.ensures.part

pub returns-clause-frame : goal.returns-clause-frame
returns-clause-frame g c =
    let row : ReadsRow g.D.Storage c.args.store.now c.args.id c.get.new.out c.args.desk.now c.get.new.disk = record { frame = c.get.ensures.frame; keeps = c.in-Ok.ensures.vector; read = c.in-Ok.ensures.reads.ok } in
    row_frame row (c.as_slice.ensures ∙ c.in-Ok-row.ensures) c.give_row.ensures.frame
