use Rattle.std.proofs.Common.{◌∙◌, ap}
use Rattle.va_csv.specs.Lines.{lines_of}
use Rattle.va_serve.proofs.RecordLines.{broke_records, ran_records}
use Rattle.va_serve.proofs.importing.run_records.Goals as goal

pub returns-in-Ok-run_each-clause-ran : goal.returns-in-Ok-run_each-clause-ran
returns-in-Ok-run_each-clause-ran g c = λ other.
    (let run = c.in-Ok-run_each.ensures in
    ran_records g.D.Storage g.S.Source c.args.limit c.args.session.now.sitting c.args.source.now c.take_all.new.source c.args.desk.now c.in-Ok.bytes c.in-Ok.ensures.all
    c.deref.result.now (c.deref.ensures.value ∙ c.in-Ok-lines.ensures ∙ ap lines_of c.as_slice.ensures) c.run_each.new.desk run.done c.run_each.ensures.moments run.stayed c.run_each.ensures.later)

pub returns-clause-ran : goal.returns-clause-ran
returns-clause-ran g c = λ other.
    (let run = c.in-Err-run_each.ensures in
    broke_records g.D.Storage g.S.Source c.args.limit c.args.session.now.sitting c.args.source.now c.take_all.new.source c.args.desk.now c.in-Ok.bytes c.in-Ok.ensures.all
    c.deref.result.now (c.deref.ensures.value ∙ c.in-Ok-lines.ensures ∙ ap lines_of c.as_slice.ensures) c.run_each.new.desk c.in-Err-run_each.status run.stopped c.run_each.ensures.moments run.cause c.run_each.ensures.later)
