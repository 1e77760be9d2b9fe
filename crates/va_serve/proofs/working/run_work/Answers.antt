use Rattle.std.proofs.Common.{◌∙◌, sym}
use Rattle.va_disk.proofs.Moments.{only_start_or}
use Rattle.va_serve.specs.WorkRun.{WorkLeaves}
use Rattle.va_serve.proofs.ExportRuns.{kept_opened, no_fault, run_unopened, unopened_to}
use Rattle.va_serve.proofs.Progressing.{stay_reading}
use Rattle.va_serve.proofs.StoreRuns.{faulted, of_file}
use Rattle.va_serve.proofs.Whole.{faultless_opened, later_behind, later_reading, may_not_start_done, start_refuses}
use Rattle.va_serve.proofs.WorkRuns.{kept_there, left_behind, left_opened, store_opened, work_caused, work_completes, work_no_store, work_opened, work_uncaused}
use Rattle.va_serve.proofs.working.run_work.Goals as goal

pub returns-in-Err : goal.returns-in-Err
returns-in-Err g c =
    let D = g.D.Storage in
    let e = c.in-Err.ensures in
    let cause = work_uncaused D c.args.n c.args.desk.now c.start.new.desk c.in-Err.status (run_unopened D _ _ _ c.in-Err.status e.kinds e.frame _ c.in-Err.is c.start.ensures.cause) in
    record {
      worked = λ told start begins. unopened_to D _ _ c.in-Err.status _ (e.stands told start begins) (record { frame = e.frame; front = e.reads told });
      there = λ told kept opens. unopened_to D _ _ c.in-Err.status _ (no_fault _ kept opens c.in-Err.status (e.refused told)) (record { frame = e.frame; front = e.reads told });
      crash = λ honest told start begins. left_opened e.frame (WorkLeaves c.args.n start) honest;
      plainly = λ honest told start begins. only_start_or D.clock D.left_since D.may_leave D.given (λ state image given left. g.met.D.Disk.only_now state image given honest left) _ _ _ (left_opened e.frame (WorkLeaves c.args.n start) honest);
      settled = λ done. absurd (may_not_start_done _ c.in-Err.status e.kinds done);
      file = record {
        store = λ told fault is. faulted _ fault c.in-Err.status (e.refused told) is;
        kinds = λ fault is. of_file _ fault c.in-Err.status e.kinds is;
        refused = λ fault is. e.frame;
        faulty = λ told fault has not_blank. (start_refuses _ fault _ (e.refused told) has, record { frame = e.frame; front = e.reads told });
      };
      cause = cause;
      later = later_reading e.frame;
      complete = λ told start begins no_sink no_disk. work_completes D c.args.n c.args.desk.now c.start.new.desk c.in-Err.status (λ mid. Unit {0})
          (unopened_to D _ _ c.in-Err.status _ (e.stands told start begins) (record { frame = e.frame; front = e.reads told })) cause no_sink no_disk;
    }

pub returns-in-Ok : goal.returns-in-Ok
returns-in-Ok g c =
    let D = g.D.Storage in
    let e = c.in-Ok.ensures in
    let run = c.work.ensures in
    let sitting = c.in-Ok.session.sitting in
    let stays = stay_reading e.frame (c.start.ensures.cause.stayed (λ wrong. let both = sym c.in-Ok.is ∙ wrong in cc)) in
    record {
      worked = λ told start begins. work_opened D c.args.n c.args.desk.now c.work.new.desk start c.work.result
          (record { mid = c.start.new.desk; frame = e.frame; front = e.reads told; ran = run.worked.from told start (e.started told start begins) });
      there = λ told kept opens.
          (let kept_here = kept_opened e.frame sitting e.fits (g.met.D.Disk.length_told c.start.new.desk) told kept opens in
          store_opened D c.args.n c.args.desk.now c.work.new.desk c.work.result (record { mid = c.start.new.desk; frame = e.frame; front = e.reads told; ran = run.there (kept_there sitting.store kept kept_here.0) }));
      crash = λ honest told start begins. left_behind e.frame (WorkLeaves c.args.n start) honest (run.moments.from honest told start (e.started told start begins) (e.secure honest told start begins));
      plainly = λ honest told start begins. only_start_or D.clock D.left_since D.may_leave D.given (λ state image given left. g.met.D.Disk.only_now state image given honest left) _ _ _
          (left_behind e.frame (WorkLeaves c.args.n start) honest (run.moments.from honest told start (e.started told start begins) (e.secure honest told start begins)));
      settled = λ done honest told start begins. (run.settled done).from honest told start (e.started told start begins) (e.secure honest told start begins);
      file = record {
        store = λ told fault is. absurd (work_no_store D c.args.n c.args.desk.now c.work.new.desk c.start.new.desk c.work.result fault run.cause is);
        kinds = λ fault is. absurd (work_no_store D c.args.n c.args.desk.now c.work.new.desk c.start.new.desk c.work.result fault run.cause is);
        refused = λ fault is. absurd (work_no_store D c.args.n c.args.desk.now c.work.new.desk c.start.new.desk c.work.result fault run.cause is);
        faulty = λ told fault has not_blank. absurd (faultless_opened _ fault (e.opens told) has not_blank);
      };
      cause = work_caused D c.args.n c.args.desk.now c.work.new.desk c.start.new.desk c.work.result stays run.cause;
      later = later_behind e.frame run.later;
      complete = λ told start begins no_sink no_disk. work_completes D c.args.n c.args.desk.now c.work.new.desk c.work.result _
          (work_opened D c.args.n c.args.desk.now c.work.new.desk start c.work.result (record { mid = c.start.new.desk; frame = e.frame; front = e.reads told; ran = run.worked.from told start (e.started told start begins) }))
          (work_caused D c.args.n c.args.desk.now c.work.new.desk c.start.new.desk c.work.result stays run.cause) no_sink no_disk;
    }
