use Rattle.std.proofs.Common.{◌∙◌, sym}
use Rattle.va_disk.proofs.Moments.{only_start_or}
use Rattle.va_model.proofs.GivingRows.{frame_reads}
use Rattle.va_serve.specs.Session.{sitting_in}
use Rattle.va_serve.proofs.ExportRuns.{caused_store, crash_behind, crash_opened, export_completes, frame_opened, kept_opened, no_fault, opened_to, run_behind, run_unopened, unopened_to}
use Rattle.va_serve.proofs.Progressing.{stay_reading}
use Rattle.va_serve.proofs.StoreRuns.{faulted, of_file}
use Rattle.va_serve.proofs.Whole.{faultless_opened, later_behind, later_reading, secure_at, start_refuses}
use Rattle.va_serve.proofs.exporting.run_export.Goals as goal

pub returns-in-Err : goal.returns-in-Err
returns-in-Err g c =
    let D = g.D.Storage in
    let e = c.in-Err.ensures in
    record {
      exported = λ told start begins. unopened_to g.D.Storage _ _ c.in-Err.status _ (e.stands told start begins) (record { frame = e.frame; front = e.reads told });
      rows = λ told kept opens. unopened_to g.D.Storage _ _ c.in-Err.status _ (no_fault _ kept opens c.in-Err.status (e.refused told)) (record { frame = e.frame; front = e.reads told });
      crash = λ honest told start begins. crash_opened e.frame start honest;
      plainly = λ honest told start begins. only_start_or D.clock D.left_since D.may_leave D.given (λ state image given left. g.met.D.Disk.only_now state image given honest left) _ _ _ (crash_opened e.frame start honest);
      frame = frame_reads e.frame;
      file = record {
        store = λ told fault is. faulted _ fault c.in-Err.status (e.refused told) is;
        kinds = λ fault is. of_file _ fault c.in-Err.status e.kinds is;
        refused = λ fault is. e.frame;
        faulty = λ told fault has not_blank. (start_refuses _ fault _ (e.refused told) has, record { frame = e.frame; front = e.reads told });
      };
      cause = run_unopened g.D.Storage _ _ _ c.in-Err.status e.kinds e.frame _ c.in-Err.is c.open.ensures.cause;
      later = later_reading e.frame;
      complete = λ told start begins no_sink no_disk. export_completes D c.args.desk.now c.open.new.desk c.in-Err.status (λ mid. Unit {0})
          (unopened_to D _ _ c.in-Err.status _ (e.stands told start begins) (record { frame = e.frame; front = e.reads told }))
          (run_unopened D _ _ _ c.in-Err.status e.kinds e.frame _ c.in-Err.is c.open.ensures.cause) no_sink no_disk;
    }

pub returns-in-Ok : goal.returns-in-Ok
returns-in-Ok g c =
    let D = g.D.Storage in
    let e = c.in-Ok.ensures in
    let run = c.export.ensures in
    let sitting = sitting_in c.in-Ok.work in
    record {
      exported = λ told start begins. opened_to D _ _ _ c.export.result _ run.cause (record { mid = c.open.new.desk; frame = e.frame; front = e.reads told; ran = run.exported.from told start (e.started told start begins) });
      rows = λ told kept opens.
          (let there = kept_opened e.frame sitting e.fits (g.met.D.Disk.length_told c.open.new.desk) told kept opens in
          opened_to D _ _ _ c.export.result _ run.cause (record { mid = c.open.new.desk; frame = e.frame; front = e.reads told; ran = run.rows told kept there.0 there.1 }));
      crash = λ honest told start begins. crash_behind e.frame start honest
          (run.moments.from honest told start (e.started told start begins) (secure_at D start sitting _ _ begins.stands e.frame.image e.fits told (e.durable honest told)));
      plainly = λ honest told start begins. only_start_or D.clock D.left_since D.may_leave D.given (λ state image given left. g.met.D.Disk.only_now state image given honest left) _ _ _
          (crash_behind e.frame start honest (run.moments.from honest told start (e.started told start begins) (secure_at D start sitting _ _ begins.stands e.frame.image e.fits told (e.durable honest told))));
      frame = frame_opened e.frame sitting e.fits (g.met.D.Disk.length_told c.open.new.desk) run.frame;
      file = record {
        store = λ told fault is. absurd (caused_store D _ _ c.export.result fault run.cause is);
        kinds = λ fault is. absurd (caused_store D _ _ c.export.result fault run.cause is);
        refused = λ fault is. absurd (caused_store D _ _ c.export.result fault run.cause is);
        faulty = λ told fault has not_blank. absurd (faultless_opened _ fault (e.opens told) has not_blank);
      };
      cause = run_behind D _ _ _ c.export.result (stay_reading e.frame (c.open.ensures.cause.stayed (λ wrong. let both = sym c.in-Ok.is ∙ wrong in cc))) run.cause;
      later = later_behind e.frame run.later;
      complete = λ told start begins no_sink no_disk. export_completes D c.args.desk.now c.export.new.desk c.export.result (λ mid. Unit {0})
          (opened_to D _ _ _ c.export.result _ run.cause (record { mid = c.open.new.desk; frame = e.frame; front = e.reads told; ran = tt }))
          (run_behind D _ _ _ c.export.result (stay_reading e.frame (c.open.ensures.cause.stayed (λ wrong. let both = sym c.in-Ok.is ∙ wrong in cc))) run.cause) no_sink no_disk;
    }
