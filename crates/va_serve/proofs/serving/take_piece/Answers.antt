use Rattle.std.proofs.Common.{arith}
use Rattle.va_serve.proofs.Progressing.{later_both, later_nothing, partly_lasts, partly_more, partly_start, partly_stops, rises_behind, stay_both, stay_nothing}
use Rattle.va_serve.proofs.serving.take_piece.Goals as goal
use Rattle.va_store.proofs.Handing.{handed_on}

pub loop-byte-init : goal.loop-byte-init
loop-byte-init g c = record { partly = partly_start; going = c.requires.going; fits = c.requires.fits; later = later_nothing; stays = stay_nothing }

pub returns-in_err-take_byte-clause-stopped : goal.returns-in_err-take_byte-clause-stopped
returns-in_err-take_byte-clause-stopped g c =
    handed_on c.from_residual.result _ _ c.from_residual.ensures.1 (partly_stops c.loop-byte.byte-index c.loop-byte.invariant.partly (omega arith) c.in_err-take_byte.ensures.stopped)

pub returns-in_err-take_byte-clause-cause : goal.returns-in_err-take_byte-clause-cause
returns-in_err-take_byte-clause-cause g c =
    handed_on c.from_residual.result _ _ c.from_residual.ensures.1 (rises_behind _ _ c.loop-byte.invariant.stays c.in_err-take_byte.ensures.cause)

pub returns-in_err-take_byte-clause-moments : goal.returns-in_err-take_byte-clause-moments
returns-in_err-take_byte-clause-moments g c =
    partly_lasts c.loop-byte.byte-index c.loop-byte.invariant.partly (omega arith) (g.met.D.Disk.is_outcome c.args.desk.now) c.in_err-take_byte.ensures.moments

pub loop-byte-preserved : goal.loop-byte-preserved
loop-byte-preserved g c =
    let now = c.in_ok-take_byte.ensures in
    record {
      partly = partly_more c.loop-byte.byte-index c.loop-byte.invariant.partly (omega arith) (g.met.D.Disk.is_outcome c.args.desk.now) now.open_line now.done now.moments;
      going = now.going;
      fits = now.fits;
      later = later_both c.loop-byte.invariant.later now.later;
      stays = stay_both c.loop-byte.invariant.stays now.stayed;
    }
