use Rattle.std.proofs.Common.{subst}
use Rattle.va_check.specs.Judging.{IsVerdict}
use Rattle.va_check.proofs.Collected.{judges_soundly}
use Rattle.va_check.proofs.judging.judge.Goals as goal

pub returns-clause-sound : goal.returns-clause-sound
returns-clause-sound g c = λ is told.
    let h : IsVerdict c.judge_bytes.result c.in-Ok.bytes = subst (IsVerdict c.judge_bytes.result) c.as_slice.ensures c.judge_bytes.ensures in
    judges_soundly c.judge_bytes.result (g.S.Source.left c.args.source.now) c.in-Ok.bytes _ (c.in-Ok.ensures.all told) h is
