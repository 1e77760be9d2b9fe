use Rattle.std.proofs.Common.{◌≡◌, [], ◌∙◌, arith, ap, map}
use Rattle.std.specs.List.{range_with_len}
use Rattle.va_marks.specs.Counts.{counts_of}
use Rattle.va_marks.proofs.Pushes.{pushed_by}
use Rattle.va_marks.proofs.tally.empty_columns.Goals as goal

pub loop-preserved : goal.loop-preserved
loop-preserved c = pushed_by (λ _. counts_of []) c.loop.columns.items c.push.new.self.items c.loop.counter c.in_ok-column.column c.in_ok-push.ensures.items c.loop.invariant c.in_ok-column.ensures

pub returns : goal.returns
returns c = let all : c.loop.counter ≡ c.args.shape.dims = omega arith in c.loop.invariant ∙ ap (λ n. map (λ _. counts_of []) (range_with_len 0 n)) all
