use Rattle.std.proofs.Common.{◌≡◌, ◌∙◌, replicate, rules}
use Rattle.va_marks.proofs.Counting.{counts_of_none}
use Rattle.va_marks.proofs.value_counts.ValueCounts.new.Goals as goal

pub returns : goal.returns
returns c = let e : c.in_ok-vec.field-0.items ≡ replicate 256 0 = search rules in e ∙ counts_of_none
