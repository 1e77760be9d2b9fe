use Rattle.std.proofs.Common.{◌≡◌, [], map}
use Rattle.std.specs.List.{range_with_len}
use Rattle.va_marks.specs.Counts.{counts_of}
use Rattle.va_marks.proofs.tally.empty_columns.Given as goal

abbrev pub invariant-loop : goal.invariant-loop
invariant-loop l = l.columns.items ≡ map (λ _. counts_of []) (range_with_len 0 l.counter)
