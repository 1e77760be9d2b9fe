use Rattle.std.proofs.Common.{◌≡◌, ◌≤◌, ◌^◌, length}
use Rattle.va_lang.specs.Grammar.{all_read, number_below}
use Rattle.va_lang.specs.Texts.{split_at}
use Rattle.va_lang.proofs.Reading.{before_rest}
use Rattle.va_lang.proofs.queries.read_weight_list.Given as goal

abbrev pub invariant-loop-weight : goal.invariant-loop-weight
invariant-loop-weight l = record {
  fits : length l.weights ≤ 256;
  numbers : all_read (number_below (2 ^ 16)) (split_at 44 l.text) ≡ before_rest l.weights (all_read (number_below (2 ^ 16)) (split_at 44 l.rest));
}

abbrev pub decreases-loop-weight : goal.decreases-loop-weight
decreases-loop-weight l = length l.rest
