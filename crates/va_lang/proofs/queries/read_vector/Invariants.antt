use Rattle.std.proofs.Common.{◌≡◌, ◌≤◌, ◌^◌, length}
use Rattle.va_lang.specs.Grammar.{all_read, number_below}
use Rattle.va_lang.specs.Texts.{split_at}
use Rattle.va_lang.proofs.Reading.{before_rest}
use Rattle.va_lang.proofs.queries.read_vector.Given as goal

abbrev pub invariant-loop-coordinate : goal.invariant-loop-coordinate
invariant-loop-coordinate l = record {
  fits : length l.vector ≤ 256;
  numbers : all_read (number_below (2 ^ 8)) (split_at 44 l.text) ≡ before_rest l.vector (all_read (number_below (2 ^ 8)) (split_at 44 l.rest));
}

abbrev pub decreases-loop-coordinate : goal.decreases-loop-coordinate
decreases-loop-coordinate l = length l.rest
