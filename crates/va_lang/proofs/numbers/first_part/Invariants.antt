use Rattle.std.proofs.Common.{◌≡◌, ◌≤◌, ◌-◌, length, take, drop}
use Rattle.va_lang.specs.Texts.{split_at}
use Rattle.va_lang.proofs.Splitting.{after_part}
use Rattle.va_lang.proofs.numbers.first_part.Given as goal

abbrev pub invariant-loop-at : goal.invariant-loop-at
invariant-loop-at l = record {
  within : l.at ≤ length l.bytes;
  split : split_at l.separator l.bytes ≡ after_part (take l.at l.bytes) (split_at l.separator (drop l.at l.bytes));
}

abbrev pub decreases-loop-at : goal.decreases-loop-at
decreases-loop-at l = length l.bytes - l.at
