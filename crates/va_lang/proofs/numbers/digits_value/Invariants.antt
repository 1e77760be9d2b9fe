use Rattle.std.proofs.Common.{◌≡◌, ◌<◌, ◌^◌, length}
use Rattle.va_lang.specs.Grammar.{all_digits, value_after}
use Rattle.va_lang.proofs.numbers.digits_value.Given as goal

abbrev pub invariant-loop-rest : goal.invariant-loop-rest
invariant-loop-rest l = record {
  fits : l.value < 2 ^ 64;
  digits : all_digits l.rest ≡ all_digits l.text;
  value : value_after l.value l.rest ≡ value_after 0 l.text;
}

abbrev pub decreases-loop-rest : goal.decreases-loop-rest
decreases-loop-rest l = length l.rest
