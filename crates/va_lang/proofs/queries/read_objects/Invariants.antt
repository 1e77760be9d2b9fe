use Rattle.std.proofs.Common.{◌≡◌, ◌≤◌, length}
use Rattle.va_lang.specs.Grammar.{all_read, vector_of}
use Rattle.va_lang.specs.Texts.{split_at}
use Rattle.va_lang.proofs.Reading.{before_rest}
use Rattle.va_lang.proofs.queries.read_objects.Given as goal

abbrev pub invariant-loop-part : goal.invariant-loop-part
invariant-loop-part l = record {
  fits : length l.objects ≤ 16;
  read : all_read vector_of (split_at 47 l.text) ≡ before_rest l.objects (all_read vector_of (split_at 47 l.rest));
}

abbrev pub decreases-loop-part : goal.decreases-loop-part
decreases-loop-part l = length l.rest
