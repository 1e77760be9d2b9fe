use Rattle.std.proofs.Common.{◌≡◌, None, refl}
use Rattle.va_lang.specs.Grammar.{sole}
use Rattle.va_lang.proofs.Fields.{two_words}
use Rattle.va_lang.proofs.parsing.sole.Goals as goal

pub returns-in-Some-more : goal.returns-in-Some-more
returns-in-Some-more c = two_words (λ words. sole words ≡ None) (λ one two words. refl) c.in-Some.is c.first_part.ensures.parts c.in-Some-more.is
