use Rattle.std.proofs.Common.{◌≡◌, None, refl}
use Rattle.va_lang.specs.Grammar.{weighing}
use Rattle.va_lang.proofs.Fields.{two_words}
use Rattle.va_lang.proofs.room.Room.read_weighing.Goals as goal

pub returns-in-Some-more-clause-weights : goal.returns-in-Some-more-clause-weights
returns-in-Some-more-clause-weights c = two_words (λ words. weighing words ≡ None) (λ one two words. refl) c.in-Some.is c.first_part.ensures.parts c.in-Some-more.is
