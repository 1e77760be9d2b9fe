use Rattle.va_cursor.proofs.Needing.{places_keep}
use Rattle.va_cursor.proofs.laws.places_keep_vectors.Goals as goal

pub returns : goal.returns
returns c = places_keep
