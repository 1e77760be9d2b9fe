use Rattle.std.proofs.Common.{◌≡◌, refl, sym, subst}
use Rattle.va_core.specs.Shape.{Shape}
use Rattle.va_core.specs.MarkBytes.{marks_len}
use Rattle.va_marks.proofs.tests.two_dims.Goals as goal

pub returns-clause-bytes : goal.returns-clause-bytes
unfolding marks_len
returns-clause-bytes c = let P : Shape → Type 0 = λ shape. marks_len shape ≡ 12 in subst P (sym c.in_ok-new.ensures.ok.0) refl
