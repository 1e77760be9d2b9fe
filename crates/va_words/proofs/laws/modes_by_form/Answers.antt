use Rattle.va_words.proofs.Forms.{form_of_mode, mode_of_form}
use Rattle.va_words.proofs.laws.modes_by_form.Goals as goal

pub returns-clause-form : goal.returns-clause-form
returns-clause-form c = form_of_mode

pub returns-clause-mode : goal.returns-clause-mode
returns-clause-mode c = mode_of_form
