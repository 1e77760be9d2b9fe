use Rattle.va_lang.proofs.OneSpelling.{line_spelled, line_in_ranges}
use Rattle.va_lang.proofs.laws.one_spelling.Goals as goal

pub returns-clause-line : goal.returns-clause-line
returns-clause-line c = line_spelled

pub returns-clause-ranges : goal.returns-clause-ranges
returns-clause-ranges c = line_in_ranges
