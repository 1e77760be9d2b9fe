-- What is gathered over the boxes.
use Rattle.std.specs.Prelude.{List, Option, None, Some, not, slice_get, if◌then◌else◌}
use Rattle.std.specs.List.{filter}
use Rattle.va_core.specs.declared.pair.Pair.{Pair}
use Rattle.va_core.specs.Approximations.{pairs}
use Rattle.va_core.specs.Ranking.{is_less, ascending}
use Rattle.va_cert.specs.declared.certificate.BoxRow.{BoxRow}
use Rattle.va_cert.specs.declared.certificate.Certificate.{Certificate}
use Rattle.va_cert.specs.Known.{bounds, known_dist, is_known}

-- the known pairs of some of the boxes
abbrev pub known_pairs : Certificate → List BoxRow → List Pair
known_pairs c boxes = pairs (λ row. row.id) (known_dist c) (filter (is_known c) boxes)

-- the least pair of the unknown ones among them
abbrev pub least_unknown : Certificate → List BoxRow → Option Pair
least_unknown c boxes = slice_get (ascending (pairs (λ row. row.id) (bounds c).low (filter (λ row. not (is_known c row)) boxes))) 0

-- the lesser of two pairs, of which the first may be missing
abbrev pub lower : Option Pair → Pair → Option Pair
lower None p = Some p
lower (Some q) p = if is_less q p then Some q else Some p
