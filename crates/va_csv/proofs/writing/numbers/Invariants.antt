use Rattle.std.proofs.Common.{◌≡◌, ◌∷◌, [], map, take}
use Rattle.std.specs.Fmt.{decimal}
use Rattle.csv.specs.Records.{fields_of, partial_of}
use Rattle.va_csv.proofs.writing.numbers.Given as goal

abbrev pub invariant-loop-coordinate : goal.invariant-loop-coordinate
invariant-loop-coordinate l = (fields_of l.fields ≡ map decimal (l.fn.id ∷ take l.coordinate-index l.vector)) × (partial_of l.fields ≡ [])
