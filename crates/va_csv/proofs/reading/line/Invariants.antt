use Rattle.std.proofs.Common.{◌≡◌, ◌++◌, drop}
use Rattle.csv.specs.Records.{fields_of}
use Rattle.va_csv.specs.Lines.{line_of}
use Rattle.va_csv.proofs.Lining.{behind}
use Rattle.va_csv.proofs.reading.line.Given as goal

abbrev pub invariant-loop-place : goal.invariant-loop-place
invariant-loop-place l = l.line.items ++ behind (drop l.place (fields_of l.fields)) ≡ line_of (fields_of l.fields)
