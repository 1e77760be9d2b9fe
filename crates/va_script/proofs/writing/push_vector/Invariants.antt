use Rattle.std.proofs.Common.{◌≡◌, ◌++◌, drop}
use Rattle.std.specs.List.{flat_map}
use Rattle.va_script.specs.Script.{vector_text}
use Rattle.va_script.proofs.Vectors.{behind}
use Rattle.va_script.proofs.writing.push_vector.Given as goal

abbrev pub invariant-loop-place : goal.invariant-loop-place
invariant-loop-place l = l.line.items ++ flat_map behind (drop l.place l.vector) ≡ l.fn.line.items ++ vector_text l.vector
