-- Which refusal an object or a list of weights meets.
use Rattle.std.specs.Prelude.{◌≡◌, ℕ, ◌==◌, not, List, length, Option, None, Some, if◌then◌else◌}
use Rattle.va_core.specs.Distance.{Query}
use Rattle.va_dist.specs.declared.fault.QueryFault.{QueryFault}
use Rattle.va_dist.specs.declared.fault.QueryFault.TheVariants.{Length, Weights, TooMany, Memory}

-- of a first object and the weights
abbrev pub new_fault : ℕ → List ℕ → List ℕ → Option QueryFault
new_fault dims first weights =
    if not (length first == dims) then Some (Length 0)
    else (if not (length weights == dims) then Some Weights else None)

-- of a further object
abbrev pub add_fault : Query → List ℕ → Option QueryFault
add_fault query object =
    if length query.objects == 16 then Some TooMany
    else (if not (length object == length query.weights) then Some (Length (length query.objects)) else None)

-- the refusal where there is one, and else want of memory
abbrev pub OrMemory : Option QueryFault → QueryFault → Type 0
OrMemory None fault = fault ≡ Memory
OrMemory (Some refusal) fault = fault ≡ refusal
