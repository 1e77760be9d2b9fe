-- Values that are read one after another.
use Rattle.std.proofs.Common.{List, ◌++◌, Option}
use Rattle.std.specs.Option.{option_map}

-- values before those of the rest
abbrev pub before_rest : {A : Type 0} → List A → Option (List A) → Option (List A)
before_rest read values = option_map (λ more. read ++ more) values
