-- What a line asks for, one constructor for each command.
use Rattle.std.specs.Prelude.{ℕ, List, Option}

-- the objects to be near, and a weight for each dimension, if some were given
pub record Query : Type 0 where
  pub objects : List (List ℕ)
  pub weights : Option (List ℕ)

pub data Command : Type 0 where
  create : ℕ → ℕ → ℕ → Command
  insert : ℕ → List ℕ → Command
  delete : ℕ → Command
  get : ℕ → Command
  stat : Command
  marks : Command
  knn : ℕ → Query → Command
  ssa : ℕ → Query → Command
  range : ℕ → Query → Command
  «open» : ℕ → Query → Command
  next : ℕ → Command
  close : ℕ → Command
  requant : Command
  convert : ℕ → Command
  cert : ℕ → Query → Command
