-- What a shelf leaves that keeps the vectors which are fetched through it.
use Rattle.std.specs.Prelude.{◌≡◌, ℕ, ◌+◌, ◌≤◌, List, ◌++◌, length, map}
use Rattle.va_ports.specs.Shelves.{Contents}
use Rattle.va_ports.specs.declared.shelf.Shelf.{Ghosts}
use Rattle.va_maker.specs.Kept.{Kept}

-- a place with its vector
abbrev pub kept_at : Contents → ℕ → ℕ × List ℕ
kept_at contents place = (place, contents.vector place)

-- Where the shelf tells and there is room, the vectors of the places were kept, in their order.
pub record Keeps (told : Type 0) (contents : Contents) (old : Kept) (places : List ℕ) (new : Kept) : Type 0 where
  pub dims : new.dims ≡ old.dims
  pub most : new.most ≡ old.most
  pub vectors : told → length old.vectors + length places ≤ old.most → new.vectors ≡ old.vectors ++ map (kept_at contents) places

-- The shelf inside went on, what it has stays, and its vectors were kept.
pub record Passes {S : Type 0} (g : Ghosts S) (old : S) (places : List ℕ) (new : S) (kept kept' : Kept) : Type 0 where
  pub passed : g.passes old places new
  pub stay : g.contents new ≡ g.contents old
  pub keeps : Keeps g.told (g.contents old) kept places kept'
