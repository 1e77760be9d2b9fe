-- What a search leaves of a disk: vectors were read, and pieces of the codes beside them.
use Rattle.std.specs.Prelude.{◌≡◌, ℕ, ◌+◌, ◌&&◌, nat_lt, Bool, List, ◌++◌, map}
use Rattle.std.specs.List.{filter}
use Rattle.va_core.specs.Shape.{Shape}
use Rattle.va_disk.specs.Frames.{OnlyReads}
use Rattle.va_disk.specs.declared.storage.Storage.{Ghosts}
use Rattle.va_layout.specs.Layout.{vector_at}
use Rattle.va_store.specs.Known.{Known, place_of_id}

-- the read of the vector of a place
abbrev pub read_of : Shape → ℕ → ℕ × ℕ
read_of shape place = (vector_at shape place, shape.dims)

-- the read of the vector that is kept under an id
abbrev pub read_of_id : Known → ℕ → ℕ × ℕ
read_of_id known id = read_of known.shape (place_of_id id known.ids)

-- the read has a length, and reaches into the vectors
abbrev pub reaches_vectors : Shape → ℕ × ℕ → Bool
reaches_vectors shape read = nat_lt 0 read.1 && nat_lt (vector_at shape 0) (read.0 + read.1)

-- the reads of vectors among these
abbrev pub vector_reads : Shape → List (ℕ × ℕ) → List (ℕ × ℕ)
vector_reads shape reads = filter (reaches_vectors shape) reads

-- Of the vectors those of these places were read, in this order. And the disk is as it was otherwise: its length, its sink's
-- faults, its bytes and what was given, and no moment has a crash outcome that the first one hadn't.
pub record ReadsVectors {D : Type 0} (g : Ghosts D) (shape : Shape) (old : D) (places : List ℕ) (new : D) : Type 0 where
  pub added : List (ℕ × ℕ)
  pub is : g.told → g.reads new ≡ g.reads old ++ added
  pub vectors : vector_reads shape added ≡ map (read_of shape) places
  pub frame : OnlyReads g old new
