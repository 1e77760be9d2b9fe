-- What an export gives of a state, which vectors it reads, and what a crash in it leaves.
use Rattle.std.specs.Prelude.{◌≡◌, ℕ, List, [], ◌∷◌, ◌++◌, map, get_or, None}
use Rattle.std.specs.List.{flat_map}
use Rattle.va_core.specs.Above.{live_above}
use Rattle.va_core.specs.Places.{id_of, place_of, vector_of}
use Rattle.va_csv.specs.Lines.{row_of}
use Rattle.va_disk.specs.Crashes.{Leaves}
use Rattle.va_disk.specs.Told.{IsPrefix, IsProperPrefix}
use Rattle.va_disk.specs.declared.storage.Storage.{Ghosts}
use Rattle.va_layout.specs.Layout.{vector_at}
use Rattle.va_layout.specs.Stands.{Kept}
use Rattle.va_model.specs.State.{State, StandsFor, blank, holding}
use Rattle.va_model.specs.VectorReads.{AreFirst}

-- the live ids in ascending order
abbrev pub exported_ids : Kept → List ℕ
exported_ids kept = live_above None (map id_of kept.places)

-- the record of an id that is live, and the read of its vector
abbrev pub row_in : Kept → ℕ → List ℕ
row_in kept id = row_of id (vector_of (get_or kept.places (place_of id kept.places) None))

abbrev pub read_in : Kept → ℕ → ℕ × ℕ
read_in kept id = (vector_at kept.shape (place_of id kept.places), kept.shape.dims)

-- the same of some ids, one after another
abbrev pub rows_in : Kept → List ℕ → List ℕ
rows_in kept ids = flat_map (row_in kept) ids

abbrev pub reads_in : Kept → List ℕ → List (ℕ × ℕ)
reads_in kept ids = map (read_in kept) ids

-- what is given: a record for each live id; without a store nothing
abbrev pub exported : State → List ℕ
exported blank = []
exported (holding store) = rows_in store.kept (exported_ids store.kept)

-- what is read for it: the vector of each record, in their order
abbrev pub exported_reads : State → List (ℕ × ℕ)
exported_reads blank = []
exported_reads (holding store) = reads_in store.kept (exported_ids store.kept)

-- A crash in an export: the image stands for the state, and what was given until then is the first bytes of what is exported.
pub record ExportLeaves (start : State) (old image given : List ℕ) : Type 0 where
  pub stands : StandsFor start image
  pub part : List ℕ
  pub begins : IsPrefix part (exported start)
  pub given_is : given ≡ old ++ part

module _ {D : Type 0} (g : Ghosts D) where
  -- Nothing is written. At each moment a crash leaves what it might have left at the start, and what was given until then has P.
  pub record ReadsAndGives (old new : D) (P : List ℕ → Type 0) : Type 0 where
    pub image : g.image new ≡ g.image old
    pub size : g.size new ≡ g.size old
    pub crash : g.honest → (c : List ℕ) → g.may_leave new c → g.may_leave old c
    pub moments : g.honest → g.told → Leaves g.clock g.left_since old new (λ c given. g.may_leave old c × P given)

  -- The records of these ids were given, and the vector of each was read, in this order. Nothing else was given or read.
  pub record GivesRows (kept : Kept) (ids : List ℕ) (old new : D) : Type 0 where
    pub given : g.given new ≡ g.given old ++ rows_in kept ids
    pub read : g.reads new ≡ g.reads old ++ reads_in kept ids

  -- The records of the first of these ids were given, and of the next one a part, of which this holds. The vectors of the first ids
  -- were read, and of the next one what is told besides.
  pub record StopsInRow (Part : List ℕ → ℕ → Type 0) (besides : ℕ → List ℕ) (kept : Kept) (ids : List ℕ) (old new : D) : Type 0 where
    pub before : List ℕ
    pub id : ℕ
    pub later : List ℕ
    pub are : ids ≡ before ++ id ∷ later
    pub part : List ℕ
    pub is_part : Part part id
    pub given : g.given new ≡ g.given old ++ (rows_in kept before ++ part)
    pub read : g.reads new ≡ g.reads old ++ reads_in kept (before ++ besides id)

  -- all that is exported of a state was given, and the vectors for it were read
  pub record ExportsAll (start : State) (old new : D) : Type 0 where
    pub given : g.given new ≡ g.given old ++ exported start
    pub read : g.reads new ≡ g.reads old ++ exported_reads start

  -- The first bytes of what is exported were given, and not all of them; and the first of the vectors for it were read.
  pub record ExportsFirst (start : State) (old new : D) : Type 0 where
    pub part : List ℕ
    pub begins : IsProperPrefix part (exported start)
    pub given : g.given new ≡ g.given old ++ part
    pub made : List (ℕ × ℕ)
    pub first : AreFirst made (exported_reads start)
    pub read : g.reads new ≡ g.reads old ++ made
