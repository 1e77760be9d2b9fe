-- The live places of a store as the cells of a shelf.
use Rattle.std.specs.Prelude.{◌≡◌, ◌⊎◌, ℕ, ◌+◌, ◌<◌, ◌≤◌, List, [], ◌∷◌, length, map, drop, Option, None, Some, Bool, true, false}
use Rattle.va_cells.specs.Scans.{Agrees, ReadsPieces, from_start}
use Rattle.va_cells.specs.Slices.{is_cell_code, slices_of}
use Rattle.va_core.specs.Marks.{AreValid, HasShape}
use Rattle.va_core.specs.Places.{Item, live_items}
use Rattle.va_core.specs.Shape.{IsShape}
use Rattle.va_disk.specs.Frames.{OnlyReads}
use Rattle.va_disk.specs.declared.storage.Storage.{Ghosts}
use Rattle.va_layout.specs.Fields.{code_in, vector_in}
use Rattle.va_layout.specs.Layout.{layout_len}
use Rattle.va_layout.specs.Stands.{Kept, Opens, Stands}
use Rattle.va_ports.specs.Shelves.{AreOwnCells, Contents, id_of, place_of}
use Rattle.va_store.specs.Ids.{LivesAt}
use Rattle.va_store.specs.Known.{IsOf, Known}
use Rattle.va_store.specs.ShelfReads.{ReadsVectors}

-- the live places from one on, with their ids
abbrev pub cells_from : ℕ → List (Option ℕ) → List (ℕ × ℕ)
cells_from place [] = []
cells_from place (None ∷ ids) = cells_from (place + 1) ids
cells_from place (Some id ∷ ids) = (place, id) ∷ cells_from (place + 1) ids

-- the live places from the scan's next one on
abbrev pub left_of : Known → List (ℕ × ℕ)
left_of known = cells_from known.scan.place (drop known.scan.place known.ids)

-- The live places, the slices that their codes in the selected region give, and the vectors.
abbrev pub contents_of : Known → List ℕ → Contents
contents_of known image = record {
  shape = known.shape;
  marks = known.marks;
  cells = cells_from 0 known.ids;
  code = λ p. slices_of known.shape known.marks (code_in known.shape known.region p image);
  vector = λ p. vector_in known.shape p image;
}

-- a cell with its vector
abbrev pub item_of_cell : Contents → ℕ × ℕ → Item
item_of_cell contents cell = record { id = id_of cell; vector = contents.vector (place_of cell) }

-- The cells with their vectors are the live items of what is kept, in the order of their places.
abbrev pub ShelvesItems : Known → List ℕ → Type 0
ShelvesItems known image = (kept : Kept) → IsOf known kept → Opens kept image → map (item_of_cell (contents_of known image)) (contents_of known image).cells ≡ live_items kept.places

-- And each vector lies in its cell, where the image stands for what is kept.
abbrev pub ShelvesOwnCells : Known → List ℕ → Type 0
ShelvesOwnCells known image = (kept : Kept) → IsOf known kept → Stands kept image → AreOwnCells (contents_of known image)

-- the scan stands at the beginning, and holds no code
abbrev pub started : Known → Known
started known = record known { scan = from_start known.shape known.region }

-- the store is as it was, but for where its scan stands and for the place that was found changed
abbrev pub IsSameStore : Known → Known → Type 0
IsSameStore old new = new ≡ record old { scan = new.scan; changed = new.changed }

-- the place that was found changed, once the code of another was met that names a cell or not
abbrev pub noted : Bool → Option ℕ → ℕ → Option ℕ
noted true was place = was
noted false None place = Some place
noted false (Some first) place = Some first

abbrev pub changed_after : Known → ℕ → List ℕ → Option ℕ
changed_after known place code = noted (is_cell_code known.shape known.marks code) known.changed place

-- a place was found changed, and none before it; an id lives there
pub record FindsChanged (old new : Known) : Type 0 where
  pub place : ℕ
  pub id : ℕ
  pub lives : LivesAt id place old.ids
  pub none : old.changed ≡ None
  pub now : new.changed ≡ Some place

-- the place that was found changed stays, or it is the first one
abbrev pub KeepsChanged : Known → Known → Type 0
KeepsChanged old new = (new.changed ≡ old.changed) ⊎ FindsChanged old new

-- The scan went on: its pieces were read, each once and in order, and what it holds still stands on the disk.
pub record ScansOn {D : Type 0} (g : Ghosts D) (old : Known) (before : D) (new : Known) (after : D) : Type 0 where
  pub same : IsSameStore old new
  pub agrees : g.told → Agrees old.scan (g.image before) → Agrees new.scan (g.image after)
  pub pieces : ReadsPieces g old.shape old.region old.scan.end new.scan.end before after
  pub frame : OnlyReads g before after

-- the code is that of a place, where the disk tells its bytes
abbrev pub IsCode : {D : Type 0} → Ghosts D → Known → D → ℕ → List ℕ → Type 0
IsCode g known disk place code = g.told → Agrees known.scan (g.image disk) → code ≡ code_in known.shape known.region place (g.image disk)

-- The code of a live place was met: the slices are those that it gives, and the place is noted where it names no cell.
pub record IsMet {D : Type 0} (g : Ghosts D) (old : Known) (before : D) (new : Known) (slices : List ℕ) (cell : ℕ × ℕ) : Type 0 where
  pub code : List ℕ
  pub lives : LivesAt (id_of cell) (place_of cell) old.ids
  pub inside : place_of cell < old.shape.capacity
  pub stood : IsCode g old before (place_of cell) code
  pub gives : slices ≡ slices_of old.shape old.marks code
  pub noted : new.changed ≡ changed_after old (place_of cell) code

-- The vectors of these places were fetched, and otherwise the store and the disk are as they were, but for where the scan
-- stands. The place that was found changed stays too where the disk tells its bytes and the store isn't broken.
pub record Passes {D : Type 0} (g : Ghosts D) (old : Known) (before : D) (places : List ℕ) (new : Known) (after : D) : Type 0 where
  pub same : IsSameStore old new
  pub changed : KeepsChanged old new
  pub unchanged : g.told → old.broken ≡ false → new.changed ≡ old.changed
  pub reads : ReadsVectors g old.shape before places after

-- in each live place stands a code that names a cell
abbrev pub AreCells : Known → List ℕ → Type 0
AreCells known image = (id p : ℕ) → p < known.shape.capacity → LivesAt id p known.ids → is_cell_code known.shape known.marks (code_in known.shape known.region p image) ≡ true

-- what holds of the places and the marks of every store: no id lives in two places
pub record IsOrderly (known : Known) : Type 0 where
  pub shape : IsShape known.shape
  pub all : length known.ids ≡ known.shape.capacity
  pub once : (id p q : ℕ) → LivesAt id p known.ids → LivesAt id q known.ids → p ≡ q
  pub fit : HasShape known.shape known.marks
  pub valid : AreValid known.marks

-- what a shelf over a store and a disk needs, and keeps
pub record IsShelved (told : Type 0) (known : Known) (size : ℕ) (image : List ℕ) : Type 0 where
  pub orderly : IsOrderly known
  pub long : layout_len known.shape ≤ size
  pub agrees : told → Agrees known.scan image
  pub cells : told → known.broken ≡ false → AreCells known image
