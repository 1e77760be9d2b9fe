-- Where a scan of a region's packed codes stands, and what it reads.
use Rattle.std.specs.Prelude.{◌≡◌, ℕ, ◌+◌, ◌-◌, ◌*◌, ◌/◌, ◌<◌, ◌≤◌, min, List, [], length, Option, None, Some}
use Rattle.va_core.specs.Shape.{Shape, code_bytes}
use Rattle.va_disk.specs.declared.storage.Storage.{Ghosts}
use Rattle.va_layout.specs.declared.region.Region.{Region}
use Rattle.va_layout.specs.Layout.{code_at}
use Rattle.va_layout.specs.Fields.{code_in}
use Rattle.va_layout.specs.Parts.{part}
use Rattle.va_cells.specs.Reads.{ReadsRange}

-- the place that is given next, the first place whose code wasn't read yet, and the codes of the places between
pub record Scan : Type 0 where
  pub shape : Shape
  pub region : Region
  pub place : ℕ
  pub end : ℕ
  pub codes : List ℕ

-- at the beginning
abbrev pub from_start : Shape → Region → Scan
from_start shape region = record { shape = shape; region = region; place = 0; end = 0; codes = [] }

-- the codes that are held stand in the region
abbrev pub Agrees : Scan → List ℕ → Type 0
Agrees scan image = scan.codes ≡ part (code_at scan.shape scan.region scan.place) ((scan.end - scan.place) * code_bytes scan.shape) image

-- as many whole codes as 4,096 bytes take
abbrev pub codes_per_piece : Shape → ℕ
codes_per_piece shape = 4096 / code_bytes shape

-- how many codes the piece from a place on has
abbrev pub piece_count : Shape → ℕ → ℕ
piece_count shape from = min (codes_per_piece shape) (shape.capacity - from)

-- where the piece that is read next begins, and how long it is
abbrev pub piece_at : Scan → ℕ
piece_at scan = code_at scan.shape scan.region scan.end

abbrev pub piece_len : Scan → ℕ
piece_len scan = piece_count scan.shape scan.end * code_bytes scan.shape

-- the codes from one place to another, which stand in a buffer from an offset on
abbrev pub codes_held : Shape → ℕ → ℕ → ℕ → List ℕ → List ℕ
codes_held shape place end begin buffer = part begin ((end - place) * code_bytes shape) buffer

-- a buffer of 4,096 bytes has these codes
abbrev pub HoldsCodes : Shape → ℕ → ℕ → ℕ → List ℕ → Type 0
HoldsCodes shape place end begin buffer =
    (place ≤ end) × (end ≤ shape.capacity) × (length buffer ≡ 4096) × (begin + (end - place) * code_bytes shape ≤ 4096)

-- the codes from a place to another were read, in pieces of so many whole codes, in order and each once
abbrev pub ReadsPieces : {D : Type 0} → Ghosts D → Shape → Region → ℕ → ℕ → D → D → Type 0
ReadsPieces g shape region from to old new =
    ReadsRange g (codes_per_piece shape * code_bytes shape) (code_at shape region shape.capacity) (code_at shape region from) (code_at shape region to) old new

-- the scan gave the next place, or there was none
abbrev pub Gives : Option ℕ → Scan → Scan → Type 0
Gives None old new = (old.place ≡ old.shape.capacity) × (new ≡ old)
Gives (Some p) old new = (p ≡ old.place) × (p < old.shape.capacity) × (new ≡ record old { place = p + 1; end = new.end; codes = new.codes })

-- a code is that of a place in the region that is scanned
abbrev pub IsCodeOf : Scan → ℕ → List ℕ → List ℕ → Type 0
IsCodeOf scan place image code = code ≡ code_in scan.shape scan.region place image
