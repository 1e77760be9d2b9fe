-- A scan that goes on.
use Rattle.std.proofs.Common.{◌≡◌, ⊎_elim, ℕ, suc, ◌+◌, ◌-◌, ◌*◌, ◌<◌, ◌≤◌, min, List, [], ◌∷◌, ◌++◌, drop, sym, ◌∙◌, ap, subst, arith}
use Rattle.std.proofs.lemmas.Bool.{cases_lt}
use Rattle.std.proofs.lemmas.Nat.{mul-le}
use Rattle.va_cells.specs.Scans.{Agrees, ReadsPieces, Scan, codes_per_piece, piece_count}
use Rattle.va_cells.proofs.Pieces.{range_one}
use Rattle.va_core.specs.Shape.{Shape, IsShape, code_bytes}
use Rattle.va_disk.specs.declared.storage.Storage.{Ghosts}
use Rattle.va_layout.specs.declared.region.Region.{Region}
use Rattle.va_layout.specs.Layout.{code_at}
use Rattle.va_layout.specs.Parts.{part}
use Rattle.va_layout.proofs.Apart.{times_le}
use Rattle.va_layout.proofs.Parts.{part_end}

one_fewer : (place end len : ℕ) → place < end → len + (end - (place + 1)) * len ≡ (end - place) * len
one_fewer place end len less = let e : end - place ≡ suc (end - (place + 1)) = omega (arith, less) in omega (arith, ap (λ n. n * len) e)

-- the codes behind the first of a list of codes
pub codes_next : (begin place end len : ℕ) (piece : List ℕ) → place < end → part (begin + len) ((end - (place + 1)) * len) piece ≡ drop len (part begin ((end - place) * len) piece)
codes_next begin place end len piece less =
    part_end begin len ((end - (place + 1)) * len) piece ∙ ap (λ n. drop len (part begin n piece)) (one_fewer place end len less)

agrees_next : (scan : Scan) (image : List ℕ) → scan.place < scan.end → Agrees scan image → Agrees (record scan { place = scan.place + 1; codes = drop (code_bytes scan.shape) scan.codes }) image
agrees_next scan image less agrees =
    let len = code_bytes scan.shape in
    let at = code_at scan.shape scan.region scan.place in
    let is : at + len ≡ code_at scan.shape scan.region (scan.place + 1) = omega arith in
    ap (λ l. drop len l) agrees ∙ sym (codes_next at scan.place scan.end len image less) ∙ ap (λ n. part n ((scan.end - (scan.place + 1)) * len) image) is

-- the next code was given
pub agrees_given : (scan given : Scan) (image : List ℕ) → scan.place < scan.end → Agrees scan image → given ≡ record scan { place = scan.place + 1; codes = drop (code_bytes scan.shape) scan.codes } → Agrees given image
agrees_given scan given image less agrees is = subst (λ (s : Scan). Agrees s image) (sym is) (agrees_next scan image less agrees)

pub end_given : (scan given : Scan) (place : ℕ) (codes : List ℕ) → given ≡ record scan { place = place; codes = codes } → given.end ≡ scan.end
end_given scan given place codes is = ap (λ (s : Scan). s.end) is

-- a piece was read
pub end_read : (scan read now : Scan) (end : ℕ) (codes : List ℕ) → now ≡ read → read ≡ record scan { end = end; codes = codes } → now.end ≡ end
end_read scan read now end codes same is = ap (λ (s : Scan). s.end) same ∙ ap (λ (s : Scan). s.end) is

pub agrees_read : (scan : Scan) (count : ℕ) (codes image : List ℕ) → scan.place ≡ scan.end → codes ≡ part (code_at scan.shape scan.region scan.end) (count * code_bytes scan.shape) image
    → Agrees (record scan { end = scan.end + count; codes = codes }) image
agrees_read scan count codes image empty read =
    let counts : count ≡ scan.end + count - scan.place = omega (arith, empty) in
    read ∙ ap (λ n. part (code_at scan.shape scan.region n) (count * code_bytes scan.shape) image) (sym empty)
    ∙ ap (λ n. part (code_at scan.shape scan.region scan.place) (n * code_bytes scan.shape) image) counts

times_min : (k m d : ℕ) → min k m * d ≡ min (k * d) (m * d)
times_min k m d = ⊎_elim
    (λ less. (let le = mul-le k d m d (omega (arith, less)) (omega arith) in let is : min k m ≡ k = omega (arith, less) in ap (λ n. n * d) is ∙ omega (arith, le)))
    (λ from. (let le = mul-le m d k d from (omega arith) in let is : min k m ≡ m = omega (arith, from) in ap (λ n. n * d) is ∙ omega (arith, le)))
    (cases_lt k m)

-- the bytes of the codes that are left
codes_left : (shape : Shape) (region : Region) (from : ℕ) → from ≤ shape.capacity → (shape.capacity - from) * code_bytes shape ≡ code_at shape region shape.capacity - code_at shape region from
codes_left shape region from le =
    let e : shape.capacity ≡ from + (shape.capacity - from) = omega (arith, le) in
    omega (arith, ap (λ n. n * code_bytes shape) e)

pub one_piece : {D : Type 0} {g : Ghosts D} {old new : D} (shape : Shape) (region : Region) (from to : ℕ) → IsShape shape → from < shape.capacity → from + piece_count shape from ≡ to
    → (g.told → g.reads new ≡ g.reads old ++ (code_at shape region from, piece_count shape from * code_bytes shape) ∷ []) → ReadsPieces g shape region from to old new
one_piece shape region from to is less next reads =
    let behind = times_le (code_bytes shape) from shape.capacity less in
    range_one (piece_count shape from * code_bytes shape)
    (omega (arith, behind, is.some_bits))
    (times_min (codes_per_piece shape) (shape.capacity - from) (code_bytes shape) ∙ ap (λ n. min (codes_per_piece shape * code_bytes shape) n) (codes_left shape region from (omega (arith, less))))
    (omega (arith, ap (λ n. n * code_bytes shape) next))
    reads
