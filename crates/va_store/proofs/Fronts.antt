-- Reads that end where the vectors begin, or before.
use Rattle.std.proofs.Common.{◌≡◌, ℕ, ◌+◌, ◌-◌, ◌≤◌, min, List, [], ◌∷◌, ◌++◌, Result, Ok, Err, sym, ◌∙◌, ap, subst, arith, append_assoc, append-nil}
use Rattle.va_cells.specs.Reads.{ArePieces, ReadsRange}
use Rattle.va_cells.specs.Scans.{ReadsPieces, Scan, from_start}
use Rattle.va_core.specs.MarkBytes.{marks_len}
use Rattle.va_core.specs.Shape.{Shape}
use Rattle.va_disk.specs.declared.storage.Storage.{Ghosts}
use Rattle.va_layout.specs.declared.region.Region.{Region}
use Rattle.va_layout.specs.declared.header.Header.{Header}
use Rattle.va_layout.specs.declared.header.HeadFault.{HeadFault}
use Rattle.va_layout.specs.Fields.{head_in}
use Rattle.va_layout.specs.Header.{header_of}
use Rattle.va_layout.specs.Layout.{code_at, marks_at, slot_at, vector_at}
use Rattle.va_layout.specs.Stands.{SaysShape}
use Rattle.va_layout.proofs.Regions.{marks_end, region_ends}
use Rattle.va_layout.proofs.Sizes.{region_is}
use Rattle.va_rows.specs.Slots.{InTable, ReadsSlots}
use Rattle.va_store.specs.Image.{front_behind, front_of}
use Rattle.va_store.specs.Openings.{EndBy, ReadsUpTo}

-- the first part of a file, up to the vectors
pub front_is : (image : List ℕ) (shape : Shape) → SaysShape shape image → front_of image ≡ vector_at shape 0
front_is image shape has = ap front_behind has

least_front : (r : Result Header HeadFault) → 32 ≤ front_behind r
least_front (Ok header) = omega arith
least_front (Err fault) = omega arith

pub front_least : (image : List ℕ) → 32 ≤ front_of image
front_least image = least_front (header_of (head_in image))

end_later : (n m : ℕ) (reads : List (ℕ × ℕ)) → n ≤ m → EndBy n reads → EndBy m reads
end_later n m [] le within = tt
end_later n m (read ∷ reads) le within = (omega (arith, le, within.0), end_later n m reads le within.1)

end_both : (n : ℕ) (first second : List (ℕ × ℕ)) → EndBy n first → EndBy n second → EndBy n (first ++ second)
end_both n [] second a b = b
end_both n (read ∷ first) second a b = (a.0, end_both n first second a.1 b)

end_table : (n capacity : ℕ) (reads : List (ℕ × ℕ)) → slot_at capacity ≤ n → InTable capacity reads → EndBy n reads
end_table n capacity [] le within = tt
end_table n capacity (read ∷ reads) le within = (omega (arith, le, within.0.1), end_table n capacity reads le within.1)

pub reads_later : (n m : ℕ) (old new : List (ℕ × ℕ)) → n ≤ m → ReadsUpTo n old new → ReadsUpTo m old new
reads_later n m old new le reads = record { added = reads.added; is = reads.is; within = end_later n m reads.added le reads.within }

pub reads_then : (n : ℕ) (old mid new : List (ℕ × ℕ)) → ReadsUpTo n old mid → ReadsUpTo n mid new → ReadsUpTo n old new
reads_then n old mid new first second = record {
  added = first.added ++ second.added;
  is = second.is ∙ ap (λ (l : List (ℕ × ℕ)). l ++ second.added) first.is ∙ append_assoc old first.added second.added;
  within = end_both n first.added second.added first.within second.within;
}

pub reads_table : (n capacity : ℕ) (old new : List (ℕ × ℕ)) → slot_at capacity ≤ n → ReadsSlots capacity old new → ReadsUpTo n old new
reads_table n capacity old new le reads = record { added = reads.added; is = reads.is; within = end_table n capacity reads.added le reads.in_table }

pub reads_none : (n : ℕ) (reads : List (ℕ × ℕ)) → ReadsUpTo n reads reads
reads_none n reads = record { added = []; is = sym (append-nil reads); within = tt }

-- the pieces of a range end where the range ends, or before
end_pieces : (n most end from to : ℕ) (reads : List (ℕ × ℕ)) → end ≤ n → ArePieces most end from to reads → EndBy n reads
end_pieces n most end from to [] le are = tt
end_pieces n most end from to (read ∷ reads) le are =
    let at : read.0 ≡ from = ap (λ (r : ℕ × ℕ). r.0) are.1 in
    let len : read.1 ≡ min most (end - from) = ap (λ (r : ℕ × ℕ). r.1) are.1 in
    (omega (arith, le, are.0, at, len), end_pieces n most end (from + read.1) to reads le are.2)

pub reads_range : {D : Type 0} {g : Ghosts D} (n most end from to : ℕ) {old new : D} → end ≤ n → ReadsRange g most end from to old new → g.told → ReadsUpTo n (g.reads old) (g.reads new)
reads_range n most end from to le reads told = record { added = reads.pieces; is = reads.added told; within = end_pieces n most end from to reads.pieces le reads.are }

-- the marks and the codes of a region end before the vectors
pub marks_before : (shape : Shape) (region : Region) → marks_at shape region + marks_len shape ≤ vector_at shape 0
marks_before shape region = omega (arith, marks_end shape region, region_ends shape region)

pub codes_before : (shape : Shape) (region : Region) → code_at shape region shape.capacity ≤ vector_at shape 0
codes_before shape region = omega (arith, region_is shape, region_ends shape region)

-- a scan from its beginning read codes alone
pub codes_read : {D : Type 0} (g : Ghosts D) (shape : Shape) (region : Region) (scan : Scan) (to : ℕ) {old new : D} → scan ≡ from_start shape region → ReadsPieces g scan.shape scan.region scan.end to old new
    → g.told → ReadsUpTo (vector_at shape 0) (g.reads old) (g.reads new)
codes_read g shape region scan to {old} {new} same reads told =
    reads_range (vector_at shape 0) _ _ _ _ (codes_before shape region) (subst (λ (s : Scan). ReadsPieces g s.shape s.region s.end to old new) same reads) told

-- the slots were read
pub slots_read : (shape : Shape) (old new : List (ℕ × ℕ)) → ReadsSlots shape.capacity old new → ReadsUpTo (vector_at shape 0) old new
slots_read shape old new reads = reads_table (vector_at shape 0) shape.capacity old new (omega arith) reads

-- the header was read, and then what lies before the vectors
pub reads_front : (image : List ℕ) (shape : Shape) (old mid new : List (ℕ × ℕ)) → SaysShape shape image → ReadsUpTo 32 old mid → ReadsUpTo (vector_at shape 0) mid new → ReadsUpTo (front_of image) old new
reads_front image shape old mid new has header rest =
    let front = front_is image shape has in
    reads_then (front_of image) old mid new (reads_later 32 (front_of image) old mid (front_least image) header) (reads_later (vector_at shape 0) (front_of image) mid new (omega (arith, front)) rest)
