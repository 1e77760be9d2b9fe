-- The file of a new store, and what it stands for.
use Rattle.std.proofs.Common.{◌≡◌, ⊎_elim, inl, inr, ℕ, zero, suc, ◌-◌, ◌*◌, ◌≤◌, ◌<◌, List, [], ◌∷◌, ◌++◌, length, take, drop, replicate, get_or, slice_set, Ok, None, Some, sym, ◌∙◌, ap, subst, arith}
use Rattle.std.proofs.lemmas.Bool.{cases_eq}
use Rattle.std.proofs.lemmas.List.{length-replicate, take-replicate, drop-replicate, get_or-replicate}
use Rattle.va_core.specs.MarkBytes.{marks_len, marks_read}
use Rattle.va_core.specs.Marks.{AreValid, HasShape, marks_of}
use Rattle.va_core.specs.Shape.{Shape}
use Rattle.va_core.specs.Places.{Item}
use Rattle.va_core.proofs.Items.{none_differ}
use Rattle.va_disk.specs.Crashes.{Holds, Torn}
use Rattle.va_layout.specs.declared.region.Region.{Region}
use Rattle.va_layout.specs.declared.region.Region.TheVariants.{A}
use Rattle.va_layout.specs.Parts.{part, byte_at, Apart, KeepsRest}
use Rattle.va_layout.specs.Layout.{layout_len, marks_at}
use Rattle.va_layout.specs.Fields.{head_in, gate_in, marks_range}
use Rattle.va_layout.specs.Header.{header_bytes, header_of}
use Rattle.va_layout.specs.Stands.{SaysShape, Stands, selected_in}
use Rattle.va_layout.specs.Fields.{marks_in}
use Rattle.va_layout.proofs.Headers.{blank_gate, region_read}
use Rattle.va_layout.proofs.Parts.{part_join, part_within, rest_around}
use Rattle.va_layout.proofs.Regions.{marks_end, region_ends}
use Rattle.va_layout.proofs.Standing.{stands_of}
use Rattle.va_layout.proofs.Writes.{part_of_holds, rest_of_torn}
use Rattle.va_store.specs.Empty.{HasHeader, IsBlankOrEmpty, IsLaidBare, behind_gate, empty_kept, first_header}

-- the range was filled with 0, and then the header was written over its begin
pub has_header : (shape : Shape) (header old mid new : List ℕ) → header ≡ header_bytes (first_header shape) → 1 ≤ length old → Holds old 1 (replicate (layout_len shape - 1) 0) mid
    → part 1 31 new ≡ drop 1 header → KeepsRest ((1, 31) ∷ []) mid new → HasHeader shape new
has_header shape header old mid new is some filled written keeps =
    let n = layout_len shape - 1 in
    let m = 8 * shape.capacity in
    let zeros : part 1 n mid ≡ replicate n 0 = ap (λ (k : ℕ). part 1 k mid) (sym (length-replicate n 0)) ∙ part_of_holds 1 old (replicate n 0) mid some filled in
    record {
      head = written ∙ ap (λ (l : List ℕ). drop 1 l) is;
      slots = keeps.same 32 m (inr (omega arith), tt) ∙ sym (part_within 1 31 m n mid (omega arith)) ∙ ap (λ (l : List ℕ). part 31 m l) zeros
          ∙ ap (λ (l : List ℕ). take m l) (drop-replicate 31 n 0) ∙ take-replicate m (n - 31) 0 (omega arith);
    }

-- the header stays where it isn't written
header_stays : (shape : Shape) {ranges : List (ℕ × ℕ)} {a c : List ℕ} → HasHeader shape a → KeepsRest ranges a c → Apart 1 31 ranges → Apart 32 (8 * shape.capacity) ranges → HasHeader shape c
header_stays shape has keeps head slots = record { head = keeps.same 1 31 head ∙ has.head; slots = keeps.same 32 (8 * shape.capacity) slots ∙ has.slots }

-- then the marks were written
pub laid_bare : (shape : Shape) {marks : List (List ℕ)} {a c : List ℕ} → HasHeader shape a → KeepsRest (marks_range shape A) a c → marks_in shape A c ≡ marks → marks ≡ marks_of shape [] → IsLaidBare shape c
laid_bare shape has keeps there equal = record { header = header_stays shape has keeps (inl (omega arith), tt) (inl (omega arith), tt); marks = there ∙ equal }

-- the marks lie behind the gate
pub marks_behind : (shape : Shape) {a c : List ℕ} → KeepsRest (marks_range shape A) a c → KeepsRest (behind_gate shape) a c
marks_behind shape {a} {c} keeps = rest_around (marks_at shape A) (marks_len shape) 1 (layout_len shape - 1) a c (omega arith) (omega (arith, marks_end shape A, region_ends shape A)) keeps

one_byte : (x : ℕ) (c : List ℕ) → 1 ≤ length c → byte_at 0 c ≡ x → part 0 1 c ≡ x ∷ []
one_byte x [] some is = absurd (omega arith)
one_byte x (y ∷ c) some is = ap (λ (z : ℕ). z ∷ []) is

pub gate_set : (value : ℕ) (a c : List ℕ) → 1 ≤ length a → value ≡ 86 → c ≡ slice_set a 0 value → byte_at 0 c ≡ 86
gate_set value [] c some is set = absurd (omega arith)
gate_set value (x ∷ a) c some is set = ap (λ (l : List ℕ). byte_at 0 l) set ∙ is

-- the gate may change
bare_stays : (shape : Shape) {a c : List ℕ} → IsLaidBare shape a → KeepsRest ((0, 1) ∷ []) a c → IsLaidBare shape c
bare_stays shape laid keeps = record {
  header = header_stays shape laid.header keeps (inr (omega arith), tt) (inr (omega arith), tt);
  marks = ap (λ (l : List ℕ). marks_read shape l) (keeps.same (marks_at shape A) (marks_len shape) (inr (omega arith), tt)) ∙ laid.marks;
}

none_there : (n p : ℕ) (item : Item) → get_or (replicate n None) p None ≡ Some item → ⊥
none_there zero p item there = cc
none_there (suc n) zero item there = cc
none_there (suc n) (suc p) item there = none_there n p item there

-- the marks over no vectors are valid marks of the shape, and their header is read as it was written
pub record IsFresh (shape : Shape) : Type 0 where
  pub read : header_of (header_bytes (first_header shape)) ≡ Ok (first_header shape)
  pub fit : HasShape shape (marks_of shape [])
  pub valid : AreValid (marks_of shape [])

pub fresh_marks : (shape : Shape) (marks : List (List ℕ)) → marks ≡ marks_of shape [] → HasShape shape marks → AreValid marks → header_of (header_bytes (first_header shape)) ≡ Ok (first_header shape) → IsFresh shape
fresh_marks shape marks same fit valid read = record { read = read; fit = subst (HasShape shape) same fit; valid = subst AreValid same valid }

module _ {shape : Shape} (fresh : IsFresh shape) {image : List ℕ} (laid : IsLaidBare shape image) (is_open : byte_at 0 image ≡ 86) (long : layout_len shape ≤ length image) where
  head_bytes : head_in image ≡ header_bytes (first_header shape)
  head_bytes = part_join 0 1 31 image ∙ ap (λ (l : List ℕ). l ++ part 1 31 image) (one_byte 86 image (omega (arith, long)) is_open) ∙ ap (λ (l : List ℕ). 86 ∷ l) laid.header.head

  head_read : header_of (head_in image) ≡ Ok (first_header shape)
  head_read = ap header_of head_bytes ∙ fresh.read

  selected_first : selected_in image ≡ A
  selected_first = region_read image (first_header shape) head_read

  head_shape : SaysShape shape image
  head_shape = head_read ∙ ap (λ (r : Region). Ok (record { shape = shape; region = r })) (sym selected_first)

  -- each gate of a place is 0
  gate_zero : (p : ℕ) → p < shape.capacity → gate_in p image ≡ 0
  gate_zero p inside =
      let m = 8 * shape.capacity in
      ap (λ (l : List ℕ). get_or l 0 0) (sym (part_within 32 (8 * p) 1 m image (omega (arith, inside)))
      ∙ ap (λ (l : List ℕ). part (8 * p) 1 l) laid.header.slots ∙ ap (λ (l : List ℕ). take 1 l) (drop-replicate (8 * p) m 0) ∙ take-replicate 1 (m - 8 * p) 0 (omega (arith, inside)))

  stands_empty : Stands (empty_kept shape) image
  stands_empty = stands_of {kept = empty_kept shape} head_shape long (length-replicate shape.capacity None)
      (λ p inside. rw (gate_zero p inside) (sym (get_or-replicate shape.capacity p None None inside)))
      (none_differ shape.capacity)
      (λ p item there. absurd (none_there shape.capacity p item there))
      selected_first
      (record { there = laid.marks; fit = fresh.fit; valid = fresh.valid; codes = λ p item inside there. absurd (none_there shape.capacity p item there) })

module _ {shape : Shape} (fresh : IsFresh shape) {a c : List ℕ} (laid : IsLaidBare shape a) (long : layout_len shape ≤ length a) where
  -- the gate was opened
  pub stands_created : KeepsRest ((0, 1) ∷ []) a c → byte_at 0 c ≡ 86 → Stands (empty_kept shape) c × (selected_in c ≡ A)
  stands_created keeps is_open =
      let bare : IsLaidBare shape c = bare_stays shape laid keeps in
      let still : layout_len shape ≤ length c = omega (arith, long, keeps.no_shorter) in
      (stands_empty fresh bare is_open still, selected_first fresh bare is_open still)

  -- the gate may hold anything
  pub blank_or_empty : Torn 0 1 a c → IsBlankOrEmpty shape c
  blank_or_empty torn = ⊎_elim
      (λ is_open. inr (stands_created (rest_of_torn 0 1 a c torn) is_open).0)
      (λ ne. inl (blank_gate c ne))
      (cases_eq (byte_at 0 c) 86)
