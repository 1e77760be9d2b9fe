-- Headers that are read, kept and written.
use Rattle.std.proofs.Common.{◌≡◌, inl, ℕ, ◌+◌, ◌≤◌, ◌<◌, ◌&&◌, List, [], ◌∷◌, Bool, true, false, eqb, leb, Option, Some, None, Ok, Err, length, get_or, refl, sym, ◌∙◌, ap, arith}
use Rattle.std.proofs.lemmas.Bool.{ne_eqb}
use Rattle.std.proofs.lemmas.List.{length-take}
use Rattle.va_core.specs.Shape.{Shape, shape_fault}
use Rattle.va_core.specs.declared.shape.ShapeFault.{ShapeFault}
use Rattle.va_layout.specs.declared.header.Header.{Header}
use Rattle.va_layout.specs.declared.header.HeadFault.TheVariants as faults
use Rattle.va_layout.specs.Parts.{byte_at, Apart, KeepsRest}
use Rattle.va_layout.specs.Fields.{head_in}
use Rattle.va_layout.specs.Header.{header_of, header_or_fault, is_open_header, has_magic, shape_in}
use Rattle.va_layout.specs.Stands.{SaysShape, IsBlank, selected_in}
use Rattle.va_layout.proofs.Parts.{part_of_front, part_length}

-- what an image that has a shape says in its header
pub record IsHead (shape : Shape) (image : List ℕ) : Type 0 where
  pub long : 32 ≤ length image
  pub gate : byte_at 0 image ≡ 86
  pub letters : has_magic image ≡ true
  pub numbers : shape_in image ≡ shape
  pub valid : shape_fault shape ≡ None

byte_of_head : (at : ℕ) (image : List ℕ) → at + 1 ≤ 32 → byte_at at (head_in image) ≡ byte_at at image
byte_of_head at image le = ap (λ (l : List ℕ). get_or l 0 0) (part_of_front at 1 32 image le)

letters_of_head : (image : List ℕ) → has_magic (head_in image) ≡ has_magic image
letters_of_head image = rw (byte_of_head 1 image (omega arith), byte_of_head 2 image (omega arith), byte_of_head 3 image (omega arith)) refl

pub numbers_of_head : (image : List ℕ) → shape_in (head_in image) ≡ shape_in image
numbers_of_head image = rw (part_of_front 6 2 32 image (omega arith), part_of_front 8 2 32 image (omega arith), part_of_front 10 4 32 image (omega arith)) refl

head_length : (image : List ℕ) → 32 ≤ length image → length (head_in image) ≡ 32
head_length image long = part_length 0 32 image long

-- an open gate in a header of full length
open_both : (image : List ℕ) → is_open_header image ≡ true → (32 ≤ length image) × (byte_at 0 image ≡ 86)
open_both image is = grind (arith, is)

open_of : (image : List ℕ) → 32 ≤ length image → byte_at 0 image ≡ 86 → is_open_header image ≡ true
open_of image long gate = grind (arith, long, gate)

open_of_head : (image : List ℕ) → 32 ≤ length image → byte_at 0 image ≡ 86 → is_open_header (head_in image) ≡ true
open_of_head image long gate = open_of (head_in image) (omega (arith, head_length image long)) (byte_of_head 0 image (omega arith) ∙ gate)

-- the parts of a header that was read
record WasRead (is_open letters : Bool) (numbers : Option ShapeFault) (header read : Header) : Type 0 where
  open_gate : is_open ≡ true
  right_letters : letters ≡ true
  right_numbers : numbers ≡ None
  same : header ≡ read

was_read : (is_open letters : Bool) (numbers : Option ShapeFault) (header read : Header) → header_or_fault is_open letters numbers header ≡ Ok read → WasRead is_open letters numbers header read
was_read false letters numbers header read e = cc
was_read true false numbers header read e = cc
was_read true true (Some fault) header read e = cc
was_read true true None header read e = record { open_gate = refl; right_letters = refl; right_numbers = refl; same = cc }

front_shorter : (image : List ℕ) → 32 ≤ length (head_in image) → 32 ≤ length image
front_shorter image le = omega (arith, le, length-take 32 image)

pub head_of : (shape : Shape) (image : List ℕ) → SaysShape shape image → IsHead shape image
head_of shape image has =
    let read = was_read (is_open_header (head_in image)) (has_magic (head_in image)) (shape_fault (shape_in (head_in image))) _ _ has in
    let both = open_both (head_in image) read.open_gate in
    let same : shape_in (head_in image) ≡ shape = ap (λ (header : Header). header.shape) read.same in
    record {
      long = front_shorter image both.0;
      gate = sym (byte_of_head 0 image (omega arith)) ∙ both.1;
      letters = sym (letters_of_head image) ∙ read.right_letters;
      numbers = sym (numbers_of_head image) ∙ same;
      valid = sym (ap shape_fault same) ∙ read.right_numbers;
    }

-- the region that was read is the selected one
pub region_read : (image : List ℕ) (header : Header) → header_of (head_in image) ≡ Ok header → selected_in image ≡ header.region
region_read image header read =
    ap (λ (h : Header). h.region) (was_read (is_open_header (head_in image)) (has_magic (head_in image)) (shape_fault (shape_in (head_in image))) _ _ read).same

given_back : (is_open letters : Bool) (numbers : Option ShapeFault) (header : Header) → is_open ≡ true → letters ≡ true → numbers ≡ None → header_or_fault is_open letters numbers header ≡ Ok header
given_back false letters numbers header is_open right valid = cc
given_back true false numbers header is_open right valid = cc
given_back true true (Some fault) header is_open right valid = cc
given_back true true None header is_open right valid = refl

pub has_shape : (shape : Shape) (image : List ℕ) → IsHead shape image → SaysShape shape image
has_shape shape image head =
    let same : shape_in (head_in image) ≡ shape = numbers_of_head image ∙ head.numbers in
    given_back (is_open_header (head_in image)) (has_magic (head_in image)) (shape_fault (shape_in (head_in image))) (record { shape = shape_in (head_in image); region = selected_in image })
    (open_of_head image head.long head.gate) (letters_of_head image ∙ head.letters) (ap shape_fault same ∙ head.valid)
    ∙ ap (λ (s : Shape). Ok (record { shape = s; region = selected_in image })) same

-- another region was selected, or the one that was
pub head_selected : (shape : Shape) (a c : List ℕ) → SaysShape shape a → KeepsRest ((16, 1) ∷ []) a c → SaysShape shape c
head_selected shape a c has keeps = let head = head_of shape a has in has_shape shape c (record {
  long = omega (arith, head.long, keeps.no_shorter);
  gate = ap (λ (l : List ℕ). get_or l 0 0) (keeps.same 0 1 (inl (omega arith), tt)) ∙ head.gate;
  letters = rw (keeps.same 1 1 (inl (omega arith), tt), keeps.same 2 1 (inl (omega arith), tt), keeps.same 3 1 (inl (omega arith), tt)) head.letters;
  numbers = rw (keeps.same 6 2 (inl (omega arith), tt), keeps.same 8 2 (inl (omega arith), tt), keeps.same 10 4 (inl (omega arith), tt)) head.numbers;
  valid = head.valid;
})

-- the whole header stayed
pub head_stays : (shape : Shape) (ranges : List (ℕ × ℕ)) (a c : List ℕ) → SaysShape shape a → KeepsRest ranges a c → Apart 0 32 ranges → SaysShape shape c
head_stays shape ranges a c has keeps apart = rw (keeps.same 0 32 apart) has

both_false : (a b : Bool) → b ≡ false → a && b ≡ false
both_false true b is = is
both_false false b is = refl

closed_first : (is_open letters : Bool) (numbers : Option ShapeFault) (header : Header) → is_open ≡ false → header_or_fault is_open letters numbers header ≡ Err faults.Blank
closed_first false letters numbers header is = refl
closed_first true letters numbers header is = cc

blank_closed : (bytes : List ℕ) → is_open_header bytes ≡ false → header_of bytes ≡ Err faults.Blank
blank_closed bytes is = closed_first (is_open_header bytes) (has_magic bytes) (shape_fault (shape_in bytes)) _ is

short_head : (bytes : List ℕ) → length bytes < 32 → is_open_header bytes ≡ false
short_head bytes short = grind (arith, short)

shut_head : (bytes : List ℕ) → (byte_at 0 bytes ≡ 86 → ⊥) → is_open_header bytes ≡ false
shut_head bytes ne = both_false (leb 32 (length bytes)) (eqb (byte_at 0 bytes) 86) (ne_eqb (byte_at 0 bytes) 86 ne)

-- an image that is too short, or whose gate isn't open, is blank
pub blank_short : (image : List ℕ) → length image < 32 → IsBlank image
blank_short image short = blank_closed (head_in image) (short_head (head_in image) (omega (arith, length-take 32 image)))

pub blank_gate : (image : List ℕ) → (byte_at 0 image ≡ 86 → ⊥) → IsBlank image
blank_gate image ne = blank_closed (head_in image) (shut_head (head_in image) (λ is. ne (sym (byte_of_head 0 image (omega arith)) ∙ is)))

open_when : (is_open letters : Bool) (numbers : Option ShapeFault) (header : Header) → header_or_fault is_open letters numbers header ≡ Err faults.Blank → is_open ≡ false
open_when false letters numbers header e = refl
open_when true false numbers header e = cc
open_when true true (Some fault) header e = cc
open_when true true None header e = cc

-- a blank image of full length has no open gate
pub gate_of_blank : (image : List ℕ) → IsBlank image → 32 ≤ length image → byte_at 0 image ≡ 86 → ⊥
gate_of_blank image blank long gate =
    let shut = open_when (is_open_header (head_in image)) (has_magic (head_in image)) (shape_fault (shape_in (head_in image))) _ blank in
    let is_open = open_of_head image long gate in
    let e = sym shut ∙ is_open in cc

-- a blank image stays blank while its first byte stays
pub blank_stays : (ranges : List (ℕ × ℕ)) (a c : List ℕ) → IsBlank a → 32 ≤ length a → KeepsRest ranges a c → Apart 0 1 ranges → IsBlank c
blank_stays ranges a c blank long keeps apart = blank_gate c (λ gate. gate_of_blank a blank long (sym (ap (λ (l : List ℕ). get_or l 0 0) (keeps.same 0 1 apart)) ∙ gate))
