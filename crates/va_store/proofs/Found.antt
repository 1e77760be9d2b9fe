-- What stands in an image, and what it is refused for.
use Rattle.std.proofs.Common.{◌≡◌, ⊎_elim, ℕ, ◌<◌, ◌≤◌, List, length, map, get_or, Bool, true, false, eqb, if◌then◌else◌, Option, None, Some, is_some, Result, Ok, Err, refl, sym, ◌∙◌, ap, subst, arith}
use Rattle.std.proofs.lemmas.Bool.{lt-ltb, le-ltb}
use Rattle.std.proofs.lemmas.List.{ext_get_or, get_or-map, length-map}
use Rattle.std.proofs.lemmas.List.FromFn.{length-map-range_with_len, get_or-map-range_with_len}
use Rattle.std.specs.List.{range_with_len}
use Rattle.va_core.specs.MarkBytes.{IsFirstInvalid, marks_len}
use Rattle.va_core.specs.Marks.{AreValid, HasShape, IsRow}
use Rattle.va_core.specs.Places.{Item, id_of}
use Rattle.va_core.specs.Shape.{Shape}
use Rattle.va_layout.specs.declared.header.Header.{Header}
use Rattle.va_layout.specs.declared.header.HeadFault.{HeadFault}
use Rattle.va_layout.specs.declared.region.Region.{Region}
use Rattle.va_layout.specs.Fields.{head_in, gate_in, id_in, item_in, marks_in, vector_in, slot_in}
use Rattle.va_layout.specs.Header.{header_of, shape_in}
use Rattle.va_layout.specs.Layout.{layout_len, marks_at}
use Rattle.va_layout.specs.Parts.{part}
use Rattle.va_layout.specs.Stands.{SaysShape, Kept, Opens, selected_in}
use Rattle.va_layout.proofs.Headers.{head_of, numbers_of_head}
use Rattle.va_marks.proofs.RoundTrip.{row_at-marks_read}
use Rattle.va_rows.specs.declared.slot.Slot.{Slot}
use Rattle.va_rows.specs.Slots.{HoldsSlots, slot_of}
use Rattle.va_store.specs.Image.{IsCodeFault, IsFault, IsFirstUnnamed, IsMarksFault, IsRegionFault, head_fault, ids_in, kept_in, length_behind, of_head_fault, repeat_fault}
use Rattle.va_store.specs.Known.{AreNamed}
use Rattle.va_store.specs.Openings.{slot_id}
use Rattle.va_store.specs.declared.faults.OpenFault.{OpenFault}
use Rattle.va_store.specs.declared.faults.OpenFault.TheVariants as faults
use Rattle.va_store.proofs.Living.{item_at}
use Rattle.va_store.proofs.Repeats.{differ_found, none_repeats}

pub slots_ids : (capacity : ℕ) (image : List ℕ) (slots : List Slot) → length slots ≡ capacity → HoldsSlots capacity image slots → map slot_id slots ≡ ids_in capacity image
slots_ids capacity image slots long holds = ext_get_or None (map slot_id slots) (ids_in capacity image)
    (length-map slots slot_id ∙ long ∙ sym (length-map-range_with_len (λ p. slot_in p image) 0 capacity))
    (λ p inside.
    (let less : p < length slots = omega (arith, inside, length-map slots slot_id) in
    let here : p < capacity = omega (arith, less, long) in
    get_or-map slot_id slots p (slot_of p image) None less
    ∙ ap slot_id (holds p (slot_of p image) here)
    ∙ sym (get_or-map-range_with_len (λ q. slot_in q image) 0 capacity p p None here (omega arith))))

id_when : (is_open : Bool) (item : Item) → id_of (if is_open then Some item else None) ≡ (if is_open then Some item.id else None)
id_when true item = refl
id_when false item = refl

pub ids_stand : (kept : Kept) (image : List ℕ) → Opens kept image → ids_in kept.shape.capacity image ≡ map id_of kept.places
ids_stand kept image stands = ext_get_or None (ids_in kept.shape.capacity image) (map id_of kept.places)
    (length-map-range_with_len (λ p. slot_in p image) 0 kept.shape.capacity ∙ sym (length-map kept.places id_of ∙ stands.count))
    (λ p inside.
    (let here : p < kept.shape.capacity = omega (arith, inside, length-map-range_with_len (λ q. slot_in q image) 0 kept.shape.capacity) in
    get_or-map-range_with_len (λ q. slot_in q image) 0 kept.shape.capacity p p None here (omega arith)
    ∙ sym (id_when (eqb (gate_in p image) 71) (record { id = id_in p image; vector = vector_in kept.shape p image }))
    ∙ ap id_of (stands.places p here)
    ∙ sym (get_or-map id_of kept.places p None None (omega (arith, here, stands.count)))))

-- the items of the places of an image have its ids
pub kept_ids : (shape : Shape) (image : List ℕ) → map id_of (kept_in shape image).places ≡ ids_in shape.capacity image
kept_ids shape image =
    let items = λ (p : ℕ). item_in shape p image in
    let count : length (map items (range_with_len 0 shape.capacity)) ≡ shape.capacity = length-map-range_with_len items 0 shape.capacity in
    let long : length (map id_of (map items (range_with_len 0 shape.capacity))) ≡ shape.capacity = length-map (map items (range_with_len 0 shape.capacity)) id_of ∙ count in
    ext_get_or None (map id_of (kept_in shape image).places) (ids_in shape.capacity image) (long ∙ sym (length-map-range_with_len (λ p. slot_in p image) 0 shape.capacity))
    (λ p inside.
    (let here : p < shape.capacity = omega (arith, inside, long) in
    get_or-map id_of (map items (range_with_len 0 shape.capacity)) p None None (omega (arith, here, count))
    ∙ ap id_of (get_or-map-range_with_len items 0 shape.capacity p p None here (omega arith))
    ∙ id_when (eqb (gate_in p image) 71) (record { id = id_in p image; vector = vector_in shape p image })
    ∙ sym (get_or-map-range_with_len (λ q. slot_in q image) 0 shape.capacity p p None here (omega arith))))

-- the id of an item that an image holds
kept_id : (shape : Shape) (image : List ℕ) (p : ℕ) (item : Item) → p < shape.capacity → get_or (kept_in shape image).places p None ≡ Some item → get_or (ids_in shape.capacity image) p None ≡ Some item.id
kept_id shape image p item inside there =
    let count : length (kept_in shape image).places ≡ shape.capacity = length-map-range_with_len (λ q. item_in shape q image) 0 shape.capacity in
    ap (λ (l : List (Option ℕ)). get_or l p None) (sym (kept_ids shape image)) ∙ get_or-map id_of (kept_in shape image).places p None None (omega (arith, inside, count)) ∙ ap id_of there

-- an image that has no fault opens as what it holds
pub kept_opens : (image : List ℕ) (shape : Shape) → SaysShape shape image → layout_len shape ≤ length image → HasShape shape (marks_in shape (selected_in image) image) → AreValid (marks_in shape (selected_in image) image)
    → repeat_fault (ids_in shape.capacity image) ≡ None → AreNamed shape (selected_in image) (marks_in shape (selected_in image) image) (ids_in shape.capacity image) image → Opens (kept_in shape image) image
kept_opens image shape has long fit valid none named = record {
  head = has;
  long = long;
  count = length-map-range_with_len (λ p. item_in shape p image) 0 shape.capacity;
  places = λ p inside. sym (get_or-map-range_with_len (λ q. item_in shape q image) 0 shape.capacity p p None inside (omega arith));
  differ = differ_found (kept_in shape image).places (ap repeat_fault (kept_ids shape image) ∙ none);
  named = record { there = refl; fit = fit; valid = valid; codes = λ p item inside there. named p item.id inside (kept_id shape image p item inside there) };
}

pub fault_head : (image : List ℕ) (fault : HeadFault) → header_of (head_in image) ≡ Err fault → head_fault image ≡ Some (of_head_fault fault)
fault_head image fault is = ap (λ (r : Result Header HeadFault). length_behind r image) is

pub fault_length : (image : List ℕ) (header : Header) → header_of (head_in image) ≡ Ok header → length image < layout_len header.shape
    → head_fault image ≡ Some (faults.Length (layout_len header.shape) (length image))
fault_length image header is short = ap (λ (r : Result Header HeadFault). length_behind r image) is
    ∙ ap (λ (b : Bool). if b then Some (faults.Length (layout_len header.shape) (length image)) else None) (lt-ltb (length image) (layout_len header.shape) short)

pub head_faultless : (image : List ℕ) (shape : Shape) → SaysShape shape image → layout_len shape ≤ length image → head_fault image ≡ None
head_faultless image shape has long = ap (λ (r : Result Header HeadFault). length_behind r image) has
    ∙ ap (λ (b : Bool). if b then Some (faults.Length (layout_len shape) (length image)) else None) (le-ltb (length image) (layout_len shape) long)

-- the shape that a header says
pub shape_said : (shape : Shape) (image : List ℕ) → SaysShape shape image → shape_in (head_in image) ≡ shape
shape_said shape image has = numbers_of_head image ∙ (head_of shape image has).numbers

-- valid marks have no first dimension that isn't valid
pub marks_faultless : (shape : Shape) (region : Region) (image : List ℕ) {why : OpenFault} → HasShape shape (marks_in shape region image) → AreValid (marks_in shape region image) → IsMarksFault shape region image why → ⊥
marks_faultless shape region image fit valid fault =
    let first : IsFirstInvalid shape (part (marks_at shape region) (marks_len shape) image) fault.0 = fault.2 in
    first.invalid (subst IsRow (row_at-marks_read shape (part (marks_at shape region) (marks_len shape) image) fault.0 first.a_dimension)
    (valid fault.0 (omega (arith, first.a_dimension, fit.one_each))))

pub lives_some : (o : Option ℕ) → is_some o ≡ true → (id : ℕ) × (o ≡ Some id)
lives_some None is = cc
lives_some (Some id) is = (id, refl)

-- codes that name cells have no first that names none
pub codes_faultless : (shape : Shape) (region : Region) (marks : List (List ℕ)) (ids : List (Option ℕ)) (image : List ℕ) {why : OpenFault} → AreNamed shape region marks ids image → IsCodeFault shape region marks ids image why → ⊥
codes_faultless shape region marks ids image named fault =
    let first : IsFirstUnnamed shape region marks ids image fault.0 = fault.2 in
    let live = lives_some (get_or ids fault.0 None) first.lives in
    first.unnamed (named fault.0 live.0 first.inside live.1)

module _ (kept : Kept) (image : List ℕ) (opens : Opens kept image) where
  opened_named : AreNamed kept.shape (selected_in image) kept.marks (ids_in kept.shape.capacity image) image
  opened_named p id inside live =
      let here = item_at kept.places p id (ap (λ (l : List (Option ℕ)). get_or l p None) (sym (ids_stand kept image opens)) ∙ live) in
      opens.named.codes p here.item inside here.there

  region_faultless : (why : OpenFault) → IsRegionFault kept.shape (selected_in image) image why → ⊥
  region_faultless why fault =
      let marks : List (List ℕ) = marks_in kept.shape (selected_in image) image in
      ⊎_elim
      (λ invalid. marks_faultless kept.shape (selected_in image) image (subst (HasShape kept.shape) (sym opens.named.there) opens.named.fit) (subst AreValid (sym opens.named.there) opens.named.valid) invalid)
      (λ rest. ⊎_elim
      (λ repeats. (let e : None ≡ Some why = sym (ap repeat_fault (ids_stand kept image opens) ∙ none_repeats kept.places opens.differ) ∙ repeats in cc))
      (λ code. codes_faultless kept.shape (selected_in image) marks (ids_in kept.shape.capacity image) image (subst (λ (m : List (List ℕ)). AreNamed kept.shape (selected_in image) m (ids_in kept.shape.capacity image) image) (sym opens.named.there) opened_named) code.1)
      rest.1) fault

  -- an image that opens has no fault
  pub faultless : (why : OpenFault) → IsFault image why → ⊥
  faultless why fault = ⊎_elim
      (λ head. (let e : None ≡ Some why = sym (head_faultless image kept.shape opens.head opens.long) ∙ head in cc))
      (λ rest. region_faultless why (subst (λ (s : Shape). IsRegionFault s (selected_in image) image why) (shape_said kept.shape image opens.head) rest.1)) fault
