-- What is being built in an image, before and after a change.
use Rattle.std.proofs.Common.{◌≡◌, ⊎_elim, inl, inr, ℕ, ◌<◌, List, length, get_or, set, Bool, true, false, eqb, if◌then◌else◌, Option, Some, None, refl, sym, ◌∙◌, ap, subst, arith}
use Rattle.std.proofs.lemmas.Bool.{cases_eq, ne_eqb}
use Rattle.std.proofs.lemmas.List.{ext_get_or, get_or-set_same, get_or-set_other, length-set}
use Rattle.std.proofs.lemmas.List.FromFn.{get_or-map-range_with_len, length-map-range_with_len}
use Rattle.va_core.specs.Places.{IsItem, Item}
use Rattle.va_core.specs.Shape.{Shape, code_bytes}
use Rattle.va_layout.specs.declared.region.Region.{Region}
use Rattle.va_layout.specs.declared.region.Region.TheVariants.{A, B}
use Rattle.va_layout.specs.Fields.{IsOwnCode, NamesCell, code_in, gate_in, gate_range, gated_ranges, id_in, code_range, laid_ranges, item_in, slot_in, vector_in}
use Rattle.va_layout.specs.Parts.{KeepsRest}
use Rattle.va_layout.specs.Stands.{HasApproximations, UpTo, Building}
use Rattle.va_layout.proofs.Coded.{coded_gated}
use Rattle.va_layout.proofs.Parts.{rest_same}
use Rattle.va_layout.proofs.Regions.{beside, code_ends, region_begins, region_ends}
use Rattle.va_layout.specs.Layout.{code_at, other_region}
use Rattle.va_layout.proofs.Apart.{gate_stays, gate_apart, gated_apart, item_kept}
use Rattle.va_layout.proofs.Approximations.{approximations_gate, approximations_gated, approximations_with, own_names}
use Rattle.va_store.specs.Builds.{IsBuilt, IsFor, KeepsOther}
use Rattle.va_store.specs.Image.{kept_in}

pub slot_shut : (p : ℕ) (c : List ℕ) → (gate_in p c ≡ 71 → ⊥) → slot_in p c ≡ None
slot_shut p c ne = ap (λ (b : Bool). if b then Some (id_in p c) else None) (ne_eqb (gate_in p c) 71 ne)

-- the gate of a place with an id is open, and that of one with none isn't
pub gate_of_id : (p id : ℕ) (a : List ℕ) → slot_in p a ≡ Some id → gate_in p a ≡ 71
gate_of_id p id a is = ⊎_elim (λ yes. yes) (λ ne. absurd (let no : None ≡ Some id = sym (slot_shut p a ne) ∙ is in cc)) (cases_eq (gate_in p a) 71)

pub gate_of_empty : (p : ℕ) (a : List ℕ) → slot_in p a ≡ None → gate_in p a ≡ 71 → ⊥
gate_of_empty p a none is_open = let e : Some (id_in p a) ≡ None = rw is_open at none in cc

-- the item of each place of an image
abbrev places_of : Shape → List ℕ → List (Option Item)
places_of shape image = (kept_in shape image).places

pub place_in : (shape : Shape) (image : List ℕ) (p : ℕ) → p < shape.capacity → get_or (places_of shape image) p None ≡ item_in shape p image
place_in shape image p inside = get_or-map-range_with_len (λ q. item_in shape q image) 0 shape.capacity p p None inside (omega arith)

pub places_count : (shape : Shape) (image : List ℕ) → length (places_of shape image) ≡ shape.capacity
places_count shape image = length-map-range_with_len (λ q. item_in shape q image) 0 shape.capacity

pub item_of_slot : (shape : Shape) (p id : ℕ) (a : List ℕ) → slot_in p a ≡ Some id → item_in shape p a ≡ Some (record { id = id; vector = vector_in shape p a })
item_of_slot shape p id a is =
    let is_open = gate_of_id p id a is in
    let there : Some (id_in p a) ≡ Some id = rw is_open at is in
    let same : id_in p a ≡ id = cc in
    rw (is_open, same) refl

item_shut : (shape : Shape) (p : ℕ) (c : List ℕ) → (gate_in p c ≡ 71 → ⊥) → item_in shape p c ≡ None
item_shut shape p c ne = ap (λ (b : Bool). if b then Some (record { id = id_in p c; vector = vector_in shape p c }) else None) (ne_eqb (gate_in p c) 71 ne)

none_when : (is_open : Bool) (id : ℕ) (item : Item) → (if is_open then Some id else None) ≡ None → (if is_open then Some item else None) ≡ None
none_when true id item e = cc
none_when false id item e = refl

none_of_slot : (shape : Shape) (p : ℕ) (a : List ℕ) → slot_in p a ≡ None → item_in shape p a ≡ None
none_of_slot shape p a is = none_when (eqb (gate_in p a) 71) (id_in p a) (record { id = id_in p a; vector = vector_in shape p a }) is

pub some_building : (x y : Building) → Some x ≡ Some y → x ≡ y
some_building x y e = cc

some_same : (x y : Item) → Some x ≡ Some y → x ≡ y
some_same x y e = cc

-- an item that stands in an open place is that of the place
pub item_is : (shape : Shape) (p id : ℕ) (a : List ℕ) {x : Item} → p < shape.capacity → slot_in p a ≡ Some id → get_or (places_of shape a) p None ≡ Some x → record { id = id; vector = vector_in shape p a } ≡ x
item_is shape p id a {x} inside slot there = some_same _ x (sym (item_of_slot shape p id a slot) ∙ sym (place_in shape a p inside) ∙ there)

-- one place of an image changed, or none
pub places_with : (shape : Shape) (a c : List ℕ) (p : ℕ) (item : Option Item) → p < shape.capacity → item_in shape p c ≡ item
    → ((q : ℕ) → q < shape.capacity → (q ≡ p → ⊥) → item_in shape q c ≡ item_in shape q a) → set (places_of shape a) p item ≡ places_of shape c
places_with shape a c p item inside here others = ext_get_or None (set (places_of shape a) p item) (places_of shape c)
    (length-set (places_of shape a) p item ∙ places_count shape a ∙ sym (places_count shape c))
    (λ q less. (let q_in : q < shape.capacity = omega (arith, less, length-set (places_of shape a) p item, places_count shape a) in
    let p_in : p < length (places_of shape a) = omega (arith, inside, places_count shape a) in
    ⊎_elim
    (λ same. rw same (get_or-set_same (places_of shape a) p item None p_in ∙ sym here ∙ sym (place_in shape c p inside)))
    (λ ne. get_or-set_other (places_of shape a) p q item None ne ∙ place_in shape a q q_in ∙ sym (others q q_in ne) ∙ sym (place_in shape c q q_in))
    (cases_eq q p)))

pub places_same : (shape : Shape) (a c : List ℕ) → ((q : ℕ) → q < shape.capacity → item_in shape q c ≡ item_in shape q a) → places_of shape a ≡ places_of shape c
places_same shape a c same = ext_get_or None (places_of shape a) (places_of shape c)
    (places_count shape a ∙ sym (places_count shape c))
    (λ q less. (let q_in : q < shape.capacity = omega (arith, less, places_count shape a) in
    place_in shape a q q_in ∙ sym (same q q_in) ∙ sym (place_in shape c q q_in)))

-- the code of an item is right for what is being built
abbrev pub IsReached : Shape → Building → Item → List ℕ → Type 0
IsReached shape building item code = UpTo building.last item.id → IsOwnCode shape building.marks item code × NamesCell shape building.marks code

-- the own code of an item of the shape is right
pub own_reached : {shape : Shape} {building : Building} {item : Item} {code : List ℕ} → IsFor shape building → IsItem shape.dims item → IsOwnCode shape building.marks item code → IsReached shape building item code
own_reached {shape} {building} {item} {code} is fit own = λ upto. (own, subst (NamesCell shape building.marks) (sym own) (own_names is.fit is.valid fit))

in_places : (shape : Shape) (a : List ℕ) {p : ℕ} → p < shape.capacity → p < length (places_of shape a)
in_places shape a inside = omega (arith, inside, places_count shape a)

module _ {shape : Shape} {region : Region} (building : Building) {a : List ℕ} (built : IsBuilt shape region building a) where
  -- the slot and the vector of each place, the marks and the codes stayed
  pub built_stays : {c : List ℕ} → HasApproximations shape region building.marks (IsReached shape building) (places_of shape a) c
      → ((q : ℕ) → q < shape.capacity → item_in shape q c ≡ item_in shape q a) → IsBuilt shape region building c
  built_stays {c} has same = subst (λ (l : List (Option Item)). HasApproximations shape region building.marks (IsReached shape building) l c) (places_same shape a c same) has

  module _ {p : ℕ} (inside : p < shape.capacity) where
    -- a place that was empty was laid with its code, and opened
    pub built_filled : {b c : List ℕ} {item : Item} → slot_in p a ≡ None → KeepsRest (gated_ranges shape p) a b → KeepsRest (gate_range p) b c
        → item_in shape p c ≡ Some item → IsReached shape building item (code_in shape region p b) → IsBuilt shape region building c
    built_filled {b} {c} {item} shut first next here right =
        let none : get_or (places_of shape a) p None ≡ None = place_in shape a p inside ∙ none_of_slot shape p a shut in
        subst (λ (l : List (Option Item)). HasApproximations shape region building.marks (IsReached shape building) l c)
        (places_with shape a c p (Some item) inside here
        (λ q q_in ne. item_kept shape q (gate_range p) b c (gate_apart shape p q inside q_in ne) next ∙ item_kept shape q (gated_ranges shape p) a b (gated_apart shape p q inside q_in ne) first))
        (approximations_gate
        (approximations_with (approximations_gated built p inside none first) p (Some item) (in_places shape a inside) (λ x same. subst (λ (y : Item). IsReached shape building y (code_in shape region p b)) (some_same item x same) right))
        inside next)

    -- a place was closed
    pub built_emptied : {c : List ℕ} → KeepsRest (gate_range p) a c → (gate_in p c ≡ 71 → ⊥) → IsBuilt shape region building c
    built_emptied {c} keeps is_shut = subst (λ (l : List (Option Item)). HasApproximations shape region building.marks (IsReached shape building) l c)
        (places_with shape a c p None inside (item_shut shape p c is_shut) (λ q q_in ne. item_kept shape q (gate_range p) a c (gate_apart shape p q inside q_in ne) keeps))
        (approximations_gate (approximations_with built p None (in_places shape a inside) (λ x same. cc)) inside keeps)

pub back : (region : Region) → other_region (other_region region) ≡ region
back A = refl
back B = refl

-- the code of a place in one region stays while that in the other is written
pub code_beside : (shape : Shape) (region : Region) (p : ℕ) {a c : List ℕ} → p < shape.capacity → KeepsRest (code_range shape (other_region region) p) a c → code_in shape region p c ≡ code_in shape region p a
code_beside shape region p {a} {c} inside keeps =
    let here = code_ends shape region p inside in
    let there = code_ends shape (other_region region) p inside in
    keeps.same (code_at shape region p) (code_bytes shape) (⊎_elim (λ l. inl (omega (arith, l, here))) (λ r. inr (omega (arith, r, there))) (beside shape region), tt)

-- and while a gate is set, or a slot and a vector are laid
pub code_gate : (shape : Shape) (region : Region) (p : ℕ) {a c : List ℕ} → KeepsRest (gate_range p) a c → p < shape.capacity → code_in shape region p c ≡ code_in shape region p a
code_gate shape region p {a} {c} keeps inside =
    let begins = region_begins shape region in
    keeps.same (code_at shape region p) (code_bytes shape) (inr (omega (arith, begins, inside)), tt)

pub code_laid : (shape : Shape) (region : Region) (p : ℕ) {a c : List ℕ} → p < shape.capacity → KeepsRest (laid_ranges shape p) a c → code_in shape region p c ≡ code_in shape region p a
code_laid shape region p {a} {c} inside keeps =
    let begins = region_begins shape region in
    let ends = region_ends shape region in
    let here = code_ends shape region p inside in
    keeps.same (code_at shape region p) (code_bytes shape) (inr (omega (arith, begins, inside)), (inl (omega (arith, ends, here)), tt))

-- laying a place keeps its code in the other region, where that is not written
pub laid_aside : (shape : Shape) (region : Region) (p : ℕ) {a b c : List ℕ} → p < shape.capacity → KeepsRest (laid_ranges shape p) a b → KeepsRest (code_range shape region p) b c → KeepsOther shape region p a c
laid_aside shape region p {a} {b} {c} inside laid coded =
    code_beside shape (other_region region) p inside (subst (λ (r : Region). KeepsRest (code_range shape r p) b c) (sym (back region)) coded) ∙ code_laid shape (other_region region) p inside laid

-- a gate that was closed stays so while a code is written
pub shut_beside : (shape : Shape) (region : Region) (p : ℕ) {a c : List ℕ} → p < shape.capacity → KeepsRest (code_range shape region p) a c → (gate_in p a ≡ 71 → ⊥) → gate_in p c ≡ 71 → ⊥
shut_beside shape region p {a} {c} inside keeps shut is_open = shut (sym (gate_stays shape inside (coded_gated shape region p (rest_same (laid_ranges shape p) a) keeps)) ∙ is_open)
