-- What an image stands for, before and after a change of one place, of the region that isn't selected, and of the selection.
use Rattle.std.proofs.Common.{◌≡◌, ◌⊎◌, ⊎_elim, inl, inr, ℕ, ◌+◌, ◌≤◌, ◌<◌, List, [], ◌∷◌, length, get_or, set, Bool, if◌then◌else◌, Option, Some, None, Result, Ok, Err, refl, sym, ◌∙◌, ap, subst, arith}
use Rattle.std.proofs.lemmas.Bool.{cases_eq, ne_eqb}
use Rattle.std.proofs.lemmas.List.{ext_get_or, get_or-set_same, get_or-set_other, length-set}
use Rattle.va_core.specs.Shape.{Shape}
use Rattle.va_layout.specs.declared.region.Region.{Region}
use Rattle.va_layout.specs.declared.region.Region.TheVariants.{A, B}
use Rattle.va_layout.specs.declared.header.Header.{Header}
use Rattle.va_layout.specs.declared.header.HeadFault.{HeadFault}
use Rattle.va_layout.specs.Parts.{Apart, KeepsRest}
use Rattle.va_layout.specs.Layout.{layout_len, slot_at, vector_at, marks_at, region_len, other_region}
use Rattle.va_core.specs.Places.{Item, live_items, IdAbsent, IdsDiffer, IsItem, HoldItems}
use Rattle.va_layout.specs.Fields.{HasCode, IsLaid, IsOwnCode, gated_ranges, gate_range, gate_in, id_in, vector_in, item_in, marks_in, selection_range}
use Rattle.va_layout.specs.Header.{region_in}
use Rattle.va_layout.specs.Stands.{SaysShape, HasApproximations, IsBlank, IsBuilding, Kept, Opens, Stands, UpTo, selected_in, with_marks, with_place}
use Rattle.va_core.proofs.Items.{ids_with, ids_without}
use Rattle.va_layout.proofs.Apart.{item_kept, gated_apart, gate_apart, gate_stays, head_before}
use Rattle.va_layout.proofs.Approximations.{approximations_beside, approximations_gate, approximations_gated, approximations_selected, approximations_weaker, approximations_with, own_named}
use Rattle.va_layout.proofs.Headers.{head_selected, head_stays}
use Rattle.va_layout.proofs.Regions.{region_begins, region_ends}

-- a header that was read has one shape
abbrev shape_or : Shape → Result Header HeadFault → Shape
shape_or other (Ok header) = header.shape
shape_or other (Err fault) = other

pub one_shape : (image : List ℕ) {a b : Shape} → SaysShape a image → SaysShape b image → a ≡ b
one_shape image {a} {b} first second = ap (shape_or a) (sym first ∙ second)

one_list : {image : List ℕ} {a b : Kept} → Opens a image → Opens b image → a.shape ≡ b.shape → a.places ≡ b.places
one_list {image} {a} {b} first second same = ext_get_or None a.places b.places
    (first.count ∙ ap (λ (s : Shape). s.capacity) same ∙ sym second.count)
    (λ p inside. (let p_in : p < a.shape.capacity = rw first.count at inside in
    sym (first.places p p_in) ∙ ap (λ (s : Shape). item_in s p image) same ∙ second.places p (rw same at p_in)))

one_marks : {image : List ℕ} {a b : Kept} → Opens a image → Opens b image → a.shape ≡ b.shape → a.marks ≡ b.marks
one_marks {image} {a} {b} first second same = sym first.named.there ∙ ap (λ (s : Shape). marks_in s (selected_in image) image) same ∙ second.named.there

pub opens_once : {image : List ℕ} {a b : Kept} → Opens a image → Opens b image → a ≡ b
opens_once {image} {a} {b} first second =
    let same : a.shape ≡ b.shape = one_shape image first.head second.head in
    ap (λ (s : Shape). record { shape = s; places = a.places; marks = a.marks }) same
    ∙ ap (λ (l : List (Option Item)). record { shape = b.shape; places = l; marks = a.marks }) (one_list first second same)
    ∙ ap (λ (m : List (List ℕ)). record { shape = b.shape; places = b.places; marks = m }) (one_marks first second same)

pub none_blank : {image : List ℕ} {kept : Kept} → IsBlank image → Opens kept image → ⊥
none_blank {image} {kept} blank opens = let e = sym blank ∙ opens.head in cc

item_shut : (shape : Shape) (p : ℕ) (c : List ℕ) → (gate_in p c ≡ 71 → ⊥) → item_in shape p c ≡ None
item_shut shape p c ne = ap (λ (b : Bool). if b then Some (record { id = id_in p c; vector = vector_in shape p c }) else None) (ne_eqb (gate_in p c) 71 ne)

-- the gate of a place that holds an item is open, and that of an empty one isn't
pub gate_of_item : (shape : Shape) (p : ℕ) (a : List ℕ) (item : Item) → item_in shape p a ≡ Some item → gate_in p a ≡ 71
gate_of_item shape p a item e = ⊎_elim (λ yes. yes) (λ ne. absurd (let no : None ≡ Some item = sym (item_shut shape p a ne) ∙ e in cc)) (cases_eq (gate_in p a) 71)

gate_of_none : (shape : Shape) (p : ℕ) (a : List ℕ) → item_in shape p a ≡ None → gate_in p a ≡ 71 → ⊥
gate_of_none shape p a none is_open =
    let e : Some (record { id = id_in p a; vector = vector_in shape p a }) ≡ None = rw is_open at none in cc

-- a place comes to hold an item or none
pub items_with : {dims : ℕ} (places : List (Option Item)) (p : ℕ) (new : Option Item) → p < length places → HoldItems dims places → ((item : Item) → new ≡ Some item → IsItem dims item) → HoldItems dims (set places p new)
items_with places p new inside hold fit = λ q item there. ⊎_elim
    (λ same. fit item (sym (get_or-set_same places p new None inside) ∙ ap (λ (k : ℕ). get_or (set places p new) k None) (sym same) ∙ there))
    (λ ne. hold q item (sym (get_or-set_other places p q new None ne) ∙ there))
    (cases_eq q p)

some_item : {dims : ℕ} {x : Item} → IsItem dims x → (item : Item) → Some x ≡ Some item → IsItem dims item
some_item {dims} {x} fit item e = let same : x ≡ item = cc in rw same at fit

no_item : {dims : ℕ} (item : Item) → None ≡ Some item → IsItem dims item
no_item item e = cc

-- the selected region stays with the header
pub selected_stays : {ranges : List (ℕ × ℕ)} {a c : List ℕ} → KeepsRest ranges a c → Apart 0 32 ranges → selected_in c ≡ selected_in a
selected_stays keeps apart = ap region_in (keeps.same 0 32 apart)

module _ {kept : Kept} {r : Region} {image : List ℕ} where
  -- what is kept stands in an image, in whose selected region each item has its own code
  pub stands_of : SaysShape kept.shape image → layout_len kept.shape ≤ length image → length kept.places ≡ kept.shape.capacity
      → ((p : ℕ) → p < kept.shape.capacity → item_in kept.shape p image ≡ get_or kept.places p None) → IdsDiffer (live_items kept.places) → HoldItems kept.shape.dims kept.places
      → selected_in image ≡ r → HasApproximations kept.shape r kept.marks (IsOwnCode kept.shape kept.marks) kept.places image → Stands kept image
  stands_of head long count places differ items selected own =
      let here = subst (λ (s : Region). HasApproximations kept.shape s kept.marks (IsOwnCode kept.shape kept.marks) kept.places image) (sym selected) own in
      record {
        opens = record { head = head; long = long; count = count; places = places; differ = differ; named = own_named items here };
        items = items;
        own = here;
      }

module _ {kept : Kept} {a c : List ℕ} (p : ℕ) (stands : Stands kept a) (inside : p < kept.shape.capacity) where
  -- one place of an image changed, and each other stands as it stood
  stands_but : {ranges : List (ℕ × ℕ)} (item : Option Item) → KeepsRest ranges a c → Apart 0 32 ranges
      → ((q : ℕ) → q < kept.shape.capacity → (q ≡ p → ⊥) → item_in kept.shape q c ≡ item_in kept.shape q a)
      → item_in kept.shape p c ≡ item → IdsDiffer (live_items (set kept.places p item)) → ((x : Item) → item ≡ Some x → IsItem kept.shape.dims x)
      → HasApproximations kept.shape (selected_in a) kept.marks (IsOwnCode kept.shape kept.marks) (set kept.places p item) c → Stands (with_place p item kept) c
  stands_but {ranges} item keeps head others here differ fit own = stands_of {kept = with_place p item kept}
      (head_stays kept.shape ranges a c stands.opens.head keeps head)
      (omega (arith, stands.opens.long, keeps.no_shorter))
      (length-set kept.places p item ∙ stands.opens.count)
      (λ q q_in. ⊎_elim
      (λ same. rw same (here ∙ sym (get_or-set_same kept.places p item None (omega (arith, inside, stands.opens.count)))))
      (λ ne. others q q_in ne ∙ stands.opens.places q q_in ∙ sym (get_or-set_other kept.places p q item None ne))
      (cases_eq q p))
      differ
      (items_with kept.places p item (omega (arith, inside, stands.opens.count)) stands.items fit)
      (selected_stays keeps head)
      own

  -- nothing that counts changed
  stands_same : {ranges : List (ℕ × ℕ)} → KeepsRest ranges a c → Apart 0 32 ranges
      → ((q : ℕ) → q < kept.shape.capacity → (q ≡ p → ⊥) → item_in kept.shape q c ≡ item_in kept.shape q a)
      → item_in kept.shape p c ≡ item_in kept.shape p a → HasApproximations kept.shape (selected_in a) kept.marks (IsOwnCode kept.shape kept.marks) kept.places c → Stands kept c
  stands_same {ranges} keeps head others here own = stands_of {kept = kept}
      (head_stays kept.shape ranges a c stands.opens.head keeps head)
      (omega (arith, stands.opens.long, keeps.no_shorter))
      stands.opens.count
      (λ q q_in. ⊎_elim (λ same. rw same (here ∙ stands.opens.places p inside)) (λ ne. others q q_in ne ∙ stands.opens.places q q_in) (cases_eq q p))
      stands.opens.differ
      stands.items
      (selected_stays keeps head)
      own

  -- a closed place was written behind its gate, whole or in part
  pub stands_gated : get_or kept.places p None ≡ None → KeepsRest (gated_ranges kept.shape p) a c → Stands kept c
  stands_gated none keeps =
      let was = stands.opens.places p inside ∙ none in
      let gate : gate_in p c ≡ gate_in p a = gate_stays kept.shape inside keeps in
      let here : item_in kept.shape p c ≡ None = item_shut kept.shape p c (λ is. gate_of_none kept.shape p a was (sym gate ∙ is)) in
      stands_same keeps (head_before kept.shape p)
      (λ q q_in ne. item_kept kept.shape q (gated_ranges kept.shape p) a c (gated_apart kept.shape p q inside q_in ne) keeps)
      (here ∙ sym was)
      (approximations_gated stands.own p inside none keeps)

  module _ (keeps : KeepsRest (gate_range p) a c) where
    others_same : (q : ℕ) → q < kept.shape.capacity → (q ≡ p → ⊥) → item_in kept.shape q c ≡ item_in kept.shape q a
    others_same q q_in ne = item_kept kept.shape q (gate_range p) a c (gate_apart kept.shape p q inside q_in ne) keeps

    -- the gate of a place was set, and this is what it holds then
    stands_gate : (item : Option Item) → item_in kept.shape p c ≡ item → IdsDiffer (live_items (set kept.places p item)) → ((x : Item) → item ≡ Some x → IsItem kept.shape.dims x)
        → ((x : Item) → item ≡ Some x → HasCode kept.shape (selected_in a) kept.marks p x a) → Stands (with_place p item kept) c
    stands_gate item here differ fit code = stands_but item keeps (inl (omega arith), tt) others_same here differ fit
        (approximations_gate (approximations_with stands.own p item (omega (arith, inside, stands.opens.count)) code) inside keeps)

    stands_gate_same : item_in kept.shape p c ≡ item_in kept.shape p a → Stands kept c
    stands_gate_same here = stands_same keeps (inl (omega arith), tt) others_same here (approximations_gate stands.own inside keeps)

    -- a place that was empty is still shut
    stands_shut : get_or kept.places p None ≡ None → (gate_in p c ≡ 71 → ⊥) → Stands kept c
    stands_shut none ne = stands_gate_same (item_shut kept.shape p c ne ∙ sym (stands.opens.places p inside ∙ none))

    -- the gate of a place was closed
    pub stands_emptied : (gate_in p c ≡ 71 → ⊥) → Stands (with_place p None kept) c
    stands_emptied ne = stands_gate None (item_shut kept.shape p c ne) (ids_without kept.places p stands.opens.differ) no_item (λ x e. cc)

    -- the gate of an open place is still open
    stands_still : gate_in p a ≡ 71 → gate_in p c ≡ 71 → Stands kept c
    stands_still was is = stands_gate_same
        (rw (is, was, keeps.same (slot_at p + 4) 4 (inr (omega arith), tt), keeps.same (vector_at kept.shape p) kept.shape.dims (inr (omega arith), tt)) refl)

    -- the gate of an open place holds anything
    pub stands_closing : {item : Item} → get_or kept.places p None ≡ Some item → Stands kept c ⊎ Stands (with_place p None kept) c
    stands_closing {item} live = ⊎_elim
        (λ is_open. inl (stands_still (gate_of_item kept.shape p a item (stands.opens.places p inside ∙ live)) is_open))
        (λ ne. inr (stands_emptied ne))
        (cases_eq (gate_in p c) 71)

    module _ {item : Item} (fit : IsItem kept.shape.dims item) (laid : IsLaid kept.shape p item a) (code : HasCode kept.shape (selected_in a) kept.marks p item a) (absent : IdAbsent item.id (live_items kept.places)) where
      laid_item : gate_in p c ≡ 71 → item_in kept.shape p c ≡ Some item
      laid_item is_open =
          rw (is_open, keeps.same (slot_at p + 4) 4 (inr (omega arith), tt), keeps.same (vector_at kept.shape p) kept.shape.dims (inr (omega arith), tt), laid.id, laid.vector) refl

      laid_code : (x : Item) → Some item ≡ Some x → HasCode kept.shape (selected_in a) kept.marks p x a
      laid_code x e = let same : item ≡ x = cc in subst (λ (y : Item). HasCode kept.shape (selected_in a) kept.marks p y a) same code

      -- a place that was laid with its code is open
      pub stands_opened : gate_in p c ≡ 71 → Stands (with_place p (Some item) kept) c
      stands_opened is_open = stands_gate (Some item) (laid_item is_open) (ids_with kept.places p item absent stands.opens.differ) (some_item fit) laid_code

      -- the gate of such a place holds anything
      pub stands_either : get_or kept.places p None ≡ None → Stands kept c ⊎ Stands (with_place p (Some item) kept) c
      stands_either none = ⊎_elim (λ is_open. inr (stands_opened is_open)) (λ ne. inl (stands_shut none ne)) (cases_eq (gate_in p c) 71)

-- either region is the one or the other
same_or_other : (r s : Region) → (s ≡ r) ⊎ (s ≡ other_region r)
same_or_other A A = inl refl
same_or_other A B = inr refl
same_or_other B A = inr refl
same_or_other B B = inl refl

module _ {kept : Kept} {a c : List ℕ} (stands : Stands kept a) where
  -- the region that isn't selected changed
  pub stands_beside : KeepsRest ((marks_at kept.shape (other_region (selected_in a)), region_len kept.shape) ∷ []) a c → Stands kept c × (selected_in c ≡ selected_in a)
  stands_beside keeps =
      let ranges : List (ℕ × ℕ) = (marks_at kept.shape (other_region (selected_in a)), region_len kept.shape) ∷ [] in
      let begins = region_begins kept.shape (other_region (selected_in a)) in
      let ends = region_ends kept.shape (other_region (selected_in a)) in
      let head : Apart 0 32 ranges = (inl (omega (arith, begins)), tt) in (
        stands_of {kept = kept}
            (head_stays kept.shape ranges a c stands.opens.head keeps head)
            (omega (arith, stands.opens.long, keeps.no_shorter))
            stands.opens.count
            (λ q inside. item_kept kept.shape q ranges a c
            (record { gate = (inl (omega (arith, begins)), tt); id = (inl (omega (arith, begins)), tt); vector = (inr (omega (arith, ends)), tt) }) keeps ∙ stands.opens.places q inside)
            stands.opens.differ
            stands.items
            (selected_stays keeps head)
            (approximations_beside stands.own keeps),
        selected_stays keeps head,
      )

  module _ (keeps : KeepsRest selection_range a c) where
    -- the selection changed, and the region that is selected now has these marks and the own code of each item
    stands_selected : {marks : List (List ℕ)} → HasApproximations kept.shape (selected_in c) marks (IsOwnCode kept.shape marks) kept.places a → Stands (with_marks marks kept) c
    stands_selected {marks} own = stands_of {kept = with_marks marks kept}
        (head_selected kept.shape a c stands.opens.head keeps)
        (omega (arith, stands.opens.long, keeps.no_shorter))
        stands.opens.count
        (λ q inside. item_kept kept.shape q selection_range a c
        (record { gate = (inr (omega arith), tt); id = (inr (omega arith), tt); vector = (inr (omega arith), tt) }) keeps ∙ stands.opens.places q inside)
        stands.opens.differ
        stands.items
        refl
        (approximations_selected own keeps)

    -- the other region was selected, which has valid marks and the own code of each item
    module _ {marks : List (List ℕ)} (built : HasApproximations kept.shape (other_region (selected_in a)) marks (IsOwnCode kept.shape marks) kept.places a) where
      pub stands_switched : selected_in c ≡ other_region (selected_in a) → Stands (with_marks marks kept) c
      stands_switched is = stands_selected (subst (λ (r : Region). HasApproximations kept.shape r marks (IsOwnCode kept.shape marks) kept.places a) (sym is) built)

      -- the selection holds anything: what it held, or the other region
      pub stands_switching : (Stands kept c × (selected_in c ≡ selected_in a)) ⊎ (Stands (with_marks marks kept) c × (selected_in c ≡ other_region (selected_in a)))
      stands_switching = ⊎_elim
          (λ same. inl (stands_selected {marks = kept.marks} (subst (λ (r : Region). HasApproximations kept.shape r kept.marks (IsOwnCode kept.shape kept.marks) kept.places a) (sym same) stands.own), same))
          (λ other. inr (stands_switched other, other))
          (same_or_other (selected_in a) (selected_in c))

-- a building that has reached every id that is live has the own code of each item
pub building_whole : (kept : Kept) (last : Option ℕ) {marks : List (List ℕ)} {a : List ℕ} → IsBuilding kept marks last a
    → ((p : ℕ) (item : Item) → p < kept.shape.capacity → get_or kept.places p None ≡ Some item → UpTo last item.id)
    → HasApproximations kept.shape (other_region (selected_in a)) marks (IsOwnCode kept.shape marks) kept.places a
building_whole kept last building all = approximations_weaker building (λ p item inside live code is. is (all p item inside live))
