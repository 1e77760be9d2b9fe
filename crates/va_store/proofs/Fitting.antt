-- Disks that fit a store.
use Rattle.std.proofs.Common.{◌≡◌, ⊎_elim, inl, inr, ℕ, zero, suc, ◌+◌, ◌≤◌, ◌<◌, List, ◌∷◌, length, map, get_or, replicate, Option, Some, None, refl, sym, ◌∙◌, ap, subst, arith}
use Rattle.std.proofs.lemmas.Bool.{cases_eq}
use Rattle.std.proofs.lemmas.List.{ext_get_or, get_or-set_same, get_or-set_other, length-map, length-set}
use Rattle.std.proofs.lemmas.List.FromFn.{get_or-map-range_with_len, length-map-range_with_len}
use Rattle.va_core.specs.Marks.{AreValid, HasShape}
use Rattle.va_core.specs.Shape.{Shape}
use Rattle.va_core.specs.Places.{IsItem, Item, id_of}
use Rattle.va_layout.specs.declared.region.Region.{Region}
use Rattle.va_layout.specs.declared.region.Region.TheVariants.{A}
use Rattle.va_layout.specs.Fields.{HasCode, IsLaid, NamesCell, code_in, gate_in, gate_range, gated_ranges, marks_in, slot_in, item_in}
use Rattle.va_layout.specs.Layout.{layout_len, slot_at, other_region, vector_at}
use Rattle.va_layout.specs.Parts.{Apart, KeepsRest}
use Rattle.va_layout.specs.Stands.{HasApproximations, Kept, Opens, SaysShape, Stands, selected_in, Building}
use Rattle.va_store.specs.Empty.{empty_kept}
use Rattle.va_store.specs.Image.{ids_in, repeat_fault}
use Rattle.va_layout.proofs.Apart.{gate_apart, gated_apart, head_before}
use Rattle.va_layout.proofs.Approximations.{approximations_gate, approximations_gated, approximations_with, own_names}
use Rattle.va_layout.proofs.Headers.{head_stays}
use Rattle.va_layout.proofs.Standing.{selected_stays}
use Rattle.va_store.specs.Builds.{IsFor}
use Rattle.va_store.proofs.Built.{built_emptied, built_filled, own_reached, slot_shut}
use Rattle.va_store.proofs.Found.{ids_stand}
use Rattle.va_store.proofs.Found.{kept_opens}
use Rattle.va_store.proofs.Living.{item_at}
use Rattle.va_store.proofs.Repeats.{once_emptied, once_filled, once_of_differ, once_repeats}
use Rattle.va_store.specs.Ids.{LiveOnce, LivesNowhere}
use Rattle.va_store.specs.Openings.{IsReadFrom}
use Rattle.va_store.specs.Known.{Known, FitsDisk, IsKnownIn, IsOf, broken, empty, known_with}

pub slot_kept : (q : ℕ) (ranges : List (ℕ × ℕ)) (a c : List ℕ) → Apart (slot_at q) 1 ranges → Apart (slot_at q + 4) 4 ranges → KeepsRest ranges a c → slot_in q c ≡ slot_in q a
slot_kept q ranges a c gate id keeps = rw (keeps.same (slot_at q) 1 gate, keeps.same (slot_at q + 4) 4 id) refl

-- a broken store asks for the length alone
pub fits_broken : (told : Type 0) (known : Known) (size : ℕ) (image : List ℕ) → layout_len known.shape ≤ size → FitsDisk told (broken known) size image
fits_broken told known size image long = record { long = long; known_in = λ is whole. cc }

-- the item of a place that was laid and opened
item_opened : (shape : Shape) (p : ℕ) (item : Item) (b c : List ℕ) → p < shape.capacity → IsLaid shape p item b → KeepsRest (gate_range p) b c → gate_in p c ≡ 71 → item_in shape p c ≡ Some item
item_opened shape p item b c inside laid keeps is_open =
    rw (is_open, keeps.same (slot_at p + 4) 4 (inr (omega arith), tt), keeps.same (vector_at shape p) shape.dims (inr (omega (arith, inside)), tt), laid.id, laid.vector) refl

slot_opened : (shape : Shape) (p : ℕ) (item : Item) (b c : List ℕ) → IsLaid shape p item b → KeepsRest (gate_range p) b c → gate_in p c ≡ 71 → slot_in p c ≡ Some item.id
slot_opened shape p item b c laid keeps is_open = rw (is_open, keeps.same (slot_at p + 4) 4 (inr (omega arith), tt), laid.id) refl

-- what is being built has valid marks of the shape
pub record HasBuilt (known : Known) : Type 0 where
  pub built : (building : Building) → known.building ≡ Some building → IsFor known.shape building

module _ {known : Known} {p : ℕ} {a : List ℕ} (is : IsKnownIn known a) (inside : p < known.shape.capacity) where
  all : length known.ids ≡ known.shape.capacity
  all = is.count

  in_ids : p < length known.ids
  in_ids = omega (arith, inside, all)

  -- the slot of one place changed
  slots_but : (c : List ℕ) (id : Option ℕ) → slot_in p c ≡ id → ((q : ℕ) → q < known.shape.capacity → (q ≡ p → ⊥) → slot_in q c ≡ slot_in q a)
      → (q : ℕ) → q < known.shape.capacity → slot_in q c ≡ get_or (known_with p id known).ids q None
  slots_but c id here others q q_in = ⊎_elim
      (λ e. rw e (here ∙ sym (get_or-set_same known.ids p id None in_ids)))
      (λ ne. others q q_in ne ∙ is.slots q q_in ∙ sym (get_or-set_other known.ids p q id None ne))
      (cases_eq q p)

  -- a place was laid with its code and opened
  module _ {b c : List ℕ} {item : Item} (empty_there : get_or known.ids p None ≡ None) (fit : IsItem known.shape.dims item) (nowhere : LivesNowhere item.id known.ids) (first : KeepsRest (gated_ranges known.shape p) a b) (next : KeepsRest (gate_range p) b c) where
    named_laid : HasCode known.shape known.region known.marks p item b → HasApproximations known.shape known.region known.marks (λ id code. NamesCell known.shape known.marks code) (known_with p (Some item.id) known).ids c
    named_laid code =
        let laid = approximations_gated is.named p inside empty_there first in
        approximations_gate (approximations_with laid p (Some item.id) in_ids (λ id same. subst (NamesCell known.shape known.marks) (sym code) (own_names is.named.fit is.named.valid fit))) inside next

    pub known_filled : IsLaid known.shape p item b → HasCode known.shape known.region known.marks p item b
        → ((building : Building) → known.building ≡ Some building → IsFor known.shape building × HasCode known.shape (other_region known.region) building.marks p item b)
        → gate_in p c ≡ 71 → IsKnownIn (known_with p (Some item.id) known) c
    known_filled laid code next_code is_open = record {
      head = head_stays known.shape (gate_range p) b c (head_stays known.shape (gated_ranges known.shape p) a b is.head first (head_before known.shape p)) next (inl (omega arith), tt);
      count = length-set known.ids p (Some item.id) ∙ all;
      once = once_filled known.ids p is.once in_ids item.id nowhere;
      slots = slots_but c (Some item.id) (slot_opened known.shape p item b c laid next is_open)
          (λ q q_in ne. (let gate = gate_apart known.shape p q inside q_in ne in
          let lay = gated_apart known.shape p q inside q_in ne in
          slot_kept q (gate_range p) b c gate.gate gate.id next ∙ slot_kept q (gated_ranges known.shape p) a b lay.gate lay.id first));
      selected = selected_stays next (inl (omega arith), tt) ∙ selected_stays first (head_before known.shape p) ∙ is.selected;
      named = named_laid code;
      built = λ building runs. (let here = next_code building runs in
          built_filled building (is.built building runs) inside (is.slots p inside ∙ empty_there) first next (item_opened known.shape p item b c inside laid next is_open) (own_reached here.0 fit here.1));
    }

  -- a place was closed
  pub known_emptied : {c : List ℕ} → KeepsRest (gate_range p) a c → (gate_in p c ≡ 71 → ⊥) → IsKnownIn (known_with p None known) c
  known_emptied {c} keeps is_shut = record {
    head = head_stays known.shape (gate_range p) a c is.head keeps (inl (omega arith), tt);
    count = length-set known.ids p None ∙ all;
    once = once_emptied known.ids p is.once in_ids;
    slots = slots_but c None (slot_shut p c is_shut) (λ q q_in ne. (let gate = gate_apart known.shape p q inside q_in ne in slot_kept q (gate_range p) a c gate.gate gate.id keeps));
    selected = selected_stays keeps (inl (omega arith), tt) ∙ is.selected;
    named = approximations_gate (approximations_with is.named p None in_ids (λ id same. cc)) inside keeps;
    built = λ building runs. built_emptied building (is.built building runs) inside keeps is_shut;
  }

-- the codes of the items that an image opens with are those of their ids
ids_named : {shape : Shape} {region : Region} {marks : List (List ℕ)} {places : List (Option Item)} {image : List ℕ} → HasApproximations shape region marks (λ (item : Item) code. NamesCell shape marks code) places image
    → HasApproximations shape region marks (λ (id : ℕ) code. NamesCell shape marks code) (map id_of places) image
ids_named {shape} {region} {marks} {places} named = record {
  there = named.there;
  fit = named.fit;
  valid = named.valid;
  codes = λ p id inside live. (let here = item_at places p id live in named.codes p here.item inside here.there);
}

slots_read : (known : Known) (image : List ℕ) → known.ids ≡ ids_in known.shape.capacity image → (p : ℕ) → p < known.shape.capacity → slot_in p image ≡ get_or known.ids p None
slots_read known image read p inside = sym (get_or-map-range_with_len (λ q. slot_in q image) 0 known.shape.capacity p p None inside (omega arith)) ∙ ap (λ (l : List (Option ℕ)). get_or l p None) (sym read)

-- what a store knows that is one of what an image opens as
pub known_opened : {known : Known} {kept : Kept} {image : List ℕ} → IsOf known kept → known.building ≡ None → selected_in image ≡ known.region → Opens kept image → IsKnownIn known image
known_opened {known} {kept} {image} is idle selected opens = record {
  head = subst (λ (shape : Shape). SaysShape shape image) (sym is.shape) opens.head;
  count = ap length is.ids ∙ length-map kept.places id_of ∙ opens.count ∙ ap (λ (s : Shape). s.capacity) (sym is.shape);
  once = subst LiveOnce (sym is.ids) (once_of_differ kept.places opens.differ);
  slots = slots_read known image (is.ids ∙ sym (ids_stand kept image opens) ∙ ap (λ (s : Shape). ids_in s.capacity image) (sym is.shape));
  selected = selected;
  named = rw (is.shape, is.marks, is.ids, sym selected) (ids_named opens.named);
  built = λ building runs. absurd (let e : None ≡ Some building = sym idle ∙ runs in cc);
}

-- what a store knows is read from the image again, which opens
pub known_read : {known : Known} {image : List ℕ} → IsKnownIn known image → layout_len known.shape ≤ length image → IsReadFrom image known
known_read {known} {image} is long =
    let ids : known.ids ≡ ids_in known.shape.capacity image = ext_get_or None known.ids (ids_in known.shape.capacity image)
    (is.count ∙ sym (length-map-range_with_len (λ p. slot_in p image) 0 known.shape.capacity))
    (λ p inside. (let here : p < known.shape.capacity = omega (arith, inside, is.count) in
    sym (is.slots p here) ∙ sym (get_or-map-range_with_len (λ q. slot_in q image) 0 known.shape.capacity p p None here (omega arith)))) in
    let marks : known.marks ≡ marks_in known.shape (selected_in image) image = sym is.named.there ∙ ap (λ (r : Region). marks_in known.shape r image) (sym is.selected) in
    record {
      head = is.head;
      ids = ids;
      region = sym is.selected;
      marks = marks;
      opens = kept_opens image known.shape is.head long (subst (HasShape known.shape) marks is.named.fit) (subst AreValid marks is.named.valid)
          (ap repeat_fault (sym ids) ∙ once_repeats known.ids is.once)
          (λ p id inside live. subst (λ (m : List (List ℕ)). NamesCell known.shape m (code_in known.shape (selected_in image) p image)) marks
          (subst (λ (r : Region). NamesCell known.shape known.marks (code_in known.shape r p image)) (sym is.selected)
          (is.named.codes p id inside (ap (λ (l : List (Option ℕ)). get_or l p None) ids ∙ live))));
    }

none_ids : (n : ℕ) → replicate n None ≡ map id_of (replicate n None)
none_ids zero = refl
none_ids (suc n) = ap (λ (l : List (Option ℕ)). None ∷ l) (none_ids n)

pub is_of_empty : (shape : Shape) → IsOf (empty shape) (empty_kept shape)
is_of_empty shape = record { shape = refl; ids = none_ids shape.capacity; marks = refl }

-- a store whose file was created
pub fits_created : (told : Type 0) (shape : Shape) (known : Known) (size : ℕ) (image : List ℕ) → known ≡ empty shape → layout_len shape ≤ size → (told → Stands (empty_kept shape) image) → (told → selected_in image ≡ A) → FitsDisk told known size image
fits_created told shape known size image same long stands selected = subst (λ (k : Known). FitsDisk told k size image) (sym same)
    (record { long = long; known_in = λ is whole. known_opened (is_of_empty shape) refl (selected is) (stands is).opens })

pub fits_now : (told : Type 0) (old new : Known) (size size' : ℕ) (image : List ℕ) → new ≡ old → size' ≡ size → FitsDisk told old size image → FitsDisk told new size' image
fits_now told old new size size' image same length_same fits = rw (same, length_same) fits
