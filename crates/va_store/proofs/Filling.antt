-- What is kept once a place was laid, and once it was opened.
use Rattle.std.proofs.Common.{◌≡◌, ◌⊎◌, ℕ, zero, suc, ◌<◌, ◌^◌, List, [], ◌∷◌, length, Option, Some, None, map, get_or, refl, sym, ◌∙◌, ap}
use Rattle.va_core.specs.Shape.{Shape}
use Rattle.va_core.specs.Places.{Item, IdAbsent, IsItem, live_items, id_of}
use Rattle.va_core.specs.Vectors.{AreBytes}
use Rattle.va_layout.specs.Parts.{KeepsRest}
use Rattle.va_layout.specs.Fields.{HasCode, IsLaid, gate_in, gated_ranges, gate_range, place_ranges}
use Rattle.va_layout.specs.Stands.{Stands, Kept, selected_in, with_place}
use Rattle.va_layout.proofs.Apart.{head_before, same_place}
use Rattle.va_layout.proofs.Standing.{selected_stays, stands_gated, stands_either, stands_opened}
use Rattle.va_store.specs.Known.{HeldStay, Known, IsOf}
use Rattle.va_store.specs.Ids.{LivesNowhere}
use Rattle.va_store.proofs.Repeats.{absent_from}

-- a place that is empty, and an item of the shape whose id is new
pub record Room (known : Known) (p : ℕ) (item : Item) : Type 0 where
  pub inside : p < known.shape.capacity
  pub empty : get_or known.ids p None ≡ None
  pub new : LivesNowhere item.id known.ids
  pub fit : IsItem known.shape.dims item

empty_at : (places : List (Option Item)) (p : ℕ) → get_or (map id_of places) p None ≡ None → get_or places p None ≡ None
empty_at [] p e = refl
empty_at (None ∷ places) zero e = refl
empty_at (Some x ∷ places) zero e = cc
empty_at (x ∷ places) (suc p) e = empty_at places p e

are_bytes : (numbers : List ℕ) → ((i : ℕ) → get_or numbers i 0 < 256) → AreBytes numbers
are_bytes [] each = tt
are_bytes (n ∷ numbers) each = (each 0, are_bytes numbers (λ i. each (suc i)))

pub fit_item : {dims id : ℕ} {vector : List ℕ} → id < 2 ^ 32 → length vector ≡ dims → ((i : ℕ) → get_or vector i 0 < 256) → IsItem dims (record { id = id; vector = vector })
fit_item {dims} {id} {vector} small long each = record { small = small; vector = record { one_each = long; bytes = are_bytes vector each } }

-- what was written of a place behind its gate
pub record IsLaidFor (known : Known) (p : ℕ) (item : Item) (a b : List ℕ) : Type 0 where
  pub rest : KeepsRest (gated_ranges known.shape p) a b
  pub there : IsLaid known.shape p item b
  pub code : HasCode known.shape known.region known.marks p item b

pub room_for : {known : Known} {p id : ℕ} {vector : List ℕ} → p < known.shape.capacity → get_or known.ids p None ≡ None → LivesNowhere id known.ids → id < 2 ^ 32 → length vector ≡ known.shape.dims
    → ((i : ℕ) → get_or vector i 0 < 256) → Room known p (record { id = id; vector = vector })
room_for inside none nowhere small long each = record { inside = inside; empty = none; new = nowhere; fit = fit_item small long each }

module _ {known : Known} {kept : Kept} {p : ℕ} {item : Item} {a b : List ℕ} (is : IsOf known kept) (room : Room known p item) (stands : Stands kept a) (laid : KeepsRest (gated_ranges known.shape p) a b) where
  in_kept : p < kept.shape.capacity
  in_kept = rw is.shape at room.inside

  empty_kept : get_or kept.places p None ≡ None
  empty_kept = empty_at kept.places p (rw is.ids at room.empty)

  absent_kept : IdAbsent item.id (live_items kept.places)
  absent_kept = absent_from kept.places item.id (rw is.ids at room.new)

  pub laid_stands : Stands kept b
  laid_stands = stands_gated p stands in_kept empty_kept (rw is.shape at laid)

  module _ {c : List ℕ} (selected : selected_in a ≡ known.region) (there : IsLaid known.shape p item b) (code : HasCode known.shape known.region known.marks p item b) (keeps : KeepsRest (gate_range p) b c) where
    code_kept : HasCode kept.shape (selected_in b) kept.marks p item b
    code_kept = let still : known.region ≡ selected_in b = sym (selected_stays laid (head_before known.shape p) ∙ selected) in rw (is.shape, is.marks, still) at code

    pub opened_either : Stands kept c ⊎ Stands (with_place p (Some item) kept) c
    opened_either = stands_either p laid_stands in_kept keeps (rw is.shape at room.fit) (rw is.shape at there) code_kept absent_kept empty_kept

    pub opened_after : gate_in p c ≡ 71 → Stands (with_place p (Some item) kept) c
    opened_after gate = stands_opened p laid_stands in_kept keeps (rw is.shape at room.fit) (rw is.shape at there) code_kept absent_kept gate

-- the bytes of a place that isn't held were written
pub held_stay : (shape : Shape) (held : List ℕ) {a c : List ℕ} {p : ℕ} → p < shape.capacity → get_or held p 0 ≡ 0 → KeepsRest (place_ranges shape p) a c → HeldStay shape held a c
held_stay shape held {a} {c} {p} inside unheld keeps = λ q q_in is_held.
    same_place shape p q inside q_in (λ same. is_held (ap (λ (k : ℕ). get_or held k 0) same ∙ unheld)) keeps
