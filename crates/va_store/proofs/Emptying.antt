-- What a place that is live holds, and what is kept once it was shut.
use Rattle.std.proofs.Common.{◌≡◌, ◌⊎◌, ℕ, ◌<◌, List, Some, None, get_or, sym, ◌∙◌, ap, arith}
use Rattle.va_core.specs.Places.{Item}
use Rattle.va_layout.specs.Parts.{KeepsRest}
use Rattle.va_layout.specs.Fields.{gate_in, gate_range, id_in, item_in, vector_in}
use Rattle.va_layout.specs.Stands.{Opens, Stands, Kept, with_place}
use Rattle.va_layout.proofs.Standing.{gate_of_item, stands_closing, stands_emptied}
use Rattle.va_store.specs.Known.{Known, IsOf}
use Rattle.va_store.specs.Ids.{LivesAt}
use Rattle.va_store.proofs.Living.{HasId, item_at}

pub item_of : (known : Known) (kept : Kept) (p id : ℕ) → IsOf known kept → LivesAt id p known.ids → HasId p id kept.places
item_of known kept p id is lives = item_at kept.places p id (rw is.ids at lives)

same_item : (x y : Item) → Some x ≡ Some y → x ≡ y
same_item x y e = cc

item_is : (x : Item) (id : ℕ) (vector : List ℕ) → x.id ≡ id → x.vector ≡ vector → x ≡ record { id = id; vector = vector }
item_is x id vector ids vectors = ap (λ (n : ℕ). record { id = n; vector = x.vector }) ids ∙ ap (λ (l : List ℕ). record { id = id; vector = l }) vectors

-- the vector that stands in a place that is live
pub vector_of : (known : Known) (kept : Kept) (p id : ℕ) (image out : List ℕ) → IsOf known kept → Opens kept image → p < known.shape.capacity → LivesAt id p known.ids → out ≡ vector_in known.shape p image
    → get_or kept.places p None ≡ Some (record { id = id; vector = out })
vector_of known kept p id image out is opens inside lives read =
    let has = item_of known kept p id is lives in
    let holds : item_in kept.shape p image ≡ Some has.item = opens.places p (rw is.shape at inside) ∙ has.there in
    let is_open : gate_in p image ≡ 71 = gate_of_item kept.shape p image has.item holds in
    let whole : Some (record { id = id_in p image; vector = vector_in kept.shape p image }) ≡ Some has.item = rw is_open at holds in
    let vector : vector_in kept.shape p image ≡ has.item.vector = ap (λ (i : Item). i.vector) (same_item _ _ whole) in
    has.there ∙ ap Some (item_is has.item id out has.same (sym vector ∙ sym (rw is.shape at read)))

-- the gate of a place that is live was written
module _ {known : Known} {kept : Kept} {p : ℕ} {a c : List ℕ} (is : IsOf known kept) (inside : p < known.shape.capacity) (stands : Stands kept a) (keeps : KeepsRest (gate_range p) a c) where
  in_kept : p < kept.shape.capacity
  in_kept = rw is.shape at inside

  pub shut_either : {id : ℕ} → LivesAt id p known.ids → Stands kept c ⊎ Stands (with_place p None kept) c
  shut_either {id} lives = stands_closing p stands in_kept keeps (item_of known kept p id is lives).there

  pub shut_after : gate_in p c ≡ 0 → Stands (with_place p None kept) c
  shut_after gate = stands_emptied p stands in_kept keeps (λ is_open. omega (arith, gate, is_open))
