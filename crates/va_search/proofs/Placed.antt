-- The cells of a shelf, and the places of the items that they are.
use Rattle.std.proofs.Common.{◌≡◌, ℕ, zero, suc, ◌+◌, true, false, eqb, List, [], ◌∷◌, map, get_or, Option, None, Some, refl, sym, ap, subst, ◌∙◌, arith}
use Rattle.std.proofs.lemmas.Bool.Decides.{nat_tests}
use Rattle.std.specs.List.{AllByRecursion}
use Rattle.va_core.specs.Places as places
use Rattle.va_core.specs.Places.{IdAbsent, IdsDiffer, Item, live_items, id_of}
use Rattle.va_layout.specs.Stands.{Kept}
use Rattle.va_ports.specs.Shelves.{place_of}
use Rattle.va_search.specs.Sought.{places_of}
use Rattle.va_search.proofs.Mapped.{all_weaker}
use Rattle.va_store.specs.Shelved.{cells_from}

-- the item of the cell lives in the cell's place, and that place is the item's
pub record IsPlaced (f : ℕ × ℕ → Item) (kept : List (Option Item)) (cell : ℕ × ℕ) : Type 0 where
  pub live : get_or kept (place_of cell) None ≡ Some (f cell)
  pub own : places.place_of (f cell).id kept ≡ place_of cell

same_item : (x y : Item) → Some x ≡ Some y → x ≡ y
same_item x y e = cc

first_same : (x y : Item) (l m : List Item) → x ∷ l ≡ y ∷ m → x ≡ y
first_same x y l m e = cc

rest_same : (x y : Item) (l m : List Item) → x ∷ l ≡ y ∷ m → l ≡ m
rest_same x y l m e = cc

-- an id that no item has lives in no place
lives_not : (kept : List (Option Item)) (place : ℕ) (item : Item) (id : ℕ) → IdAbsent id (live_items kept) → get_or kept place None ≡ Some item → id ≡ item.id → ⊥
lives_not [] place item id absent at same = cc
lives_not (None ∷ kept) zero item id absent at same = cc
lives_not (None ∷ kept) (suc place) item id absent at same = lives_not kept place item id absent at same
lives_not (Some x ∷ kept) zero item id absent at same = absent.0 (same ∙ ap (λ (i : Item). i.id) (sym (same_item x item at)))
lives_not (Some x ∷ kept) (suc place) item id absent at same = lives_not kept place item id absent.1 at same

eqb_self : (n : ℕ) → eqb n n ≡ true
eqb_self n = grind (arith, nat_tests)

eqb_apart : (a b : ℕ) → (a ≡ b → ⊥) → eqb a b ≡ false
eqb_apart a b differ = elim (eqb a b) as (λ c. eqb a b ≡ c → c ≡ false) [
  | true ↦ λ e. absurd (differ (grind (arith, nat_tests)))
  | false ↦ λ e. refl
] refl

-- the place of the item that lives in a place
pub place_is : (kept : List (Option Item)) (place : ℕ) (item : Item) → IdsDiffer (live_items kept) → get_or kept place None ≡ Some item → places.place_of item.id kept ≡ place
place_is [] place item differ at = cc
place_is (None ∷ kept) zero item differ at = cc
place_is (None ∷ kept) (suc place) item differ at = let rest : places.place_of item.id kept ≡ place = place_is kept place item differ at in omega (arith, rest)
place_is (Some x ∷ kept) zero item differ at =
    let test : eqb x.id item.id ≡ true = ap (λ (i : Item). eqb x.id i.id) (sym (same_item x item at)) ∙ eqb_self x.id in
    rw test refl
place_is (Some x ∷ kept) (suc place) item differ at =
    let rest : places.place_of item.id kept ≡ place = place_is kept place item differ.1 at in
    let test : eqb x.id item.id ≡ false = eqb_apart x.id item.id (lives_not kept place item x.id differ.0 at) in
    rw test (omega (arith, rest))

-- the item of a cell lives so many places on
record IsBehind (f : ℕ × ℕ → Item) (base : ℕ) (kept : List (Option Item)) (cell : ℕ × ℕ) : Type 0 where
  pub on : ℕ
  pub at : place_of cell ≡ base + on
  pub live : get_or kept on None ≡ Some (f cell)

one_on : (f : ℕ × ℕ → Item) (base : ℕ) (x : Option Item) (kept : List (Option Item)) (cell : ℕ × ℕ) → IsBehind f (base + 1) kept cell → IsBehind f base (x ∷ kept) cell
one_on f base x kept cell behind = record { on = suc behind.on; at = (let at = behind.at in omega (arith, at)); live = behind.live }

cells_behind : (f : ℕ × ℕ → Item) (base : ℕ) (kept : List (Option Item)) → map f (cells_from base (map id_of kept)) ≡ live_items kept → AllByRecursion (IsBehind f base kept) (cells_from base (map id_of kept))
cells_behind f base [] are = tt
cells_behind f base (None ∷ kept) are = all_weaker (IsBehind f (base + 1) kept) (IsBehind f base (None ∷ kept)) (cells_from (base + 1) (map id_of kept)) (one_on f base None kept) (cells_behind f (base + 1) kept are)
cells_behind f base (Some x ∷ kept) are = (
  record { on = 0; at = omega arith; live = ap (λ (i : Item). Some i) (sym (first_same (f (base, x.id)) x (map f (cells_from (base + 1) (map id_of kept))) (live_items kept) are)) },
  all_weaker (IsBehind f (base + 1) kept) (IsBehind f base (Some x ∷ kept)) (cells_from (base + 1) (map id_of kept)) (one_on f base (Some x) kept)
      (cells_behind f (base + 1) kept (rest_same (f (base, x.id)) x (map f (cells_from (base + 1) (map id_of kept))) (live_items kept) are)),
)

-- where the cells are the items, each is placed
pub cells_placed : (f : ℕ × ℕ → Item) (kept : List (Option Item)) → IdsDiffer (live_items kept) → map f (cells_from 0 (map id_of kept)) ≡ live_items kept → AllByRecursion (IsPlaced f kept) (cells_from 0 (map id_of kept))
cells_placed f kept differ are = all_weaker (IsBehind f 0 kept) (IsPlaced f kept) (cells_from 0 (map id_of kept)) placed (cells_behind f 0 kept are)
  where
    placed : (cell : ℕ × ℕ) → IsBehind f 0 kept cell → IsPlaced f kept cell
    placed cell behind =
        let at : behind.on ≡ place_of cell = (let at = behind.at in omega (arith, at)) in
        let live : get_or kept (place_of cell) None ≡ Some (f cell) = subst (λ (n : ℕ). get_or kept n None ≡ Some (f cell)) at behind.live in
        record { live = live; own = place_is kept (place_of cell) (f cell) differ live }

-- the places of the items are those of their cells
pub places_placed : (f : ℕ × ℕ → Item) (kept : Kept) (cells : List (ℕ × ℕ)) → AllByRecursion (IsPlaced f kept.places) cells → places_of kept (map f cells) ≡ map place_of cells
places_placed f kept [] all = refl
places_placed f kept (cell ∷ cells) all =
    ap (λ (n : ℕ). n ∷ places_of kept (map f cells)) all.0.own ∙ ap (λ (l : List ℕ). place_of cell ∷ l) (places_placed f kept cells all.1)
