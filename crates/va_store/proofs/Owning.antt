-- What the shelf of a store has, in the words of what is kept.
use Rattle.std.proofs.Common.{◌≡◌, ℕ, suc, ◌+◌, ◌<◌, List, [], ◌∷◌, map, get_or, Option, None, Some, refl, sym, ap, subst, ◌∙◌, arith}
use Rattle.std.specs.List.{AllByRecursion}
use Rattle.va_cells.proofs.CellCodes.{own_slices}
use Rattle.va_core.specs.Codes.{packed}
use Rattle.va_core.specs.Marks.{cell}
use Rattle.va_core.specs.Places.{Item, live_items, id_of}
use Rattle.va_core.specs.Shape.{Shape}
use Rattle.va_core.specs.Vectors.{IsVector}
use Rattle.va_layout.specs.declared.region.Region.{Region}
use Rattle.va_layout.specs.Fields.{code_in, vector_in}
use Rattle.va_layout.specs.Stands.{Kept, Opens, Stands, selected_in}
use Rattle.va_ports.specs.Shelves.{AreOwnCells, IsOwn}
use Rattle.va_store.specs.Ids.{LivesAt}
use Rattle.va_store.specs.Known.{IsOf, Known}
use Rattle.va_store.specs.Shelved.{IsOrderly, cells_from, contents_of, item_of_cell}
use Rattle.va_store.proofs.Emptying.{vector_of}
use Rattle.va_store.proofs.Indexing.{inside_of_live}

next_place : (place k : ℕ) → place + suc k ≡ place + 1 + k
next_place place k = omega arith

-- what holds of each live place holds of each cell
all_cells : (P : ℕ × ℕ → Type 0) (place : ℕ) (ids : List (Option ℕ)) → ((k id : ℕ) → LivesAt id k ids → P (place + k, id)) → AllByRecursion P (cells_from place ids)
all_cells P place [] here = tt
all_cells P place (None ∷ ids) here = all_cells P (place + 1) ids (λ k id at. subst (λ (n : ℕ). P (n, id)) (next_place place k) (here (suc k) id at))
all_cells P place (Some x ∷ ids) here =
    let at_place : place + 0 ≡ place = omega arith in
    (subst (λ (n : ℕ). P (n, x)) at_place (here 0 x refl), all_cells P (place + 1) ids (λ k id at. subst (λ (n : ℕ). P (n, id)) (next_place place k) (here (suc k) id at)))

same_item : (x y : Item) → Some x ≡ Some y → y ≡ x
same_item x y e = cc

-- the cells of some places, with their vectors, are the items there
items_from : (vector : ℕ → List ℕ) (place : ℕ) (places : List (Option Item)) → ((k id : ℕ) → LivesAt id k (map id_of places) → get_or places k None ≡ Some (record { id = id; vector = vector (place + k) }))
    → map (λ (c : ℕ × ℕ). record { id = c.1; vector = vector c.0 }) (cells_from place (map id_of places)) ≡ live_items places
items_from vector place [] here = refl
items_from vector place (None ∷ places) here = items_from vector (place + 1) places
    (λ k id at. here (suc k) id at ∙ ap (λ (n : ℕ). Some (record { id = id; vector = vector n })) (next_place place k))
items_from vector place (Some item ∷ places) here =
    let at_place : place + 0 ≡ place = omega arith in
    let first : record { id = item.id; vector = vector place } ≡ item =
    same_item item (record { id = item.id; vector = vector place }) (here 0 item.id refl ∙ ap (λ (n : ℕ). Some (record { id = item.id; vector = vector n })) at_place) in
    let rest = items_from vector (place + 1) places (λ k id at. here (suc k) id at ∙ ap (λ (n : ℕ). Some (record { id = id; vector = vector n })) (next_place place k)) in
    ap (λ (x : Item). x ∷ map (λ (c : ℕ × ℕ). record { id = c.1; vector = vector c.0 }) (cells_from (place + 1) (map id_of places))) first
    ∙ ap (λ (l : List Item). item ∷ l) rest

module _ (known : Known) (kept : Kept) (image : List ℕ) (orderly : IsOrderly known) (is : IsOf known kept) where
  inside_of : (p id : ℕ) → LivesAt id p known.ids → p < known.shape.capacity
  inside_of p id lives = omega (arith, inside_of_live known.ids p id lives, orderly.all)

  -- the cells with their vectors are the live items
  pub cells_are_items : Opens kept image → map (item_of_cell (contents_of known image)) (contents_of known image).cells ≡ live_items kept.places
  cells_are_items opens =
      ap (λ (ids : List (Option ℕ)). map (item_of_cell (contents_of known image)) (cells_from 0 ids)) is.ids
      ∙ items_from (λ p. vector_in known.shape p image) 0 kept.places
      (λ k id at. (let lives : LivesAt id k known.ids = subst (λ (ids : List (Option ℕ)). LivesAt id k ids) (sym is.ids) at in
      let zeroth : k ≡ 0 + k = omega arith in
      vector_of known kept k id image (vector_in known.shape k image) is opens (inside_of k id lives) lives refl
      ∙ ap (λ (n : ℕ). Some (record { id = id; vector = vector_in known.shape n image })) zeroth))

  -- each vector lies in its cell
  pub cells_are_own : selected_in image ≡ known.region → Stands kept image → AreOwnCells (contents_of known image)
  cells_are_own selected stands = all_cells (IsOwn (contents_of known image)) 0 known.ids
      (λ k id lives. (let zeroth : k ≡ 0 + k = omega arith in subst (λ (n : ℕ). IsOwn (contents_of known image) (n, id)) zeroth (own_here k id lives)))
    where
      own_here : (p id : ℕ) → LivesAt id p known.ids → IsOwn (contents_of known image) (p, id)
      own_here p id lives =
          let vector = vector_in known.shape p image in
          let there = vector_of known kept p id image vector is stands.opens (inside_of p id lives) lives refl in
          let inside : p < kept.shape.capacity = omega (arith, inside_of p id lives, ap (λ (s : Shape). s.capacity) is.shape) in
          let item : Item = record { id = id; vector = vector } in
          let bytes = subst (λ (s : Shape). IsVector s.dims vector) (sym is.shape) (stands.items p item there).vector in
          let own : code_in known.shape known.region p image ≡ packed known.shape (cell known.marks vector) =
          ap (λ (s : Shape). code_in s known.region p image) is.shape ∙ ap (λ (r : Region). code_in kept.shape r p image) (sym selected)
          ∙ stands.own.codes p item inside there
          ∙ sym (ap (λ (s : Shape). packed s (cell kept.marks vector)) is.shape) ∙ sym (ap (λ (m : List (List ℕ)). packed known.shape (cell m vector)) is.marks) in
          (bytes, own_slices known.shape known.marks (code_in known.shape known.region p image) vector orderly.shape orderly.fit orderly.valid bytes own)
