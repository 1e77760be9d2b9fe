-- An index, once an id has come or gone.
use Rattle.std.proofs.Common.{◌≡◌, ◌⊎◌, ⊎_elim, inl, inr, ℕ, zero, suc, ◌+◌, ◌-◌, ◌≤◌, ◌<◌, List, [], ◌∷◌, length, get_or, set, true, false, ltb, replicate, if◌then◌else◌, Option, None, Some, Result, Ok, Err, OnErr, is_ok, refl, sym, ◌∙◌, ap, subst, arith}
use Rattle.std.specs.List.{insert, remove}
use Rattle.std.proofs.lemmas.Bool.{cases_order}
use Rattle.std.proofs.lemmas.List.Edits.{get_or-insert_at, get_or-insert_below, get_or-insert_above, length-remove, get_or-remove_below, get_or-remove_above}
use Rattle.va_store.specs.Ids.{LivesAt, live_count}
use Rattle.va_store.specs.Index.{IsAscending, IsIndex, Lists}
use Rattle.va_store.specs.declared.index.LiveId.{LiveId}

pub count_more : (ids : List (Option ℕ)) (place id : ℕ) → place < length ids → get_or ids place None ≡ None → live_count (set ids place (Some id)) ≡ live_count ids + 1
count_more [] place id inside empty = absurd (omega (arith, inside))
count_more (None ∷ ids) zero id inside empty = refl
count_more (Some x ∷ ids) zero id inside empty = cc
count_more (None ∷ ids) (suc place) id inside empty = count_more ids place id (omega (arith, inside)) empty
count_more (Some x ∷ ids) (suc place) id inside empty = ap (λ (n : ℕ). n + 1) (count_more ids place id (omega (arith, inside)) empty)

pub count_fewer : (ids : List (Option ℕ)) (place id : ℕ) → get_or ids place None ≡ Some id → live_count (set ids place None) + 1 ≡ live_count ids
count_fewer [] place id lives = cc
count_fewer (None ∷ ids) zero id lives = cc
count_fewer (Some x ∷ ids) zero id lives = refl
count_fewer (None ∷ ids) (suc place) id lives = count_fewer ids place id lives
count_fewer (Some x ∷ ids) (suc place) id lives = ap (λ (n : ℕ). n + 1) (count_fewer ids place id lives)

pub count_most : (ids : List (Option ℕ)) → live_count ids ≤ length ids
count_most [] = omega arith
count_most (None ∷ ids) = omega (arith, count_most ids)
count_most (Some x ∷ ids) = omega (arith, count_most ids)

-- where a place is empty there is room for an entry
pub count_room : (ids : List (Option ℕ)) (place : ℕ) → place < length ids → get_or ids place None ≡ None → live_count ids < length ids
count_room [] place inside empty = absurd (omega (arith, inside))
count_room (None ∷ ids) zero inside empty = omega (arith, count_most ids)
count_room (Some x ∷ ids) zero inside empty = cc
count_room (None ∷ ids) (suc place) inside empty = omega (arith, count_room ids place (omega (arith, inside)) empty)
count_room (Some x ∷ ids) (suc place) inside empty = omega (arith, count_room ids place (omega (arith, inside)) empty)

pub inside_of_live : (ids : List (Option ℕ)) (place id : ℕ) → LivesAt id place ids → place < length ids
inside_of_live [] place id lives = cc
inside_of_live (x ∷ ids) zero id lives = omega arith
inside_of_live (x ∷ ids) (suc place) id lives = omega (arith, inside_of_live ids place id lives)

pub some_same : (a b : ℕ) → Some a ≡ Some b → a ≡ b
some_same a b e = cc

-- an index below a place, at it, or behind it
pub spot : (j at : ℕ) → (j < at) ⊎ ((j ≡ at) ⊎ ((k : ℕ) × (j ≡ k + 1) × (at ≤ k)))
spot j at = ⊎_elim (λ same. inr (inl same)) (λ order. ⊎_elim (λ lt. inl lt) (λ gt. inr (inr (j - 1, omega (arith, gt), omega (arith, gt)))) order) (cases_order j at)

-- what holds of each entry once one was put in
pub each_inserted : (entries : List LiveId) (at : ℕ) (e other : LiveId) (P : ℕ → LiveId → Type 0) → at ≤ length entries
    → ((j : ℕ) → j < at → P j (get_or entries j other)) → P at e → ((k : ℕ) → at ≤ k → k < length entries → P (k + 1) (get_or entries k other))
    → (j : ℕ) → j < length entries + 1 → P j (get_or (insert entries at e) j other)
each_inserted entries at e other P le below here above j inside =
    let new = insert entries at e in
    ⊎_elim
    (λ lt. subst (λ (x : LiveId). P j x) (sym (get_or-insert_below entries at e other j lt le)) (below j lt))
    (λ rest. ⊎_elim
    (λ same. subst (λ (i : ℕ). P i (get_or new i other)) (sym same) (subst (λ (x : LiveId). P at x) (sym (get_or-insert_at entries at e other le)) here))
    (λ k. subst (λ (i : ℕ). P i (get_or new i other)) (sym k.1) (subst (λ (x : LiveId). P (k.0 + 1) x) (sym (get_or-insert_above entries at e other k.0 k.2 le)) (above k.0 k.2 (omega (arith, k.1, inside)))))
    rest)
    (spot j at)

-- what holds of each entry once one was taken out
pub each_removed : (entries : List LiveId) (at : ℕ) (other : LiveId) (P : ℕ → LiveId → Type 0) → at < length entries
    → ((j : ℕ) → j < at → P j (get_or entries j other)) → ((k : ℕ) → at ≤ k → k + 1 < length entries → P k (get_or entries (k + 1) other))
    → (j : ℕ) → j < length (remove entries at) → P j (get_or (remove entries at) j other)
each_removed entries at other P less below above j inside =
    let behind : at ≤ j → P j (get_or (remove entries at) j other) = λ le.
    subst (λ (x : LiveId). P j x) (sym (get_or-remove_above entries at other j le less)) (above j le (omega (arith, inside, length-remove entries at less))) in
    ⊎_elim (λ same. behind (omega (arith, same))) (λ order. ⊎_elim
    (λ lt. subst (λ (x : LiveId). P j x) (sym (get_or-remove_below entries at other j lt less)) (below j lt))
    (λ gt. behind (omega (arith, gt))) order)
    (cases_order j at)

-- the place between the lesser ids and the others
pub record IsPosition (entries : List LiveId) (id at : ℕ) : Type 0 where
  pub bound : at ≤ length entries
  pub below : (i : ℕ) (other : LiveId) → i < at → (get_or entries i other).id < id
  pub above : (i : ℕ) (other : LiveId) → at ≤ i → i < length entries → id ≤ (get_or entries i other).id

-- an id that lives has its entry there
pub found : (ids : List (Option ℕ)) (entries : List LiveId) (id place at : ℕ) → IsIndex ids entries → IsPosition entries id at → LivesAt id place ids → Lists id place entries
    × ((at < length entries) × ((other : LiveId) → get_or entries at other ≡ record { id = id; place = place }))
found ids entries id place at index here lives =
    let old = index.all id place lives in
    let e : LiveId = record { id = id; place = place } in
    let same : old.at ≡ at = ⊎_elim (λ same. same) (λ order. ⊎_elim
    (λ lt. absurd (let less = here.below old.at e lt in let is = ap (λ (x : LiveId). x.id) (old.is e) in omega (arith, less, is)))
    (λ gt. absurd (let first = index.ascending at old.at e gt old.inside in let most = here.above at e (omega arith) (omega (arith, gt, old.inside)) in let is = ap (λ (x : LiveId). x.id) (old.is e) in omega (arith, first, most, is)))
    order) (cases_order old.at at) in
    (old, (rw same at old.inside, rw same at old.is))

less_of : (a b : ℕ) → ltb a b ≡ true → a < b
less_of a b is = grind (arith, is)

lt_true : (a b : ℕ) → a < b → ltb a b ≡ true
lt_true a b lt = grind (arith, lt)

not_less_of : (a b : ℕ) → ltb a b ≡ false → b ≤ a
not_less_of a b is = grind (arith, is)

-- ids below a number come before the others
pub partitioned : (entries : List LiveId) (least : ℕ) → IsAscending entries → (i j : ℕ) (other : LiveId) → i ≤ j → j < length entries → ltb (get_or entries j other).id least ≡ true → ltb (get_or entries i other).id least ≡ true
partitioned entries least ascending i j other le less is = ⊎_elim
    (λ same. subst (λ (n : ℕ). ltb (get_or entries n other).id least ≡ true) (sym same) is)
    (λ order. ⊎_elim
    (λ lt. (let first = ascending i j other lt less in let next = less_of (get_or entries j other).id least is in lt_true (get_or entries i other).id least (omega (arith, first, next))))
    (λ gt. absurd (omega (arith, gt, le))) order)
    (cases_order i j)

pub position_of : (entries : List LiveId) (least at : ℕ) → at ≤ length entries
    → ((k : ℕ) (d : LiveId) → 0 ≤ k → k < at → ltb (get_or entries k d).id least ≡ true) → ((k : ℕ) (d : LiveId) → at ≤ k → k < length entries → ltb (get_or entries k d).id least ≡ false)
    → IsPosition entries least at
position_of entries least at le lesser others = record {
  bound = le;
  below = λ i other lt. less_of (get_or entries i other).id least (lesser i other (omega arith) lt);
  above = λ i other le' less. not_less_of (get_or entries i other).id least (others i other le' less);
}

pub position_at : (now items : List LiveId) (least id at : ℕ) → now ≡ items → least ≡ id → at ≤ length now
    → ((i : ℕ) (other : LiveId) → i < at → (get_or now i other).id < least) → ((i : ℕ) (other : LiveId) → at ≤ i → i < length now → least ≤ (get_or now i other).id)
    → IsPosition items id at
position_at now items least id at same is le below above =
    subst (λ (l : List LiveId). IsPosition l id at) same (subst (λ (n : ℕ). IsPosition now n at) is (record { bound = le; below = below; above = above }))

lives_nowhere : (n place id : ℕ) → LivesAt id place (replicate n None) → ⊥
lives_nowhere zero place id lives = cc
lives_nowhere (suc n) zero id lives = cc
lives_nowhere (suc n) (suc place) id lives = lives_nowhere n place id lives

none_live : (n : ℕ) → live_count (replicate n None) ≡ 0
none_live zero = refl
none_live (suc n) = none_live n

-- no id lives anywhere
pub index_empty : (n : ℕ) → IsIndex (replicate n None) []
index_empty n = record {
  ascending = λ i j other lt less. absurd (omega (arith, less));
  live = λ i other less. absurd (omega (arith, less));
  all = λ id place lives. absurd (lives_nowhere n place id lives);
  count = sym (none_live n);
}

-- a call that can't have failed
pub ok_items : {T E : Type 0} (r : Result T E) (a b new : List LiveId) (full : Type 0) → (full → ⊥) → OnErr r full → new ≡ (if is_ok r then a else b) → new ≡ a
ok_items (Ok x) a b new full never failed e = e
ok_items (Err x) a b new full never failed e = absurd (never failed)

module _ (ids : List (Option ℕ)) (entries : List LiveId) (id at : ℕ) (index : IsIndex ids entries) (here : IsPosition entries id at) where
  pub missing_at_end : (place : ℕ) → at ≡ length entries → LivesAt id place ids → ⊥
  missing_at_end place same lives = let there = found ids entries id place at index here lives in omega (arith, there.1.0, same)

  module _ (entry : LiveId) (is : entry ≡ get_or entries at entry) where
    its_entry : (place : ℕ) → LivesAt id place ids → entry ≡ record { id = id; place = place }
    its_entry place lives = is ∙ (found ids entries id place at index here lives).1.1 entry

    pub missing_there : (place : ℕ) → (entry.id ≡ id → ⊥) → LivesAt id place ids → ⊥
    missing_there place ne lives = ne (ap (λ (x : LiveId). x.id) (its_entry place lives))

    pub place_is : (place : ℕ) → LivesAt id place ids → Some entry.place ≡ Some place
    place_is place lives = ap (λ (x : LiveId). Some x.place) (its_entry place lives)

    pub lives_there : (place : ℕ) → at < length entries → entry.id ≡ id → Some entry.place ≡ Some place → LivesAt id place ids
    lives_there place less same e =
        let lives : LivesAt entry.id entry.place ids = subst (λ (x : LiveId). LivesAt x.id x.place ids) (sym is) (index.live at entry less) in
        subst (λ (x : ℕ). LivesAt x place ids) same (get_or_place lives e)
      where
        get_or_place : LivesAt entry.id entry.place ids → Some entry.place ≡ Some place → LivesAt entry.id place ids
        get_or_place lives e = let p : entry.place ≡ place = cc in subst (λ (q : ℕ). LivesAt entry.id q ids) p lives

-- each live id from a number on has its entry behind the position
pub entry_behind : (ids : List (Option ℕ)) (entries : List LiveId) (least at id place : ℕ) → IsIndex ids entries → IsPosition entries least at → LivesAt id place ids → least ≤ id
    → (i : ℕ) × (at ≤ i) × (i < length entries) × ((other : LiveId) → (get_or entries i other).id ≡ id)
entry_behind ids entries least at id place index here lives le =
    let old = index.all id place lives in
    let e : LiveId = record { id = id; place = place } in
    let id_at : (other : LiveId) → (get_or entries old.at other).id ≡ id = λ other. ap (λ (x : LiveId). x.id) (old.is other) in (
      old.at,
      ⊎_elim (λ same. omega (arith, same)) (λ order. ⊎_elim
          (λ lt. absurd (let less = here.below old.at e lt in let is = id_at e in omega (arith, less, is, le)))
          (λ gt. omega (arith, gt)) order) (cases_order old.at at),
      old.inside,
      id_at,
    )

-- the entry at the position is the least from the number on
pub next_least : (ids : List (Option ℕ)) (entries : List LiveId) (least at id place : ℕ) → IsIndex ids entries → IsPosition entries least at → LivesAt id place ids → least ≤ id
    → (entry : LiveId) → entry ≡ get_or entries at entry → entry.id ≤ id
next_least ids entries least at id place index here lives le entry is =
    let behind = entry_behind ids entries least at id place index here lives le in
    let id_is : (get_or entries behind.0 entry).id ≡ id = behind.3 entry in
    let first : entry.id ≡ (get_or entries at entry).id = ap (λ (x : LiveId). x.id) is in
    ⊎_elim
    (λ same. (let e = ap (λ (i : ℕ). (get_or entries i entry).id) same in omega (arith, e, id_is, first)))
    (λ order. ⊎_elim
    (λ lt. (let e = index.ascending at behind.0 entry lt behind.2 in omega (arith, e, id_is, first)))
    (λ gt. absurd (omega (arith, gt, behind.1))) order)
    (cases_order at behind.0)
