-- An index once an id has come or gone.
use Rattle.std.proofs.Common.{◌≡◌, ◌⊎◌, ⊎_elim, inl, inr, ℕ, ◌+◌, ◌-◌, ◌≤◌, ◌<◌, List, length, get_or, set, Option, None, Some, sym, ◌∙◌, ap, subst, arith}
use Rattle.std.specs.List.{insert, remove}
use Rattle.std.proofs.lemmas.Bool.{cases_eq, cases_order}
use Rattle.std.proofs.lemmas.List.{get_or-set_same, get_or-set_other}
use Rattle.std.proofs.lemmas.List.Edits.{get_or-insert_at, get_or-insert_below, get_or-insert_above, length-insert, length-remove, get_or-remove_below, get_or-remove_above}
use Rattle.va_store.specs.Ids.{LivesAt, LivesNowhere}
use Rattle.va_store.specs.Index.{IsAscending, IsIndex, Lists}
use Rattle.va_store.specs.declared.index.LiveId.{LiveId}
use Rattle.va_store.proofs.Indexing.{IsPosition, each_inserted, each_removed, spot, count_more, count_fewer, inside_of_live, some_same}

below_or : (a b : ℕ) → (a < b) ⊎ (b ≤ a)
below_or a b = ⊎_elim (λ same. inr (omega (arith, same))) (λ order. ⊎_elim (λ lt. inl lt) (λ gt. inr (omega (arith, gt))) order) (cases_order a b)

-- an id that lives elsewhere lives on
lives_beside : (ids : List (Option ℕ)) (place p x : ℕ) (new : Option ℕ) → (p ≡ place → ⊥) → LivesAt x p ids → LivesAt x p (set ids place new)
lives_beside ids place p x new ne lives = get_or-set_other ids place p new None ne ∙ lives

lived_beside : (ids : List (Option ℕ)) (place p x : ℕ) (new : Option ℕ) → (p ≡ place → ⊥) → LivesAt x p (set ids place new) → LivesAt x p ids
lived_beside ids place p x new ne lives = sym (get_or-set_other ids place p new None ne) ∙ lives

none_there : (ids : List (Option ℕ)) (place p x : ℕ) → get_or ids place None ≡ None → LivesAt x p ids → p ≡ place → ⊥
none_there ids place p x empty lives same = let e : None ≡ Some x = sym empty ∙ ap (λ (q : ℕ). get_or ids q None) (sym same) ∙ lives in cc

module _ (ids : List (Option ℕ)) (entries : List LiveId) (place id at : ℕ) (index : IsIndex ids entries) where
  module _ (inside : place < length ids) (empty : get_or ids place None ≡ None) (absent : LivesNowhere id ids) (here : IsPosition entries id at) where
    abbrev entry : LiveId
    entry = record { id = id; place = place }

    abbrev ids_after : List (Option ℕ)
    ids_after = set ids place (Some id)

    -- the entries behind have greater ids
    greater : (k : ℕ) (other : LiveId) → at ≤ k → k < length entries → id < (get_or entries k other).id
    greater k other le less = ⊎_elim
        (λ same. absurd (absent (get_or entries k other).place (subst (λ (x : ℕ). LivesAt x (get_or entries k other).place ids) (sym same) (index.live k other less))))
        (λ order. ⊎_elim (λ lt. lt) (λ gt. absurd (omega (arith, gt, here.above k other le less))) order)
        (cases_order id (get_or entries k other).id)

    first_less : (k : ℕ) (other : LiveId) → at ≤ k → k < length entries → (i : ℕ) → i < k + 1 → (get_or (insert entries at entry) i other).id < (get_or entries k other).id
    first_less k other le less i lt = ⊎_elim
        (λ below. subst (λ (x : LiveId). x.id < (get_or entries k other).id) (sym (get_or-insert_below entries at entry other i below here.bound)) (index.ascending i k other (omega (arith, below, le)) less))
        (λ rest. ⊎_elim
        (λ same. subst (λ (n : ℕ). (get_or (insert entries at entry) n other).id < (get_or entries k other).id) (sym same)
        (subst (λ (x : LiveId). x.id < (get_or entries k other).id) (sym (get_or-insert_at entries at entry other here.bound)) (greater k other le less)))
        (λ m. subst (λ (n : ℕ). (get_or (insert entries at entry) n other).id < (get_or entries k other).id) (sym m.1)
        (subst (λ (x : LiveId). x.id < (get_or entries k other).id) (sym (get_or-insert_above entries at entry other m.0 m.2 here.bound)) (index.ascending m.0 k other (omega (arith, m.1, lt)) less)))
        rest)
        (spot i at)

    still_first : IsAscending (insert entries at entry)
    still_first i j other lt inner = each_inserted entries at entry other (λ j x. (i : ℕ) → i < j → (get_or (insert entries at entry) i other).id < x.id) here.bound
        (λ j below i lt. subst (λ (x : LiveId). x.id < (get_or entries j other).id) (sym (get_or-insert_below entries at entry other i (omega (arith, below, lt)) here.bound))
        (index.ascending i j other lt (omega (arith, below, here.bound))))
        (λ i lt. subst (λ (x : LiveId). x.id < id) (sym (get_or-insert_below entries at entry other i lt here.bound)) (here.below i other lt))
        (λ k le less i lt. first_less k other le less i lt)
        j (omega (arith, inner, length-insert entries at entry here.bound)) i lt

    still_live : (j : ℕ) (other : LiveId) → j < length (insert entries at entry) → LivesAt (get_or (insert entries at entry) j other).id (get_or (insert entries at entry) j other).place ids_after
    still_live j other inner = each_inserted entries at entry other (λ j x. LivesAt x.id x.place ids_after) here.bound
        (λ j below. beside (get_or entries j other) (index.live j other (omega (arith, below, here.bound))))
        (get_or-set_same ids place (Some id) None inside)
        (λ k le less. beside (get_or entries k other) (index.live k other less))
        j (omega (arith, inner, length-insert entries at entry here.bound))
      where
        beside : (x : LiveId) → LivesAt x.id x.place ids → LivesAt x.id x.place ids_after
        beside x lives = lives_beside ids place x.place x.id (Some id) (none_there ids place x.place x.id empty lives) lives

    all_listed : (x p : ℕ) → LivesAt x p ids_after → Lists x p (insert entries at entry)
    all_listed x p lives = ⊎_elim
        (λ same. (let is : Some id ≡ Some x = sym (get_or-set_same ids place (Some id) None inside) ∙ ap (λ (q : ℕ). get_or ids_after q None) (sym same) ∙ lives in
        let id_is : id ≡ x = some_same id x is in
        record {
          at = at;
          inside = omega (arith, length-insert entries at entry here.bound, here.bound);
          is = λ other. get_or-insert_at entries at entry other here.bound ∙ ap (λ (n : ℕ). record { id = n; place = place }) id_is ∙ ap (λ (n : ℕ). record { id = x; place = n }) (sym same);
        }))
        (λ ne. (let old = index.all x p (lived_beside ids place p x (Some id) ne lives) in ⊎_elim
        (λ below. record {
          at = old.at;
          inside = omega (arith, length-insert entries at entry here.bound, old.inside);
          is = λ other. get_or-insert_below entries at entry other old.at below here.bound ∙ old.is other;
        })
        (λ le. record {
          at = old.at + 1;
          inside = omega (arith, length-insert entries at entry here.bound, old.inside);
          is = λ other. get_or-insert_above entries at entry other old.at le here.bound ∙ old.is other;
        })
        (below_or old.at at)))
        (cases_eq p place)

    -- an id came
    pub filled : IsIndex ids_after (insert entries at entry)
    filled = record {
      ascending = still_first;
      live = still_live;
      all = all_listed;
      count = length-insert entries at entry here.bound ∙ ap (λ (n : ℕ). n + 1) index.count ∙ sym (count_more ids place id inside empty);
    }

  module _ (at_in : at < length entries) (there : (other : LiveId) → get_or entries at other ≡ record { id = id; place = place }) (lives : LivesAt id place ids) where
    abbrev ids_left : List (Option ℕ)
    ids_left = set ids place None

    -- the entries beside it have other places
    elsewhere : (i : ℕ) (other : LiveId) → i < length entries → (i ≡ at → ⊥) → (get_or entries i other).place ≡ place → ⊥
    elsewhere i other less ne same =
        let is : Some (get_or entries i other).id ≡ Some id = sym (index.live i other less) ∙ ap (λ (q : ℕ). get_or ids q None) same ∙ lives in
        let id_is : (get_or entries i other).id ≡ id = some_same (get_or entries i other).id id is in
        let at_is : (get_or entries at other).id ≡ id = ap (λ (x : LiveId). x.id) (there other) in
        ⊎_elim (λ same_at. ne same_at) (λ order. ⊎_elim
        (λ lt. let e = index.ascending i at other lt at_in in omega (arith, e, id_is, at_is))
        (λ gt. let e = index.ascending at i other gt less in omega (arith, e, id_is, at_is)) order)
        (cases_order i at)

    left_first : IsAscending (remove entries at)
    left_first i j other lt inner = each_removed entries at other (λ j x. (i : ℕ) → i < j → (get_or (remove entries at) i other).id < x.id) at_in
        (λ j below i lt. subst (λ (x : LiveId). x.id < (get_or entries j other).id) (sym (get_or-remove_below entries at other i (omega (arith, below, lt)) at_in))
        (index.ascending i j other lt (omega (arith, below, at_in))))
        (λ k le less i lt. ⊎_elim
        (λ below. subst (λ (x : LiveId). x.id < (get_or entries (k + 1) other).id) (sym (get_or-remove_below entries at other i below at_in)) (index.ascending i (k + 1) other (omega (arith, lt)) less))
        (λ behind. subst (λ (x : LiveId). x.id < (get_or entries (k + 1) other).id) (sym (get_or-remove_above entries at other i behind at_in)) (index.ascending (i + 1) (k + 1) other (omega (arith, lt)) less))
        (below_or i at))
        j inner i lt

    left_live : (j : ℕ) (other : LiveId) → j < length (remove entries at) → LivesAt (get_or (remove entries at) j other).id (get_or (remove entries at) j other).place ids_left
    left_live j other inner = each_removed entries at other (λ j x. LivesAt x.id x.place ids_left) at_in
        (λ j below. stays j (omega (arith, below, at_in)) (λ same. omega (arith, below, same)))
        (λ k le less. stays (k + 1) less (λ same. omega (arith, le, same)))
        j inner
      where
        stays : (i : ℕ) → i < length entries → (i ≡ at → ⊥) → LivesAt (get_or entries i other).id (get_or entries i other).place ids_left
        stays i less ne = lives_beside ids place (get_or entries i other).place (get_or entries i other).id None (elsewhere i other less ne) (index.live i other less)

    left_listed : (x p : ℕ) → LivesAt x p ids_left → Lists x p (remove entries at)
    left_listed x p left =
        let ne : p ≡ place → ⊥ = λ same.
        (let e : None ≡ Some x = sym (get_or-set_same ids place None None (inside_of_live ids place id lives)) ∙ ap (λ (q : ℕ). get_or ids_left q None) (sym same) ∙ left in cc) in
        let old = index.all x p (lived_beside ids place p x None ne left) in
        let e : LiveId = record { id = x; place = p } in
        let not_at : old.at ≡ at → ⊥ = λ same. ne (sym (ap (λ (y : LiveId). y.place) (ap (λ (i : ℕ). get_or entries i e) (sym same) ∙ old.is e)) ∙ ap (λ (y : LiveId). y.place) (there e)) in
        ⊎_elim
        (λ below. record {
          at = old.at;
          inside = omega (arith, below, at_in, length-remove entries at at_in);
          is = λ other. get_or-remove_below entries at other old.at below at_in ∙ old.is other;
        })
        (λ le. (let less : at < old.at = omega (arith, le, not_at) in
        let next : old.at - 1 + 1 ≡ old.at = omega (arith, less) in
        record {
          at = old.at - 1;
          inside = omega (arith, less, old.inside, length-remove entries at at_in);
          is = λ other. get_or-remove_above entries at other (old.at - 1) (omega (arith, less)) at_in ∙ ap (λ (i : ℕ). get_or entries i other) next ∙ old.is other;
        }))
        (below_or old.at at)

    -- an id went
    pub cleared : IsIndex ids_left (remove entries at)
    cleared = record {
      ascending = left_first;
      live = left_live;
      all = left_listed;
      count = omega (arith, length-remove entries at at_in, index.count, count_fewer ids place id lives);
    }
