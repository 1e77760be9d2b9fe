-- The live ids above another are the next one, and those above it.
use Rattle.std.proofs.Common.{◌≡◌, ◌⊎◌, ⊎_elim, inl, inr, ℕ, zero, suc, ◌+◌, ◌≤◌, ◌<◌, List, [], ◌∷◌, length, get_or, Bool, true, false, if◌then◌else◌, Option, Some, None, refl, sym, ◌∙◌, ap, subst, arith}
use Rattle.std.proofs.lemmas.Bool.{cases_eq, cases_lt, lt-ltb, le-ltb}
use Rattle.std.proofs.lemmas.List.{get_or_default}
use Rattle.std.specs.List.{AllByRecursion}
use Rattle.va_core.specs.Above.{is_above, live_above, placed}
use Rattle.va_store.specs.Ids.{IsAbove, IsNextLive, LivesAt}
use Rattle.va_store.specs.Index.{IsIndex}
use Rattle.va_store.specs.declared.index.LiveId.{LiveId}

some_same : (a b : ℕ) → Some a ≡ Some b → a ≡ b
some_same a b e = cc

above_cases : (after : Option ℕ) (id : ℕ) → IsAbove after id ⊎ (IsAbove after id → ⊥)
above_cases None id = inl tt
above_cases (Some after) id = ⊎_elim (λ less. inl less) (λ le. inr (λ less. omega (arith, le, less))) (cases_lt after id)

above_true : (after : Option ℕ) (id : ℕ) → IsAbove after id → is_above after id ≡ true
above_true None id above = refl
above_true (Some after) id above = lt-ltb after id above

above_false : (after : Option ℕ) (id : ℕ) → (IsAbove after id → ⊥) → is_above after id ≡ false
above_false None id out = absurd (out tt)
above_false (Some after) id out = ⊎_elim (λ less. absurd (out less)) (λ le. le-ltb after id le) (cases_lt after id)

-- what isn't above another is at most what is
at_most : (after : Option ℕ) (n x : ℕ) → IsAbove after n → (IsAbove after x → ⊥) → x ≤ n
at_most None n x above out = absurd (out tt)
at_most (Some after) n x above out = ⊎_elim (λ less. absurd (out less)) (λ le. omega (arith, le, above)) (cases_lt after x)

placed_all : (P : ℕ → Type 0) (x : ℕ) (l : List ℕ) → P x → AllByRecursion P l → AllByRecursion P (placed x l)
placed_all P x [] here all = (here, tt)
placed_all P x (y ∷ l) here all = ⊎_elim
    (λ less. subst (λ (b : Bool). AllByRecursion P (if b then y ∷ placed x l else x ∷ y ∷ l)) (sym (lt-ltb y x less)) (all.0, placed_all P x l here all.1))
    (λ le. subst (λ (b : Bool). AllByRecursion P (if b then y ∷ placed x l else x ∷ y ∷ l)) (sym (le-ltb y x le)) (here, (all.0, all.1)))
    (cases_lt y x)

placed_first : (n : ℕ) (l : List ℕ) → AllByRecursion (λ x. n < x) l → placed n l ≡ n ∷ l
placed_first n [] all = refl
placed_first n (y ∷ l) all = ap (λ (b : Bool). if b then y ∷ placed n l else n ∷ y ∷ l) (le-ltb y n (omega (arith, all.0)))

placed_behind : (x n : ℕ) (l : List ℕ) → n < x → placed x (n ∷ l) ≡ n ∷ placed x l
placed_behind x n l less = ap (λ (b : Bool). if b then n ∷ placed x l else x ∷ n ∷ l) (lt-ltb n x less)

module _ (after : Option ℕ) (x : ℕ) (ids : List (Option ℕ)) where
  taken : IsAbove after x → live_above after (Some x ∷ ids) ≡ placed x (live_above after ids)
  taken above = ap (λ (b : Bool). if b then placed x (live_above after ids) else live_above after ids) (above_true after x above)

  passed : (IsAbove after x → ⊥) → live_above after (Some x ∷ ids) ≡ live_above after ids
  passed out = ap (λ (b : Bool). if b then placed x (live_above after ids) else live_above after ids) (above_false after x out)

not_below : {n x : ℕ} → x ≤ n → n < x → ⊥
not_below {n} {x} le less = omega (arith, le, less)

above_floor : (n : ℕ) (ids : List (Option ℕ)) → AllByRecursion (λ x. n < x) (live_above (Some n) ids)
above_floor n [] = tt
above_floor n (None ∷ ids) = above_floor n ids
above_floor n (Some x ∷ ids) = ⊎_elim
    (λ less. subst (λ (l : List ℕ). AllByRecursion (λ y. n < y) l) (sym (taken (Some n) x ids less)) (placed_all (λ y. n < y) x (live_above (Some n) ids) less (above_floor n ids)))
    (λ le. subst (λ (l : List ℕ). AllByRecursion (λ y. n < y) l) (sym (passed (Some n) x ids (not_below le))) (above_floor n ids))
    (cases_lt n x)

-- no id is above
pub none_above : (after : Option ℕ) (ids : List (Option ℕ)) → IsNextLive after ids None → live_above after ids ≡ []
none_above after [] none = refl
none_above after (None ∷ ids) none = none_above after ids (λ id place lives. none id (suc place) lives)
none_above after (Some x ∷ ids) none = passed after x ids (λ above. none x 0 refl above) ∙ none_above after ids (λ id place lives. none id (suc place) lives)

-- what is above one id is above the next
above_stays : (after : Option ℕ) (n : ℕ) (ids : List (Option ℕ)) → IsAbove after n → ((id place : ℕ) → LivesAt id place ids → IsAbove after id → n < id) → live_above after ids ≡ live_above (Some n) ids
above_stays after n [] above all = refl
above_stays after n (None ∷ ids) above all = above_stays after n ids above (λ id place lives. all id (suc place) lives)
above_stays after n (Some x ∷ ids) above all =
    let behind = above_stays after n ids above (λ id place lives. all id (suc place) lives) in
    ⊎_elim
    (λ here. taken after x ids here ∙ ap (placed x) behind ∙ sym (taken (Some n) x ids (all x 0 refl here)))
    (λ no. passed after x ids no ∙ behind ∙ sym (passed (Some n) x ids (not_below (at_most after n x above no))))
    (above_cases after x)

next_from : (after : Option ℕ) (n : ℕ) (ids : List (Option ℕ)) (place : ℕ) → LivesAt n place ids → IsAbove after n → ((id p : ℕ) → LivesAt id p ids → IsAbove after id → n ≤ id)
    → ((p q : ℕ) → LivesAt n p ids → LivesAt n q ids → p ≡ q) → live_above after ids ≡ n ∷ live_above (Some n) ids
next_from after n [] place lives above least once = cc
next_from after n (None ∷ ids) zero lives above least once = cc
next_from after n (None ∷ ids) (suc place) lives above least once =
    next_from after n ids place lives above (λ id p at. least id (suc p) at) (λ p q at at'. (let same = once (suc p) (suc q) at at' in omega (arith, same)))
next_from after n (Some x ∷ ids) zero lives above least once =
    let same : x ≡ n = some_same x n lives in
    let greater : (id p : ℕ) → LivesAt id p ids → IsAbove after id → n < id =
    λ id p at over. ⊎_elim
    (λ is. absurd (let no = once 0 (suc p) lives (subst (λ (k : ℕ). LivesAt k p ids) is at) in omega (arith, no)))
    (λ ne. (let le = least id (suc p) at over in ⊎_elim (λ less. less) (λ back. absurd (ne (omega (arith, le, back)))) (cases_lt n id)))
    (cases_eq id n) in
    taken after x ids (subst (λ (k : ℕ). IsAbove after k) (sym same) above)
    ∙ ap (λ (k : ℕ). placed k (live_above after ids)) same
    ∙ ap (placed n) (above_stays after n ids above greater)
    ∙ placed_first n (live_above (Some n) ids) (above_floor n ids)
    ∙ ap (λ (l : List ℕ). n ∷ l) (sym (passed (Some n) x ids (not_below (omega (arith, same)))))
next_from after n (Some x ∷ ids) (suc place) lives above least once =
    let behind = next_from after n ids place lives above (λ id p at. least id (suc p) at) (λ p q at at'. (let same = once (suc p) (suc q) at at' in omega (arith, same))) in
    let other : x ≡ n → ⊥ = λ is. (let no = once 0 (suc place) (ap (λ (k : ℕ). Some k) is) lives in omega (arith, no)) in
    ⊎_elim
    (λ here. (let le = least x 0 refl here in
    let less : n < x = ⊎_elim (λ l. l) (λ back. absurd (other (omega (arith, le, back)))) (cases_lt n x) in
    taken after x ids here ∙ ap (placed x) behind ∙ placed_behind x n (live_above (Some n) ids) less ∙ ap (λ (l : List ℕ). n ∷ l) (sym (taken (Some n) x ids less))))
    (λ no. passed after x ids no ∙ behind ∙ ap (λ (l : List ℕ). n ∷ l) (sym (passed (Some n) x ids (not_below (at_most after n x above no)))))
    (above_cases after x)

pub next_above : (after : Option ℕ) (n : ℕ) (ids : List (Option ℕ)) → IsNextLive after ids (Some n) → ((p q : ℕ) → LivesAt n p ids → LivesAt n q ids → p ≡ q) → live_above after ids ≡ n ∷ live_above (Some n) ids
next_above after n ids next once = next_from after n ids next.0.0 next.0.1 next.1 next.2 once

-- the entries from a number on are those above an id
pub record BeginsAt (after : Option ℕ) (at : ℕ) (entries : List LiveId) : Type 0 where
  pub within : at ≤ length entries
  pub below : (i : ℕ) (other : LiveId) → i < at → IsAbove after (get_or entries i other).id → ⊥
  pub above : (i : ℕ) (other : LiveId) → at ≤ i → i < length entries → IsAbove after (get_or entries i other).id

module _ {ids : List (Option ℕ)} {entries : List LiveId} (index : IsIndex ids entries) where
  none_behind : (after : Option ℕ) (at : ℕ) → BeginsAt after at entries → at ≡ length entries → IsNextLive after ids None
  none_behind after at begins end id place lives over =
      let listed = index.all id place lives in
      let other : LiveId = record { id = 0; place = 0 } in
      begins.below listed.at other (omega (arith, listed.inside, end)) (subst (λ (e : LiveId). IsAbove after e.id) (sym (listed.is other)) over)

  first_behind : (after : Option ℕ) (at : ℕ) (other : LiveId) → BeginsAt after at entries → at < length entries → IsNextLive after ids (Some (get_or entries at other).id)
  first_behind after at other begins less = (
    ((get_or entries at other).place, index.live at other less),
    begins.above at other (omega arith) less,
    λ id place lives over. (let listed = index.all id place lives in
        ⊎_elim
        (λ before. absurd (begins.below listed.at other before (subst (λ (e : LiveId). IsAbove after e.id) (sym (listed.is other)) over)))
        (λ from. ⊎_elim
        (λ same. (let is : (get_or entries at other).id ≡ id = ap (λ (k : ℕ). (get_or entries k other).id) (sym same) ∙ ap (λ (e : LiveId). e.id) (listed.is other) in omega (arith, is)))
        (λ ne. (let later : at < listed.at = omega (arith, from, ne) in
        let up : (get_or entries at other).id < (get_or entries listed.at other).id = index.ascending at listed.at other later listed.inside in
        let is : (get_or entries listed.at other).id ≡ id = ap (λ (e : LiveId). e.id) (listed.is other) in omega (arith, up, is)))
        (cases_eq listed.at at))
        (cases_lt listed.at at)),
  )

  begins_next : (after : Option ℕ) (at : ℕ) (other : LiveId) → BeginsAt after at entries → at < length entries → BeginsAt (Some (get_or entries at other).id) (at + 1) entries
  begins_next after at other begins less = record {
    within = omega (arith, less);
    below = λ i d before over. ⊎_elim
        (λ same. (let is : (get_or entries i d).id ≡ (get_or entries at other).id = ap (λ (k : ℕ). (get_or entries k d).id) same ∙ default_id at d other less in omega (arith, over, is)))
        (λ ne. (let up : (get_or entries i other).id < (get_or entries at other).id = index.ascending i at other (omega (arith, before, ne)) less in
        let is : (get_or entries i d).id ≡ (get_or entries i other).id = default_id i d other (omega (arith, before, less)) in omega (arith, over, is, up)))
        (cases_eq i at);
    above = λ i d from inside. (let up : (get_or entries at other).id < (get_or entries i other).id = index.ascending at i other (omega (arith, from)) inside in
        let is : (get_or entries i d).id ≡ (get_or entries i other).id = default_id i d other inside in omega (arith, up, is));
  }
    where
      default_id : (i : ℕ) (d e : LiveId) → i < length entries → (get_or entries i d).id ≡ (get_or entries i e).id
      default_id i d e inside = ap (λ (x : LiveId). x.id) (get_or_default entries i d e inside)

  pub count_above : ((id p q : ℕ) → LivesAt id p ids → LivesAt id q ids → p ≡ q) → (k at : ℕ) (after : Option ℕ) → BeginsAt after at entries → length entries ≡ at + k → length (live_above after ids) ≡ k
  count_above once zero at after begins long = ap length (none_above after ids (none_behind after at begins (omega (arith, long))))
  count_above once (suc k) at after begins long =
      let other : LiveId = record { id = 0; place = 0 } in
      let less : at < length entries = omega (arith, long) in
      let next = first_behind after at other begins less in
      let rest = count_above once k (at + 1) (Some (get_or entries at other).id) (begins_next after at other begins less) (omega (arith, long)) in
      ap length (next_above after (get_or entries at other).id ids next (once (get_or entries at other).id)) ∙ ap suc rest
