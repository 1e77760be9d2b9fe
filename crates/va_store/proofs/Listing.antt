-- The live ids in the order of their places.
use Rattle.std.proofs.Common.{◌≡◌, ℕ, zero, suc, ◌+◌, ◌-◌, ◌≤◌, ◌<◌, List, [], ◌∷◌, ◌++◌, All, Contains, length, take, get_or, eqb, Bool, Option, None, Some, refl, sym, ◌∙◌, ap, subst, arith}
use Rattle.std.specs.List.{IsDistinct}
use Rattle.std.specs.List.Sorted.{IsSortedByKey}
use Rattle.std.specs.Ordering.{is_lt, nat_cmp}
use Rattle.std.specs.declared.cmp.Ordering.TheVariants.{Greater}
use Rattle.std.specs.Cmp.{nat_cmp_is}
use Rattle.std.proofs.lemmas.Bool.{ne_eqb}
use Rattle.std.proofs.lemmas.Map.Keys.{IsDistinct-from_apart}
use Rattle.va_core.proofs.Members.{contains_first, contains_later}
use Rattle.va_store.specs.Ids.{LivesAt, live_count}
use Rattle.va_store.specs.Index.{entry_at, listed}
use Rattle.va_store.specs.declared.index.LiveId.{LiveId}

-- one place more
pub listed_more : (ids : List (Option ℕ)) (at p : ℕ) → p < length ids → listed at (take (suc p) ids) ≡ listed at (take p ids) ++ entry_at (at + p) (get_or ids p None)
listed_more [] at p inside = absurd (omega (arith, inside))
listed_more (None ∷ ids) at zero inside = refl
listed_more (Some x ∷ ids) at zero inside =
    let here : at ≡ at + 0 = omega arith in
    ap (λ (n : ℕ). record { id = x; place = n } ∷ []) here
listed_more (None ∷ ids) at (suc p) inside =
    let next : at + 1 + p ≡ at + suc p = omega arith in
    subst (λ (n : ℕ). listed (at + 1) (take (suc p) ids) ≡ listed (at + 1) (take p ids) ++ entry_at n (get_or ids p None)) next (listed_more ids (at + 1) p (omega (arith, inside)))
listed_more (Some x ∷ ids) at (suc p) inside =
    let next : at + 1 + p ≡ at + suc p = omega arith in
    ap (λ (l : List LiveId). record { id = x; place = at } ∷ l)
    (subst (λ (n : ℕ). listed (at + 1) (take (suc p) ids) ≡ listed (at + 1) (take p ids) ++ entry_at n (get_or ids p None)) next (listed_more ids (at + 1) p (omega (arith, inside))))

pub listed_next : (ids : List (Option ℕ)) (p : ℕ) → p < length ids → listed 0 (take (p + 1) ids) ≡ listed 0 (take p ids) ++ entry_at p (get_or ids p None)
listed_next ids p inside =
    let next : p + 1 ≡ suc p = omega arith in
    let here : 0 + p ≡ p = omega arith in
    ap (λ (n : ℕ). listed 0 (take n ids)) next ∙ listed_more ids 0 p inside ∙ ap (λ (n : ℕ). listed 0 (take p ids) ++ entry_at n (get_or ids p None)) here

pub listed_count : (ids : List (Option ℕ)) (at : ℕ) → length (listed at ids) ≡ live_count ids
listed_count [] at = refl
listed_count (None ∷ ids) at = listed_count ids (at + 1)
listed_count (Some x ∷ ids) at = omega (arith, listed_count ids (at + 1))

-- an entry stands for the id of its place
record Stands (at : ℕ) (ids : List (Option ℕ)) (e : LiveId) : Type 0 where
  from : at ≤ e.place
  lives : LivesAt e.id (e.place - at) ids

later : (at : ℕ) (x : Option ℕ) (ids : List (Option ℕ)) (e : LiveId) → Stands (at + 1) ids e → Stands at (x ∷ ids) e
later at x ids e stands =
    let next : e.place - at ≡ suc (e.place - (at + 1)) = omega (arith, stands.from) in
    record { from = omega (arith, stands.from); lives = ap (λ (n : ℕ). get_or (x ∷ ids) n None) next ∙ stands.lives }

each_listed : (ids : List (Option ℕ)) (at : ℕ) → All (Stands at ids) (listed at ids)
each_listed [] at k d inside = absurd (omega (arith, inside))
each_listed (None ∷ ids) at k d inside = later at None ids _ (each_listed ids (at + 1) k d inside)
each_listed (Some x ∷ ids) at zero d inside =
    let here : at - at ≡ 0 = omega arith in
    record { from = omega arith; lives = ap (λ (n : ℕ). get_or (Some x ∷ ids) n None) here }
each_listed (Some x ∷ ids) at (suc k) d inside = later at (Some x) ids _ (each_listed ids (at + 1) k d (omega (arith, inside)))

pub lives_listed : (ids : List (Option ℕ)) → All (λ e. LivesAt e.id e.place ids) (listed 0 ids)
lives_listed ids k d inside =
    let here : (get_or (listed 0 ids) k d).place - 0 ≡ (get_or (listed 0 ids) k d).place = omega arith in
    subst (λ (p : ℕ). LivesAt (get_or (listed 0 ids) k d).id p ids) here (each_listed ids 0 k d inside).lives

pub all_listed : (ids : List (Option ℕ)) (at p id : ℕ) → LivesAt id p ids → Contains (listed at ids) (record { id = id; place = at + p })
all_listed [] at p id lives = cc
all_listed (None ∷ ids) at zero id lives = cc
all_listed (None ∷ ids) at (suc p) id lives =
    let next : at + 1 + p ≡ at + suc p = omega arith in
    subst (λ (n : ℕ). Contains (listed (at + 1) ids) (record { id = id; place = n })) next (all_listed ids (at + 1) p id lives)
all_listed (Some x ∷ ids) at zero id lives =
    let same : x ≡ id = cc in
    let here : at ≡ at + 0 = omega arith in
    subst (λ (n : ℕ). Contains (record { id = x; place = at } ∷ listed (at + 1) ids) (record { id = id; place = n })) here
    (subst (λ (n : ℕ). Contains (record { id = x; place = at } ∷ listed (at + 1) ids) (record { id = n; place = at })) same (contains_first (record { id = x; place = at }) (listed (at + 1) ids)))
all_listed (Some x ∷ ids) at (suc p) id lives =
    let next : at + 1 + p ≡ at + suc p = omega arith in
    contains_later (record { id = x; place = at }) (record { id = id; place = at + suc p }) (listed (at + 1) ids)
    (subst (λ (n : ℕ). Contains (listed (at + 1) ids) (record { id = id; place = n })) next (all_listed ids (at + 1) p id lives))

-- places rise
rising : (ids : List (Option ℕ)) (at i j : ℕ) (d : LiveId) → i < j → j < length (listed at ids) → (get_or (listed at ids) i d).place < (get_or (listed at ids) j d).place
rising [] at i j d less inside = absurd (omega (arith, inside))
rising (None ∷ ids) at i j d less inside = rising ids (at + 1) i j d less inside
rising (Some x ∷ ids) at i zero d less inside = absurd (omega (arith, less))
rising (Some x ∷ ids) at zero (suc j) d less inside = let behind = (each_listed ids (at + 1) j d (omega (arith, inside))).from in omega (arith, behind)
rising (Some x ∷ ids) at (suc i) (suc j) d less inside = rising ids (at + 1) i j d (omega (arith, less)) (omega (arith, inside))

abbrev pub same_place : LiveId → LiveId → Bool
same_place a b = eqb a.place b.place

pub listed_sorted : (ids : List (Option ℕ)) → IsSortedByKey (λ (e : LiveId). e.place) nat_cmp (listed 0 ids)
listed_sorted ids k d low inside =
    ap is_lt (sym (nat_cmp_is (get_or (listed 0 ids) (k + 1) d).place (get_or (listed 0 ids) k d).place Greater (rising ids 0 k (k + 1) d (omega arith) inside)))

pub listed_distinct : (ids : List (Option ℕ)) → IsDistinct same_place (listed 0 ids)
listed_distinct ids = IsDistinct-from_apart same_place (listed 0 ids)
    (λ i j d less inside. ne_eqb (get_or (listed 0 ids) i d).place (get_or (listed 0 ids) j d).place (λ same. (let e = rising ids 0 i j d less inside in omega (arith, e, same))))
