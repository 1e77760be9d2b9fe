-- The live ids in ascending order, and the first that stands twice.
use Rattle.std.proofs.Common.{◌≡◌, ◌⊎◌, ⊎_elim, inl, inr, ℕ, zero, suc, ◌+◌, ◌-◌, ◌≤◌, ◌<◌, List, [], ◌∷◌, All, Contains, length, get_or, true, false, Option, None, Some, refl, sym, ◌∙◌, ap, subst, arith}
use Rattle.std.proofs.lemmas.Bool.{cases_eq, cases_lt, cases_order, eq-eqb, ne_eqb}
use Rattle.std.proofs.lemmas.List.{get_or_default}
use Rattle.std.proofs.lemmas.List.Elements.{at_from_Contains}
use Rattle.std.proofs.lemmas.List.Sorted.{All-permutation, Contains-permutation, length_permutation, ties_still_rise}
use Rattle.std.proofs.lemmas.Map.Keys.{IsDistinct-IsPermutation, apart_from_distinct}
use Rattle.va_store.specs.Ids.{LivesAt, live_count}
use Rattle.va_store.specs.Image.{repeat_at, repeat_fault}
use Rattle.va_store.specs.Index.{AreNeighbours, IsAscending, IsIndex, IsOrdered, IsSooner, IsSoonest, Lists, listed}
use Rattle.va_store.specs.declared.index.LiveId.{LiveId}
use Rattle.va_store.specs.declared.index.Repeat.{Repeat}
use Rattle.va_store.specs.declared.faults.OpenFault.TheVariants as faults
use Rattle.va_store.proofs.Listing.{all_listed, listed_count, listed_distinct, listed_sorted, lives_listed, same_place}
use Rattle.va_store.proofs.Indexing.{inside_of_live}
use Rattle.va_store.proofs.Repeats.{first_is, first_none, repeat_is, repeat_none}

abbrev two : LiveId → LiveId → Repeat
two a b = record { earlier = a.place; place = b.place }

-- two neighbours with one id, whatever stands behind the end
neighbours : (n : ℕ) (entries : List LiveId) (k : ℕ) (d : LiveId) → k + 1 < n → n ≤ length entries → (get_or entries k d).id ≡ (get_or entries (k + 1) d).id
    → AreNeighbours n entries (two (get_or entries k d) (get_or entries (k + 1) d))
neighbours n entries k d inside le same = record {
  at = k;
  inside = inside;
  id = (get_or entries (k + 1) d).id;
  first = λ other. get_or_default entries k other d (omega (arith, inside, le)) ∙ ap (λ (x : ℕ). record { id = x; place = (get_or entries k d).place }) same;
  second = λ other. get_or_default entries (k + 1) other d (omega (arith, inside, le));
}

module _ (n : ℕ) (entries : List LiveId) (d : LiveId) (n_in : n + 1 < length entries) where
  abbrev before : LiveId
  before = get_or entries n d

  abbrev behind : LiveId
  behind = get_or entries (n + 1) d

  wider : (r : Repeat) → AreNeighbours (n + 1) entries r → AreNeighbours (n + 1 + 1) entries r
  wider r has = record { at = has.at; inside = omega (arith, has.inside); id = has.id; first = has.first; second = has.second }

  last_or_before : (r : Repeat) → AreNeighbours (n + 1 + 1) entries r → AreNeighbours (n + 1) entries r ⊎ ((before.id ≡ behind.id) × (r.place ≡ behind.place))
  last_or_before r has = ⊎_elim
      (λ same. inr (
        ap (λ (x : LiveId). x.id) (ap (λ (k : ℕ). get_or entries k d) (sym same) ∙ has.first d) ∙ sym (ap (λ (x : LiveId). x.id) (ap (λ (k : ℕ). get_or entries (k + 1) d) (sym same) ∙ has.second d)),
        sym (ap (λ (x : LiveId). x.place) (ap (λ (k : ℕ). get_or entries (k + 1) d) (sym same) ∙ has.second d)),
      ))
      (λ ne. inl (record { at = has.at; inside = omega (arith, has.inside, ne); id = has.id; first = has.first; second = has.second }))
      (cases_eq has.at n)

  not_same : (found : Option Repeat) → (before.id ≡ behind.id → ⊥) → IsSoonest (n + 1) entries found → IsSoonest (n + 1 + 1) entries found
  not_same None ne so_far = λ r has. ⊎_elim (λ was. so_far r was) (λ last. ne last.0) (last_or_before r has)
  not_same (Some f) ne so_far = (wider f so_far.0, λ r has. ⊎_elim (λ was. so_far.1 r was) (λ last. absurd (ne last.0)) (last_or_before r has))

  same_pair : (found result : Option Repeat) → before.id ≡ behind.id → IsSooner found before behind result → IsSoonest (n + 1) entries found → IsSoonest (n + 1 + 1) entries result
  same_pair None None same sooner so_far = let e = sooner.none same refl in cc
  same_pair (Some f) None same sooner so_far = ⊎_elim (λ e. cc) (λ e. cc) (sooner.same same)
  same_pair None (Some r) same sooner so_far =
      let is : r ≡ two before behind = let e = sooner.none same refl in cc in (
        rw is (neighbours (n + 1 + 1) entries n d (omega arith) (omega (arith, n_in)) same),
        λ other has. ⊎_elim (λ was. absurd (so_far other was)) (λ last. (let le = sooner.least same r refl in omega (arith, le, last.1))) (last_or_before other has),
      )
  same_pair (Some f) (Some r) same sooner so_far = (
    ⊎_elim
        (λ e. (let is : r ≡ f = cc in rw is (wider f so_far.0)))
        (λ e. (let is : r ≡ two before behind = cc in rw is (neighbours (n + 1 + 1) entries n d (omega arith) (omega (arith, n_in)) same)))
        (sooner.same same),
    λ other has. ⊎_elim
        (λ was. (let le = sooner.before same r f refl refl in let least = so_far.1 other was in omega (arith, le, least)))
        (λ last. (let le = sooner.least same r refl in omega (arith, le, last.1)))
        (last_or_before other has),
  )

  one_more : (found result : Option Repeat) → IsSooner found before behind result → IsSoonest (n + 1) entries found → IsSoonest (n + 1 + 1) entries result
  one_more found result sooner so_far = ⊎_elim
      (λ same. same_pair found result same sooner so_far)
      (λ ne. subst (λ (o : Option Repeat). IsSoonest (n + 1 + 1) entries o) (sym (sooner.differ ne)) (not_same found ne so_far))
      (cases_eq before.id behind.id)

-- one pair of neighbours more
pub soonest_more : (at : ℕ) (entries : List LiveId) (c d : LiveId) {found result : Option Repeat} → 1 ≤ at → at < length entries → IsSooner found (get_or entries (at - 1) c) (get_or entries at d) result
    → IsSoonest at entries found → IsSoonest (at + 1) entries result
soonest_more at entries c d {found} {result} some inside sooner so_far =
    let is : at - 1 + 1 ≡ at = omega (arith, some) in
    let first = get_or_default entries (at - 1) c d (omega (arith, inside)) in
    rw is at (one_more (at - 1) entries d (rw is inside) found result (rw is (rw first at sooner)) (rw is so_far))

-- no further pair
no_pair : (n : ℕ) (entries : List LiveId) (r : Repeat) → length entries < 1 → AreNeighbours n entries r → ⊥
no_pair n [] r few has =
    let e : has.id + 1 ≡ has.id = ap (λ (x : LiveId). x.id) (has.first (record { id = has.id + 1; place = 0 })) in
    omega (arith, e)
no_pair n (x ∷ entries) r few has = absurd (omega (arith, few))

pub soonest_done : (at : ℕ) (entries : List LiveId) (found : Option Repeat) → length entries ≤ at → (1 ≤ length entries → at ≤ length entries) → IsSoonest at entries found → IsSoonest (length entries) entries found
soonest_done at entries found le most so_far = ⊎_elim (λ few. none few found so_far) (λ some. (let same : at ≡ length entries = omega (arith, le, most some) in rw same at so_far)) (cases_lt (length entries) 1)
  where
    none : length entries < 1 → (o : Option Repeat) → IsSoonest at entries o → IsSoonest (length entries) entries o
    none few None so_far = λ r has. no_pair (length entries) entries r few has
    none few (Some r) so_far = absurd (no_pair at entries r few so_far.0)

module _ {ids : List (Option ℕ)} {entries : List LiveId} (ordered : IsOrdered ids entries) where
  count : length entries ≡ live_count ids
  count = length_permutation (listed 0 ids) entries ordered.moved ∙ listed_count ids 0

  live : All (λ e. LivesAt e.id e.place ids) entries
  live = All-permutation (λ (e : LiveId). LivesAt e.id e.place ids) (listed 0 ids) entries ordered.moved (lives_listed ids)

  all : (id p : ℕ) → LivesAt id p ids → Lists id p entries
  all id p lives =
      let zero_add : 0 + p ≡ p = omega arith in
      let there = subst (λ (q : ℕ). Contains (listed 0 ids) (record { id = id; place = q })) zero_add (all_listed ids 0 p id lives) in
      let at = at_from_Contains entries (record { id = id; place = p }) (Contains-permutation (listed 0 ids) entries (record { id = id; place = p }) ordered.moved there) in
      record { at = at.0; inside = at.1; is = at.2 }

  distinct : (i j : ℕ) (d : LiveId) → i < j → j < length entries → (get_or entries i d).place ≡ (get_or entries j d).place → ⊥
  distinct i j d less inside same =
      let differ = apart_from_distinct same_place entries i j d (IsDistinct-IsPermutation same_place flips (listed 0 ids) entries ordered.moved (listed_distinct ids)) less inside in
      let e : true ≡ false = sym (eq-eqb (get_or entries i d).place (get_or entries j d).place same) ∙ differ in cc
    where
      flips : (x y : LiveId) → same_place x y ≡ same_place y x
      flips x y = ⊎_elim
          (λ same. eq-eqb x.place y.place same ∙ sym (eq-eqb y.place x.place (sym same)))
          (λ ne. ne_eqb x.place y.place ne ∙ sym (ne_eqb y.place x.place (λ same. ne (sym same))))
          (cases_eq x.place y.place)

  rises : (k : ℕ) (d : LiveId) → k + 1 < length entries → (get_or entries k d).id ≡ (get_or entries (k + 1) d).id → (get_or entries k d).place ≤ (get_or entries (k + 1) d).place
  rises k d inside same = ties_still_rise (λ (e : LiveId). e.place) (λ (e : LiveId). e.id) (listed 0 ids) entries (listed_sorted ids) ordered.stable k d inside same

  -- places rise along a run of one id
  run_rises : (n k : ℕ) (d : LiveId) → k + n < length entries → (get_or entries k d).id ≡ (get_or entries (k + n) d).id → (get_or entries k d).place ≤ (get_or entries (k + n) d).place
  run_rises zero k d inside same = let e : k + 0 ≡ k = omega arith in rw e (omega arith)
  run_rises (suc n) k d inside same =
      let e : k + suc n ≡ k + n + 1 = omega arith in
      let low = ordered.ascends k (k + n) d (omega arith) (omega (arith, inside)) in
      let high = ordered.ascends (k + n) (k + suc n) d (omega arith) inside in
      let near : k + n < length entries = omega (arith, inside) in
      let equal : (get_or entries k d).id ≡ (get_or entries (k + n) d).id = omega (arith, low, high, same) in
      let first = run_rises n k d near equal in
      let alike : (get_or entries (k + n) d).id ≡ (get_or entries (k + suc n) d).id = omega (arith, low, high, same) in
      let next : k + n + 1 < length entries = omega (arith, inside) in
      let last : (get_or entries (k + n) d).place ≤ (get_or entries (k + suc n) d).place = rw e (rises (k + n) d next (rw e at alike)) in
      omega (arith, first, last)

  -- an id that lives in two places has neighbours, of which the second is the later place
  pub found_twice : (p q id : ℕ) → p < q → LivesAt id p ids → LivesAt id q ids → (r : Repeat) × AreNeighbours (length entries) entries r × (r.place ≡ q)
  found_twice p q id less first second =
      let a = all id p first in
      let b = all id q second in
      let d : LiveId = record { id = id; place = q } in
      let a_is = a.is d in
      let b_is = b.is d in
      let ids_same : (get_or entries a.at d).id ≡ (get_or entries b.at d).id = ap (λ (e : LiveId). e.id) a_is ∙ sym (ap (λ (e : LiveId). e.id) b_is) in
      let order : a.at < b.at = ⊎_elim
      (λ same. absurd (let e = ap (λ (x : LiveId). x.place) (sym a_is ∙ ap (λ (k : ℕ). get_or entries k d) same ∙ b_is) in omega (arith, e, less)))
      (λ ne. ⊎_elim (λ lt. lt)
      (λ gt. absurd (let back : b.at + (a.at - b.at) ≡ a.at = omega (arith, gt) in
      let up = run_rises (a.at - b.at) b.at d (omega (arith, a.inside, gt)) (rw back (sym ids_same)) in
      let pa = ap (λ (e : LiveId). e.place) a_is in
      let pb = ap (λ (e : LiveId). e.place) b_is in
      let up' : (get_or entries b.at d).place ≤ (get_or entries a.at d).place = rw back at up in
      omega (arith, up', pa, pb, less))) ne)
      (cases_order a.at b.at) in
      let next : b.at - 1 + 1 ≡ b.at = omega (arith, order) in
      let low = ordered.ascends a.at (b.at - 1) d (omega (arith, order)) (omega (arith, b.inside)) in
      let high = ordered.ascends (b.at - 1) b.at d (omega arith) b.inside in
      let alike : (get_or entries (b.at - 1) d).id ≡ (get_or entries b.at d).id = omega (arith, low, high, ids_same) in
      let pair = neighbours (length entries) entries (b.at - 1) d (omega (arith, next, b.inside)) (omega arith) (rw next alike) in
      (two (get_or entries (b.at - 1) d) (get_or entries (b.at - 1 + 1) d), pair, rw next (ap (λ (e : LiveId). e.place) b_is))

  pub none_twice : IsSoonest (length entries) entries None → repeat_fault ids ≡ None
  none_twice none = first_none (repeat_at ids) (length ids)
      (λ q inside. repeat_none ids q (λ p id less first second. (let has = found_twice p q id less first second in none has.0 has.1)))

  ascending : IsSoonest (length entries) entries None → IsAscending entries
  ascending none i j d less inside =
      let low = ordered.ascends i (i + 1) d (omega arith) (omega (arith, less, inside)) in
      let high = ordered.ascends (i + 1) j d (omega (arith, less)) inside in
      ⊎_elim
      (λ same. absurd (none _ (neighbours (length entries) entries i d (omega (arith, less, inside)) (omega arith) same)))
      (λ ne. omega (arith, low, high, ne))
      (cases_eq (get_or entries i d).id (get_or entries (i + 1) d).id)

  pub index_of_ordered : IsSoonest (length entries) entries None → IsIndex ids entries
  index_of_ordered none = record { ascending = ascending none; live = live; all = all; count = count }

  pub first_twice : (r : Repeat) → IsSoonest (length entries) entries (Some r) → repeat_fault ids ≡ Some (faults.SameId r.earlier r.place)
  first_twice r found =
      let has = found.0 in
      let d : LiveId = record { id = has.id; place = r.place } in
      let first = has.first d in
      let second = has.second d in
      let lives_first : LivesAt has.id r.earlier ids = subst (λ (e : LiveId). LivesAt e.id e.place ids) first (live has.at d (omega (arith, has.inside))) in
      let lives_second : LivesAt has.id r.place ids = subst (λ (e : LiveId). LivesAt e.id e.place ids) second (live (has.at + 1) d has.inside) in
      let up = rises has.at d has.inside (ap (λ (e : LiveId). e.id) first ∙ sym (ap (λ (e : LiveId). e.id) second)) in
      let pf = ap (λ (e : LiveId). e.place) first in
      let ps = ap (λ (e : LiveId). e.place) second in
      let ne : r.earlier ≡ r.place → ⊥ = λ same. distinct has.at (has.at + 1) d (omega arith) has.inside (pf ∙ same ∙ sym ps) in
      let less : r.earlier < r.place = omega (arith, up, pf, ps, ne) in
      let none_before : (k : ℕ) → k < r.place → repeat_at ids k ≡ None = λ k below. repeat_none ids k (λ p id lt a b.
      (let other = found_twice p k id lt a b in let least = found.1 other.0 other.1 in omega (arith, least, other.2, below))) in
      first_is (repeat_at ids) (length ids) r.place (faults.SameId r.earlier r.place) (inside_of_live ids r.place has.id lives_second)
      (repeat_is ids r.place r.earlier has.id less lives_first lives_second none_before) none_before
