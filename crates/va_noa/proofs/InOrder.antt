-- Members in the order of their least pairs: those that were visited tell whether the next is near, and where it isn't no
-- later one is.
use Rattle.std.proofs.Common.{◌≡◌, ℕ, zero, suc, ◌+◌, ◌≤◌, true, false, List, [], ◌∷◌, ◌++◌, filter, take, ltb, append_assoc, if◌then◌else◌, refl, ap, sym, ◌∙◌, arith}
use Rattle.std.specs.List.{AllByRecursion}
use Rattle.std.specs.List.Sorted.{IsPermutation}
use Rattle.std.proofs.lemmas.Bool.Decides.{nat_tests}
use Rattle.std.proofs.lemmas.List.{append-nil, map-append}
use Rattle.std.proofs.lemmas.List.Elements.{filter-append}
use Rattle.std.proofs.lemmas.List.Sorted.{IsPermutation-map}
use Rattle.va_core.specs.declared.pair.Pair.{Pair}
use Rattle.va_core.specs.Ranking.{ascending, is_less, lesser, placed}
use Rattle.va_core.specs.Sorting.{ascending_by, IsFloor, IsInOrder}
use Rattle.va_core.specs.Approximations.{Approximations, is_near, is_needed, is_wide, low_pair, paired, pairs}
use Rattle.va_core.proofs.Counting.{lesser_append, lesser_floor, lesser_permuted, lesser_rises}
use Rattle.va_core.proofs.Knowing.{raised}
use Rattle.va_core.proofs.Order.{not_self}
use Rattle.va_core.proofs.Ranking.{ascending_in_order, ascending_more, ascending_permuted, lesser_ascending}
use Rattle.va_core.proofs.Sorting.{ascending_by_permutes, floor_through}
use Rattle.va_bounded.proofs.Deciding.{and_false, and_true}
use Rattle.va_noa.proofs.Lists.{all_right, order_right}

-- the order of the members doesn't change their ranking
moved : {X : Type 0} (name d : X → ℕ) (key : X → Pair) (l : List X) → IsPermutation (pairs name d l) (pairs name d (ascending_by key l))
moved {X} name d key l = IsPermutation-map (λ (i : X). paired (d i) (name i)) l (ascending_by key l) (ascending_by_permutes key l)

pub sorted_ranked : {X : Type 0} (name d : X → ℕ) (key : X → Pair) (l : List X) → ascending (pairs name d (ascending_by key l)) ≡ ascending (pairs name d l)
sorted_ranked name d key l = ascending_permuted (pairs name d l) (pairs name d (ascending_by key l)) (moved name d key l)

pub sorted_lesser : {X : Type 0} (name d : X → ℕ) (key : X → Pair) (l : List X) (t : Pair) → lesser (pairs name d (ascending_by key l)) t ≡ lesser (pairs name d l) t
sorted_lesser name d key l t = lesser_permuted (pairs name d l) (pairs name d (ascending_by key l)) t (moved name d key l)

-- what has k lesser pairs doesn't change the k least
take_beyond : (k : ℕ) (p : Pair) (l : List Pair) → IsInOrder (λ q. q) l → k ≤ lesser l p → take k (placed p l) ≡ take k l
take_beyond zero p l s h = refl
take_beyond (suc k) p [] s h = absurd (omega arith)
take_beyond (suc k) p (r ∷ l) s h = elim (is_less r p) as (λ c. is_less r p ≡ c → take (suc k) (if c then r ∷ placed p l else p ∷ (r ∷ l)) ≡ take (suc k) (r ∷ l)) [
  | true ↦ λ e. let h' : suc k ≤ 1 + lesser l p = rw e at h in ap (λ (xs : List Pair). r ∷ xs) (take_beyond k p l s.1 (omega (arith, h')))
  | false ↦ λ e. let h' : suc k ≤ 0 + lesser l p = rw e at h in let none : lesser l p ≡ 0 = lesser_floor p l (floor_through (λ q. q) p r l e s.0) in absurd (omega (arith, h', none))
] refl

more_lesser : (k : ℕ) (a : List Pair) (p : Pair) (b : List Pair) → AllByRecursion (λ q. k ≤ lesser a q) b → AllByRecursion (λ q. k ≤ lesser (a ++ p ∷ []) q) b
more_lesser k a p [] h = tt
more_lesser k a p (q ∷ b) h = (let e : lesser (a ++ p ∷ []) q ≡ lesser a q + lesser (p ∷ []) q = lesser_append a (p ∷ []) q in let g : k ≤ lesser a q = h.0 in omega (arith, e, g), more_lesser k a p b h.1)

-- nor do many of them
rest_beyond : (k : ℕ) (a b : List Pair) → AllByRecursion (λ p. k ≤ lesser a p) b → take k (ascending (a ++ b)) ≡ take k (ascending a)
rest_beyond k a [] h = ap (λ (ps : List Pair). take k (ascending ps)) (append-nil a)
rest_beyond k a (p ∷ b) h =
    let same : lesser (ascending a) p ≡ lesser a p = lesser_ascending a p in let g : k ≤ lesser a p = h.0 in
    ap (λ (ps : List Pair). take k (ascending ps)) (sym (append_assoc a (p ∷ []) b))
    ∙ (rest_beyond k (a ++ p ∷ []) b (more_lesser k a p b h.1)
    ∙ (ap (take k) (ascending_more a p) ∙ take_beyond k p (ascending a) (ascending_in_order a) (omega (arith, same, g))))

module _ {X : Type 0} (s : Approximations X) (d : X → ℕ) (k : ℕ) where
  -- each of the rest has k visited pairs below its least pair
  abbrev pub Stops : List X → List X → Type 0
  Stops visited rest = AllByRecursion (λ e. k ≤ lesser (pairs s.name d visited) (low_pair s e)) rest

  abbrev pub Lows : List X → Type 0
  Lows l = AllByRecursion (λ i. s.low i ≤ d i) l

  floor_stops : (visited : List X) (e : X) (rest : List X) → IsFloor (low_pair s) e rest → k ≤ lesser (pairs s.name d visited) (low_pair s e) → Stops visited rest
  floor_stops visited e [] f h = tt
  floor_stops visited e (r ∷ rest) f h = (
    let up : lesser (pairs s.name d visited) (low_pair s e) ≤ lesser (pairs s.name d visited) (low_pair s r) = lesser_rises (pairs s.name d visited) (low_pair s e) (low_pair s r) f.0 in omega (arith, up, h),
    floor_stops visited e rest f.1 h,
  )

  -- the first that can't matter ends the visit
  pub stops_all : (visited : List X) (e : X) (rest : List X) → IsInOrder (low_pair s) (visited ++ (e ∷ rest)) → is_near s visited d k e ≡ false → Stops visited (e ∷ rest)
  stops_all visited e rest order far =
      let h : k ≤ lesser (pairs s.name d visited) (low_pair s e) = grind (arith, nat_tests, far) in
      (h, floor_stops visited e rest (order_right (low_pair s) visited (e ∷ rest) order).0 h)

  stop_raised : (visited rest : List X) → Lows rest → Stops visited rest → AllByRecursion (λ p. k ≤ lesser (pairs s.name d visited) p) (pairs s.name d rest)
  stop_raised visited [] b h = tt
  stop_raised visited (r ∷ rest) b h = (
    let up : lesser (pairs s.name d visited) (low_pair s r) ≤ lesser (pairs s.name d visited) (paired (d r) (s.name r)) =
        lesser_rises (pairs s.name d visited) (low_pair s r) (paired (d r) (s.name r)) (raised (s.name r) (s.low r) (d r) (low_pair s r) b.0 (not_self (low_pair s r))) in
        let g : k ≤ lesser (pairs s.name d visited) (low_pair s r) = h.0 in omega (arith, up, g),
    stop_raised visited rest b.1 h.1,
  )

  -- then the k least of those that were visited are the k least of all
  pub stopped_first : (visited rest : List X) → Lows (visited ++ rest) → Stops visited rest → take k (ascending (pairs s.name d (visited ++ rest))) ≡ take k (ascending (pairs s.name d visited))
  stopped_first visited rest lows stop =
      ap (λ (ps : List Pair). take k (ascending ps)) (map-append (λ (i : X). paired (d i) (s.name i)) visited rest)
      ∙ rest_beyond k (pairs s.name d visited) (pairs s.name d rest) (stop_raised visited rest (all_right (λ i. s.low i ≤ d i) visited rest lows) stop)

  -- no pair of the rest is below the least pair of its first
  rest_above : (e : X) (rest : List X) → IsFloor (low_pair s) e rest → Lows rest → lesser (pairs s.name d rest) (low_pair s e) ≡ 0
  rest_above e [] f b = refl
  rest_above e (r ∷ rest) f b = rw (raised (s.name r) (s.low r) (d r) (low_pair s e) b.0 f.0) (ap (λ (n : ℕ). 0 + n) (rest_above e rest f.1 b.1))

  -- what was visited tells whether the next is near
  pub next_near : (visited : List X) (e : X) (rest : List X) → IsInOrder (low_pair s) (visited ++ (e ∷ rest)) → Lows (visited ++ (e ∷ rest)) → is_near s (visited ++ (e ∷ rest)) d k e ≡ is_near s visited d k e
  next_near visited e rest order lows =
      let b : Lows (e ∷ rest) = all_right (λ i. s.low i ≤ d i) visited (e ∷ rest) lows in
      let floor : IsFloor (low_pair s) e (e ∷ rest) = (not_self (low_pair s e), (order_right (low_pair s) visited (e ∷ rest) order).0) in
      let none : lesser (pairs s.name d (e ∷ rest)) (low_pair s e) ≡ 0 = rest_above e (e ∷ rest) floor b in
      let sum : lesser (pairs s.name d visited ++ pairs s.name d (e ∷ rest)) (low_pair s e) ≡ lesser (pairs s.name d visited) (low_pair s e) + lesser (pairs s.name d (e ∷ rest)) (low_pair s e) = lesser_append (pairs s.name d visited) (pairs s.name d (e ∷ rest)) (low_pair s e) in
      let same : lesser (pairs s.name d (visited ++ (e ∷ rest))) (low_pair s e) ≡ lesser (pairs s.name d visited) (low_pair s e) =
      ap (λ (ps : List Pair). lesser ps (low_pair s e)) (map-append (λ (i : X). paired (d i) (s.name i)) visited (e ∷ rest)) ∙ omega (arith, none, sum) in
      ap (λ (n : ℕ). ltb n k) same

  module _ (ms : List X) where
    abbrev pub Near : List X → Type 0
    Near l = AllByRecursion (λ i. is_near s ms d k i ≡ true) l

    near_wide : (visited : List X) → Near visited → filter (is_needed s ms d k) visited ≡ filter (is_wide s) visited
    near_wide [] near = refl
    near_wide (e ∷ visited) near = let rest : filter (is_needed s ms d k) visited ≡ filter (is_wide s) visited = near_wide visited near.1 in
        let same : is_needed s ms d k e ≡ is_wide s e = rw (near.0) (and_true (is_wide s e)) in
        rw (same, rest) refl

    -- of members in two parts, where the first were near
    pub needed_first : (visited rest : List X) → Near visited → filter (is_needed s ms d k) (visited ++ rest) ≡ filter (is_wide s) visited ++ filter (is_needed s ms d k) rest
    needed_first visited rest near = filter-append (is_needed s ms d k) visited rest ∙ ap (λ (l : List X). l ++ filter (is_needed s ms d k) rest) (near_wide visited near)

    pub far_none : (rest : List X) → AllByRecursion (λ i. is_near s ms d k i ≡ false) rest → filter (is_needed s ms d k) rest ≡ []
    far_none [] far = refl
    far_none (e ∷ rest) far = let none : filter (is_needed s ms d k) rest ≡ [] = far_none rest far.1 in
        let same : is_needed s ms d k e ≡ false = rw (far.0) (and_false (is_wide s e)) in
        rw (same, none) refl

  -- where the visit stops none of the rest is near among all that are sorted
  pub stops_far : (visited after rest : List X) → Stops visited rest → AllByRecursion (λ i. is_near s (visited ++ after) d k i ≡ false) rest
  stops_far visited after [] stop = tt
  stops_far visited after (e ∷ rest) stop = (
    let sum : lesser (pairs s.name d (visited ++ after)) (low_pair s e) ≡ lesser (pairs s.name d visited) (low_pair s e) + lesser (pairs s.name d after) (low_pair s e) =
        ap (λ (ps : List Pair). lesser ps (low_pair s e)) (map-append (λ (i : X). paired (d i) (s.name i)) visited after) ∙ lesser_append (pairs s.name d visited) (pairs s.name d after) (low_pair s e) in
        let g : k ≤ lesser (pairs s.name d visited) (low_pair s e) = stop.0 in
        grind (arith, nat_tests, sum, g),
    stops_far visited after rest stop.1,
  )
