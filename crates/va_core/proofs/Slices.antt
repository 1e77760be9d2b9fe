-- The slices that valid marks cut the values into.
use Rattle.std.proofs.Common.{◌≡◌, ℕ, zero, suc, ◌+◌, ◌-◌, ◌<◌, ◌≤◌, Bool, true, false, List, length, get_or, take, drop, sym, ap, ◌∙◌, min, arith, leb, ltb, ⊎_elim, add-zero, subst, refl, IsSome, IfSome}
use Rattle.std.specs.List.{count_by}
use Rattle.std.proofs.lemmas.List.{take_all, get_or-take, get_or-drop, length-take-le, length-drop}
use Rattle.std.proofs.lemmas.List.Sums.{count_by_more_yes, count_by_more_no}
use Rattle.std.proofs.lemmas.Bool.{cases_lt, le-leb, lt-leb, lt-ltb}
use Rattle.va_core.specs.Marks.{IsRow, slice_of, interval}

-- marks rise from each to any later one
rises_by : (row : List ℕ) → IsRow row → (t more : ℕ) → t + more < length row → get_or row t 0 ≤ get_or row (t + more) 0
rises_by row valid t zero l = rw add-zero (omega arith)
rises_by row valid t (suc more) l =
    let e : t + suc more ≡ t + more + 1 = omega arith in
    let before : get_or row t 0 ≤ get_or row (t + more) 0 = rises_by row valid t more (omega arith) in
    let step : get_or row (t + more) 0 ≤ get_or row (t + more + 1) 0 = valid.rises (t + more) (omega arith) in
    rw e (omega arith)

rises_to : (row : List ℕ) → IsRow row → (t later : ℕ) → t ≤ later → later < length row → get_or row t 0 ≤ get_or row later 0
rises_to row valid t later le l =
    let e : t + (later - t) ≡ later = omega arith in
    let h : get_or row t 0 ≤ get_or row (t + (later - t)) 0 = rises_by row valid t (later - t) (omega arith) in
    rw e at h

pub mark_at_most : (row : List ℕ) → IsRow row → (t : ℕ) → t < length row → get_or row t 0 ≤ 256
mark_at_most row valid t l =
    let h : get_or row t 0 ≤ get_or row (length row - 1) 0 = rises_to row valid t (length row - 1) (omega arith) (omega (arith, valid.two)) in
    rw valid.last at h

-- where the first s members of a list pass a test, and no others do, s pass
count_front : (test : ℕ → Bool) (xs : List ℕ) (s : ℕ) → ((i : ℕ) → i < s → i < length xs → test (get_or xs i 0) ≡ true) → ((i : ℕ) → s ≤ i → i < length xs → test (get_or xs i 0) ≡ false) → (k : ℕ) → k ≤ length xs → count_by test (take k xs) ≡ min k s
count_front test xs s pass fail zero l = omega arith
count_front test xs s pass fail (suc k) l =
    let before : count_by test (take k xs) ≡ min k s = count_front test xs s pass fail k (omega arith) in
    let inside : k < length xs = omega arith in
    let e : k + 1 ≡ suc k = omega arith in
    ⊎_elim
    (λ (lt : k < s). let h : count_by test (take (k + 1) xs) ≡ count_by test (take k xs) + 1 = count_by_more_yes test xs k 0 inside (pass k lt inside) in
    rw e at h ∙ ap (λ n. n + 1) before ∙ omega arith)
    (λ (ge : s ≤ k). let h : count_by test (take (k + 1) xs) ≡ count_by test (take k xs) = count_by_more_no test xs k 0 inside (fail k ge inside) in
    rw e at h ∙ before ∙ omega arith)
    (cases_lt k s)

-- the slice of a value is the one between whose marks it lies
pub slice_between : (row : List ℕ) (s v : ℕ) → IsRow row → s + 1 < length row → get_or row s 0 ≤ v → v < get_or row (s + 1) 0 → slice_of row v ≡ s
slice_between row s v valid l low high =
    let two = valid.two in
    let len : length (take (length row - 2) (drop 1 row)) ≡ length row - 2 = length-take-le (length row - 2) (drop 1 row) (rw (length-drop 1 row) (omega arith)) in
    let at : (i : ℕ) → i < length (take (length row - 2) (drop 1 row)) → get_or (take (length row - 2) (drop 1 row)) i 0 ≡ get_or row (1 + i) 0 =
    λ i p. get_or-take (length row - 2) (drop 1 row) i 0 (omega arith) ∙ get_or-drop 1 row i 0 in
    let counted : count_by (λ x. leb x v) (take (length row - 2) (take (length row - 2) (drop 1 row))) ≡ min (length row - 2) s =
    count_front (λ x. leb x v) (take (length row - 2) (drop 1 row)) s
    (λ i p q. le-leb _ v (let h = rises_to row valid (1 + i) s (omega arith) (omega arith) in rw (at i q) (omega arith)))
    (λ i p q. lt-leb _ v (let h = rises_to row valid (s + 1) (1 + i) (omega arith) (omega arith) in rw (at i q) (omega arith)))
    (length row - 2) (omega arith) in
    ap (λ xs. count_by (λ x. leb x v) xs) (sym (take_all (length row - 2) (take (length row - 2) (drop 1 row)) (omega arith))) ∙ counted ∙ omega arith

-- going down from a mark above the value, its slice is found
found_below : (row : List ℕ) (v k : ℕ) → IsRow row → k + 1 < length row → v < get_or row (k + 1) 0 → (s : ℕ) × (s + 1 < length row) × (get_or row s 0 ≤ v) × (v < get_or row (s + 1) 0)
found_below row v zero valid l h = (0, l, omega (arith, valid.first), h)
found_below row v (suc k) valid l h =
    let e : suc k ≡ k + 1 = omega arith in
    ⊎_elim
    (λ (above : v < get_or row (suc k) 0). found_below row v k valid (omega arith) (let P : ℕ → Type 0 = λ i. v < get_or row i 0 in subst P e above))
    (λ (low : get_or row (suc k) 0 ≤ v). (suc k, l, low, h))
    (cases_lt v (get_or row (suc k) 0))

-- a value lies in its slice, which so isn't empty
pub in_slice : (row : List ℕ) (v : ℕ) → IsRow row → v < 256 → (slice_of row v + 1 < length row) × (get_or row (slice_of row v) 0 ≤ v) × (v < get_or row (slice_of row v + 1) 0)
in_slice row v valid l =
    let two = valid.two in
    let k : length row - 2 + 1 ≡ length row - 1 = omega arith in
    let last : get_or row (length row - 2 + 1) 0 ≡ 256 = ap (λ i. get_or row i 0) k ∙ valid.last in
    let f : (s : ℕ) × (s + 1 < length row) × (get_or row s 0 ≤ v) × (v < get_or row (s + 1) 0) = found_below row v (length row - 2) valid (omega arith) (omega arith) in
    let e : slice_of row v ≡ f.0 = slice_between row f.0 v valid f.1 f.2 f.3 in
    let P : ℕ → Type 0 = λ s. (s + 1 < length row) × (get_or row s 0 ≤ v) × (v < get_or row (s + 1) 0) in
    subst P (sym e) (f.1, f.2, f.3)

-- the interval of the slice has the value
pub interval_holds : (row : List ℕ) (value : ℕ) → IsRow row → value < 256 →
    (slice_of row value + 1 < length row) × IsSome (interval row (slice_of row value)) × IfSome (interval row (slice_of row value)) (λ ends. (ends.0 ≤ value) × (value ≤ ends.1))
interval_holds row value valid l =
    let s = in_slice row value valid l in
    let low : get_or row (slice_of row value) 0 ≤ value = s.1 in
    let high : value < get_or row (slice_of row value + 1) 0 = s.2 in
    let some : ltb (get_or row (slice_of row value) 0) (get_or row (slice_of row value + 1) 0) ≡ true = lt-ltb _ _ (omega (arith, low, high)) in
    (s.0, rw some refl, rw some (low, omega (arith, high)))
