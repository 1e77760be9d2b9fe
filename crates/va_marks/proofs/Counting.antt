-- How often each value stands among coordinates.
use Rattle.std.proofs.Common.{◌≡◌, ℕ, zero, suc, ◌+◌, ◌<◌, ◌≤◌, Bool, List, [], ◌∷◌, ◌++◌, length, get_or, map, set, replicate, zero-add, refl, ap, sym, ◌∙◌, arith, cond, leb, eqb, ⊎_elim, ◌≢◌}
use Rattle.std.specs.List.{range_with_len, sum, count_by, All}
use Rattle.std.proofs.lemmas.List.{length-replicate, get_or-replicate, length-set, get_or-set_same, get_or-set_other, take_all, map-append, length_push}
use Rattle.std.proofs.lemmas.List.Elements.{All-head, All-push, All-same, All-tail, All-weaker}
use Rattle.std.proofs.lemmas.List.FromFn.{map-range_with_len_more, take-map-range_with_len, length-map-range_with_len, get_or-map-range_with_len, fill_by_all}
use Rattle.std.proofs.lemmas.List.Sums.{sum_by-cons, sum_by_push}
use Rattle.std.proofs.lemmas.Bool.{cases_eq, le-leb, eq-eqb, ne_eqb}
use Rattle.std.proofs.lemmas.Bool.Decides.{nat_tests}
use Rattle.va_core.specs.Marks.{at_most, column}
use Rattle.va_marks.specs.Counts.{Counted, Tallies, counts_at, counts_of, plus_one}
use Rattle.va_marks.specs.Rule.{up_to}

-- the number of times v stands among the coordinates
abbrev times : List ℕ → ℕ → ℕ
times xs v = count_by (λ x. eqb x v) xs

-- up to a value more there are those that equal it besides
count_cons : (test : ℕ → Bool) (x : ℕ) (xs : List ℕ) → count_by test (x ∷ xs) ≡ cond (test x) 1 0 + count_by test xs
count_cons test x xs = sum_by-cons (λ y. cond (test y) 1 0) x xs

one_up : (x v : ℕ) → cond (leb x (v + 1)) 1 0 ≡ cond (leb x v) 1 0 + cond (eqb x (v + 1)) 1 0
one_up x v = grind (arith, nat_tests)

one_zero : (x : ℕ) → ◌≡◌ {A = ℕ} (cond (leb x 0) 1 0) (cond (eqb x 0) 1 0)
one_zero x = grind (arith, nat_tests)

at_most_more : (v : ℕ) (xs : List ℕ) → at_most (v + 1) xs ≡ at_most v xs + times xs (v + 1)
at_most_more v [] = refl
at_most_more v (x ∷ xs) =
    let a = count_cons (λ y. leb y (v + 1)) x xs in
    let b = count_cons (λ y. leb y v) x xs in
    let d = count_cons (λ y. eqb y (v + 1)) x xs in
    let rest = at_most_more v xs in
    let one = one_up x v in
    omega (arith, a, b, d, rest, one)

at_most_zero : (xs : List ℕ) → at_most 0 xs ≡ times xs 0
at_most_zero [] = refl
at_most_zero (x ∷ xs) =
    let a = count_cons (λ y. leb y 0) x xs in
    let b = count_cons (λ y. eqb y 0) x xs in
    let rest = at_most_zero xs in
    let one = one_zero x in
    omega (arith, a, b, rest, one)

sum_more : (f : ℕ → ℕ) (n : ℕ) → sum (map f (range_with_len 0 (n + 1))) ≡ sum (map f (range_with_len 0 n)) + f n
sum_more f n = ap sum (map-range_with_len_more f 0 n n (omega arith)) ∙ sum_by_push (λ x. x) (map f (range_with_len 0 n)) (f n)

sum_times : (xs : List ℕ) (v : ℕ) → sum (map (times xs) (range_with_len 0 (v + 1))) ≡ at_most v xs
sum_times xs zero = sum_more (times xs) 0 ∙ zero-add (times xs 0) ∙ sym (at_most_zero xs)
sum_times xs (suc v) =
    let e : suc v ≡ v + 1 = omega arith in
    rw e (sum_more (times xs) (v + 1) ∙ ap (λ n. n + times xs (v + 1)) (sum_times xs v) ∙ sym (at_most_more v xs))

-- the counts of a list of coordinates
pub length-counts_of : (xs : List ℕ) → length (counts_of xs) ≡ 256
unfolding counts_of
length-counts_of xs = length-map-range_with_len (times xs) 0 256

counts_of_at : (xs : List ℕ) (v : ℕ) → v < 256 → get_or (counts_of xs) v 0 ≡ times xs v
unfolding counts_of
counts_of_at xs v l = get_or-map-range_with_len (times xs) 0 256 v v 0 l (omega arith)

pub up_to-counts_of : (xs : List ℕ) (v : ℕ) → v < 256 → up_to v (counts_of xs) ≡ at_most v xs
unfolding counts_of
up_to-counts_of xs v l = ap sum (take-map-range_with_len (times xs) 0 256 (v + 1) (omega arith)) ∙ sum_times xs v

-- up to the last value there are all
up_to_all : (counts : List ℕ) (v : ℕ) → length counts ≤ v + 1 → up_to v counts ≡ sum counts
up_to_all counts v l = ap sum (take_all (v + 1) counts l)

-- where no coordinate is above v, all are at most v
all_at_most : (v : ℕ) (xs : List ℕ) → All (λ x. x ≤ v) xs → at_most v xs ≡ length xs
all_at_most v [] h = refl
all_at_most v (x ∷ xs) h =
    let here = le-leb x v (All-head (λ y. y ≤ v) x xs h) in
    let rest = all_at_most v xs (All-tail (λ y. y ≤ v) x xs h) in
    count_cons (λ y. leb y v) x xs ∙ ap (λ b. cond b 1 0 + at_most v xs) here ∙ ap (λ n. 1 + n) rest ∙ omega arith

pub sum-counts_of : (xs : List ℕ) → All (λ x. x < 256) xs → sum (counts_of xs) ≡ length xs
sum-counts_of xs h =
    let l : length (counts_of xs) ≤ 255 + 1 = omega (arith, length-counts_of xs) in
    sym (up_to_all (counts_of xs) 255 l) ∙ up_to-counts_of xs 255 (omega arith)
    ∙ all_at_most 255 xs (All-weaker (λ x. x < 256) (λ x. x ≤ 255) (λ x p. omega arith) xs h)

none_times : (n : ℕ) → replicate n 0 ≡ map (times []) (range_with_len 0 n)
none_times n = fill_by_all (times []) (replicate n 0) n 0 (length-replicate n 0) (λ k l. get_or-replicate n k 0 0 l)

pub counts_of_none : replicate 256 0 ≡ counts_of []
unfolding counts_of
counts_of_none = none_times 256

-- a coordinate more is counted
times_push : (xs : List ℕ) (x k n : ℕ) → n ≡ times xs k + cond (eqb x k) 1 0 → n ≡ times (xs ++ x ∷ []) k
times_push xs x k n e = e ∙ sym (sum_by_push (λ y. cond (eqb y k) 1 0) xs x)

counts_of_push : (xs : List ℕ) (x : ℕ) → x < 256 → set (counts_of xs) x (get_or (counts_of xs) x 0 + 1) ≡ counts_of (xs ++ x ∷ [])
unfolding counts_of
counts_of_push xs x l =
    let len : length (set (counts_of xs) x (get_or (counts_of xs) x 0 + 1)) ≡ 256 = length-set (counts_of xs) x _ ∙ length-counts_of xs in
    let inside : x < length (counts_of xs) = omega (arith, length-counts_of xs) in
    fill_by_all (times (xs ++ x ∷ [])) (set (counts_of xs) x (get_or (counts_of xs) x 0 + 1)) 256 0 len
    (λ k b. times_push xs x k _ (⊎_elim
    (λ (e : x ≡ k). ap (λ j. get_or (set (counts_of xs) x (get_or (counts_of xs) x 0 + 1)) j 0) (sym e) ∙ get_or-set_same (counts_of xs) x (get_or (counts_of xs) x 0 + 1) 0 inside
    ∙ ap (λ n. n + 1) (counts_of_at xs x l) ∙ ap (λ j. times xs j + 1) e ∙ ap (λ c. times xs k + cond c 1 0) (sym (eq-eqb x k e)))
    (λ (ne : x ≡ k → ⊥). let other : k ≢ x = λ e. ne (sym e) in
    get_or-set_other (counts_of xs) x k (get_or (counts_of xs) x 0 + 1) 0 other ∙ counts_of_at xs k b ∙ omega arith ∙ ap (λ c. times xs k + cond c 1 0) (sym (ne_eqb x k ne)))
    (cases_eq x k)))

column_push : (dim : ℕ) (vectors : List (List ℕ)) (vector : List ℕ) → column dim (vectors ++ vector ∷ []) ≡ column dim vectors ++ get_or vector dim 0 ∷ []
column_push dim vectors vector = map-append (λ x. get_or x dim 0) vectors (vector ∷ [])

-- a vector more is tallied
pub tallies_push : (tally : Counted) (columns vectors : List (List ℕ)) (vector : List ℕ) → Tallies tally vectors → ((i : ℕ) → get_or vector i 0 < 256) →
    ((dim : ℕ) → dim < tally.shape.dims → counts_at columns dim ≡ plus_one (counts_at tally.columns dim) (get_or vector dim 0)) →
    Tallies (record { shape = tally.shape; added = tally.added + 1; columns = columns }) (vectors ++ vector ∷ [])
tallies_push tally columns vectors vector t small counted = record {
  added = ap (λ n. n + 1) t.added ∙ sym (length_push vectors vector);
  bytes = λ dim l. All-same (λ x. x < 256) _ _ (column_push dim vectors vector) (All-push (λ x. x < 256) (column dim vectors) (get_or vector dim 0) (t.bytes dim l) (small dim));
  counts = λ dim l. counted dim l ∙ ap (λ counts. plus_one counts (get_or vector dim 0)) (t.counts dim l)
      ∙ counts_of_push (column dim vectors) (get_or vector dim 0) (small dim) ∙ ap counts_of (sym (column_push dim vectors vector));
}
