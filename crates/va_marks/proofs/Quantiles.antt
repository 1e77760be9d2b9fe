-- The marks of a dimension by how many coordinates are at most each value.
use Rattle.std.proofs.Common.{◌≡◌, ℕ, ◌+◌, ◌*◌, ◌-◌, ◌/◌, ◌%◌, ◌^◌, ◌<◌, ◌≤◌, List, [], length, get_or, map, refl, ap, sym, ◌∙◌, arith, if◌then◌else◌, ltb, eqb, ⊎_elim}
use Rattle.std.specs.List.{range_with_len}
use Rattle.std.proofs.lemmas.List.FromFn.{length-map-range_with_len, get_or-map-range_with_len}
use Rattle.std.proofs.lemmas.Nat.{pow_pos, pow-add, div-add-mod', le-div}
use Rattle.std.proofs.Math.Nat.{mul-le-mul_right, pow-le-pow_right}
use Rattle.std.proofs.lemmas.Bool.{ltb-true, cases_lt, cases_eq, cond-true, cond-false, lt-ltb, le-ltb, ne_eqb, eq-eqb}
use Rattle.va_core.specs.Marks.{IsRow, least_from, mark_of, row_of}
use Rattle.va_marks.specs.Rule.{IsFirstOver, up_to, mark_by, row_by}
use Rattle.va_marks.proofs.Searches.{least_from_is, least_from_at_most, least_from_earlier}

-- the last mark, one between the first and the last, and one where nothing was added
pub mark_last : (b added : ℕ) (counts : List ℕ) → mark_by b added counts (2 ^ b) ≡ 256
mark_last b added counts =
    let pos : 0 < 2 ^ b = pow_pos b in
    cond-false (eqb (2 ^ b) 0) 0 _ (ne_eqb (2 ^ b) 0 (λ z. omega arith)) ∙ cond-true (eqb (2 ^ b) (2 ^ b)) 256 _ (eq-eqb (2 ^ b) (2 ^ b) refl)

mark_inner : (b added : ℕ) (counts : List ℕ) (t : ℕ) → 0 < t → t < 2 ^ b → mark_by b added counts t ≡ (if eqb added 0 then t * 2 ^ (8 - b) else least_from (λ v. ltb (t * added / 2 ^ b) (up_to v counts)) 256 0)
mark_inner b added counts t some inside =
    cond-false (eqb t 0) 0 _ (ne_eqb t 0 (λ z. omega arith)) ∙ cond-false (eqb t (2 ^ b)) 256 _ (ne_eqb t (2 ^ b) (λ e. omega arith))

mark_counted : (b added : ℕ) (counts : List ℕ) (t : ℕ) → 0 < t → t < 2 ^ b → 0 < added → mark_by b added counts t ≡ least_from (λ v. ltb (t * added / 2 ^ b) (up_to v counts)) 256 0
mark_counted b added counts t some inside any = mark_inner b added counts t some inside ∙ cond-false (eqb added 0) _ _ (ne_eqb added 0 (λ z. omega arith))

-- slices of equal width are a whole number of values wide
parts_of_256 : (b : ℕ) → b ≤ 8 → 2 ^ b * 2 ^ (8 - b) ≡ 256
parts_of_256 b most =
    let p : 2 ^ (b + (8 - b)) ≡ 2 ^ b * 2 ^ (8 - b) = pow-add 2 b (8 - b) in
    let e : b + (8 - b) ≡ 8 = omega arith in
    sym (rw e at p)

pub mark_equal : (b : ℕ) (counts : List ℕ) (t : ℕ) → b ≤ 8 → t ≤ 2 ^ b → t * 2 ^ (8 - b) ≡ mark_by b 0 counts t
mark_equal b counts t most inside = ⊎_elim
    (λ (z : t ≡ 0). rw z (omega arith))
    (λ (some : t ≡ 0 → ⊥). ⊎_elim
    (λ (l : t < 2 ^ b). sym (mark_inner b 0 counts t (omega arith) l))
    (λ (g : 2 ^ b ≤ t). let last : t ≡ 2 ^ b = omega arith in
    ap (λ n. n * 2 ^ (8 - b)) last ∙ parts_of_256 b most ∙ sym (ap (mark_by b 0 counts) last ∙ mark_last b 0 counts))
    (cases_lt t (2 ^ b)))
    (cases_eq t 0)

pub equal_at_most : (b t : ℕ) → b ≤ 8 → t ≤ 2 ^ b → t * 2 ^ (8 - b) ≤ 256
equal_at_most b t most inside =
    let m : t * 2 ^ (8 - b) ≤ 2 ^ b * 2 ^ (8 - b) = mul-le-mul_right (2 ^ (8 - b)) inside in
    omega (arith, parts_of_256 b most)

-- over coordinates a mark is the first value over its rank
pub mark_first_over : (b added : ℕ) (counts : List ℕ) (t rank x : ℕ) → 0 < t → t < 2 ^ b → 0 < added → rank ≡ t * added / 2 ^ b → IsFirstOver counts rank x → x ≡ mark_by b added counts t
mark_first_over b added counts t rank x some inside any e first =
    let least : least_from (λ v. ltb (t * added / 2 ^ b) (up_to v counts)) 256 0 ≡ x =
    least_from_is (λ v. ltb (t * added / 2 ^ b) (up_to v counts)) 256 0 x (omega arith) first.a_value
    (lt-ltb _ _ (rw (← e) first.over)) (λ w a l. le-ltb _ _ (rw (← e) (first.first w l))) in
    sym (mark_counted b added counts t some inside any ∙ least)

-- ranks rise
pub rank_more : (t n k u rank : ℕ) → 0 < k → rank ≡ t * n / k → u ≤ rank → u ≤ (t + 1) * n / k
rank_more t n k u rank pos e l =
    let a : u ≤ t * n / k = omega arith in
    let m : u * k ≤ t * n / k * k = mul-le-mul_right k a in
    let d : t * n / k * k + (t * n) % k ≡ t * n = div-add-mod' (t * n) k in
    le-div u ((t + 1) * n) k pos (omega arith)

-- marks rise
counted_rises : (b added : ℕ) (counts : List ℕ) (t : ℕ) → 0 < added → t < 2 ^ b → mark_by b added counts t ≤ mark_by b added counts (t + 1)
counted_rises b added counts t any l = ⊎_elim
    (λ (z : t ≡ 0). rw z (omega arith))
    (λ (some : t ≡ 0 → ⊥). let here = mark_counted b added counts t (omega arith) l any in ⊎_elim
    (λ (inner : t + 1 < 2 ^ b).
    let next = mark_counted b added counts (t + 1) (omega arith) inner any in
    let e : least_from (λ v. ltb (t * added / 2 ^ b) (up_to v counts)) 256 0 ≤ least_from (λ v. ltb ((t + 1) * added / 2 ^ b) (up_to v counts)) 256 0 =
    least_from_earlier (λ v. ltb (t * added / 2 ^ b) (up_to v counts)) (λ v. ltb ((t + 1) * added / 2 ^ b) (up_to v counts))
    (λ w h. let g = ltb-true _ _ h in let r = rank_more t added (2 ^ b) (t * added / 2 ^ b) (t * added / 2 ^ b) (pow_pos b) refl (omega arith) in lt-ltb _ _ (omega (arith, g, r))) 256 0 in
    omega (arith, here, next, e))
    (λ (g : 2 ^ b ≤ t + 1). let e : t + 1 ≡ 2 ^ b = omega arith in
    let last : mark_by b added counts (t + 1) ≡ 256 = ap (mark_by b added counts) e ∙ mark_last b added counts in
    omega (arith, last, here, least_from_at_most (λ v. ltb (t * added / 2 ^ b) (up_to v counts)) 256 0))
    (cases_lt (t + 1) (2 ^ b)))
    (cases_eq t 0)

equal_rises : (b : ℕ) (counts : List ℕ) (t : ℕ) → b ≤ 8 → t < 2 ^ b → mark_by b 0 counts t ≤ mark_by b 0 counts (t + 1)
equal_rises b counts t most l =
    let here = mark_equal b counts t most (omega arith) in
    let next = mark_equal b counts (t + 1) most (omega arith) in
    omega (arith, here, next)

-- a list of marks by their numbers is a valid row
valid_by : (f : ℕ → ℕ) (n : ℕ) → 1 ≤ n → f 0 ≡ 0 → f n ≡ 256 → ((t : ℕ) → t < n → f t ≤ f (t + 1)) → IsRow (map f (range_with_len 0 (n + 1)))
valid_by f n some first last rises =
    let l : length (map f (range_with_len 0 (n + 1))) ≡ n + 1 = length-map-range_with_len f 0 (n + 1) in
    let at : (i : ℕ) → i < n + 1 → get_or (map f (range_with_len 0 (n + 1))) i 0 ≡ f i = λ i b. get_or-map-range_with_len f 0 (n + 1) i i 0 b (omega arith) in
    record {
      two = omega arith;
      first = at 0 (omega arith) ∙ first;
      rises = λ t b. let here = at t (omega arith) in let next = at (t + 1) (omega arith) in let r = rises t (omega arith) in omega (arith, here, next, r);
      last = let e : length (map f (range_with_len 0 (n + 1))) - 1 ≡ n = omega arith in rw e (at n (omega arith) ∙ last);
    }

pub valid_counted : (b added : ℕ) (counts : List ℕ) → 0 < added → IsRow (row_by b added counts)
unfolding row_by
valid_counted b added counts any = valid_by (mark_by b added counts) (2 ^ b) (pow_pos b) refl (mark_last b added counts) (λ t. counted_rises b added counts t any)

pub valid_equal : (b : ℕ) → b ≤ 8 → IsRow (row_of b [])
unfolding row_of
valid_equal b most = valid_by (mark_by b 0 []) (2 ^ b) (pow_pos b) refl (mark_last b 0 []) (λ t. equal_rises b [] t most)

-- over nothing the slices are equally wide, whatever is at most a value
pub row_by_none : (b : ℕ) (counts : List ℕ) → row_of b [] ≡ row_by b 0 counts
unfolding row_of row_by
row_by_none b counts = refl

-- a mark more than there are slices
pub length-row_of : (b : ℕ) (coordinates : List ℕ) → length (row_of b coordinates) ≡ 2 ^ b + 1
unfolding row_of
length-row_of b coordinates = length-map-range_with_len (mark_of b coordinates) 0 (2 ^ b + 1)

pub length-row_by : (b added : ℕ) (counts : List ℕ) → length (row_by b added counts) ≡ 2 ^ b + 1
unfolding row_by
length-row_by b added counts = length-map-range_with_len (mark_by b added counts) 0 (2 ^ b + 1)

pub marks_at_most : (b n : ℕ) → b ≤ 8 → n ≡ 2 ^ b + 1 → n ≤ 257
marks_at_most b n most e = let p : 2 ^ b ≤ 2 ^ 8 = pow-le-pow_right {n = 2} (omega arith) {i = b} {j = 8} most in omega arith
