-- Sums over the dimensions, out of a table of the parts.
use Rattle.std.proofs.Common.{◌≡◌, ℕ, zero, suc, ◌+◌, ◌-◌, ◌*◌, ◌/◌, ◌%◌, ◌<◌, ◌≤◌, min, max, List, [], ◌∷◌, length, get_or, drop, sub-one, refl, ap, sym, ◌∙◌, subst, arith}
use Rattle.std.specs.List.{AllByRecursion}
use Rattle.std.proofs.lemmas.Nat.{div-mul-add}
use Rattle.std.proofs.Math.Nat.{mul-add-mod_self_right, mod-eq_of_lt}
use Rattle.va_core.proofs.DistanceBounds.{distance_low, distance_high, distance_joined}
use Rattle.va_core.specs.Boxes.{Span, box_between, low_of, high_of}
use Rattle.va_core.specs.DistanceParts.{added, part_at, parts_from}
use Rattle.va_core.specs.Parts.{joined, joined_least, joined_greatest, least_part, greatest_part, HasVectors}
use Rattle.va_core.specs.Vectors.{AreBytes}
use Rattle.va_cert.specs.declared.certificate.Certificate.{Certificate}
use Rattle.va_cert.specs.Known.{dist_of}
use Rattle.va_cert.specs.Forms.{HasShape}
use Rattle.va_check.specs.Tables.{IsTable, in_table, part_number}

-- what the loops add up
abbrev pub sum_from : ℕ → List ℕ → ℕ → List ℕ → ℕ
sum_from dim t a [] = a
sum_from dim t a (v ∷ x) = sum_from (suc dim) t (a + in_table t dim v) x

abbrev pub least_from : ℕ → List ℕ → ℕ → List Span → ℕ
least_from dim t a [] = a
least_from dim t a (s ∷ box) = least_from (suc dim) t (a + least_part (in_table t dim) s.low (s.high - s.low)) box

abbrev pub greatest_from : ℕ → List ℕ → ℕ → List Span → ℕ
greatest_from dim t a [] = a
greatest_from dim t a (s ∷ box) = greatest_from (suc dim) t (a + greatest_part (in_table t dim) s.low (s.high - s.low)) box

-- the next extremes, one value further down
least_down : (p : ℕ → ℕ) (at high : ℕ) → 0 < at → at ≤ high → least_part p (at - 1) (high - (at - 1)) ≡ min (p (at - 1)) (least_part p at (high - at))
least_down p zero high some h = absurd (omega arith)
least_down p (suc a) high some h = rw sub-one (let e : high - a ≡ suc (high - suc a) = omega arith in ap (least_part p a) e)

pub least_next : (p : ℕ → ℕ) (at high best next : ℕ) → 0 < at → at ≤ high → best ≡ least_part p at (high - at) → next ≡ p (at - 1) → next < best → next ≡ least_part p (at - 1) (high - (at - 1))
least_next p at high best next some h is now less =
    let down : least_part p (at - 1) (high - (at - 1)) ≡ min (p (at - 1)) (least_part p at (high - at)) = least_down p at high some h in omega (arith, is, now, less, down)

pub least_same : (p : ℕ → ℕ) (at high best next : ℕ) → 0 < at → at ≤ high → best ≡ least_part p at (high - at) → next ≡ p (at - 1) → best ≤ next → best ≡ least_part p (at - 1) (high - (at - 1))
least_same p at high best next some h is now more =
    let down : least_part p (at - 1) (high - (at - 1)) ≡ min (p (at - 1)) (least_part p at (high - at)) = least_down p at high some h in omega (arith, is, now, more, down)

greatest_down : (p : ℕ → ℕ) (at high : ℕ) → 0 < at → at ≤ high → greatest_part p (at - 1) (high - (at - 1)) ≡ max (p (at - 1)) (greatest_part p at (high - at))
greatest_down p zero high some h = absurd (omega arith)
greatest_down p (suc a) high some h = rw sub-one (let e : high - a ≡ suc (high - suc a) = omega arith in ap (greatest_part p a) e)

pub greatest_next : (p : ℕ → ℕ) (at high best next : ℕ) → 0 < at → at ≤ high → best ≡ greatest_part p at (high - at) → next ≡ p (at - 1) → best < next → next ≡ greatest_part p (at - 1) (high - (at - 1))
greatest_next p at high best next some h is now more =
    let down : greatest_part p (at - 1) (high - (at - 1)) ≡ max (p (at - 1)) (greatest_part p at (high - at)) = greatest_down p at high some h in omega (arith, is, now, more, down)

pub greatest_same : (p : ℕ → ℕ) (at high best next : ℕ) → 0 < at → at ≤ high → best ≡ greatest_part p at (high - at) → next ≡ p (at - 1) → next ≤ best → best ≡ greatest_part p (at - 1) (high - (at - 1))
greatest_same p at high best next some h is now less =
    let down : greatest_part p (at - 1) (high - (at - 1)) ≡ max (p (at - 1)) (greatest_part p at (high - at)) = greatest_down p at high some h in omega (arith, is, now, less, down)

-- the table agrees with the parts, from a dimension on
abbrev pub Agrees : List ℕ → List (List ℕ) → ℕ → List ℕ → Type 0
Agrees t objects dim ws = (k v : ℕ) → k < length ws → v < 256 → in_table t (dim + k) v ≡ part_at (get_or ws k 0) (dim + k) objects v

agree_here : (t : List ℕ) (objects : List (List ℕ)) (dim w : ℕ) (ws : List ℕ) → Agrees t objects dim (w ∷ ws) → (v : ℕ) → v < 256 → in_table t dim v ≡ part_at w dim objects v
agree_here t objects dim w ws h v b = let e : dim + 0 ≡ dim = omega arith in subst (λ (n : ℕ). in_table t n v ≡ part_at w n objects v) e (h 0 v (omega arith) b)

agree_next : (t : List ℕ) (objects : List (List ℕ)) (dim w : ℕ) (ws : List ℕ) → Agrees t objects dim (w ∷ ws) → Agrees t objects (suc dim) ws
agree_next t objects dim w ws h k v l b = let e : dim + suc k ≡ suc dim + k = omega arith in subst (λ (n : ℕ). in_table t n v ≡ part_at (get_or ws k 0) n objects v) e (h (suc k) v (omega (arith, l)) b)

sum_is : (t : List ℕ) (objects : List (List ℕ)) (dim a : ℕ) (ws x : List ℕ) → Agrees t objects dim ws → length x ≡ length ws → AreBytes x → sum_from dim t a x ≡ joined added a (parts_from dim ws objects) x
sum_is t objects dim a [] [] h l b = refl
sum_is t objects dim a [] (v ∷ x) h l b = absurd (omega (arith, l))
sum_is t objects dim a (w ∷ ws) [] h l b = absurd (omega (arith, l))
sum_is t objects dim a (w ∷ ws) (v ∷ x) h l b =
    sum_is t objects (suc dim) (a + in_table t dim v) ws x (agree_next t objects dim w ws h) (omega (arith, l)) b.1
    ∙ ap (λ (n : ℕ). joined added (a + n) (parts_from (suc dim) ws objects) x) (agree_here t objects dim w ws h v b.0)

least_agrees : (p q : ℕ → ℕ) (first n : ℕ) → ((v : ℕ) → v < 256 → p v ≡ q v) → first + n < 256 → least_part p first n ≡ least_part q first n
least_agrees p q first zero h l = h first (omega (arith, l))
least_agrees p q first (suc n) h l = let a : p first ≡ q first = h first (omega (arith, l)) in let b : least_part p (suc first) n ≡ least_part q (suc first) n = least_agrees p q (suc first) n h (omega (arith, l)) in omega (arith, a, b)

greatest_agrees : (p q : ℕ → ℕ) (first n : ℕ) → ((v : ℕ) → v < 256 → p v ≡ q v) → first + n < 256 → greatest_part p first n ≡ greatest_part q first n
greatest_agrees p q first zero h l = h first (omega (arith, l))
greatest_agrees p q first (suc n) h l = let a : p first ≡ q first = h first (omega (arith, l)) in let b : greatest_part p (suc first) n ≡ greatest_part q (suc first) n = greatest_agrees p q (suc first) n h (omega (arith, l)) in omega (arith, a, b)

-- each interval rises, and ends below 256
abbrev pub Fits : List Span → Type 0
Fits box = AllByRecursion (λ (s : Span). (s.low ≤ s.high) × (s.high < 256)) box

least_is : (t : List ℕ) (objects : List (List ℕ)) (dim a : ℕ) (ws : List ℕ) (box : List Span) → Agrees t objects dim ws → length box ≡ length ws → Fits box → least_from dim t a box ≡ joined_least added a (parts_from dim ws objects) box
least_is t objects dim a [] [] h l f = refl
least_is t objects dim a [] (s ∷ box) h l f = absurd (omega (arith, l))
least_is t objects dim a (w ∷ ws) [] h l f = absurd (omega (arith, l))
least_is t objects dim a (w ∷ ws) (s ∷ box) h l f =
    let up : s.low ≤ s.high = f.0.0 in let b : s.high < 256 = f.0.1 in
    least_is t objects (suc dim) (a + least_part (in_table t dim) s.low (s.high - s.low)) ws box (agree_next t objects dim w ws h) (omega (arith, l)) f.1
    ∙ ap (λ (n : ℕ). joined_least added (a + n) (parts_from (suc dim) ws objects) box) (least_agrees (in_table t dim) (part_at w dim objects) s.low (s.high - s.low) (agree_here t objects dim w ws h) (omega (arith, up, b)))

greatest_is : (t : List ℕ) (objects : List (List ℕ)) (dim a : ℕ) (ws : List ℕ) (box : List Span) → Agrees t objects dim ws → length box ≡ length ws → Fits box → greatest_from dim t a box ≡ joined_greatest added a (parts_from dim ws objects) box
greatest_is t objects dim a [] [] h l f = refl
greatest_is t objects dim a [] (s ∷ box) h l f = absurd (omega (arith, l))
greatest_is t objects dim a (w ∷ ws) [] h l f = absurd (omega (arith, l))
greatest_is t objects dim a (w ∷ ws) (s ∷ box) h l f =
    let up : s.low ≤ s.high = f.0.0 in let b : s.high < 256 = f.0.1 in
    greatest_is t objects (suc dim) (a + greatest_part (in_table t dim) s.low (s.high - s.low)) ws box (agree_next t objects dim w ws h) (omega (arith, l)) f.1
    ∙ ap (λ (n : ℕ). joined_greatest added (a + n) (parts_from (suc dim) ws objects) box) (greatest_agrees (in_table t dim) (part_at w dim objects) s.low (s.high - s.low) (agree_here t objects dim w ws h) (omega (arith, up, b)))

-- a table of a certificate agrees
table_agrees : (c : Certificate) (t : List ℕ) → IsTable c t → Agrees t c.objects 0 c.weights
table_agrees c t is k v l b =
    let inside : k * 256 + v < length c.weights * 256 = omega (arith, l, b) in
    let e : get_or t (k * 256 + v) 0 ≡ part_number c (k * 256 + v) = is.number (k * 256 + v) inside in
    let q : (k * 256 + v) / 256 ≡ k = div-mul-add k 256 v b in
    let r : (k * 256 + v) % 256 ≡ v = mul-add-mod_self_right k 256 v ∙ mod-eq_of_lt b in
    let z : 0 + k ≡ k = omega arith in
    subst (λ (n : ℕ). in_table t n v ≡ part_at (get_or c.weights k 0) n c.objects v) (sym z)
    (e ∙ (ap (λ (n : ℕ). part_at (get_or c.weights n 0) n c.objects ((k * 256 + v) % 256)) q ∙ ap (λ (n : ℕ). part_at (get_or c.weights k 0) k c.objects n) r))

pub bytes_from : (x : List ℕ) → ((k : ℕ) → get_or x k 0 < 256) → AreBytes x
bytes_from [] h = tt
bytes_from (v ∷ x) h = (h 0, bytes_from x (λ k. h (suc k)))

-- the sum over a vector is its distance
pub distance_tabled : (c : Certificate) (t x : List ℕ) → HasShape c → IsTable c t → length x ≡ length c.weights → ((k : ℕ) → get_or x k 0 < 256) → sum_from 0 t 0 x ≡ dist_of c x
distance_tabled c t x q is l b =
    sum_is t c.objects 0 0 c.weights x (table_agrees c t is) l (bytes_from x b)
    ∙ sym (distance_joined (record { objects = c.objects; weights = c.weights }) q.lengths x)

spans_fit : (low high : List ℕ) → length low ≡ length high → ((k : ℕ) → k < length low → get_or low k 0 ≤ get_or high k 0) → ((k : ℕ) → get_or high k 0 < 256) → Fits (box_between low high)
spans_fit [] high l r b = tt
spans_fit (v ∷ low) [] l r b = absurd (omega (arith, l))
spans_fit (v ∷ low) (u ∷ high) l r b = ((r 0 (omega arith), b 0), spans_fit low high (omega (arith, l)) (λ k h. r (suc k) (omega (arith, h))) (λ k. b (suc k)))

fits_vectors : (box : List Span) → Fits box → HasVectors box
fits_vectors [] f = tt
fits_vectors (s ∷ box) f = (f.0.0, fits_vectors box f.1)

length_spans : (low high : List ℕ) → length low ≡ length high → length (box_between low high) ≡ length low
length_spans [] high l = refl
length_spans (v ∷ low) [] l = absurd (omega (arith, l))
length_spans (v ∷ low) (u ∷ high) l = ap suc (length_spans low high (omega (arith, l)))

-- the sums over a box are its bounds
pub low_tabled : (c : Certificate) (t low high : List ℕ) → HasShape c → IsTable c t → length low ≡ length c.weights → length high ≡ length c.weights →
    ((k : ℕ) → k < length low → get_or low k 0 ≤ get_or high k 0) → ((k : ℕ) → get_or high k 0 < 256) → least_from 0 t 0 (box_between low high) ≡ low_of (dist_of c) (box_between low high)
low_tabled c t low high q is l h r b =
    let f : Fits (box_between low high) = spans_fit low high (l ∙ sym h) r b in
    least_is t c.objects 0 0 c.weights (box_between low high) (table_agrees c t is) (length_spans low high (l ∙ sym h) ∙ l) f
    ∙ sym (distance_low (record { objects = c.objects; weights = c.weights }) (box_between low high) q.lengths (fits_vectors (box_between low high) f))

pub high_tabled : (c : Certificate) (t low high : List ℕ) → HasShape c → IsTable c t → length low ≡ length c.weights → length high ≡ length c.weights →
    ((k : ℕ) → k < length low → get_or low k 0 ≤ get_or high k 0) → ((k : ℕ) → get_or high k 0 < 256) → greatest_from 0 t 0 (box_between low high) ≡ high_of (dist_of c) (box_between low high)
high_tabled c t low high q is l h r b =
    let f : Fits (box_between low high) = spans_fit low high (l ∙ sym h) r b in
    greatest_is t c.objects 0 0 c.weights (box_between low high) (table_agrees c t is) (length_spans low high (l ∙ sym h) ∙ l) f
    ∙ sym (distance_high (record { objects = c.objects; weights = c.weights }) (box_between low high) q.lengths (fits_vectors (box_between low high) f))

-- a loop's end
all_dropped : {X : Type 0} (dim : ℕ) (x : List X) → length x ≤ dim → drop dim x ≡ []
all_dropped zero [] h = refl
all_dropped zero (v ∷ x) h = absurd (omega (arith, h))
all_dropped (suc dim) [] h = refl
all_dropped (suc dim) (v ∷ x) h = all_dropped dim x (omega (arith, h))

pub sum_ends : (c : Certificate) (t x : List ℕ) (dim a : ℕ) → length x ≤ dim → sum_from dim t a (drop dim x) ≡ sum_from 0 t 0 x → HasShape c → IsTable c t → length x ≡ length c.weights → ((k : ℕ) → get_or x k 0 < 256) → a ≡ dist_of c x
sum_ends c t x dim a h s q is l b =
    sym (ap (sum_from dim t a) (all_dropped dim x h)) ∙ (s ∙ distance_tabled c t x q is l b)

pub low_ends : (c : Certificate) (t low high : List ℕ) (dim a : ℕ) → length low ≤ dim → least_from dim t a (box_between (drop dim low) (drop dim high)) ≡ least_from 0 t 0 (box_between low high) → HasShape c → IsTable c t → length low ≡ length c.weights → length high ≡ length c.weights →
    ((k : ℕ) → k < length low → get_or low k 0 ≤ get_or high k 0) → ((k : ℕ) → get_or high k 0 < 256) → a ≡ low_of (dist_of c) (box_between low high)
low_ends c t low high dim a h s q is l m r b =
    sym (ap (λ (x : List ℕ). least_from dim t a (box_between x (drop dim high))) (all_dropped dim low h)) ∙ (s ∙ low_tabled c t low high q is l m r b)

pub high_ends : (c : Certificate) (t low high : List ℕ) (dim a : ℕ) → length low ≤ dim → greatest_from dim t a (box_between (drop dim low) (drop dim high)) ≡ greatest_from 0 t 0 (box_between low high) → HasShape c → IsTable c t → length low ≡ length c.weights → length high ≡ length c.weights →
    ((k : ℕ) → k < length low → get_or low k 0 ≤ get_or high k 0) → ((k : ℕ) → get_or high k 0 < 256) → a ≡ high_of (dist_of c) (box_between low high)
high_ends c t low high dim a h s q is l m r b =
    sym (ap (λ (x : List ℕ). greatest_from dim t a (box_between x (drop dim high))) (all_dropped dim low h)) ∙ (s ∙ high_tabled c t low high q is l m r b)
