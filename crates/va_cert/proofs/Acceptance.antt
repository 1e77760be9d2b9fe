-- The certificate of a search is accepted.
use Rattle.std.proofs.Common.{◌≡◌, ◌≢◌, ℕ, suc, ◌<◌, ◌≤◌, Bool, true, false, not, ◌&&◌, ◌||◌, List, [], ◌∷◌, length, map, take, Option, None, Some, slice_get, eqb, ltb, if◌then◌else◌, refl, ap, sym, ◌∙◌, subst, ◌⊎◌, inl, inr, arith}
use Rattle.std.specs.List.{filter, AllByRecursion}
use Rattle.std.specs.Option.{option_map, is_none}
use Rattle.std.proofs.lemmas.Bool.Decides.{nat_tests}
use Rattle.std.proofs.lemmas.List.{length-map}
use Rattle.std.proofs.lemmas.List.Sorted.{IsPermutation-map, length_permutation}
use Rattle.va_core.specs.declared.pair.Pair.{Pair}
use Rattle.va_core.proofs.Boxes.{low_least, high_greatest, lies_length, box_between_ends, substitute_found}
use Rattle.va_core.proofs.Cells.{lies_in_own}
use Rattle.va_core.proofs.Keyed.{KeysDiffer, resorted}
use Rattle.va_core.proofs.Certain.{AreCovered, first_known, shut_by_covered, known_answer, needed_tells}
use Rattle.va_core.proofs.Counting.{lesser_permuted}
use Rattle.va_core.proofs.Covering.{names_filter, only_at}
use Rattle.va_core.proofs.Knowing.{known_enough}
use Rattle.va_core.proofs.Members.{IsAmong, all_from, all_at}
use Rattle.va_core.proofs.Nearest.{answer_permuted}
use Rattle.va_core.proofs.Sorting.{filter_ascending_by, ascending_by_permutes, ascending_by_in_order, all_placed_by, all_ascending_by}
use Rattle.va_core.specs.Approximations.{paired, pairs, is_wide, is_near, is_needed, low_pair, need, NamesDiffer}
use Rattle.va_core.specs.Boxes.{Span, Lies, low_of, high_of}
use Rattle.va_core.specs.Cells.{box}
use Rattle.va_core.specs.Distance.{Query, distance, pairs_of}
use Rattle.va_core.specs.Kth.{kth, first_before}
use Rattle.va_core.specs.Marks.{cell, AreValid}
use Rattle.va_core.specs.Places.{Item}
use Rattle.va_core.specs.Ranking.{is_less, lesser, ascending, answer}
use Rattle.va_core.specs.Shape.{is_within}
use Rattle.va_core.specs.Sorting.{placed_by, ascending_by}
use Rattle.va_cert.specs.declared.certificate.BoxRow.{BoxRow}
use Rattle.va_cert.specs.declared.certificate.Taken.{Taken}
use Rattle.va_cert.specs.declared.certificate.Certificate.{Certificate}
use Rattle.va_cert.specs.Known.{dist_of, box_at, vector_at, bounds, is_known, known_dist, known_list, substituted_dist, substituted_list, first_unknown}
use Rattle.va_cert.specs.Reasons.{Reason, form_k, form_weights, form_objects, form_boxes, form_fetched, vector_outside, substitute_outside, answer_differs, undetermined, needless, first_of, when_so, form_rows, Accepts, have_length, first_bad_box, first_bad_entry, first_entry, first_difference, is_outside, is_substitute_outside, is_needless, lies}
use Rattle.va_core.specs.Reads.{approximated}
use Rattle.va_core.specs.Vectors.{IsVector}
use Rattle.va_cert.specs.Made.{own_box, by_id, row_for, taken_for, cert, AreOfShape, MadeIsAccepted}
use Rattle.va_cert.proofs.Rows.{no_difference, same_lists}
use Rattle.va_cert.proofs.Lookups.{id_of, fetched_where, vector_where, box_where, has_where, Ascends, order_part, HasBox, boxes_good, HasEntry, entries_good, nothing_before, no_entries, lie_lies, lie_rises, pairs_mapped, names_differ}
use Rattle.va_core.proofs.Tests.{both_and, within_range}

-- the distances, what is needed, and what is known
abbrev pub dist : Query → Item → ℕ
dist query item = distance query item.vector

abbrev pub needs : List Item → List (List ℕ) → Query → ℕ → Item → Bool
needs items marks query k item = is_needed (approximated marks query) items (dist query) k item

abbrev pub known : List Item → List (List ℕ) → Query → ℕ → Item → Bool
known items marks query k item = needs items marks query k item || not (is_wide (approximated marks query) item)

-- the certificate, with what was read as a part of the items in order
abbrev pub made : List Item → List (List ℕ) → Query → ℕ → Certificate
made items marks query k = record {
  answer = answer (pairs_of query items) k;
  boxes = map (row_for marks) (by_id items);
  fetched = map (taken_for marks query) (filter (needs items marks query k) (by_id items));
  k = k;
  objects = query.objects;
  weights = query.weights;
}

keys_at : (id : ℕ) (l : List Item) (x : Item) → x.id ≡ id → AllByRecursion (λ (y : Item). y.id ≢ id) l → AllByRecursion (λ (y : Item). ◌≡◌ {A = Pair} (paired 0 y.id) (paired 0 x.id) → y ≡ x) l
keys_at id [] x e h = tt
keys_at id (y ∷ l) x e h = ((λ s. absurd (h.0 (ap (λ (p : Pair). p.id) s ∙ e))), keys_at id l x e h.1)

keys_differ : (l : List Item) → NamesDiffer id_of l → KeysDiffer (λ (item : Item). paired 0 item.id) l
keys_differ [] h = tt
keys_differ (x ∷ l) h = (keys_at x.id l x refl h.0, keys_differ l h.1)

cert_is_made : (items : List Item) (marks : List (List ℕ)) (query : Query) (k : ℕ) → NamesDiffer id_of items → made items marks query k ≡ cert items marks query k
cert_is_made items marks query k differ =
    let part : List Item = filter (needs items marks query k) items in
    let e : filter (needs items marks query k) (by_id items) ≡ by_id (need (approximated marks query) items (dist query) k) =
    filter_ascending_by (λ (item : Item). paired 0 item.id) (needs items marks query k) items
    ∙ sym (resorted (low_pair (approximated marks query)) (λ (item : Item). paired 0 item.id) part (keys_differ part (names_filter id_of (needs items marks query k) items differ))) in
    ap (λ (l : List Item). let c : Certificate = record { answer = answer (pairs_of query items) k; boxes = map (row_for marks) (by_id items); fetched = map (taken_for marks query) l; k = k; objects = query.objects; weights = query.weights } in c) e

names_placed : (key : Item → Pair) (x : Item) (l : List Item) → AllByRecursion (λ (y : Item). y.id ≢ x.id) l → NamesDiffer id_of l → NamesDiffer id_of (placed_by key x l)
names_placed key x [] h d = (tt, tt)
names_placed key x (y ∷ l) h d = elim (is_less (key y) (key x)) as (λ c. NamesDiffer id_of (if c then y ∷ placed_by key x l else x ∷ (y ∷ l))) [
  | true ↦ (all_placed_by (λ (z : Item). z.id ≢ y.id) key x l (λ s. h.0 (sym s)) d.0, names_placed key x l h.1 d.1)
  | false ↦ (h, d)
]

names_sorted : (key : Item → Pair) (l : List Item) → NamesDiffer id_of l → NamesDiffer id_of (ascending_by key l)
names_sorted key [] h = tt
names_sorted key (x ∷ l) h = names_placed key x (ascending_by key l) (all_ascending_by (λ (y : Item). y.id ≢ x.id) key l h.0) (names_sorted key l h.1)

-- as many are less in the order of the ids
lesser_by_id : (query : Query) (items : List Item) (t : Pair) → lesser (pairs id_of (dist query) (by_id items)) t ≡ lesser (pairs id_of (dist query) items) t
lesser_by_id query items t = lesser_permuted (pairs id_of (dist query) items) (pairs id_of (dist query) (by_id items)) t
    (IsPermutation-map (λ (i : Item). paired (dist query i) i.id) items (by_id items) (ascending_by_permutes (λ (item : Item). paired 0 item.id) items))

-- what is used of the items in order
pub record Sorted (items : List Item) (marks : List (List ℕ)) (dims : ℕ) : Type 0 where
  pub ascends : Ascends (by_id items)
  pub lie : AllByRecursion (λ i. Lies (own_box marks i) i.vector) (by_id items)
  pub lengths : AllByRecursion (λ (i : Item). length i.vector ≡ dims) (by_id items)
  pub few : length (by_id items) ≤ 4096

lie_each : (dims : ℕ) (marks : List (List ℕ)) → length marks ≡ dims → AreValid marks → (items : List Item) → AllByRecursion (λ (i : Item). IsVector dims i.vector) items → AllByRecursion (λ i. Lies (own_box marks i) i.vector) items
lie_each dims marks one valid [] h = tt
lie_each dims marks one valid (i ∷ items) h = (lies_in_own marks i.vector valid (subst (λ (n : ℕ). IsVector n i.vector) (sym one) h.0), lie_each dims marks one valid items h.1)

lengths_each : (dims : ℕ) (items : List Item) → AllByRecursion (λ (i : Item). IsVector dims i.vector) items → AllByRecursion (λ (i : Item). length i.vector ≡ dims) items
lengths_each dims [] h = tt
lengths_each dims (i ∷ items) h = (h.0.one_each, lengths_each dims items h.1)

sorted : (dims : ℕ) (items : List Item) (marks : List (List ℕ)) (query : Query) (k : ℕ) → AreOfShape dims items marks query k → Sorted items marks dims
sorted dims items marks query k a = record {
  ascends = record { order = ascending_by_in_order (λ (item : Item). paired 0 item.id) items; differ = names_sorted (λ (item : Item). paired 0 item.id) items (names_differ items a.differ) };
  lie = all_ascending_by (λ i. Lies (own_box marks i) i.vector) (λ (item : Item). paired 0 item.id) items (lie_each dims marks a.one_each a.valid items a.vectors);
  lengths = all_ascending_by (λ (i : Item). length i.vector ≡ dims) (λ (item : Item). paired 0 item.id) items (lengths_each dims items a.vectors);
  few = let e : length (by_id items) ≡ length items = length_permutation items (by_id items) (ascending_by_permutes (λ (item : Item). paired 0 item.id) items) in let f : length items ≤ 4096 = a.few in omega (arith, e, f);
}

-- the known pairs of the certificate are those of the items
known_at : (items : List Item) (marks : List (List ℕ)) (query : Query) (k : ℕ) (i : Item) → NamesDiffer id_of (by_id items) → IsAmong i (by_id items) → is_known (made items marks query k) (row_for marks i) ≡ known items marks query k i
known_at items marks query k i differ in' =
    let c = made items marks query k in
    ap (λ (b : Bool). b || not (is_wide (bounds (made items marks query k)) (row_for marks i))) (fetched_where marks query (needs items marks query k) i (by_id items) differ in')
    ∙ ap (λ (b : List Span). needs items marks query k i || not (ltb (low_of (distance query) b) (high_of (distance query) b))) (box_between_ends (own_box marks i))

narrow_is : (low high d : ℕ) → low ≤ d → d ≤ high → not (ltb low high) ≡ true → low ≡ d
narrow_is low high d a b n = let h : high ≤ low = grind (arith, nat_tests, n) in omega (arith, a, b, h)

dist_at : (items : List Item) (marks : List (List ℕ)) (query : Query) (k : ℕ) (i : Item) → NamesDiffer id_of (by_id items) → IsAmong i (by_id items) → Lies (own_box marks i) i.vector →
    known items marks query k i ≡ true → known_dist (made items marks query k) (row_for marks i) ≡ dist query i
dist_at items marks query k i differ in' lie on =
    let f = fetched_where marks query (needs items marks query k) i (by_id items) differ in' in
    ap (λ (b : Bool). if b then dist_of (made items marks query k) (vector_at (made items marks query k).fetched i.id) else (bounds (made items marks query k)).low (row_for marks i)) f
    ∙ elim (needs items marks query k i) as (λ b. needs items marks query k i ≡ b → (b || not (is_wide (approximated marks query) i)) ≡ true →
    (if b then dist_of (made items marks query k) (vector_at (made items marks query k).fetched i.id) else (bounds (made items marks query k)).low (row_for marks i)) ≡ dist query i) [
      | true ↦ λ e o. ap (distance query) (vector_where marks query (needs items marks query k) i (by_id items) differ in' e)
      | false ↦ λ e o. ap (λ (b : List Span). low_of (distance query) b) (box_between_ends (own_box marks i))
          ∙ narrow_is (low_of (distance query) (own_box marks i)) (high_of (distance query) (own_box marks i)) (dist query i) (low_least (distance query) (own_box marks i) i.vector lie) (high_greatest (distance query) (own_box marks i) i.vector lie) o
    ] refl on

paired_same : (n m id : ℕ) → n ≡ m → paired n id ≡ paired m id
paired_same n m id h = ap (λ (d : ℕ). paired d id) h

list_is : (items : List Item) (marks : List (List ℕ)) (dims : ℕ) (query : Query) (k : ℕ) → Sorted items marks dims → known_list (made items marks query k) ≡ first_known id_of (dist query) (known items marks query k) (by_id items) k
list_is items marks dims query k s =
    ap (λ (ps : List Pair). take k (ascending ps))
    (pairs_mapped (row_for marks) id_of (dist query) (λ (row : BoxRow). row.id) (known_dist (made items marks query k)) (known items marks query k) (is_known (made items marks query k)) (by_id items)
    (all_from (λ i. is_known (made items marks query k) (row_for marks i) ≡ known items marks query k i) (by_id items) (λ i g. known_at items marks query k i s.ascends.differ g))
    (all_from (λ i. known items marks query k i ≡ true → paired (known_dist (made items marks query k) (row_for marks i)) i.id ≡ paired (dist query i) i.id) (by_id items)
    (λ i g on. paired_same (known_dist (made items marks query k) (row_for marks i)) (dist query i) i.id (dist_at items marks query k i s.ascends.differ g (all_at (λ j. Lies (own_box marks j) j.vector) (by_id items) i s.lie g) on))))

-- another distance for one of them
abbrev pub other : List (List ℕ) → Query → Item → Item → ℕ
other marks query x i = if eqb i.id x.id then distance query (taken_for marks query x).other else dist query i

other_at : (items : List Item) (marks : List (List ℕ)) (query : Query) (k : ℕ) (x i : Item) → NamesDiffer id_of (by_id items) → IsAmong i (by_id items) → Lies (own_box marks i) i.vector →
    known items marks query k i ≡ true → substituted_dist (made items marks query k) (taken_for marks query x) (row_for marks i) ≡ other marks query x i
other_at items marks query k x i differ in' lie on = elim (eqb i.id x.id) as (λ b. (if b then dist_of (made items marks query k) (taken_for marks query x).other else known_dist (made items marks query k) (row_for marks i)) ≡ (if b then distance query (taken_for marks query x).other else dist query i)) [
  | true ↦ refl
  | false ↦ dist_at items marks query k i differ in' lie on
]

other_is : (items : List Item) (marks : List (List ℕ)) (dims : ℕ) (query : Query) (k : ℕ) (x : Item) → Sorted items marks dims → substituted_list (made items marks query k) (taken_for marks query x) ≡ first_known id_of (other marks query x) (known items marks query k) (by_id items) k
other_is items marks dims query k x s =
    ap (λ (ps : List Pair). take k (ascending ps))
    (pairs_mapped (row_for marks) id_of (other marks query x) (λ (row : BoxRow). row.id) (substituted_dist (made items marks query k) (taken_for marks query x)) (known items marks query k) (is_known (made items marks query k)) (by_id items)
    (all_from (λ i. is_known (made items marks query k) (row_for marks i) ≡ known items marks query k i) (by_id items) (λ i g. known_at items marks query k i s.ascends.differ g))
    (all_from (λ i. known items marks query k i ≡ true → paired (substituted_dist (made items marks query k) (taken_for marks query x) (row_for marks i)) i.id ≡ paired (other marks query x i) i.id) (by_id items)
    (λ i g on. paired_same (substituted_dist (made items marks query k) (taken_for marks query x) (row_for marks i)) (other marks query x i) i.id (other_at items marks query k x i s.ascends.differ g (all_at (λ j. Lies (own_box marks j) j.vector) (by_id items) i s.lie g) on))))

unknown_is : (items : List Item) (marks : List (List ℕ)) (dims : ℕ) (query : Query) (k : ℕ) → Sorted items marks dims →
    first_unknown (made items marks query k) ≡ slice_get (ascending (pairs id_of (approximated marks query).low (filter (λ i. not (known items marks query k i)) (by_id items)))) 0
unknown_is items marks dims query k s =
    ap (λ (ps : List Pair). slice_get (ascending ps) 0)
    (pairs_mapped (row_for marks) id_of (approximated marks query).low (λ (row : BoxRow). row.id) (bounds (made items marks query k)).low (λ i. not (known items marks query k i)) (λ row. not (is_known (made items marks query k) row)) (by_id items)
    (all_from (λ i. not (is_known (made items marks query k) (row_for marks i)) ≡ not (known items marks query k i)) (by_id items) (λ i g. ap not (known_at items marks query k i s.ascends.differ g)))
    (all_from (λ i. not (known items marks query k i) ≡ true → paired ((bounds (made items marks query k)).low (row_for marks i)) i.id ≡ paired ((approximated marks query).low i) i.id) (by_id items)
    (λ i g on. paired_same ((bounds (made items marks query k)).low (row_for marks i)) ((approximated marks query).low i) i.id (ap (λ (b : List Span). low_of (distance query) b) (box_between_ends (own_box marks i))))))

-- an unknown item has k pairs below its least pair
beyond_at : (items : List Item) (marks : List (List ℕ)) (query : Query) (k : ℕ) (i : Item) →
    (known items marks query k i ≡ true) ⊎ (k ≤ lesser (pairs id_of (dist query) (by_id items)) (low_pair (approximated marks query) i))
beyond_at items marks query k i = elim (is_wide (approximated marks query) i) as (λ w. is_wide (approximated marks query) i ≡ w →
    (((w && is_near (approximated marks query) items (dist query) k i) || not w) ≡ true) ⊎ (k ≤ lesser (pairs id_of (dist query) (by_id items)) (low_pair (approximated marks query) i))) [
      | true ↦ λ e. elim (is_near (approximated marks query) items (dist query) k i) as (λ n. is_near (approximated marks query) items (dist query) k i ≡ n →
          ((n || false) ≡ true) ⊎ (k ≤ lesser (pairs id_of (dist query) (by_id items)) (low_pair (approximated marks query) i))) [
            | true ↦ λ f. inl refl
            | false ↦ λ f. let many : k ≤ lesser (pairs id_of (dist query) items) (low_pair (approximated marks query) i) = grind (arith, nat_tests, f) in
                inr (rw (lesser_by_id query items (low_pair (approximated marks query) i)) many)
          ] refl
      | false ↦ λ e. inl refl
    ] refl

above_all : (items : List Item) (marks : List (List ℕ)) (dims : ℕ) (query : Query) → Sorted items marks dims → AllByRecursion (λ i. (approximated marks query).low i ≤ dist query i) (by_id items)
above_all items marks dims query s = all_from (λ i. (approximated marks query).low i ≤ dist query i) (by_id items)
    (λ i g. low_least (distance query) (own_box marks i) i.vector (all_at (λ j. Lies (own_box marks j) j.vector) (by_id items) i s.lie g))

enough_at : (items : List Item) (marks : List (List ℕ)) (dims : ℕ) (query : Query) (k : ℕ) (i : Item) → Sorted items marks dims →
    (known items marks query k i ≡ true) ⊎ (k ≤ lesser (pairs id_of (dist query) (by_id items)) (low_pair (approximated marks query) i)) →
    (known items marks query k i ≡ true) ⊎ (k ≤ lesser (pairs id_of (dist query) (filter (known items marks query k) (by_id items))) (low_pair (approximated marks query) i))
enough_at items marks dims query k i s (inl h) = inl h
enough_at items marks dims query k i s (inr h) = inr (known_enough id_of (approximated marks query).low (dist query) (known items marks query k) (by_id items) k (low_pair (approximated marks query) i)
    (above_all items marks dims query s)
    (all_from (λ j. (known items marks query k j ≡ true) ⊎ (k ≤ lesser (pairs id_of (dist query) (by_id items)) (low_pair (approximated marks query) j))) (by_id items) (λ j g. beyond_at items marks query k j)) h)

covered : (items : List Item) (marks : List (List ℕ)) (dims : ℕ) (query : Query) (k : ℕ) → Sorted items marks dims → AreCovered id_of (approximated marks query).low (dist query) (known items marks query k) (by_id items) k
covered items marks dims query k s = all_from (λ i. (known items marks query k i ≡ true) ⊎ (k ≤ lesser (pairs id_of (dist query) (filter (known items marks query k) (by_id items))) (low_pair (approximated marks query) i))) (by_id items)
    (λ i g. enough_at items marks dims query k i s (beyond_at items marks query k i))

-- the rows of the answer and of the unknown boxes
answer_row : (items : List Item) (marks : List (List ℕ)) (dims : ℕ) (query : Query) (k : ℕ) → Sorted items marks dims → first_difference 0 (answer (pairs_of query items) k) (known_list (made items marks query k)) ≡ None
answer_row items marks dims query k s =
    let now : answer (pairs id_of (dist query) (by_id items)) k ≡ first_known id_of (dist query) (known items marks query k) (by_id items) k =
    known_answer id_of (approximated marks query).low (dist query) (dist query) (known items marks query k) (by_id items) k s.ascends.differ (above_all items marks dims query s)
    (all_from (λ i. known items marks query k i ≡ true → dist query i ≡ dist query i) (by_id items) (λ i g h. refl)) (covered items marks dims query k s) in
    let moved : answer (pairs id_of (dist query) (by_id items)) k ≡ answer (pairs_of query items) k = answer_permuted (pairs id_of (dist query) items) (pairs id_of (dist query) (by_id items)) k
    (IsPermutation-map (λ (i : Item). paired (dist query i) i.id) items (by_id items) (ascending_by_permutes (λ (item : Item). paired 0 item.id) items)) in
    ap (λ (ps : List Pair). first_difference 0 (answer (pairs_of query items) k) ps) (list_is items marks dims query k s ∙ (sym now ∙ moved)) ∙ same_lists 0 (answer (pairs_of query items) k)

unknown_row : (items : List Item) (marks : List (List ℕ)) (dims : ℕ) (query : Query) (k : ℕ) → 1 ≤ k → Sorted items marks dims → first_before (kth k (known_list (made items marks query k))) (first_unknown (made items marks query k)) ≡ None
unknown_row items marks dims query k some s =
    ap (λ (ps : List Pair). first_before (kth k ps) (first_unknown (made items marks query k))) (list_is items marks dims query k s)
    ∙ (ap (λ (o : Option Pair). first_before (kth k (first_known id_of (dist query) (known items marks query k) (by_id items) k)) o) (unknown_is items marks dims query k s)
    ∙ shut_by_covered id_of (approximated marks query).low (dist query) (known items marks query k) (by_id items) k some (covered items marks dims query k s))

-- each entry is needed
none_cases : (o : Option ℕ) → (o ≡ None → ⊥) → is_none o ≡ false
none_cases None h = absurd (h refl)
none_cases (Some n) h = refl

differing : (ps qs : List Pair) → ps ≢ qs → is_none (first_difference 0 ps qs) ≡ false
differing ps qs ne = none_cases (first_difference 0 ps qs) (λ e. ne (no_difference 0 ps qs e))

and_first : (a b : Bool) → (a && b) ≡ true → a ≡ true
and_first true b h = refl
and_first false b h = h

and_second : (a b : Bool) → (a && b) ≡ true → b ≡ true
and_second true b h = h
and_second false b h = cc

elsewhere_at : (marks : List (List ℕ)) (query : Query) (x i : Item) → (i.id ≡ x.id → i ≡ x) → (i ≡ x) ⊎ (other marks query x i ≡ dist query i)
elsewhere_at marks query x i only = elim (eqb i.id x.id) as (λ b. eqb i.id x.id ≡ b → (i ≡ x) ⊎ ((if b then distance query (taken_for marks query x).other else dist query i) ≡ dist query i)) [
  | true ↦ λ e. let same : i.id ≡ x.id = grind (arith, nat_tests, e) in inl (only same)
  | false ↦ λ e. inr refl
] refl

needed_at : (items : List Item) (marks : List (List ℕ)) (dims : ℕ) (query : Query) (k : ℕ) (x : Item) → Sorted items marks dims → IsAmong x (by_id items) → needs items marks query k x ≡ true →
    first_known id_of (other marks query x) (known items marks query k) (by_id items) k ≢ first_known id_of (dist query) (known items marks query k) (by_id items) k
needed_at items marks dims query k x s in' need' =
    let lie : Lies (own_box marks x) x.vector = all_at (λ j. Lies (own_box marks j) j.vector) (by_id items) x s.lie in' in
    let wide : is_wide (approximated marks query) x ≡ true = and_first (is_wide (approximated marks query) x) (is_near (approximated marks query) items (dist query) k x) need' in
    let near : is_near (approximated marks query) items (dist query) k x ≡ true = and_second (is_wide (approximated marks query) x) (is_near (approximated marks query) items (dist query) k x) need' in
    let few : lesser (pairs id_of (dist query) items) (low_pair (approximated marks query) x) < k = grind (arith, nat_tests, near) in
    let same : eqb x.id x.id ≡ true = grind (arith, nat_tests) in
    needed_tells id_of (approximated marks query).low (approximated marks query).high (dist query) (other marks query x) (known items marks query k) x (by_id items) k s.ascends.differ in'
    (rw need' refl) (grind (arith, nat_tests, wide)) (low_least (distance query) (own_box marks x) x.vector lie)
    (rw (lesser_by_id query items (low_pair (approximated marks query) x)) few)
    (all_from (λ j. (j ≡ x) ⊎ (other marks query x j ≡ dist query j)) (by_id items) (λ j g. elsewhere_at marks query x j (all_at (λ (n : Item). n.id ≡ x.id → n ≡ x) (by_id items) j (only_at id_of (by_id items) x s.ascends.differ in') g)))
    (ap (λ (b : Bool). if b then distance query (taken_for marks query x).other else dist query x) same ∙ (substitute_found (distance query) (own_box marks x) x.vector lie).1)

needless_at : (items : List Item) (marks : List (List ℕ)) (dims : ℕ) (query : Query) (k : ℕ) (x : Item) → Sorted items marks dims → IsAmong x (by_id items) → needs items marks query k x ≡ true → is_needless (made items marks query k) (taken_for marks query x) ≡ false
needless_at items marks dims query k x s in' need' = differing (substituted_list (made items marks query k) (taken_for marks query x)) (known_list (made items marks query k))
    (λ e. needed_at items marks dims query k x s in' need' (sym (other_is items marks dims query k x s) ∙ (e ∙ list_is items marks dims query k s)))

-- the form
box_length : (marks : List (List ℕ)) (x : List ℕ) → length x ≡ length marks → length (box marks (cell marks x)) ≡ length marks
box_length [] [] h = refl
box_length [] (v ∷ x) h = refl
box_length (row ∷ marks) [] h = absurd (omega (arith, h))
box_length (row ∷ marks) (v ∷ x) h = ap suc (box_length marks x (omega (arith, h)))

has_box_at : (dims : ℕ) (marks : List (List ℕ)) (i : Item) → length marks ≡ dims → length i.vector ≡ dims → Lies (own_box marks i) i.vector → HasBox dims marks i
has_box_at dims marks i m l lie =
    let len : length (own_box marks i) ≡ dims = box_length marks i.vector (l ∙ sym m) ∙ m in record {
      low = length-map (own_box marks i) (λ (s : Span). s.low) ∙ len;
      high = length-map (own_box marks i) (λ (s : Span). s.high) ∙ len;
      rise = lie_rises (own_box marks i) i.vector lie;
    }

has_entry_at : (dims : ℕ) (marks : List (List ℕ)) (query : Query) (items : List Item) (i : Item) → length marks ≡ dims → length i.vector ≡ dims → Lies (own_box marks i) i.vector → IsAmong i items → HasEntry dims marks query (map (row_for marks) items) i
has_entry_at dims marks query items i m l lie in' = record {
  boxed = has_where marks i items in';
  vector = l;
  other = lies_length (own_box marks i) (taken_for marks query i).other (substitute_found (distance query) (own_box marks i) i.vector lie).0 ∙ (box_length marks i.vector (l ∙ sym m) ∙ m);
}

none_then : (o : Option Reason) (rest : List (Option Reason)) → o ≡ None → first_of rest ≡ None → first_of (o ∷ rest) ≡ None
none_then None rest h g = g
none_then (Some r) rest h g = cc

so_none : (b : Bool) (r : Reason) → b ≡ true → when_so (not b) r ≡ None
so_none b r h = rw h refl

map_none : {A : Type 0} (f : A → Reason) (o : Option A) → o ≡ None → option_map f o ≡ None
map_none f o h = rw h refl

lengths_hold : (dims n : ℕ) (objects : List (List ℕ)) → n ≡ dims → AllByRecursion (λ o. IsVector dims o) objects → have_length n objects ≡ true
lengths_hold dims n [] e h = refl
lengths_hold dims n (o ∷ objects) e h = let t : eqb (length o) n ≡ true = (let g : length o ≡ dims = h.0.one_each in grind (arith, nat_tests, g, e)) in rw t (lengths_hold dims n objects e h.1)

part_ascends : (test : Item → Bool) (ms : List Item) → Ascends ms → Ascends (filter test ms)
part_ascends test ms a = record { order = order_part test ms a.order; differ = names_filter id_of test ms a.differ }

-- what holds of the members holds of those that are needed
pub of_needed : (P : Item → Type 0) (test : Item → Bool) (ms : List Item) → ((i : Item) → IsAmong i ms → test i ≡ true → P i) → AllByRecursion P (filter test ms)
of_needed P test [] h = tt
of_needed P test (x ∷ ms) h = elim (test x) as (λ c. test x ≡ c → AllByRecursion P (if c then x ∷ filter test ms else filter test ms)) [
  | true ↦ λ e. (h x (inl refl) e, of_needed P test ms (λ i g t. h i (inr g) t))
  | false ↦ λ e. of_needed P test ms (λ i g t. h i (inr g) t)
] refl

form_row : (dims : ℕ) (items : List Item) (marks : List (List ℕ)) (query : Query) (k : ℕ) → AreOfShape dims items marks query k → Sorted items marks dims → first_of (form_rows (made items marks query k)) ≡ None
form_row dims items marks query k a s =
    let w : ℕ = length query.weights in
    let c : Certificate = made items marks query k in
    let boxed : List (Option Reason) = option_map form_boxes (first_bad_box (length query.weights) None 0 (map (row_for marks) (by_id items))) ∷ option_map form_fetched (first_bad_entry (length query.weights) (map (row_for marks) (by_id items)) None 0 (map (taken_for marks query) (filter (needs items marks query k) (by_id items)))) ∷ [] in
    none_then (when_so (not (is_within 1 4096 k)) form_k)
    (when_so (not (is_within 1 256 (length query.weights))) form_weights ∷ when_so (not (is_within 1 16 (length query.objects) && have_length (length query.weights) query.objects)) form_objects ∷ boxed)
    (so_none (is_within 1 4096 k) form_k (within_range 1 4096 k a.some_k a.most_k))
    (none_then (when_so (not (is_within 1 256 (length query.weights))) form_weights)
    (when_so (not (is_within 1 16 (length query.objects) && have_length (length query.weights) query.objects)) form_objects ∷ boxed)
    (so_none (is_within 1 256 (length query.weights)) form_weights (within_range 1 256 (length query.weights) (let e : length query.weights ≡ dims = a.fits.one_each in let f : 1 ≤ dims = a.some_dims in omega (arith, e, f)) (let e : length query.weights ≡ dims = a.fits.one_each in let f : dims ≤ 256 = a.most_dims in omega (arith, e, f))))
    (none_then (when_so (not (is_within 1 16 (length query.objects) && have_length (length query.weights) query.objects)) form_objects) boxed
    (so_none (is_within 1 16 (length query.objects) && have_length (length query.weights) query.objects) form_objects (both_and (is_within 1 16 (length query.objects)) (have_length (length query.weights) query.objects) (within_range 1 16 (length query.objects) a.fits.some_objects a.fits.most_objects) (lengths_hold dims (length query.weights) query.objects a.fits.one_each a.fits.objects)))
    (none_then (option_map form_boxes (first_bad_box (length query.weights) None 0 (map (row_for marks) (by_id items)))) (option_map form_fetched (first_bad_entry (length query.weights) (map (row_for marks) (by_id items)) None 0 (map (taken_for marks query) (filter (needs items marks query k) (by_id items)))) ∷ [])
    (map_none form_boxes (first_bad_box (length query.weights) None 0 (map (row_for marks) (by_id items)))
    (boxes_good (length query.weights) 0 None marks (by_id items) (let f : length (by_id items) ≤ 4096 = s.few in omega (arith, f))
    (all_from (HasBox (length query.weights) marks) (by_id items) (λ i g. has_box_at (length query.weights) marks i (a.one_each ∙ sym a.fits.one_each) (all_at (λ (j : Item). length j.vector ≡ dims) (by_id items) i s.lengths g ∙ sym a.fits.one_each) (all_at (λ j. Lies (own_box marks j) j.vector) (by_id items) i s.lie g)))
    s.ascends (nothing_before (by_id items))))
    (none_then (option_map form_fetched (first_bad_entry (length query.weights) (map (row_for marks) (by_id items)) None 0 (map (taken_for marks query) (filter (needs items marks query k) (by_id items))))) []
    (map_none form_fetched (first_bad_entry (length query.weights) (map (row_for marks) (by_id items)) None 0 (map (taken_for marks query) (filter (needs items marks query k) (by_id items))))
    (entries_good (length query.weights) 0 None marks query (map (row_for marks) (by_id items)) (filter (needs items marks query k) (by_id items))
    (of_needed (HasEntry (length query.weights) marks query (map (row_for marks) (by_id items))) (needs items marks query k) (by_id items)
    (λ i g t. has_entry_at (length query.weights) marks query (by_id items) i (a.one_each ∙ sym a.fits.one_each) (all_at (λ (j : Item). length j.vector ≡ dims) (by_id items) i s.lengths g ∙ sym a.fits.one_each) (all_at (λ j. Lies (own_box marks j) j.vector) (by_id items) i s.lie g) g))
    (part_ascends (needs items marks query k) (by_id items) s.ascends) (nothing_before (filter (needs items marks query k) (by_id items)))))
    refl))))

-- vectors and substitutes lie in their boxes
inside_at : (marks : List (List ℕ)) (items : List Item) (i : Item) (x : List ℕ) → NamesDiffer id_of items → IsAmong i items → Lies (own_box marks i) x → not (lies (box_at (map (row_for marks) items) i.id) x) ≡ false
inside_at marks items i x differ in' lie =
    let e : box_at (map (row_for marks) items) i.id ≡ own_box marks i = box_where marks i items differ in' ∙ box_between_ends (own_box marks i) in
    rw e (rw (lie_lies (own_box marks i) x lie) refl)

pub made_accepted : (dims : ℕ) (items : List Item) (marks : List (List ℕ)) (query : Query) (k : ℕ) → AreOfShape dims items marks query k → Sorted items marks dims → Accepts (made items marks query k)
made_accepted dims items marks query k a s =
    let c : Certificate = made items marks query k in
    let f : List Taken = map (taken_for marks query) (filter (needs items marks query k) (by_id items)) in
    none_then (first_of (form_rows (made items marks query k))) (option_map vector_outside (first_entry (is_outside c) f) ∷ option_map substitute_outside (first_entry (is_substitute_outside c) f) ∷ option_map answer_differs (first_difference 0 c.answer (known_list c)) ∷ option_map (λ (p : Pair). undetermined p.id) (first_before (kth k (known_list c)) (first_unknown c)) ∷ option_map needless (first_entry (is_needless c) f) ∷ [])
    (form_row dims items marks query k a s)
    (none_then (option_map vector_outside (first_entry (is_outside c) f)) (option_map substitute_outside (first_entry (is_substitute_outside c) f) ∷ option_map answer_differs (first_difference 0 c.answer (known_list c)) ∷ option_map (λ (p : Pair). undetermined p.id) (first_before (kth k (known_list c)) (first_unknown c)) ∷ option_map needless (first_entry (is_needless c) f) ∷ [])
    (map_none vector_outside (first_entry (is_outside c) f) (no_entries marks query (is_outside c) (filter (needs items marks query k) (by_id items))
    (of_needed (λ i. is_outside c (taken_for marks query i) ≡ false) (needs items marks query k) (by_id items) (λ i g t. inside_at marks (by_id items) i i.vector s.ascends.differ g (all_at (λ j. Lies (own_box marks j) j.vector) (by_id items) i s.lie g)))))
    (none_then (option_map substitute_outside (first_entry (is_substitute_outside c) f)) (option_map answer_differs (first_difference 0 c.answer (known_list c)) ∷ option_map (λ (p : Pair). undetermined p.id) (first_before (kth k (known_list c)) (first_unknown c)) ∷ option_map needless (first_entry (is_needless c) f) ∷ [])
    (map_none substitute_outside (first_entry (is_substitute_outside c) f) (no_entries marks query (is_substitute_outside c) (filter (needs items marks query k) (by_id items))
    (of_needed (λ i. is_substitute_outside c (taken_for marks query i) ≡ false) (needs items marks query k) (by_id items) (λ i g t. inside_at marks (by_id items) i (taken_for marks query i).other s.ascends.differ g
    (substitute_found (distance query) (own_box marks i) i.vector (all_at (λ j. Lies (own_box marks j) j.vector) (by_id items) i s.lie g)).0))))
    (none_then (option_map answer_differs (first_difference 0 c.answer (known_list c))) (option_map (λ (p : Pair). undetermined p.id) (first_before (kth k (known_list c)) (first_unknown c)) ∷ option_map needless (first_entry (is_needless c) f) ∷ [])
    (map_none answer_differs (first_difference 0 c.answer (known_list c)) (answer_row items marks dims query k s))
    (none_then (option_map (λ (p : Pair). undetermined p.id) (first_before (kth k (known_list c)) (first_unknown c))) (option_map needless (first_entry (is_needless c) f) ∷ [])
    (map_none (λ (p : Pair). undetermined p.id) (first_before (kth k (known_list c)) (first_unknown c)) (unknown_row items marks dims query k a.some_k s))
    (none_then (option_map needless (first_entry (is_needless c) f)) []
    (map_none needless (first_entry (is_needless c) f) (no_entries marks query (is_needless c) (filter (needs items marks query k) (by_id items))
    (of_needed (λ i. is_needless c (taken_for marks query i) ≡ false) (needs items marks query k) (by_id items) (λ i g t. needless_at items marks dims query k i s g t))))
    refl)))))

pub made_is_accepted : MadeIsAccepted
made_is_accepted dims items marks query k a =
    subst Accepts (cert_is_made items marks query k (names_differ items a.differ)) (made_accepted dims items marks query k a (sorted dims items marks query k a))
