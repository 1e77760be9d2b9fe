-- What remains of a ranking after a read and after a pair.
use Rattle.std.proofs.Common.{◌≡◌, ◌≢◌, ℕ, suc, ◌+◌, ◌<◌, ◌≤◌, true, false, List, [], ◌∷◌, ◌++◌, length, eqb, ltb, slice_get, None, Some, Contains, append_assoc, if◌then◌else◌, refl, ap, sym, ◌∙◌, subst, arith}
use Rattle.std.specs.List.{filter, AllByRecursion}
use Rattle.std.proofs.lemmas.List.{append-nil}
use Rattle.std.proofs.lemmas.List.Elements.{filter-append}
use Rattle.std.proofs.lemmas.Bool.Decides.{nat_tests}
use Rattle.va_core.specs.declared.pair.Pair.{Pair}
use Rattle.va_core.specs.Approximations.{NamesDiffer, need_next, paired}
use Rattle.va_core.specs.Ranking.{is_less, lesser, placed}
use Rattle.va_core.specs.Sorting.{ascending_by, placed_by, IsFloor}
use Rattle.va_core.proofs.Order.{not_self, less_where_apart, at_most_through}
use Rattle.va_core.proofs.Sorting.{all_ascending_by, all_filter, all_placed_by, ascending_by_in_order, placed_by_in_order, filter_ascending_by}
use Rattle.va_core.proofs.Counting.{lesser_append, lesser_rises, lesser_floor}
use Rattle.va_core.proofs.Members.{all_append}
use Rattle.va_core.proofs.Ranking.{placed_twice, lesser_ascending, all_ascending}
use Rattle.va_keep.specs.Queued.{entry_bounds, low_pair}
use Rattle.va_keep.specs.declared.entry.Entry.{Entry}
use Rattle.va_cursor.specs.Rankings.{ahead, distance_at, id_at, is_wide, pairs_at, ranking, settled, IsOf, LiesBetween, Reads, Remains}
use Rattle.va_cursor.proofs.Filtering.{all_members, all_of, all_weaker, differ_ascending, differ_placed, filter_all, filter_both, filter_none, filter_without, get_behind, get_end, placed_not_empty}

abbrev pair_at : (ℕ × ℕ → ℕ) → Entry → Pair
pair_at d e = paired (distance_at d e) e.id

-- the ranking doesn't depend on the order of the entries
ranking_placed : (d : ℕ × ℕ → ℕ) (x : Entry) (l : List Entry) → ranking d (placed_by low_pair x l) ≡ placed (pair_at d x) (ranking d l)
ranking_placed d x [] = refl
ranking_placed d x (y ∷ l) = elim (is_less (low_pair y) (low_pair x)) as (λ c. ranking d (if c then y ∷ placed_by low_pair x l else x ∷ (y ∷ l)) ≡ placed (pair_at d x) (ranking d (y ∷ l))) [
  | true ↦ ap (placed (pair_at d y)) (ranking_placed d x l) ∙ placed_twice (pair_at d y) (pair_at d x) (ranking d l)
  | false ↦ refl
]

ranking_ascending : (d : ℕ × ℕ → ℕ) (l : List Entry) → ranking d (ascending_by low_pair l) ≡ ranking d l
ranking_ascending d [] = refl
ranking_ascending d (x ∷ l) = ranking_placed d x (ascending_by low_pair l) ∙ ap (placed (pair_at d x)) (ranking_ascending d l)

own_origin : (entries : List Entry) (e : Entry) → Contains entries e → IsOf entries e
own_origin entries e h = record { origin = e; member = h; cell = refl; wide = λ _. refl }

settled_origin : (entries : List Entry) (n : ℕ) (e : Entry) → IsOf entries e → IsOf entries (settled n e)
settled_origin entries n e h = record { origin = h.origin; member = h.member; cell = h.cell; wide = λ w. absurd (narrow n w) }
  where
    narrow : (n : ℕ) → ltb n n ≡ true → ⊥
    narrow n w = grind (arith, nat_tests, w)

pub remains_open : (d : ℕ × ℕ → ℕ) (entries : List Entry) → NamesDiffer id_at entries → AllByRecursion (LiesBetween d) entries → Remains d entries 0 [] (ascending_by low_pair entries)
remains_open d entries differ between = record {
  before = [];
  given = [];
  ranks = sym (ranking_ascending d entries);
  count = refl;
  queue = sym (filter_ascending_by low_pair is_wide entries);
  past = tt;
  present = tt;
  beyond = all_of (λ (e : Entry). lesser [] (low_pair e) ≡ 0) (λ e. refl) (ascending_by low_pair entries);
  order = ascending_by_in_order low_pair entries;
  between = all_ascending_by (LiesBetween d) low_pair entries between;
  differ = differ_ascending id_at low_pair entries differ;
  of = all_ascending_by (IsOf entries) low_pair entries (all_weaker (λ e. Contains entries e) (IsOf entries) (λ e h. own_origin entries e h) entries (all_members entries));
  idle = λ _. refl;
}

-- the least pair of an entry is at most its pair
low_first : (d : ℕ × ℕ → ℕ) (e : Entry) → LiesBetween d e → is_less (pair_at d e) (low_pair e) ≡ false
low_first d e h = let g : e.low ≤ distance_at d e = h.0 in grind (arith, nat_tests, g)

-- so none of the pairs is less than the first of the least pairs
floor_pairs : (d : ℕ × ℕ → ℕ) (p : Pair) (l : List Entry) → AllByRecursion (λ f. is_less (low_pair f) p ≡ false) l → AllByRecursion (LiesBetween d) l → IsFloor (λ q. q) p (pairs_at d l)
floor_pairs d p [] f b = tt
floor_pairs d p (x ∷ l) f b = (at_most_through (pair_at d x) p (low_pair x) f.0 (low_first d x b.0), floor_pairs d p l f.1 b.1)

lesser_few : (l : List Pair) (p : Pair) → lesser l p ≤ length l
lesser_few [] p = omega arith
lesser_few (q ∷ l) p = let rest : lesser l p ≤ length l = lesser_few l p in
    elim (is_less q p) as (λ c. (if c then 1 else 0) + lesser l p ≤ suc (length l)) [
      | true ↦ omega (arith, rest)
      | false ↦ omega (arith, rest)
    ]

ahead_split : (d : ℕ × ℕ → ℕ) (entries held : List Entry) (given : List Pair) (p : Pair) → ranking d entries ≡ given ++ ranking d held → lesser (pairs_at d entries) p ≡ lesser given p + lesser (pairs_at d held) p
ahead_split d entries held given p ranks =
    sym (lesser_ascending (pairs_at d entries) p)
    ∙ ap (λ (l : List Pair). lesser l p) ranks
    ∙ lesser_append given (ranking d held) p
    ∙ ap (λ (n : ℕ). lesser given p + n) (lesser_ascending (pairs_at d held) p)

settled_narrow : (n : ℕ) → ltb n n ≡ false
settled_narrow n = grind (arith, nat_tests)

-- a narrow entry has its least pair
narrow_pair : (d : ℕ × ℕ → ℕ) (e : Entry) → LiesBetween d e → is_wide e ≡ false → pair_at d e ≡ low_pair e
narrow_pair d e h narrow =
    let a : e.low ≤ distance_at d e = h.0 in
    let b : distance_at d e ≤ e.high = h.1 in
    let same : distance_at d e ≡ e.low = grind (arith, nat_tests, a, b, narrow) in
    ap (λ (n : ℕ). paired n e.id) same

placed_floor : (p : Pair) (l : List Pair) → IsFloor (λ q. q) p l → placed p l ≡ p ∷ l
placed_floor p [] f = refl
placed_floor p (q ∷ l) f = rw f.0 refl

first_ranked : (d : ℕ × ℕ → ℕ) (e : Entry) (rest : List Entry) → IsFloor low_pair e rest → AllByRecursion (LiesBetween d) (e ∷ rest) → is_wide e ≡ false → ranking d (e ∷ rest) ≡ low_pair e ∷ ranking d rest
first_ranked d e rest f b narrow =
    ap (λ p. placed p (ranking d rest)) (narrow_pair d e b.0 narrow)
    ∙ placed_floor (low_pair e) (ranking d rest) (all_ascending (λ q. is_less q (low_pair e) ≡ false) (pairs_at d rest) (floor_pairs d (low_pair e) rest f b.1))

-- the first key is less than each of the rest
first_less : (e f : Entry) → f.id ≢ e.id → is_less (low_pair f) (low_pair e) ≡ false → is_less (low_pair e) (low_pair f) ≡ true
first_less e f differ h = less_where_apart (low_pair e) (low_pair f) (λ same. differ (sym (ap (λ (p : Pair). p.id) same))) h

one_more : (given : List Pair) (r : ℕ) (e : Entry) (rest : List Entry) → AllByRecursion (λ f. id_at f ≢ id_at e) rest → IsFloor low_pair e rest → AllByRecursion (λ f. lesser given (low_pair f) ≡ r) rest →
    AllByRecursion (λ f. lesser (given ++ low_pair e ∷ []) (low_pair f) ≡ r + 1) rest
one_more given r e [] differ f h = tt
one_more given r e (x ∷ rest) differ f h = (
  (let less : is_less (low_pair e) (low_pair x) ≡ true = first_less e x differ.0 f.0 in
      let split : lesser (given ++ low_pair e ∷ []) (low_pair x) ≡ lesser given (low_pair x) + lesser (low_pair e ∷ []) (low_pair x) = lesser_append given (low_pair e ∷ []) (low_pair x) in
      let one : lesser (low_pair e ∷ []) (low_pair x) ≡ 1 = rw less refl in
      let now : lesser given (low_pair x) ≡ r = h.0 in
      omega (arith, split, one, now)),
  one_more given r e rest differ.1 f.1 h.1,
)

length_one_more : (l : List Pair) (p : Pair) → length (l ++ p ∷ []) ≡ length l + 1
length_one_more [] p = refl
length_one_more (q ∷ l) p = let rest : length (l ++ p ∷ []) ≡ length l + 1 = length_one_more l p in omega (arith, rest)

earlier : (n r : ℕ) → n < r → eqb n r ≡ false
earlier n r h = grind (arith, nat_tests, h)

later : (n r : ℕ) → r < n → eqb n r ≡ false
later n r h = grind (arith, nat_tests, h)

exactly : (n r : ℕ) → n ≡ r → eqb n r ≡ true
exactly n r h = grind (arith, nat_tests, h)

-- what is held has r pairs before it at least
held_far : (d : ℕ × ℕ → ℕ) (entries all : List Entry) (r : ℕ) (given : List Pair) → ranking d entries ≡ given ++ ranking d all → (held : List Entry) → AllByRecursion (λ f. lesser given (low_pair f) ≡ r) held →
    AllByRecursion (λ f. r ≤ ahead d entries f) held
held_far d entries all r given ranks [] h = tt
held_far d entries all r given ranks (f ∷ held) h = (
  (let split : lesser (pairs_at d entries) (low_pair f) ≡ lesser given (low_pair f) + lesser (pairs_at d all) (low_pair f) = ahead_split d entries all given (low_pair f) ranks in
      let now : lesser given (low_pair f) ≡ r = h.0 in
      omega (arith, split, now)),
  held_far d entries all r given ranks held h.1,
)

next_queued : (d : ℕ × ℕ → ℕ) (entries : List Entry) (r : ℕ) → need_next entry_bounds entries (distance_at d) r ≡ filter (λ e. eqb (ahead d entries e) r) (ascending_by low_pair (filter is_wide entries))
next_queued d entries r = ap (ascending_by low_pair) (filter_both is_wide (λ e. eqb (ahead d entries e) r) entries) ∙ sym (filter_ascending_by low_pair (λ e. eqb (ahead d entries e) r) (filter is_wide entries))

module _ {d : ℕ × ℕ → ℕ} {entries : List Entry} {r : ℕ} {since rest : List Entry} {e : Entry} (s : Remains d entries r since (e ∷ rest)) where
  -- the first entry has as many pairs before it as were given
  first_ahead : ahead d entries e ≡ r
  first_ahead =
      let split : lesser (pairs_at d entries) (low_pair e) ≡ lesser s.given (low_pair e) + lesser (pairs_at d (e ∷ rest)) (low_pair e) = ahead_split d entries (e ∷ rest) s.given (low_pair e) s.ranks in
      let none : lesser (pairs_at d (e ∷ rest)) (low_pair e) ≡ 0 = lesser_floor (low_pair e) (pairs_at d (e ∷ rest)) (floor_pairs d (low_pair e) (e ∷ rest) (not_self (low_pair e), s.order.0) s.between) in
      let r' : lesser s.given (low_pair e) ≡ r = s.beyond.0 in
      omega (arith, split, none, r')

  pub remains_read : is_wide e ≡ true → Remains d entries r (since ++ e ∷ []) (placed_by low_pair (settled (distance_at d e) e) rest)
  remains_read wide = record {
    before = s.before;
    given = s.given;
    ranks = s.ranks ∙ ap (λ l. s.given ++ l) (sym (ranking_placed d (settled (distance_at d e) e) rest));
    count = s.count;
    queue = s.queue ∙ ap (λ l. s.before ++ l) (
        let first : filter is_wide (e ∷ rest) ≡ e ∷ filter is_wide rest = rw wide refl in
        ap (λ l. since ++ l) (first ∙ ap (λ l. e ∷ l) (sym (filter_without low_pair is_wide (settled (distance_at d e) e) rest (settled_narrow (distance_at d e)))))
        ∙ sym (append_assoc since (e ∷ []) (filter is_wide (placed_by low_pair (settled (distance_at d e) e) rest))));
    past = s.past;
    present = all_append (λ (f : Entry). ahead d entries f ≡ r) since (e ∷ []) s.present (first_ahead, tt);
    beyond = all_placed_by (λ (f : Entry). lesser s.given (low_pair f) ≡ r) low_pair (settled (distance_at d e) e) rest (
        let rises : lesser s.given (low_pair e) ≤ lesser s.given (low_pair (settled (distance_at d e) e)) = lesser_rises s.given (low_pair e) (low_pair (settled (distance_at d e) e)) (low_first d e s.between.0) in
        let few : lesser s.given (low_pair (settled (distance_at d e) e)) ≤ length s.given = lesser_few s.given (low_pair (settled (distance_at d e) e)) in
        let now : lesser s.given (low_pair e) ≡ r = s.beyond.0 in
        let count : length s.given ≡ r = s.count in
        omega (arith, rises, few, now, count)) s.beyond.1;
    order = placed_by_in_order low_pair (settled (distance_at d e) e) rest s.order.1;
    between = all_placed_by (LiesBetween d) low_pair (settled (distance_at d e) e) rest (omega arith, omega arith) s.between.1;
    differ = differ_placed id_at low_pair (settled (distance_at d e) e) rest s.differ.0 s.differ.1;
    of = all_placed_by (IsOf entries) low_pair (settled (distance_at d e) e) rest (settled_origin entries (distance_at d e) e s.of.0) s.of.1;
    idle = λ h. absurd (placed_not_empty low_pair (settled (distance_at d e) e) rest h);
  }

  pub remains_given : is_wide e ≡ false → Remains d entries (r + 1) [] rest
  remains_given narrow = record {
    before = s.before ++ since;
    given = s.given ++ low_pair e ∷ [];
    ranks = s.ranks ∙ ap (λ l. s.given ++ l) (first_ranked d e rest s.order.0 s.between narrow) ∙ sym (append_assoc s.given (low_pair e ∷ []) (ranking d rest));
    count = length_one_more s.given (low_pair e) ∙ ap (λ (n : ℕ). n + 1) s.count;
    queue = s.queue ∙ (
        let same : filter is_wide (e ∷ rest) ≡ filter is_wide rest = rw narrow refl in
        ap (λ l. s.before ++ (since ++ l)) same ∙ sym (append_assoc s.before since (filter is_wide rest)));
    past = all_append (λ (f : Entry). ahead d entries f < r + 1) s.before since
        (all_weaker (λ (f : Entry). ahead d entries f < r) (λ (f : Entry). ahead d entries f < r + 1) (λ f h. omega (arith, h)) s.before s.past)
        (all_weaker (λ (f : Entry). ahead d entries f ≡ r) (λ (f : Entry). ahead d entries f < r + 1) (λ f h. omega (arith, h)) since s.present);
    present = tt;
    beyond = one_more s.given r e rest s.differ.0 s.order.0 s.beyond.1;
    order = s.order.1;
    between = s.between.1;
    differ = s.differ.1;
    of = s.of.1;
    idle = λ _. refl;
  }

  -- the pair that is given
  pub given_is_next : is_wide e ≡ false → slice_get (ranking d entries) r ≡ Some (low_pair e)
  given_is_next narrow =
      ap (λ l. slice_get l r) (s.ranks ∙ ap (λ l. s.given ++ l) (first_ranked d e rest s.order.0 s.between narrow))
      ∙ ap (slice_get (s.given ++ low_pair e ∷ ranking d rest)) (sym s.count)
      ∙ get_behind s.given (ranking d rest) (low_pair e)

  -- what isn't read yet when a pair is given has that pair before it too
  waiting_far : is_wide e ≡ false → AllByRecursion (λ f. eqb (ahead d entries f) r ≡ false) (filter is_wide (e ∷ rest))
  waiting_far narrow =
      let same : filter is_wide (e ∷ rest) ≡ filter is_wide rest = rw narrow refl in
      let next : Remains d entries (r + 1) [] rest = remains_given narrow in
      subst (λ l. AllByRecursion (λ f. eqb (ahead d entries f) r ≡ false) l) (sym same)
      (all_filter (λ f. eqb (ahead d entries f) r ≡ false) is_wide rest
      (all_weaker (λ f. r + 1 ≤ ahead d entries f) (λ f. eqb (ahead d entries f) r ≡ false) (λ f h. later (ahead d entries f) r (omega (arith, h))) rest
      (held_far d entries rest (r + 1) next.given next.ranks rest next.beyond)))

module _ {d : ℕ × ℕ → ℕ} {entries : List Entry} {r : ℕ} where
  -- what was read since the last pair is the first of what is next
  pub read_begins : {since held : List Entry} → Remains d entries r since held → need_next entry_bounds entries (distance_at d) r ≡ since ++ filter (λ e. eqb (ahead d entries e) r) (filter is_wide held)
  read_begins {since} {held} s =
      next_queued d entries r
      ∙ ap (filter (λ e. eqb (ahead d entries e) r)) s.queue
      ∙ filter-append (λ e. eqb (ahead d entries e) r) s.before (since ++ filter is_wide held)
      ∙ ap (λ l. l ++ filter (λ e. eqb (ahead d entries e) r) (since ++ filter is_wide held)) (filter_none (λ e. eqb (ahead d entries e) r) s.before
      (all_weaker (λ (f : Entry). ahead d entries f < r) (λ (f : Entry). eqb (ahead d entries f) r ≡ false) (λ f h. earlier (ahead d entries f) r h) s.before s.past))
      ∙ filter-append (λ e. eqb (ahead d entries e) r) since (filter is_wide held)
      ∙ ap (λ l. l ++ filter (λ e. eqb (ahead d entries e) r) (filter is_wide held)) (filter_all (λ e. eqb (ahead d entries e) r) since
      (all_weaker (λ (f : Entry). ahead d entries f ≡ r) (λ (f : Entry). eqb (ahead d entries f) r ≡ true) (λ f h. exactly (ahead d entries f) r h) since s.present))

  -- it is all of that, where what waits is later
  read_is_next : {since held : List Entry} → Remains d entries r since held → AllByRecursion (λ f. eqb (ahead d entries f) r ≡ false) (filter is_wide held) → need_next entry_bounds entries (distance_at d) r ≡ since
  read_is_next {since} {held} s later =
      read_begins s
      ∙ ap (λ l. since ++ l) (filter_none (λ e. eqb (ahead d entries e) r) (filter is_wide held) later)
      ∙ append-nil since

  pub read_at_pair : {since rest : List Entry} {e : Entry} → Remains d entries r since (e ∷ rest) → is_wide e ≡ false → need_next entry_bounds entries (distance_at d) r ≡ since
  read_at_pair s narrow = read_is_next s (waiting_far s narrow)

  pub read_at_end : {since : List Entry} → Remains d entries r since [] → need_next entry_bounds entries (distance_at d) r ≡ since
  read_at_end s = read_is_next s tt

  pub none_at_end : {since : List Entry} → Remains d entries r since [] → slice_get (ranking d entries) r ≡ None
  none_at_end s =
      ap (λ l. slice_get l r) (s.ranks ∙ append-nil s.given)
      ∙ ap (slice_get s.given) (sym s.count)
      ∙ get_end s.given

  -- reads that follow one another
  pub remains_reads : (since read held held' : List Entry) → Remains d entries r since held → Reads d read held held' → Remains d entries r (since ++ read) held'
  remains_reads since [] held held' s h =
      subst (λ l. Remains d entries r l held') (sym (append-nil since)) (subst (Remains d entries r since) (sym h) s)
  remains_reads since (e ∷ read) held held' s h =
      let first : Remains d entries r (since ++ e ∷ []) (placed_by low_pair (settled (distance_at d e) e) h.0) = remains_read (subst (Remains d entries r since) h.1 s) h.2 in
      subst (λ l. Remains d entries r l held') (append_assoc since (e ∷ []) read) (remains_reads (since ++ e ∷ []) read (placed_by low_pair (settled (distance_at d e) e) h.0) held' first h.4)
