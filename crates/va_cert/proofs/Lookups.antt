-- Boxes and entries that were made of items, and the order of their ids.
use Rattle.std.proofs.Common.{◌≡◌, ◌≢◌, ℕ, ◌+◌, ◌<◌, ◌≤◌, Bool, true, false, ◌||◌, List, [], ◌∷◌, length, map, Option, None, Some, eqb, ltb, leb, if◌then◌else◌, refl, ap, sym, ◌∙◌, subst, inl, inr, arith}
use Rattle.std.specs.List.{filter, AllByRecursion}
use Rattle.std.proofs.lemmas.Bool.Decides.{nat_tests}
use Rattle.va_core.proofs.Members.{IsAmong, all_at}
use Rattle.va_core.proofs.Sorting.{all_filter}
use Rattle.va_core.specs.Approximations.{paired, pairs, NamesDiffer}
use Rattle.va_core.specs.Boxes.{Span, Lies}
use Rattle.va_core.specs.Distance.{Query}
use Rattle.va_core.specs.Places.{Item, IdAbsent, IdsDiffer}
use Rattle.va_core.specs.Ranking.{is_less}
use Rattle.va_core.specs.Sorting.{IsFloor, IsInOrder}
use Rattle.va_cert.specs.declared.certificate.BoxRow.{BoxRow}
use Rattle.va_cert.specs.declared.certificate.Taken.{Taken}
use Rattle.va_cert.specs.Known.{box_of, box_at, has_box, is_fetched, vector_at}
use Rattle.va_cert.specs.Reasons.{is_above, is_box, is_entry, first_bad_box, first_bad_entry, lies, rises, first_entry}
use Rattle.va_cert.specs.Made.{row_for, taken_for}

abbrev pub id_of : Item → ℕ
id_of item = item.id

same_test : (n m : ℕ) → n ≡ m → eqb n m ≡ true
same_test n m h = grind (arith, nat_tests, h)

other_test : (n m : ℕ) → (n ≡ m → ⊥) → eqb n m ≡ false
other_test n m h = grind (arith, nat_tests, h)

-- entries
no_listed : (marks : List (List ℕ)) (query : Query) (test : Item → Bool) (id : ℕ) (ms : List Item) → AllByRecursion (λ (y : Item). y.id ≢ id) ms → is_fetched (map (taken_for marks query) (filter test ms)) id ≡ false
no_listed marks query test id [] h = refl
no_listed marks query test id (x ∷ ms) h = let rest : is_fetched (map (taken_for marks query) (filter test ms)) id ≡ false = no_listed marks query test id ms h.1 in
    elim (test x) as (λ c. is_fetched (map (taken_for marks query) (if c then x ∷ filter test ms else filter test ms)) id ≡ false) [
      | true ↦ rw (other_test x.id id h.0) rest
      | false ↦ rest
    ]

or_true : (b : Bool) → (b || true) ≡ true
or_true true = refl
or_true false = refl

pub fetched_where : (marks : List (List ℕ)) (query : Query) (test : Item → Bool) (i : Item) (ms : List Item) → NamesDiffer id_of ms → IsAmong i ms → is_fetched (map (taken_for marks query) (filter test ms)) i.id ≡ test i
fetched_where marks query test i [] differ h = absurd h
fetched_where marks query test i (x ∷ ms) differ (inl e) =
    let none : is_fetched (map (taken_for marks query) (filter test ms)) x.id ≡ false = no_listed marks query test x.id ms differ.0 in
    subst (λ (z : Item). is_fetched (map (taken_for marks query) (filter test (x ∷ ms))) z.id ≡ test z) (sym e)
    (elim (test x) as (λ c. is_fetched (map (taken_for marks query) (if c then x ∷ filter test ms else filter test ms)) x.id ≡ c) [
      | true ↦ rw (same_test x.id x.id refl) refl
      | false ↦ none
    ])
fetched_where marks query test i (x ∷ ms) differ (inr g) =
    let rest : is_fetched (map (taken_for marks query) (filter test ms)) i.id ≡ test i = fetched_where marks query test i ms differ.1 g in
    let ne : i.id ≢ x.id = all_at (λ (y : Item). y.id ≢ x.id) ms i differ.0 g in
    elim (test x) as (λ c. is_fetched (map (taken_for marks query) (if c then x ∷ filter test ms else filter test ms)) i.id ≡ test i) [
      | true ↦ rw (other_test x.id i.id (λ s. ne (sym s))) rest
      | false ↦ rest
    ]

pub vector_where : (marks : List (List ℕ)) (query : Query) (test : Item → Bool) (i : Item) (ms : List Item) → NamesDiffer id_of ms → IsAmong i ms → test i ≡ true → vector_at (map (taken_for marks query) (filter test ms)) i.id ≡ i.vector
vector_where marks query test i [] differ h t = absurd h
vector_where marks query test i (x ∷ ms) differ (inl e) t =
    subst (λ (z : Item). test z ≡ true → vector_at (map (taken_for marks query) (filter test (x ∷ ms))) z.id ≡ z.vector) (sym e)
    (λ u. rw u (rw (same_test x.id x.id refl) refl)) t
vector_where marks query test i (x ∷ ms) differ (inr g) t =
    let rest : vector_at (map (taken_for marks query) (filter test ms)) i.id ≡ i.vector = vector_where marks query test i ms differ.1 g t in
    let ne : i.id ≢ x.id = all_at (λ (y : Item). y.id ≢ x.id) ms i differ.0 g in
    elim (test x) as (λ c. vector_at (map (taken_for marks query) (if c then x ∷ filter test ms else filter test ms)) i.id ≡ i.vector) [
      | true ↦ rw (other_test x.id i.id (λ s. ne (sym s))) rest
      | false ↦ rest
    ]

-- boxes
pub box_where : (marks : List (List ℕ)) (i : Item) (ms : List Item) → NamesDiffer id_of ms → IsAmong i ms → box_at (map (row_for marks) ms) i.id ≡ box_of (row_for marks i)
box_where marks i [] differ h = absurd h
box_where marks i (x ∷ ms) differ (inl e) = subst (λ (z : Item). box_at (map (row_for marks) (x ∷ ms)) z.id ≡ box_of (row_for marks z)) (sym e) (rw (same_test x.id x.id refl) refl)
box_where marks i (x ∷ ms) differ (inr g) =
    let ne : i.id ≢ x.id = all_at (λ (y : Item). y.id ≢ x.id) ms i differ.0 g in
    rw (other_test x.id i.id (λ s. ne (sym s))) (box_where marks i ms differ.1 g)

pub has_where : (marks : List (List ℕ)) (i : Item) (ms : List Item) → IsAmong i ms → has_box (map (row_for marks) ms) i.id ≡ true
has_where marks i [] h = absurd h
has_where marks i (x ∷ ms) (inl e) = rw (same_test x.id i.id (ap id_of (sym e))) refl
has_where marks i (x ∷ ms) (inr g) = rw (has_where marks i ms g) (or_true (eqb x.id i.id))

-- ids in order
pub record Ascends (ms : List Item) : Type 0 where
  pub order : IsInOrder (λ (item : Item). paired 0 item.id) ms
  pub differ : NamesDiffer id_of ms

floor_part : (x : Item) (test : Item → Bool) (ms : List Item) → IsFloor (λ (item : Item). paired 0 item.id) x ms → IsFloor (λ (item : Item). paired 0 item.id) x (filter test ms)
floor_part x test ms h = all_filter (λ (y : Item). is_less (paired 0 y.id) (paired 0 x.id) ≡ false) test ms h

pub order_part : (test : Item → Bool) (ms : List Item) → IsInOrder (λ (item : Item). paired 0 item.id) ms → IsInOrder (λ (item : Item). paired 0 item.id) (filter test ms)
order_part test [] h = tt
order_part test (x ∷ ms) h = elim (test x) as (λ c. IsInOrder (λ (item : Item). paired 0 item.id) (if c then x ∷ filter test ms else filter test ms)) [
  | true ↦ (floor_part x test ms h.0, order_part test ms h.1)
  | false ↦ order_part test ms h.1
]

next_above : (n m : ℕ) → is_less (paired 0 m) (paired 0 n) ≡ false → m ≢ n → is_above (Some n) m ≡ true
next_above n m h ne = grind (arith, nat_tests, h, ne)

pub all_above : (x : Item) (ms : List Item) → IsFloor (λ (item : Item). paired 0 item.id) x ms → AllByRecursion (λ (y : Item). y.id ≢ x.id) ms → AllByRecursion (λ (y : Item). is_above (Some x.id) y.id ≡ true) ms
all_above x [] f d = tt
all_above x (y ∷ ms) f d = (next_above x.id y.id f.0 d.0, all_above x ms f.1 d.1)

-- a list of well formed boxes
is_box_from : (dims position : ℕ) (before : Option ℕ) (row : BoxRow) → position < 4096 → length row.low ≡ dims → length row.high ≡ dims → rises row.low row.high ≡ true → is_above before row.id ≡ true → is_box dims before position row ≡ true
is_box_from dims position before row p a b r i =
    let p' : ltb position 4096 ≡ true = grind (arith, nat_tests, p) in
    rw (p', same_test (length row.low) dims a, same_test (length row.high) dims b, r, i) refl

-- what is asked of the box of an item
pub record HasBox (dims : ℕ) (marks : List (List ℕ)) (i : Item) : Type 0 where
  pub low : length (row_for marks i).low ≡ dims
  pub high : length (row_for marks i).high ≡ dims
  pub rise : rises (row_for marks i).low (row_for marks i).high ≡ true

pub boxes_good : (dims position : ℕ) (before : Option ℕ) (marks : List (List ℕ)) (ms : List Item) → position + length ms ≤ 4096 → AllByRecursion (HasBox dims marks) ms → Ascends ms →
    AllByRecursion (λ (y : Item). is_above before y.id ≡ true) ms → first_bad_box dims before position (map (row_for marks) ms) ≡ None
boxes_good dims position before marks [] few h a above = refl
boxes_good dims position before marks (x ∷ ms) few h a above =
    let b : HasBox dims marks x = h.0 in
    let good : is_box dims before position (row_for marks x) ≡ true = is_box_from dims position before (row_for marks x) (omega (arith, few)) b.low b.high b.rise above.0 in
    rw good (boxes_good dims (position + 1) (Some x.id) marks ms (omega (arith, few)) h.1 (record { order = a.order.1; differ = a.differ.1 }) (all_above x ms a.order.0 a.differ.0))

is_entry_from : (dims : ℕ) (boxes : List BoxRow) (before : Option ℕ) (taken : Taken) → is_above before taken.id ≡ true → has_box boxes taken.id ≡ true → length taken.vector ≡ dims → length taken.other ≡ dims → is_entry dims boxes before taken ≡ true
is_entry_from dims boxes before taken i h a b = rw (i, h, same_test (length taken.vector) dims a, same_test (length taken.other) dims b) refl

pub record HasEntry (dims : ℕ) (marks : List (List ℕ)) (query : Query) (boxes : List BoxRow) (i : Item) : Type 0 where
  pub boxed : has_box boxes i.id ≡ true
  pub vector : length i.vector ≡ dims
  pub other : length (taken_for marks query i).other ≡ dims

pub entries_good : (dims position : ℕ) (before : Option ℕ) (marks : List (List ℕ)) (query : Query) (boxes : List BoxRow) (ms : List Item) → AllByRecursion (HasEntry dims marks query boxes) ms → Ascends ms →
    AllByRecursion (λ (y : Item). is_above before y.id ≡ true) ms → first_bad_entry dims boxes before position (map (taken_for marks query) ms) ≡ None
entries_good dims position before marks query boxes [] h a above = refl
entries_good dims position before marks query boxes (x ∷ ms) h a above =
    let b : HasEntry dims marks query boxes x = h.0 in
    let good : is_entry dims boxes before (taken_for marks query x) ≡ true = is_entry_from dims boxes before (taken_for marks query x) above.0 b.boxed b.vector b.other in
    rw good (entries_good dims (position + 1) (Some x.id) marks query boxes ms h.1 (record { order = a.order.1; differ = a.differ.1 }) (all_above x ms a.order.0 a.differ.0))

pub nothing_before : (ms : List Item) → AllByRecursion (λ (y : Item). is_above None y.id ≡ true) ms
nothing_before [] = tt
nothing_before (x ∷ ms) = (refl, nothing_before ms)

-- no entry passes a test
pub no_entries : (marks : List (List ℕ)) (query : Query) (test : Taken → Bool) (ms : List Item) → AllByRecursion (λ i. test (taken_for marks query i) ≡ false) ms → first_entry test (map (taken_for marks query) ms) ≡ None
no_entries marks query test [] h = refl
no_entries marks query test (x ∷ ms) h = rw h.0 (no_entries marks query test ms h.1)

pub lie_lies : (b : List Span) (x : List ℕ) → Lies b x → lies b x ≡ true
lie_lies [] [] h = refl
lie_lies [] (v ∷ x) h = absurd h
lie_lies (s ∷ b) [] h = absurd h
lie_lies (s ∷ b) (v ∷ x) h =
    let a : leb s.low v ≡ true = (let g : s.low ≤ v = h.0 in grind (arith, nat_tests, g)) in
    let c : leb v s.high ≡ true = (let g : v ≤ s.high = h.1 in grind (arith, nat_tests, g)) in
    rw (a, c) (lie_lies b x h.2)

pub lie_rises : (b : List Span) (x : List ℕ) → Lies b x → rises (map (λ (s : Span). s.low) b) (map (λ (s : Span). s.high) b) ≡ true
lie_rises [] x h = refl
lie_rises (s ∷ b) [] h = absurd h
lie_rises (s ∷ b) (v ∷ x) h =
    let a : leb s.low s.high ≡ true = (let g : s.low ≤ v = h.0 in let g' : v ≤ s.high = h.1 in let k : s.low ≤ s.high = omega (arith, g, g') in grind (arith, nat_tests, k)) in
    rw a (lie_rises b x h.2)

-- pairs of what was made of the members that are kept
pub pairs_mapped : {A B : Type 0} (f : A → B) (name d : A → ℕ) (name' d' : B → ℕ) (keep : A → Bool) (keep' : B → Bool) (ms : List A) →
    AllByRecursion (λ i. keep' (f i) ≡ keep i) ms → AllByRecursion (λ i. keep i ≡ true → paired (d' (f i)) (name' (f i)) ≡ paired (d i) (name i)) ms →
    pairs name' d' (filter keep' (map f ms)) ≡ pairs name d (filter keep ms)
pairs_mapped f name d name' d' keep keep' [] h g = refl
pairs_mapped f name d name' d' keep keep' (i ∷ ms) h g =
    let rest : pairs name' d' (filter keep' (map f ms)) ≡ pairs name d (filter keep ms) = pairs_mapped f name d name' d' keep keep' ms h.1 g.1 in
    elim (keep i) as (λ c. keep i ≡ c → pairs name' d' (filter keep' (map f (i ∷ ms))) ≡ pairs name d (if c then i ∷ filter keep ms else filter keep ms)) [
      | true ↦ λ e. let t : keep' (f i) ≡ true = h.0 ∙ e in let p : paired (d' (f i)) (name' (f i)) ≡ paired (d i) (name i) = g.0 e in rw t (rw (p, rest) refl)
      | false ↦ λ e. let t : keep' (f i) ≡ false = h.0 ∙ e in rw t rest
    ] refl

absent_names : (id : ℕ) (items : List Item) → IdAbsent id items → AllByRecursion (λ (y : Item). y.id ≢ id) items
absent_names id [] h = tt
absent_names id (y ∷ items) h = (λ s. h.0 (sym s), absent_names id items h.1)

pub names_differ : (items : List Item) → IdsDiffer items → NamesDiffer id_of items
names_differ [] h = tt
names_differ (x ∷ items) h = (absent_names x.id items h.0, names_differ items h.1)
