-- Whether an entry is needed, by the k-th known pair.
use Rattle.std.proofs.Common.{◌≡◌, ◌≢◌, ℕ, zero, suc, ◌+◌, ◌<◌, ◌≤◌, Bool, true, false, ◌&&◌, ◌||◌, List, [], ◌∷◌, length, get_or, drop, drop-cons, Option, None, Some, eqb, leb, if◌then◌else◌, refl, ap, sym, ◌∙◌, subst, ◌⊎◌, inl, inr, arith}
use Rattle.std.specs.List.{filter}
use Rattle.std.specs.Option.{is_none}
use Rattle.std.proofs.lemmas.Bool.Decides.{nat_tests}
use Rattle.va_core.specs.declared.pair.Pair.{Pair}
use Rattle.va_core.proofs.Certain.{stays_from, stays_by}
use Rattle.va_core.proofs.Checking.{Elsewhere}
use Rattle.va_core.proofs.Covering.{only_at, kth_tells}
use Rattle.va_core.proofs.Members.{IsAmong, all_from, all_at}
use Rattle.va_core.specs.Approximations.{paired, pairs, NamesDiffer}
use Rattle.va_core.specs.Kth.{kth, is_beyond}
use Rattle.va_core.specs.Ranking.{lesser}
use Rattle.va_cert.specs.declared.certificate.BoxRow.{BoxRow}
use Rattle.va_cert.specs.declared.certificate.Taken.{Taken}
use Rattle.va_cert.specs.declared.certificate.Certificate.{Certificate}
use Rattle.va_cert.specs.Known.{dist_of, is_fetched, vector_at, bounds, is_known, known_dist, known_list, substituted_dist, substituted_list, has_box}
use Rattle.va_cert.specs.Reasons.{first_difference, is_needless, first_entry}
use Rattle.va_cert.proofs.Rows.{RowOf, row_of, fetched_has, no_difference, same_lists, and_left, and_right}
use Rattle.va_cert.proofs.Soundness.{known_row, other_at}
use Rattle.va_cert.specs.Forms.{IsFormed}

-- the known pairs
abbrev pub known_pairs : Certificate → List Pair
known_pairs c = pairs (λ (row : BoxRow). row.id) (known_dist c) (filter (is_known c) c.boxes)

-- in counts
abbrev pub Stays : List Pair → ℕ → ℕ → ℕ → ℕ → Type 0
Stays ps k id own other = (other ≡ own) ⊎ ((k ≤ lesser ps (paired own id)) × (k ≤ lesser ps (paired other id)))

moved_to : (ps : List Pair) (k id own other id' own' other' : ℕ) → id ≡ id' → own ≡ own' → other ≡ other' → Stays ps k id own other → Stays ps k id' own' other'
moved_to ps k id own other id' own' other' a b c (inl s) = inl (sym c ∙ (s ∙ b))
moved_to ps k id own other id' own' other' a b c (inr s) = inr (rw (b, a) at s.0, rw (c, a) at s.1)

-- the test of the code
abbrev pub kept_test : Option Pair → ℕ → ℕ → ℕ → Bool
kept_test last id own other = eqb own other || (is_beyond last (paired own id) && is_beyond last (paired other id))

le_test : (k n : ℕ) → k ≤ n → leb k n ≡ true
le_test k n h = grind (arith, nat_tests, h)

test_le : (k n : ℕ) → leb k n ≡ true → k ≤ n
test_le k n h = grind (arith, nat_tests, h)

differ_test : (n m : ℕ) → m ≢ n → eqb n m ≡ false
differ_test n m ne = grind (arith, nat_tests, ne)

or_true : (b : Bool) → (b || true) ≡ true
or_true true = refl
or_true false = refl

test_from : (ps : List Pair) (k id own other : ℕ) (last : Option Pair) → ((t : Pair) → is_beyond last t ≡ leb k (lesser ps t)) → Stays ps k id own other → kept_test last id own other ≡ true
test_from ps k id own other last tells (inl s) = let e : eqb own other ≡ true = grind (arith, nat_tests, s) in rw e refl
test_from ps k id own other last tells (inr s) =
    let a : is_beyond last (paired own id) ≡ true = tells (paired own id) ∙ (let g : k ≤ lesser ps (paired own id) = s.0 in le_test k (lesser ps (paired own id)) g) in
    let b : is_beyond last (paired other id) ≡ true = tells (paired other id) ∙ (let g : k ≤ lesser ps (paired other id) = s.1 in le_test k (lesser ps (paired other id)) g) in
    rw (a, b) (or_true (eqb own other))

stays_test : (ps : List Pair) (k id own other : ℕ) (last : Option Pair) → ((t : Pair) → is_beyond last t ≡ leb k (lesser ps t)) → kept_test last id own other ≡ true → Stays ps k id own other
stays_test ps k id own other last tells h = elim (eqb own other) as (λ c. eqb own other ≡ c → (c || (is_beyond last (paired own id) && is_beyond last (paired other id))) ≡ true → Stays ps k id own other) [
  | true ↦ λ e g. inl (grind (arith, nat_tests, e))
  | false ↦ λ e g. inr (
    test_le k (lesser ps (paired own id)) (sym (tells (paired own id)) ∙ and_left (is_beyond last (paired own id)) (is_beyond last (paired other id)) g),
    test_le k (lesser ps (paired other id)) (sym (tells (paired other id)) ∙ and_right (is_beyond last (paired own id)) (is_beyond last (paired other id)) g),
  )
] refl h

-- the vector of an entry is the one at its id
vector_own : (fetched : List Taken) (taken : Taken) → NamesDiffer (λ (t : Taken). t.id) fetched → IsAmong taken fetched → vector_at fetched taken.id ≡ taken.vector
vector_own [] taken differ h = absurd h
vector_own (t ∷ fetched) taken differ (inl e) = subst (λ (z : Taken). vector_at (t ∷ fetched) z.id ≡ z.vector) (sym e) (let s : eqb t.id t.id ≡ true = grind (arith, nat_tests) in rw s refl)
vector_own (t ∷ fetched) taken differ (inr g) =
    let ne : taken.id ≢ t.id = all_at (λ (y : Taken). y.id ≢ t.id) fetched taken differ.0 g in
    let s : eqb t.id taken.id ≡ false = differ_test t.id taken.id ne in rw s (vector_own fetched taken differ.1 g)

own_is : (c : Certificate) (taken : Taken) (row : BoxRow) → IsFormed c → IsAmong taken c.fetched → row.id ≡ taken.id → known_dist c row ≡ dist_of c taken.vector
own_is c taken row f in' named =
    let has : is_fetched c.fetched row.id ≡ true = ap (λ (n : ℕ). is_fetched c.fetched n) named ∙ fetched_has c.fetched taken in' in
    ap (λ (b : Bool). if b then dist_of c (vector_at c.fetched row.id) else (bounds c).low row) has
    ∙ ap (dist_of c) (ap (vector_at c.fetched) named ∙ vector_own c.fetched taken f.apart in')

other_is : (c : Certificate) (taken : Taken) (row : BoxRow) → row.id ≡ taken.id → substituted_dist c taken row ≡ dist_of c taken.other
other_is c taken row named = let s : eqb row.id taken.id ≡ true = grind (arith, nat_tests, named) in rw s refl

elsewhere : (c : Certificate) (taken : Taken) (r : RowOf c.boxes taken.id) → IsFormed c → Elsewhere (known_dist c) (substituted_dist c taken) r.row c.boxes
elsewhere c taken r f = all_from (λ j. (j ≡ r.row) ⊎ (substituted_dist c taken j ≡ known_dist c j)) c.boxes
    (λ j g. other_at c taken r.row j r.named (all_at (λ (n : BoxRow). n.id ≡ r.row.id → n ≡ r.row) c.boxes j (only_at (λ (row : BoxRow). row.id) c.boxes r.row f.differ r.among) g))

stays : (c : Certificate) (taken : Taken) (r : RowOf c.boxes taken.id) → IsFormed c → IsAmong taken c.fetched → substituted_list c taken ≡ known_list c → Stays (known_pairs c) c.k taken.id (dist_of c taken.vector) (dist_of c taken.other)
stays c taken r f in' same = moved_to (known_pairs c) c.k r.row.id (known_dist c r.row) (substituted_dist c taken r.row) taken.id (dist_of c taken.vector) (dist_of c taken.other) r.named (own_is c taken r.row f in' r.named) (other_is c taken r.row r.named)
    (stays_from (λ (row : BoxRow). row.id) (known_dist c) (substituted_dist c taken) (is_known c) r.row c.boxes c.k f.differ r.among (known_row c taken r.row in' r.named) (elsewhere c taken r f) same)

stayed : (c : Certificate) (taken : Taken) (r : RowOf c.boxes taken.id) → IsFormed c → IsAmong taken c.fetched → Stays (known_pairs c) c.k taken.id (dist_of c taken.vector) (dist_of c taken.other) → substituted_list c taken ≡ known_list c
stayed c taken r f in' h = stays_by (λ (row : BoxRow). row.id) (known_dist c) (substituted_dist c taken) (is_known c) r.row c.boxes c.k f.differ r.among (elsewhere c taken r f)
    (moved_to (known_pairs c) c.k taken.id (dist_of c taken.vector) (dist_of c taken.other) r.row.id (known_dist c r.row) (substituted_dist c taken r.row) (sym r.named) (sym (own_is c taken r.row f in' r.named)) (sym (other_is c taken r.row r.named)) h)

same_bool : (a b : Bool) → (a ≡ true → b ≡ true) → (b ≡ true → a ≡ true) → a ≡ b
same_bool true b h g = sym (h refl)
same_bool false true h g = g refl
same_bool false false h g = refl

no_none : (o : Option ℕ) → is_none o ≡ true → o ≡ None
no_none None h = refl
no_none (Some n) h = cc

-- An entry is needless exactly where the test holds.
pub needless_is : (c : Certificate) (taken : Taken) → IsFormed c → IsAmong taken c.fetched → is_needless c taken ≡ kept_test (kth c.k (known_list c)) taken.id (dist_of c taken.vector) (dist_of c taken.other)
needless_is c taken f in' =
    let r = row_of c.boxes taken.id (all_at (λ (t : Taken). has_box c.boxes t.id ≡ true) c.fetched taken f.boxed in') in
    let tells = λ (t : Pair). kth_tells c.k (known_pairs c) t f.some in
    same_bool (is_needless c taken) (kept_test (kth c.k (known_list c)) taken.id (dist_of c taken.vector) (dist_of c taken.other))
    (λ h. test_from (known_pairs c) c.k taken.id (dist_of c taken.vector) (dist_of c taken.other) (kth c.k (known_list c)) tells
    (stays c taken r f in' (no_difference 0 (substituted_list c taken) (known_list c) (no_none (first_difference 0 (substituted_list c taken) (known_list c)) h))))
    (λ h. ap (λ (o : Option ℕ). is_none o) (ap (λ (ps : List Pair). first_difference 0 ps (known_list c)) (stayed c taken r f in' (stays_test (known_pairs c) c.k taken.id (dist_of c taken.vector) (dist_of c taken.other) (kth c.k (known_list c)) tells h)) ∙ same_lists 0 (known_list c)))

among_at : {X : Type 0} (l : List X) (i : ℕ) (x : X) → i < length l → x ≡ get_or l i x → IsAmong x l
among_at [] i x h e = absurd (omega (arith, h))
among_at (y ∷ l) zero x h e = inl e
among_at (y ∷ l) (suc i) x h e = inr (among_at l i x (omega (arith, h)) e)

pub needless_at : (c : Certificate) (i : ℕ) (taken : Taken) → IsFormed c → i < length c.fetched → taken ≡ get_or c.fetched i taken → is_needless c taken ≡ kept_test (kth c.k (known_list c)) taken.id (dist_of c taken.vector) (dist_of c taken.other)
needless_at c i taken f h e = needless_is c taken f (among_at c.fetched i taken h e)

-- the loop over the entries
found_first : (test : Taken → Bool) (taken : Taken) (l : List Taken) → test taken ≡ true → first_entry test (taken ∷ l) ≡ Some taken.id
found_first test taken l t = rw t refl

passed_first : (test : Taken → Bool) (taken : Taken) (l : List Taken) → test taken ≡ false → first_entry test (taken ∷ l) ≡ first_entry test l
passed_first test taken l t = rw t refl

found_at : (test : Taken → Bool) (l : List Taken) (i : ℕ) (taken : Taken) → i < length l → taken ≡ get_or l i taken → test taken ≡ true → first_entry test (drop i l) ≡ Some taken.id
found_at test l i taken h e t =
    ap (first_entry test) (drop-cons l i taken h ∙ ap (λ (x : Taken). x ∷ drop (suc i) l) (sym e)) ∙ found_first test taken (drop (suc i) l) t

passed_at : (test : Taken → Bool) (l : List Taken) (i : ℕ) (taken : Taken) → i < length l → taken ≡ get_or l i taken → test taken ≡ false → first_entry test (drop (i + 1) l) ≡ first_entry test (drop i l)
passed_at test l i taken h e t =
    let n : i + 1 ≡ suc i = omega arith in
    ap (λ (m : ℕ). first_entry test (drop m l)) n
    ∙ sym (ap (first_entry test) (drop-cons l i taken h ∙ ap (λ (x : Taken). x ∷ drop (suc i) l) (sym e)) ∙ passed_first test taken (drop (suc i) l) t)

test_is : (c : Certificate) (items : List Taken) (i : ℕ) (taken : Taken) (last : Option Pair) → IsFormed c → items ≡ c.fetched → last ≡ kth c.k (known_list c) → i < length items → taken ≡ get_or items i taken →
    is_needless c taken ≡ kept_test last taken.id (dist_of c taken.vector) (dist_of c taken.other)
test_is c items i taken last f same is h e =
    needless_at c i taken f (subst (λ (l : List Taken). i < length l) same h) (subst (λ (l : List Taken). taken ≡ get_or l i taken) same e)
    ∙ ap (λ (o : Option Pair). kept_test o taken.id (dist_of c taken.vector) (dist_of c taken.other)) (sym is)

pub needless_found : (c : Certificate) (items : List Taken) (i : ℕ) (taken : Taken) (last : Option Pair) → IsFormed c → items ≡ c.fetched → last ≡ kth c.k (known_list c) → i < length items → taken ≡ get_or items i taken →
    (b : Bool) → b ≡ kept_test last taken.id (dist_of c taken.vector) (dist_of c taken.other) → b ≡ true → first_entry (is_needless c) (drop i items) ≡ first_entry (is_needless c) c.fetched → Some taken.id ≡ first_entry (is_needless c) c.fetched
needless_found c items i taken last f same is h e b t on rest =
    sym (found_at (is_needless c) items i taken h e (test_is c items i taken last f same is h e ∙ (sym t ∙ on))) ∙ rest

pub needless_passed : (c : Certificate) (items : List Taken) (i : ℕ) (taken : Taken) (last : Option Pair) → IsFormed c → items ≡ c.fetched → last ≡ kth c.k (known_list c) → i < length items → taken ≡ get_or items i taken →
    (b : Bool) → b ≡ kept_test last taken.id (dist_of c taken.vector) (dist_of c taken.other) → b ≡ false → first_entry (is_needless c) (drop i items) ≡ first_entry (is_needless c) c.fetched → first_entry (is_needless c) (drop (i + 1) items) ≡ first_entry (is_needless c) c.fetched
needless_passed c items i taken last f same is h e b t off rest =
    passed_at (is_needless c) items i taken h e (test_is c items i taken last f same is h e ∙ (sym t ∙ off)) ∙ rest
