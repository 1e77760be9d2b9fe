-- The data of a certificate has the stated kinds, and is read as the certificate.
use Rattle.std.proofs.Common.{◌≡◌, ℕ, ◌<◌, ◌^◌, Bool, true, ltb, List, [], ◌∷◌, map, Option, Some, ap, ◌∙◌, refl, if◌then◌else◌, arith}
use Rattle.std.specs.List.{AllByRecursion, list_all}
use Rattle.std.proofs.lemmas.Bool.Decides.{nat_tests}
use Rattle.serde_json.proofs.OnLiterals.{serde_json_on_literals}
use Rattle.serde_json.specs.Data.{Data}
use Rattle.va_core.specs.declared.pair.Pair.{Pair}
use Rattle.va_core.specs.Vectors.{AreBytes}
use Rattle.va_cert.specs.declared.certificate.BoxRow.{BoxRow}
use Rattle.va_cert.specs.declared.certificate.Taken.{Taken}
use Rattle.va_cert.specs.declared.certificate.Certificate.{Certificate}
use Rattle.va_cert.specs.Text.{list, whole, wholes, pair_data, row_data, taken_data, data_of, Fits}
use Rattle.va_cert.specs.Reads.{is_number, is_list, are_numbers, is_pair, is_row, has_kinds, whole_below, as_byte, as_word, as_id, as_dist, all_of, all_in, as_bytes, as_pair, as_row, as_taken, as_certificate, with_numbers, with_value, other_kind, ReadsBack}
use Rattle.va_cert.proofs.Listed.{list_back}
use Rattle.va_cert.proofs.Back.{value_back}

-- kinds
all_pass : {A : Type 0} (test : Data → Bool) (f : A → Data) → ((a : A) → test (f a) ≡ true) → (l : List A) → list_all test (map f l) ≡ true
all_pass test f h [] = refl
all_pass test f h (a ∷ l) = rw (h a, all_pass test f h l) refl

list_passes : {A : Type 0} (test : Data → Bool) (f : A → Data) → ((a : A) → test (f a) ≡ true) → (l : List A) → is_list test (list (map f l)) ≡ true
list_passes test f h l = ap (list_all test) (list_back (map f l)) ∙ all_pass test f h l

wholes_pass : (ns : List ℕ) → are_numbers (wholes ns) ≡ true
wholes_pass ns = list_passes is_number whole (λ n. refl) ns

row_passes : (id : ℕ) (a b : List ℕ) → is_row (list (whole id ∷ wholes a ∷ wholes b ∷ [])) ≡ true
row_passes id a b = rw (wholes_pass a, wholes_pass b) refl

kinds_back : (c : Certificate) → has_kinds (data_of c) ≡ true
unfolding serde_json_on_literals
kinds_back c =
    let a : is_list is_pair (list (map pair_data c.answer)) ≡ true = list_passes is_pair pair_data (λ p. refl) c.answer in
    let b : is_list is_row (list (map row_data c.boxes)) ≡ true = list_passes is_row row_data (λ (row : BoxRow). row_passes row.id row.low row.high) c.boxes in
    let f : is_list is_row (list (map taken_data c.fetched)) ≡ true = list_passes is_row taken_data (λ (taken : Taken). row_passes taken.id taken.vector taken.other) c.fetched in
    let o : is_list are_numbers (list (map wholes c.objects)) ≡ true = list_passes are_numbers wholes wholes_pass c.objects in
    let w : are_numbers (wholes c.weights) ≡ true = wholes_pass c.weights in
    rw (a, b, f, o, w) refl

-- numbers
whole_back : (end n : ℕ) → n < end → whole_below end (whole n) ≡ Some n
whole_back end n h = let t : ltb n end ≡ true = grind (arith, nat_tests, h) in rw t refl

all_back : {A : Type 0} (f : Data → Option A) (g : A → Data) (P : A → Type 0) → ((a : A) → P a → f (g a) ≡ Some a) → (l : List A) → AllByRecursion P l → all_of f (map g l) ≡ Some l
all_back f g P each [] h = refl
all_back f g P each (a ∷ l) h = let e : all_of f (map g l) ≡ Some l = all_back f g P each l h.1 in rw (each a h.0, e) refl

list_read : {A : Type 0} (f : Data → Option A) (g : A → Data) (P : A → Type 0) → ((a : A) → P a → f (g a) ≡ Some a) → (l : List A) → AllByRecursion P l → all_in f (list (map g l)) ≡ Some l
list_read f g P each l h = ap (all_of f) (list_back (map g l)) ∙ all_back f g P each l h

bytes_back : (v : List ℕ) → AreBytes v → as_bytes (wholes v) ≡ Some v
bytes_back v h = list_read as_byte whole (λ n. n < 256) (λ n b. whole_back 256 n b) v h

pair_back : (p : Pair) → (p.id < 2 ^ 32) × (p.dist < 2 ^ 64) → as_pair (pair_data p) ≡ Some p
pair_back p h = let i : as_id (whole p.id) ≡ Some p.id = whole_back (2 ^ 32) p.id h.0 in let d : as_dist (whole p.dist) ≡ Some p.dist = whole_back (2 ^ 64) p.dist h.1 in rw (i, d) refl

row_back : (row : BoxRow) → (row.id < 2 ^ 32) × AreBytes row.low × AreBytes row.high → as_row (row_data row) ≡ Some row
row_back row h = let i : as_id (whole row.id) ≡ Some row.id = whole_back (2 ^ 32) row.id h.0 in let a : as_bytes (wholes row.low) ≡ Some row.low = bytes_back row.low h.1 in let b : as_bytes (wholes row.high) ≡ Some row.high = bytes_back row.high h.2 in rw (i, a, b) refl

taken_back : (taken : Taken) → (taken.id < 2 ^ 32) × AreBytes taken.vector × AreBytes taken.other → as_taken (taken_data taken) ≡ Some taken
taken_back taken h = let i : as_id (whole taken.id) ≡ Some taken.id = whole_back (2 ^ 32) taken.id h.0 in let a : as_bytes (wholes taken.vector) ≡ Some taken.vector = bytes_back taken.vector h.1 in let b : as_bytes (wholes taken.other) ≡ Some taken.other = bytes_back taken.other h.2 in rw (i, a, b) refl

certificate_back : (c : Certificate) → Fits c → as_certificate (data_of c) ≡ Some c
unfolding serde_json_on_literals
certificate_back c h =
    let a : all_in as_pair (list (map pair_data c.answer)) ≡ Some c.answer = list_read as_pair pair_data (λ (p : Pair). (p.id < 2 ^ 32) × (p.dist < 2 ^ 64)) pair_back c.answer h.answer in
    let b : all_in as_row (list (map row_data c.boxes)) ≡ Some c.boxes = list_read as_row row_data (λ (row : BoxRow). (row.id < 2 ^ 32) × AreBytes row.low × AreBytes row.high) row_back c.boxes h.boxes in
    let f : all_in as_taken (list (map taken_data c.fetched)) ≡ Some c.fetched = list_read as_taken taken_data (λ (taken : Taken). (taken.id < 2 ^ 32) × AreBytes taken.vector × AreBytes taken.other) taken_back c.fetched h.fetched in
    let k : as_word (whole c.k) ≡ Some c.k = whole_back (2 ^ 16) c.k h.k in
    let o : all_in as_bytes (list (map wholes c.objects)) ≡ Some c.objects = list_read as_bytes wholes (λ (x : List ℕ). AreBytes x) bytes_back c.objects h.objects in
    let w : all_in as_word (wholes c.weights) ≡ Some c.weights = list_read as_word whole (λ n. n < 2 ^ 16) (λ n b. whole_back (2 ^ 16) n b) c.weights h.weights in
    rw (a, b, f, k, o, w) refl

pub reads_back : ReadsBack
reads_back c h = ap with_value (value_back c h) ∙ (ap (λ (b : Bool). if b then with_numbers (as_certificate (data_of c)) else other_kind) (kinds_back c) ∙ ap with_numbers (certificate_back c h))
