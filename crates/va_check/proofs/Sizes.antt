-- The reply with a well formed certificate isn't too long.
use Rattle.std.proofs.Common.{◌≡◌, ℕ, ◌+◌, ◌*◌, ◌^◌, ◌<◌, ◌≤◌, Bool, true, false, List, [], ◌∷◌, ◌++◌, length, map, codes, length-append, arith}
use Rattle.std.proofs.lemmas.List.{length-map}
use Rattle.std.specs.List.{AllByRecursion}
use Rattle.std.proofs.lemmas.Fmt.{length-decimal-le}
use Rattle.json.specs.Print.{quoted, escape_byte}
use Rattle.serde_json.specs.Data.{Data, Members, no_members, member}
use Rattle.serde_json.specs.View.{items_of}
use Rattle.serde_json.specs.Written.{compact_text, items_text, members_text, comma_if}
use Rattle.va_core.specs.declared.pair.Pair.{Pair}
use Rattle.va_core.specs.Vectors.{AreBytes}
use Rattle.va_cert.specs.declared.certificate.BoxRow.{BoxRow}
use Rattle.va_cert.specs.declared.certificate.Taken.{Taken}
use Rattle.va_cert.specs.declared.certificate.Certificate.{Certificate}
use Rattle.va_cert.specs.Forms.{IsFormed}
use Rattle.va_cert.specs.Reasons.{rises}
use Rattle.va_cert.specs.Text.{list, whole, wholes, pair_data, row_data, taken_data, members_of, text_of, Fits}
use Rattle.va_check.specs.Judging.{limit, reply_of}
use Rattle.va_core.proofs.Members.{all_both}

comma_size : (later : Bool) → length (comma_if later) ≤ 1
comma_size true = omega arith
comma_size false = omega arith

-- a list of which no member is longer than the most
items_size : (most : ℕ) (later : Bool) (ds : List Data) → AllByRecursion (λ d. length (compact_text d) ≤ most) ds → length (items_text later (items_of ds)) ≤ 1 + length ds * (most + 1)
items_size most later [] all = omega arith
items_size most later (d ∷ ds) all =
    let first : length (comma_if later) ≤ 1 = comma_size later in
    let here : length (compact_text d) ≤ most = all.0 in
    let rest : length (items_text true (items_of ds)) ≤ 1 + length ds * (most + 1) = items_size most true ds all.1 in
    let one : length (compact_text d ++ items_text true (items_of ds)) ≡ length (compact_text d) + length (items_text true (items_of ds)) = length-append (compact_text d) (items_text true (items_of ds)) in
    let two : length (comma_if later ++ (compact_text d ++ items_text true (items_of ds))) ≡ length (comma_if later) + length (compact_text d ++ items_text true (items_of ds)) = length-append (comma_if later) (compact_text d ++ items_text true (items_of ds)) in
    omega (arith, first, here, rest, one, two)

list_size : (most : ℕ) (ds : List Data) → AllByRecursion (λ d. length (compact_text d) ≤ most) ds → length (compact_text (list ds)) ≤ 2 + length ds * (most + 1)
list_size most ds all = let items : length (items_text false (items_of ds)) ≤ 1 + length ds * (most + 1) = items_size most false ds all in omega (arith, items)

mapped_size : {A : Type 0} (most : ℕ) (f : A → Data) (P : A → Type 0) → ((a : A) → P a → length (compact_text (f a)) ≤ most) → (l : List A) → AllByRecursion P l → AllByRecursion (λ d. length (compact_text d) ≤ most) (map f l)
mapped_size most f P each [] all = tt
mapped_size most f P each (a ∷ l) all = (each a all.0, mapped_size most f P each l all.1)

each_size : {A : Type 0} (most : ℕ) (f : A → Data) (P : A → Type 0) → ((a : A) → P a → length (compact_text (f a)) ≤ most) → (l : List A) → AllByRecursion P l → length (compact_text (list (map f l))) ≤ 2 + length l * (most + 1)
each_size most f P each l all =
    let count : length (map f l) ≡ length l = length-map l f in
    let whole : length (compact_text (list (map f l))) ≤ 2 + length (map f l) * (most + 1) = list_size most (map f l) (mapped_size most f P each l all) in
    rw count at whole

-- numbers
byte_size : (n : ℕ) → n < 256 → length (compact_text (whole n)) ≤ 3
byte_size n h = length-decimal-le 3 n (omega arith) (omega (arith, h)) (omega (arith, h))

word_size : (n : ℕ) → n < 2 ^ 16 → length (compact_text (whole n)) ≤ 5
word_size n h = length-decimal-le 5 n (omega arith) (omega (arith, h)) (omega (arith, h))

id_size : (n : ℕ) → n < 2 ^ 32 → length (compact_text (whole n)) ≤ 10
id_size n h = length-decimal-le 10 n (omega arith) (omega (arith, h)) (omega (arith, h))

dist_size : (n : ℕ) → n < 2 ^ 64 → length (compact_text (whole n)) ≤ 20
dist_size n h = length-decimal-le 20 n (omega arith) (omega (arith, h)) h

bytes_size : (numbers : List ℕ) → AreBytes numbers → length numbers ≤ 256 → length (compact_text (wholes numbers)) ≤ 1026
bytes_size numbers bytes few = let sum : length (compact_text (wholes numbers)) ≤ 2 + length numbers * (3 + 1) = each_size 3 whole (λ n. n < 256) byte_size numbers bytes in omega (arith, sum, few)

weights_size : (numbers : List ℕ) → AllByRecursion (λ n. n < 2 ^ 16) numbers → length numbers ≤ 256 → length (compact_text (wholes numbers)) ≤ 1538
weights_size numbers words few = let sum : length (compact_text (wholes numbers)) ≤ 2 + length numbers * (5 + 1) = each_size 5 whole (λ n. n < 2 ^ 16) word_size numbers words in omega (arith, sum, few)

-- rows
pair_size : (p : Pair) → (p.id < 2 ^ 32) × (p.dist < 2 ^ 64) → length (compact_text (pair_data p)) ≤ 44
pair_size p h = let i : length (compact_text (whole p.id)) ≤ 10 = id_size p.id h.0 in list_size 20 (whole p.id ∷ whole p.dist ∷ []) (omega (arith, i), (dist_size p.dist h.1, tt))

three_size : (id : ℕ) (a b : List ℕ) → id < 2 ^ 32 → length (compact_text (wholes a)) ≤ 1026 → length (compact_text (wholes b)) ≤ 1026 → length (compact_text (list (whole id ∷ wholes a ∷ wholes b ∷ []))) ≤ 3083
three_size id a b h la lb = let i : length (compact_text (whole id)) ≤ 10 = id_size id h in list_size 1026 (whole id ∷ wholes a ∷ wholes b ∷ []) (omega (arith, i), (la, (lb, tt)))

module _ (dims : ℕ) (few : dims ≤ 256) where
  level_size : (numbers : List ℕ) → AreBytes numbers → length numbers ≡ dims → length (compact_text (wholes numbers)) ≤ 1026
  level_size numbers bytes count = bytes_size numbers bytes (omega (arith, count, few))

  abbrev IsShortRow : BoxRow → Type 0
  IsShortRow row = ((row.id < 2 ^ 32) × AreBytes row.low × AreBytes row.high) × ((length row.low ≡ dims) × (length row.high ≡ dims) × (rises row.low row.high ≡ true))

  row_size : (row : BoxRow) → IsShortRow row → length (compact_text (row_data row)) ≤ 3083
  row_size row h = three_size row.id row.low row.high h.0.0 (level_size row.low h.0.1 h.1.0) (level_size row.high h.0.2 h.1.1)

  abbrev IsShortTaken : Taken → Type 0
  IsShortTaken taken = ((taken.id < 2 ^ 32) × AreBytes taken.vector × AreBytes taken.other) × ((length taken.vector ≡ dims) × (length taken.other ≡ dims))

  taken_size : (taken : Taken) → IsShortTaken taken → length (compact_text (taken_data taken)) ≤ 3083
  taken_size taken h = three_size taken.id taken.vector taken.other h.0.0 (level_size taken.vector h.0.1 h.1.0) (level_size taken.other h.0.2 h.1.1)

  object_size : (numbers : List ℕ) → AreBytes numbers × (length numbers ≡ dims) → length (compact_text (wholes numbers)) ≤ 1026
  object_size numbers h = level_size numbers h.0 h.1

-- members: for each a comma, its key, a colon and its value, and behind the last the end
abbrev most_of : Members → ℕ
most_of no_members = 1
most_of (member key d rest) = 2 + length (quoted key) + length (compact_text d) + most_of rest

members_size : (later : Bool) (members : Members) → length (members_text later members) ≤ most_of members
members_size later no_members = omega arith
members_size later (member key d rest) =
    let first : length (comma_if later) ≤ 1 = comma_size later in
    let more : length (members_text true rest) ≤ most_of rest = members_size true rest in
    let value : List ℕ = compact_text d ++ members_text true rest in
    let one : length value ≡ length (compact_text d) + length (members_text true rest) = length-append (compact_text d) (members_text true rest) in
    let two : length (quoted key ++ 58 ∷ value) ≡ length (quoted key) + length (58 ∷ value) = length-append (quoted key) (58 ∷ value) in
    let three : length (comma_if later ++ (quoted key ++ 58 ∷ value)) ≡ length (comma_if later) + length (quoted key ++ 58 ∷ value) = length-append (comma_if later) (quoted key ++ 58 ∷ value) in
    omega (arith, first, more, one, two, three)

text_size : (c : Certificate) → Fits c → IsFormed c → length c.answer ≤ 4096 → length c.fetched ≤ 4096 → length (text_of c) ≤ 30000000
unfolding escape_byte
text_size c fits formed few_pairs few_entries =
    let few : length c.weights ≤ 256 = formed.query.most_dims in
    let few_boxes : length c.boxes ≤ 4096 = formed.few in
    let few_objects : length c.objects ≤ 16 = formed.query.few in
    let answer : length (compact_text (list (map pair_data c.answer))) ≤ 2 + length c.answer * (44 + 1) = each_size 44 pair_data (λ (p : Pair). (p.id < 2 ^ 32) × (p.dist < 2 ^ 64)) pair_size c.answer fits.answer in
    let boxes : length (compact_text (list (map row_data c.boxes))) ≤ 2 + length c.boxes * (3083 + 1) = each_size 3083 row_data (IsShortRow (length c.weights) few) (row_size (length c.weights) few) c.boxes
    (all_both (λ (row : BoxRow). (row.id < 2 ^ 32) × AreBytes row.low × AreBytes row.high) (λ (row : BoxRow). (length row.low ≡ length c.weights) × (length row.high ≡ length c.weights) × (rises row.low row.high ≡ true)) c.boxes fits.boxes formed.boxes) in
    let fetched : length (compact_text (list (map taken_data c.fetched))) ≤ 2 + length c.fetched * (3083 + 1) = each_size 3083 taken_data (IsShortTaken (length c.weights) few) (taken_size (length c.weights) few) c.fetched
    (all_both (λ (taken : Taken). (taken.id < 2 ^ 32) × AreBytes taken.vector × AreBytes taken.other) (λ (taken : Taken). (length taken.vector ≡ length c.weights) × (length taken.other ≡ length c.weights)) c.fetched fits.fetched formed.entries) in
    let objects : length (compact_text (list (map wholes c.objects))) ≤ 2 + length c.objects * (1026 + 1) = each_size 1026 wholes (λ (o : List ℕ). AreBytes o × (length o ≡ length c.weights)) (object_size (length c.weights) few) c.objects
    (all_both (λ (o : List ℕ). AreBytes o) (λ (o : List ℕ). length o ≡ length c.weights) c.objects fits.objects formed.query.lengths) in
    let k : length (compact_text (whole c.k)) ≤ 5 = word_size c.k fits.k in
    let weights : length (compact_text (wholes c.weights)) ≤ 1538 = weights_size c.weights fits.weights few in
    omega (arith, members_size false (members_of c), answer, boxes, fetched, objects, k, weights, few_pairs, few_boxes, few_entries, few_objects)

pub reply_size : (c : Certificate) → Fits c → IsFormed c → length c.answer ≤ 4096 → length c.fetched ≤ 4096 → length (reply_of c) ≤ limit
reply_size c fits formed few_pairs few_entries =
    let text : length (text_of c) ≤ 30000000 = text_size c fits formed few_pairs few_entries in
    let both : length (reply_of c) ≡ 5 + length (text_of c) = length-append (codes "cert ") (text_of c) in
    omega (arith, text, both)
