-- Entries that ascend and have boxes are no more than the boxes.
use Rattle.std.proofs.Common.{◌≡◌, ℕ, suc, ◌+◌, ◌<◌, ◌≤◌, true, false, ◌&&◌, ◌||◌, List, [], ◌∷◌, length, drop, drop-cons, get_or, Option, None, Some, eqb, leb, nat_le, if◌then◌else◌, refl, ap, sym, ◌∙◌, arith}
use Rattle.std.proofs.lemmas.Bool.Decides.{nat_tests}
use Rattle.va_cert.specs.declared.certificate.BoxRow.{BoxRow}
use Rattle.va_cert.specs.declared.certificate.Taken.{Taken}
use Rattle.va_cert.specs.Known.{has_box}
use Rattle.va_cert.specs.Reasons.{is_above, is_entry, first_bad_box, first_bad_entry}
use Rattle.va_cert.proofs.Rows.{and_left, and_right}
use Rattle.va_cert.proofs.WellFormed.{boxes_few}

-- how many boxes have an id up to one
abbrev pub up_to : ℕ → List BoxRow → ℕ
up_to id [] = 0
up_to id (row ∷ boxes) = (if nat_le row.id id then 1 else 0) + up_to id boxes

abbrev pub counted : Option ℕ → List BoxRow → ℕ
counted None boxes = 0
counted (Some id) boxes = up_to id boxes

up_to_few : (id : ℕ) (boxes : List BoxRow) → up_to id boxes ≤ length boxes
up_to_few id [] = omega arith
up_to_few id (row ∷ boxes) = let rest : up_to id boxes ≤ length boxes = up_to_few id boxes in
    elim (leb row.id id) as (λ c. (if c then 1 else 0) + up_to id boxes ≤ suc (length boxes)) [ true ↦ omega (arith, rest) | false ↦ omega (arith, rest) ]

pub counted_few : (before : Option ℕ) (boxes : List BoxRow) → counted before boxes ≤ length boxes
counted_few None boxes = omega arith
counted_few (Some id) boxes = up_to_few id boxes

one_more : (a b n m : ℕ) → a < b → n ≤ m → (r : ℕ) → (if leb r a then 1 else 0) + n ≤ (if leb r b then 1 else 0) + m
one_more a b n m h g r = elim (leb r a) as (λ c. leb r a ≡ c → (if c then 1 else 0) + n ≤ (if leb r b then 1 else 0) + m) [
  | true ↦ λ e. let f : leb r b ≡ true = grind (arith, nat_tests, e, h) in rw f (omega (arith, g))
  | false ↦ λ e. elim (leb r b) as (λ c. 0 + n ≤ (if c then 1 else 0) + m) [ true ↦ omega (arith, g) | false ↦ omega (arith, g) ]
] refl

up_to_rises : (a b : ℕ) (boxes : List BoxRow) → a < b → up_to a boxes ≤ up_to b boxes
up_to_rises a b [] h = omega arith
up_to_rises a b (row ∷ boxes) h = one_more a b (up_to a boxes) (up_to b boxes) h (up_to_rises a b boxes h) row.id

up_to_more : (a b : ℕ) (boxes : List BoxRow) → a < b → has_box boxes b ≡ true → up_to a boxes + 1 ≤ up_to b boxes
up_to_more a b [] h g = cc
up_to_more a b (row ∷ boxes) h g = elim (eqb row.id b) as (λ c. eqb row.id b ≡ c → (c || has_box boxes b) ≡ true → (if leb row.id a then 1 else 0) + up_to a boxes + 1 ≤ (if leb row.id b then 1 else 0) + up_to b boxes) [
  | true ↦ λ e k. let same : row.id ≡ b = grind (arith, nat_tests, e) in let no : leb row.id a ≡ false = grind (arith, nat_tests, same, h) in let yes : leb row.id b ≡ true = grind (arith, nat_tests, same) in
      let rest : up_to a boxes ≤ up_to b boxes = up_to_rises a b boxes h in rw (no, yes) (omega (arith, rest))
  | false ↦ λ e k. let rest : up_to a boxes + 1 ≤ up_to b boxes = up_to_more a b boxes h k in
      let step : (if leb row.id a then 1 else 0) + (up_to a boxes + 1) ≤ (if leb row.id b then 1 else 0) + up_to b boxes = one_more a b (up_to a boxes + 1) (up_to b boxes) h rest row.id in omega (arith, step)
] refl g

up_to_some : (b : ℕ) (boxes : List BoxRow) → has_box boxes b ≡ true → 1 ≤ up_to b boxes
up_to_some b [] g = cc
up_to_some b (row ∷ boxes) g = elim (eqb row.id b) as (λ c. eqb row.id b ≡ c → (c || has_box boxes b) ≡ true → 1 ≤ (if leb row.id b then 1 else 0) + up_to b boxes) [
  | true ↦ λ e k. let same : row.id ≡ b = grind (arith, nat_tests, e) in let yes : leb row.id b ≡ true = grind (arith, nat_tests, same) in rw yes (omega arith)
  | false ↦ λ e k. let rest : 1 ≤ up_to b boxes = up_to_some b boxes k in elim (leb row.id b) as (λ c. 1 ≤ (if c then 1 else 0) + up_to b boxes) [ true ↦ omega arith | false ↦ omega (arith, rest) ]
] refl g

counted_next : (before : Option ℕ) (id : ℕ) (boxes : List BoxRow) → is_above before id ≡ true → has_box boxes id ≡ true → counted before boxes + 1 ≤ counted (Some id) boxes
counted_next None id boxes h g = let some : 1 ≤ up_to id boxes = up_to_some id boxes g in omega (arith, some)
counted_next (Some b) id boxes h g = up_to_more b id boxes (grind (arith, nat_tests, h)) g

pub counted_more : (dims position : ℕ) (before : Option ℕ) (boxes : List BoxRow) (taken : Taken) → is_entry dims boxes before taken ≡ true → position ≤ counted before boxes → position + 1 ≤ counted (Some taken.id) boxes
counted_more dims position before boxes taken h g =
    let a : is_above before taken.id ≡ true = and_left (is_above before taken.id) (has_box boxes taken.id && (eqb (length taken.vector) dims && eqb (length taken.other) dims)) h in
    let r = and_right (is_above before taken.id) (has_box boxes taken.id && (eqb (length taken.vector) dims && eqb (length taken.other) dims)) h in
    let b : has_box boxes taken.id ≡ true = and_left (has_box boxes taken.id) (eqb (length taken.vector) dims && eqb (length taken.other) dims) r in
    let n : counted before boxes + 1 ≤ counted (Some taken.id) boxes = counted_next before taken.id boxes a b in omega (arith, n, g)

-- no more boxes than are well formed
pub few_boxes : (dims : ℕ) (boxes : List BoxRow) → first_bad_box dims None 0 boxes ≡ None → length boxes ≤ 4096
few_boxes dims boxes h = let n : 0 + length boxes ≤ 4096 = boxes_few dims None 0 boxes (omega arith) h in omega (arith, n)

bad_later : (dims position : ℕ) (before : Option ℕ) (boxes : List BoxRow) (taken : Taken) (fetched : List Taken) → is_entry dims boxes before taken ≡ true → first_bad_entry dims boxes before position (taken ∷ fetched) ≡ first_bad_entry dims boxes (Some taken.id) (position + 1) fetched
bad_later dims position before boxes taken fetched good = rw good refl

pub entry_next : (dims position : ℕ) (before : Option ℕ) (boxes : List BoxRow) (fetched : List Taken) (i : ℕ) (taken : Taken) → i < length fetched → taken ≡ get_or fetched i taken → is_entry dims boxes before taken ≡ true →
    first_bad_entry dims boxes (Some taken.id) (position + 1) (drop (i + 1) fetched) ≡ first_bad_entry dims boxes before position (drop i fetched)
entry_next dims position before boxes fetched i taken h e good =
    let d : drop i fetched ≡ get_or fetched i taken ∷ drop (suc i) fetched = drop-cons fetched i taken h in
    let d' : drop i fetched ≡ taken ∷ drop (suc i) fetched = d ∙ ap (λ (t : Taken). t ∷ drop (suc i) fetched) (sym e) in
    let n : i + 1 ≡ suc i = omega arith in
    ap (λ (m : ℕ). first_bad_entry dims boxes (Some taken.id) (position + 1) (drop m fetched)) n
    ∙ (sym (bad_later dims position before boxes taken (drop (suc i) fetched) good) ∙ ap (first_bad_entry dims boxes before position) (sym d'))
