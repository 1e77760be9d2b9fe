-- What follows where a row of the table doesn't hold.
use Rattle.std.proofs.Common.{◌≡◌, ◌≢◌, ℕ, ◌+◌, ◌<◌, Bool, true, false, not, ◌&&◌, ◌||◌, List, [], ◌∷◌, length, Option, None, Some, eqb, leb, if◌then◌else◌, refl, ap, ◌∙◌, inl, inr, arith}
use Rattle.std.specs.List.{AllByRecursion}
use Rattle.std.specs.Option.{option_map}
use Rattle.std.proofs.lemmas.Bool.Decides.{nat_tests}
use Rattle.va_core.specs.declared.pair.Pair.{Pair}
use Rattle.va_core.proofs.Members.{IsAmong}
use Rattle.va_core.specs.Approximations.{NamesDiffer}
use Rattle.va_core.specs.Boxes.{Span, Lies}
use Rattle.va_cert.specs.declared.certificate.BoxRow.{BoxRow}
use Rattle.va_cert.specs.declared.certificate.Taken.{Taken}
use Rattle.va_cert.specs.Known.{has_box, is_fetched}
use Rattle.va_cert.specs.Reasons.{Reason, first_of, when_so, lies, is_above, is_box, is_entry, first_bad_box, first_bad_entry, first_entry, is_same, first_difference}

pub none_here : (o : Option Reason) (rows : List (Option Reason)) → first_of (o ∷ rows) ≡ None → (o ≡ None) × (first_of rows ≡ None)
none_here None rows h = (refl, h)
none_here (Some r) rows h = cc

pub none_so : (b : Bool) (r : Reason) → when_so (not b) r ≡ None → b ≡ true
none_so true r h = refl
none_so false r h = cc

pub none_within : {A : Type 0} (f : A → Reason) (o : Option A) → option_map f o ≡ None → o ≡ None
none_within f None h = refl
none_within f (Some a) h = cc

pub and_left : (a b : Bool) → (a && b) ≡ true → a ≡ true
and_left true b h = refl
and_left false b h = h

pub and_right : (a b : Bool) → (a && b) ≡ true → b ≡ true
and_right true b h = h
and_right false b h = cc

pub taken_branch : {A : Type 0} (b : Bool) (x : Option A) (y : A) → (if b then x else Some y) ≡ None → (b ≡ true) × (x ≡ None)
taken_branch true x y h = (refl, h)
taken_branch false x y h = cc

pub passed_branch : {A : Type 0} (b : Bool) (x : A) (y : Option A) → (if b then Some x else y) ≡ None → (b ≡ false) × (y ≡ None)
passed_branch true x y h = cc
passed_branch false x y h = (refl, h)

-- boxes ascend by id
above_through : (before : Option ℕ) (id next : ℕ) → is_above before id ≡ true → id < next → is_above before next ≡ true
above_through None id next h g = refl
above_through (Some b) id next h g = grind (arith, nat_tests, h, g)

above_all : (before : Option ℕ) (id : ℕ) (boxes : List BoxRow) → is_above before id ≡ true → AllByRecursion (λ row. is_above (Some id) row.id ≡ true) boxes → AllByRecursion (λ row. is_above before row.id ≡ true) boxes
above_all before id [] h g = tt
above_all before id (row ∷ boxes) h g = let less : id < row.id = grind (arith, nat_tests, g.0) in (above_through before id row.id h less, above_all before id boxes h g.1)

differ_all : (id : ℕ) (boxes : List BoxRow) → AllByRecursion (λ row. is_above (Some id) row.id ≡ true) boxes → AllByRecursion (λ (row : BoxRow). row.id ≢ id) boxes
differ_all id [] h = tt
differ_all id (row ∷ boxes) h = let less : id < row.id = grind (arith, nat_tests, h.0) in ((λ same. absurd (omega (arith, less, same))), differ_all id boxes h.1)

is_box_above : (dims : ℕ) (before : Option ℕ) (position : ℕ) (row : BoxRow) → is_box dims before position row ≡ true → is_above before row.id ≡ true
is_box_above dims before position row h = grind (arith, nat_tests, h)

pub boxes_ascend : (dims : ℕ) (before : Option ℕ) (position : ℕ) (boxes : List BoxRow) → first_bad_box dims before position boxes ≡ None →
    AllByRecursion (λ row. is_above before row.id ≡ true) boxes × NamesDiffer (λ (row : BoxRow). row.id) boxes
boxes_ascend dims before position [] h = (tt, tt)
boxes_ascend dims before position (row ∷ boxes) h =
    let b = taken_branch (is_box dims before position row) (first_bad_box dims (Some row.id) (position + 1) boxes) position h in
    let here : is_above before row.id ≡ true = is_box_above dims before position row b.0 in
    let rest = boxes_ascend dims (Some row.id) (position + 1) boxes b.1 in
    ((here, above_all before row.id boxes here rest.0), (differ_all row.id boxes rest.0, rest.1))

-- each entry has a box
is_entry_boxed : (dims : ℕ) (boxes : List BoxRow) (before : Option ℕ) (taken : Taken) → is_entry dims boxes before taken ≡ true → has_box boxes taken.id ≡ true
is_entry_boxed dims boxes before taken h = and_left (has_box boxes taken.id) (eqb (length taken.vector) dims && eqb (length taken.other) dims) (and_right (is_above before taken.id) (has_box boxes taken.id && (eqb (length taken.vector) dims && eqb (length taken.other) dims)) h)

pub entries_boxed : (dims : ℕ) (boxes : List BoxRow) (before : Option ℕ) (position : ℕ) (fetched : List Taken) → first_bad_entry dims boxes before position fetched ≡ None → AllByRecursion (λ (taken : Taken). has_box boxes taken.id ≡ true) fetched
entries_boxed dims boxes before position [] h = tt
entries_boxed dims boxes before position (taken ∷ fetched) h =
    let b = taken_branch (is_entry dims boxes before taken) (first_bad_entry dims boxes (Some taken.id) (position + 1) fetched) position h in
    (is_entry_boxed dims boxes before taken b.0, entries_boxed dims boxes (Some taken.id) (position + 1) fetched b.1)

-- the row of an id that has one
pub record RowOf (boxes : List BoxRow) (id : ℕ) : Type 0 where
  pub row : BoxRow
  pub among : IsAmong row boxes
  pub named : row.id ≡ id

pub row_of : (boxes : List BoxRow) (id : ℕ) → has_box boxes id ≡ true → RowOf boxes id
row_of [] id h = cc
row_of (row ∷ boxes) id h = elim (eqb row.id id) as (λ c. eqb row.id id ≡ c → (c || has_box boxes id) ≡ true → RowOf (row ∷ boxes) id) [
  | true ↦ λ e g. record { row = row; among = inl refl; named = grind (arith, nat_tests, e) }
  | false ↦ λ e g. let r = row_of boxes id g in record { row = r.row; among = inr r.among; named = r.named }
] refl h

pub fetched_has : (fetched : List Taken) (taken : Taken) → IsAmong taken fetched → is_fetched fetched taken.id ≡ true
fetched_has [] taken h = absurd h
fetched_has (t ∷ fetched) taken (inl e) = let s : eqb t.id taken.id ≡ true = rw e (let u : eqb t.id t.id ≡ true = grind (arith, nat_tests) in u) in rw s refl
fetched_has (t ∷ fetched) taken (inr h) = let rest : is_fetched fetched taken.id ≡ true = fetched_has fetched taken h in rw rest (elim (eqb t.id taken.id) as (λ c. (c || true) ≡ true) [ true ↦ refl | false ↦ refl ])

pub lies_lie : (box : List Span) (x : List ℕ) → lies box x ≡ true → Lies box x
lies_lie [] [] h = tt
lies_lie [] (v ∷ x) h = cc
lies_lie (s ∷ box) [] h = cc
lies_lie (s ∷ box) (v ∷ x) h =
    let a : leb s.low v ≡ true = and_left (leb s.low v) (leb v s.high && lies box x) h in
    let b : (leb v s.high && lies box x) ≡ true = and_right (leb s.low v) (leb v s.high && lies box x) h in
    let c : leb v s.high ≡ true = and_left (leb v s.high) (lies box x) b in
    (grind (arith, nat_tests, a), grind (arith, nat_tests, c), lies_lie box x (and_right (leb v s.high) (lies box x) b))

pub no_entry : (test : Taken → Bool) (fetched : List Taken) → first_entry test fetched ≡ None → AllByRecursion (λ taken. test taken ≡ false) fetched
no_entry test [] h = tt
no_entry test (taken ∷ fetched) h = let b = passed_branch (test taken) taken.id (first_entry test fetched) h in (b.0, no_entry test fetched b.1)

same_pair : (p q : Pair) → is_same p q ≡ true → p ≡ q
same_pair p q h =
    let a : p.dist ≡ q.dist = grind (arith, nat_tests, h) in
    let b : p.id ≡ q.id = grind (arith, nat_tests, h) in
    let with_dist : ℕ → Pair = λ n. record { dist = n; id = p.id } in
    let with_id : ℕ → Pair = λ n. record { dist = q.dist; id = n } in
    ap with_dist a ∙ ap with_id b

pub no_difference : (n : ℕ) (ps qs : List Pair) → first_difference n ps qs ≡ None → ps ≡ qs
no_difference n [] [] h = refl
no_difference n [] (q ∷ qs) h = cc
no_difference n (p ∷ ps) [] h = cc
no_difference n (p ∷ ps) (q ∷ qs) h =
    let b = taken_branch (is_same p q) (first_difference (n + 1) ps qs) n h in
    let here : p ≡ q = same_pair p q b.0 in let rest : ps ≡ qs = no_difference (n + 1) ps qs b.1 in cc

is_same_self : (p : Pair) → is_same p p ≡ true
is_same_self p = grind (arith, nat_tests)

pub same_lists : (n : ℕ) (ps : List Pair) → first_difference n ps ps ≡ None
same_lists n [] = refl
same_lists n (p ∷ ps) = rw (is_same_self p) (same_lists (n + 1) ps)
