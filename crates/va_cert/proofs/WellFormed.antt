-- What is used of a certificate that is well formed.
use Rattle.std.proofs.Common.{◌≡◌, ◌≢◌, ℕ, ◌+◌, ◌<◌, ◌≤◌, true, not, ◌&&◌, List, [], ◌∷◌, length, Option, None, Some, eqb, ltb, refl, arith}
use Rattle.std.specs.List.{AllByRecursion}
use Rattle.std.specs.Option.{option_map}
use Rattle.std.proofs.lemmas.Bool.Decides.{nat_tests}
use Rattle.va_core.specs.Approximations.{NamesDiffer}
use Rattle.va_core.specs.Shape.{is_within}
use Rattle.va_cert.specs.declared.certificate.BoxRow.{BoxRow}
use Rattle.va_cert.specs.declared.certificate.Taken.{Taken}
use Rattle.va_cert.specs.declared.certificate.Certificate.{Certificate}
use Rattle.va_cert.specs.Known.{has_box}
use Rattle.va_cert.specs.Reasons.{Reason, form_k, form_weights, form_objects, form_boxes, form_fetched, when_so, have_length, rises, is_above, is_box, is_entry, first_bad_box, first_bad_entry, first_of, form_rows}
use Rattle.va_cert.specs.Forms.{IdsAscend, IsLevel, AreEntries, IsFormed}
use Rattle.va_cert.proofs.Rows.{and_left, and_right, taken_branch, none_here, none_so, none_within, boxes_ascend, entries_boxed}
use Rattle.va_core.proofs.Tests.{at_least, at_most}

box_early : (dims : ℕ) (before : Option ℕ) (position : ℕ) (row : BoxRow) → is_box dims before position row ≡ true → position < 4096
box_early dims before position row h = grind (arith, nat_tests, h)

-- as many boxes as are well formed
pub boxes_few : (dims : ℕ) (before : Option ℕ) (position : ℕ) (boxes : List BoxRow) → position ≤ 4096 → first_bad_box dims before position boxes ≡ None → position + length boxes ≤ 4096
boxes_few dims before position [] h g = omega (arith, h)
boxes_few dims before position (row ∷ boxes) h g =
    let b = taken_branch (is_box dims before position row) (first_bad_box dims (Some row.id) (position + 1) boxes) position g in
    let here : position < 4096 = box_early dims before position row b.0 in
    let rest : position + 1 + length boxes ≤ 4096 = boxes_few dims (Some row.id) (position + 1) boxes (omega (arith, here)) b.1 in omega (arith, rest)

-- boxes, one by one
level_at : (dims : ℕ) (before : Option ℕ) (position : ℕ) (row : BoxRow) → is_box dims before position row ≡ true → (length row.low ≡ dims) × (length row.high ≡ dims) × (rises row.low row.high ≡ true)
level_at dims before position row h =
    let a = and_right (ltb position 4096) (eqb (length row.low) dims && (eqb (length row.high) dims && (rises row.low row.high && is_above before row.id))) h in
    let b = and_right (eqb (length row.low) dims) (eqb (length row.high) dims && (rises row.low row.high && is_above before row.id)) a in
    let d = and_right (eqb (length row.high) dims) (rises row.low row.high && is_above before row.id) b in
    let x : eqb (length row.low) dims ≡ true = and_left (eqb (length row.low) dims) (eqb (length row.high) dims && (rises row.low row.high && is_above before row.id)) a in
    let y : eqb (length row.high) dims ≡ true = and_left (eqb (length row.high) dims) (rises row.low row.high && is_above before row.id) b in
    (grind (arith, nat_tests, x), grind (arith, nat_tests, y), and_left (rises row.low row.high) (is_above before row.id) d)

level : (dims : ℕ) (before : Option ℕ) (position : ℕ) (boxes : List BoxRow) → first_bad_box dims before position boxes ≡ None → IsLevel dims boxes
level dims before position [] h = tt
level dims before position (row ∷ boxes) h =
    let b = taken_branch (is_box dims before position row) (first_bad_box dims (Some row.id) (position + 1) boxes) position h in
    (level_at dims before position row b.0, level dims (Some row.id) (position + 1) boxes b.1)

-- entries, one by one
record Entry (dims : ℕ) (boxes : List BoxRow) (before : Option ℕ) (taken : Taken) : Type 0 where
  above : is_above before taken.id ≡ true
  vector : length taken.vector ≡ dims
  other : length taken.other ≡ dims

entry_at : (dims : ℕ) (boxes : List BoxRow) (before : Option ℕ) (taken : Taken) → is_entry dims boxes before taken ≡ true → Entry dims boxes before taken
entry_at dims boxes before taken h =
    let a = and_right (is_above before taken.id) (has_box boxes taken.id && (eqb (length taken.vector) dims && eqb (length taken.other) dims)) h in
    let b = and_right (has_box boxes taken.id) (eqb (length taken.vector) dims && eqb (length taken.other) dims) a in
    let x : eqb (length taken.vector) dims ≡ true = and_left (eqb (length taken.vector) dims) (eqb (length taken.other) dims) b in
    let y : eqb (length taken.other) dims ≡ true = and_right (eqb (length taken.vector) dims) (eqb (length taken.other) dims) b in
    record {
      above = and_left (is_above before taken.id) (has_box boxes taken.id && (eqb (length taken.vector) dims && eqb (length taken.other) dims)) h;
      vector = grind (arith, nat_tests, x);
      other = grind (arith, nat_tests, y);
    }

above_through : (before : Option ℕ) (id next : ℕ) → is_above before id ≡ true → id < next → is_above before next ≡ true
above_through None id next h g = refl
above_through (Some b) id next h g = grind (arith, nat_tests, h, g)

above_all : (before : Option ℕ) (id : ℕ) (fetched : List Taken) → is_above before id ≡ true → AllByRecursion (λ (t : Taken). is_above (Some id) t.id ≡ true) fetched → AllByRecursion (λ (t : Taken). is_above before t.id ≡ true) fetched
above_all before id [] h g = tt
above_all before id (t ∷ fetched) h g = let less : id < t.id = grind (arith, nat_tests, g.0) in (above_through before id t.id h less, above_all before id fetched h g.1)

differ_all : (id : ℕ) (fetched : List Taken) → AllByRecursion (λ (t : Taken). is_above (Some id) t.id ≡ true) fetched → AllByRecursion (λ (t : Taken). t.id ≢ id) fetched
differ_all id [] h = tt
differ_all id (t ∷ fetched) h = let less : id < t.id = grind (arith, nat_tests, h.0) in ((λ same. absurd (omega (arith, less, same))), differ_all id fetched h.1)

record Entries (dims : ℕ) (before : Option ℕ) (fetched : List Taken) : Type 0 where
  level : AreEntries dims fetched
  above : AllByRecursion (λ (t : Taken). is_above before t.id ≡ true) fetched
  apart : NamesDiffer (λ (t : Taken). t.id) fetched

entries : (dims : ℕ) (boxes : List BoxRow) (before : Option ℕ) (position : ℕ) (fetched : List Taken) → first_bad_entry dims boxes before position fetched ≡ None → Entries dims before fetched
entries dims boxes before position [] h = record { level = tt; above = tt; apart = tt }
entries dims boxes before position (taken ∷ fetched) h =
    let b = taken_branch (is_entry dims boxes before taken) (first_bad_entry dims boxes (Some taken.id) (position + 1) fetched) position h in
    let e = entry_at dims boxes before taken b.0 in
    let r = entries dims boxes (Some taken.id) (position + 1) fetched b.1 in record {
      level = ((e.vector, e.other), r.level);
      above = (e.above, above_all before taken.id fetched e.above r.above);
      apart = (differ_all taken.id fetched r.above, r.apart);
    }

-- ids above one are greater
above_less : {X : Type 0} (id : X → ℕ) (n : ℕ) (rows : List X) → AllByRecursion (λ x. is_above (Some n) (id x) ≡ true) rows → AllByRecursion (λ x. n < id x) rows
above_less id n [] above = tt
above_less id n (x ∷ rows) above = (grind (arith, nat_tests, above.0), above_less id n rows above.1)

-- the ids of well formed boxes, and of well formed entries, ascend
pub boxes_rise : (dims : ℕ) (before : Option ℕ) (position : ℕ) (boxes : List BoxRow) → first_bad_box dims before position boxes ≡ None → IdsAscend (λ (row : BoxRow). row.id) boxes
boxes_rise dims before position [] h = tt
boxes_rise dims before position (row ∷ boxes) h =
    let b = taken_branch (is_box dims before position row) (first_bad_box dims (Some row.id) (position + 1) boxes) position h in
    (above_less (λ (r : BoxRow). r.id) row.id boxes (boxes_ascend dims (Some row.id) (position + 1) boxes b.1).0, boxes_rise dims (Some row.id) (position + 1) boxes b.1)

entries_rise : (dims : ℕ) (boxes : List BoxRow) (before : Option ℕ) (position : ℕ) (fetched : List Taken) → first_bad_entry dims boxes before position fetched ≡ None → IdsAscend (λ (t : Taken). t.id) fetched
entries_rise dims boxes before position [] h = tt
entries_rise dims boxes before position (taken ∷ fetched) h =
    let b = taken_branch (is_entry dims boxes before taken) (first_bad_entry dims boxes (Some taken.id) (position + 1) fetched) position h in
    (above_less (λ (t : Taken). t.id) taken.id fetched (entries dims boxes (Some taken.id) (position + 1) fetched b.1).above, entries_rise dims boxes (Some taken.id) (position + 1) fetched b.1)

lengths_from : (dims : ℕ) (objects : List (List ℕ)) → have_length dims objects ≡ true → AllByRecursion (λ o. length o ≡ dims) objects
lengths_from dims [] h = tt
lengths_from dims (o ∷ objects) h = let t : eqb (length o) dims ≡ true = and_left (eqb (length o) dims) (have_length dims objects) h in (grind (arith, nat_tests, t), lengths_from dims objects (and_right (eqb (length o) dims) (have_length dims objects) h))

pub formed : (c : Certificate) → first_of (form_rows c) ≡ None → IsFormed c
formed c h =
    let w : Option Reason = when_so (not (is_within 1 256 (length c.weights))) form_weights in
    let o : Option Reason = when_so (not (is_within 1 16 (length c.objects) && have_length (length c.weights) c.objects)) form_objects in
    let rest : List (Option Reason) = option_map form_boxes (first_bad_box (length c.weights) None 0 c.boxes) ∷ option_map form_fetched (first_bad_entry (length c.weights) c.boxes None 0 c.fetched) ∷ [] in
    let a = none_here (when_so (not (is_within 1 4096 c.k)) form_k) (w ∷ o ∷ rest) h in
    let b = none_here w (o ∷ rest) a.1 in
    let d = none_here o rest b.1 in
    let e = none_here (option_map form_boxes (first_bad_box (length c.weights) None 0 c.boxes)) (option_map form_fetched (first_bad_entry (length c.weights) c.boxes None 0 c.fetched) ∷ []) d.1 in
    let f = none_here (option_map form_fetched (first_bad_entry (length c.weights) c.boxes None 0 c.fetched)) [] e.1 in
    let boxes : first_bad_box (length c.weights) None 0 c.boxes ≡ None = none_within form_boxes (first_bad_box (length c.weights) None 0 c.boxes) e.0 in
    let entered : first_bad_entry (length c.weights) c.boxes None 0 c.fetched ≡ None = none_within form_fetched (first_bad_entry (length c.weights) c.boxes None 0 c.fetched) f.0 in
    let dims : is_within 1 256 (length c.weights) ≡ true = none_so (is_within 1 256 (length c.weights)) form_weights b.0 in
    let objects : (is_within 1 16 (length c.objects) && have_length (length c.weights) c.objects) ≡ true = none_so (is_within 1 16 (length c.objects) && have_length (length c.weights) c.objects) form_objects d.0 in
    let es = entries (length c.weights) c.boxes None 0 c.fetched entered in
    record {
      query = record {
        most_dims = at_most 1 256 (length c.weights) dims;
        few = at_most 1 16 (length c.objects) (and_left (is_within 1 16 (length c.objects)) (have_length (length c.weights) c.objects) objects);
        lengths = lengths_from (length c.weights) c.objects (and_right (is_within 1 16 (length c.objects)) (have_length (length c.weights) c.objects) objects);
      };
      some = at_least 1 4096 c.k (none_so (is_within 1 4096 c.k) form_k a.0);
      boxes = level (length c.weights) None 0 c.boxes boxes;
      few = let n : 0 + length c.boxes ≤ 4096 = boxes_few (length c.weights) None 0 c.boxes (omega arith) boxes in omega (arith, n);
      ascend = boxes_rise (length c.weights) None 0 c.boxes boxes;
      differ = (boxes_ascend (length c.weights) None 0 c.boxes boxes).1;
      entries = es.level;
      boxed = entries_boxed (length c.weights) c.boxes None 0 c.fetched entered;
      rise = entries_rise (length c.weights) c.boxes None 0 c.fetched entered;
      apart = es.apart;
    }
