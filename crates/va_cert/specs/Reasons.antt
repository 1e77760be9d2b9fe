-- Why a certificate is refused: a table whose first row that holds is the answer.
use Rattle.std.specs.Prelude.{◌≡◌, ℕ, ◌+◌, ◌==◌, nat_lt, nat_le, Bool, true, false, ◌&&◌, not, List, [], ◌∷◌, length, Option, None, Some, if◌then◌else◌}
use Rattle.std.specs.Option.{option_map, is_none}
use Rattle.va_core.specs.declared.pair.Pair.{Pair}
use Rattle.va_core.specs.Boxes.{Span}
use Rattle.va_core.specs.Kth.{kth, first_before}
use Rattle.va_core.specs.Shape.{is_within}
use Rattle.va_cert.specs.declared.certificate.BoxRow.{BoxRow}
use Rattle.va_cert.specs.declared.certificate.Taken.{Taken}
use Rattle.va_cert.specs.declared.certificate.Certificate.{Certificate}
use Rattle.va_cert.specs.Known.{box_at, has_box, known_list, substituted_list, first_unknown}

pub data Reason : Type 0 where
  form_k : Reason
  form_weights : Reason
  form_objects : Reason
  form_boxes : ℕ → Reason
  form_fetched : ℕ → Reason
  vector_outside : ℕ → Reason
  substitute_outside : ℕ → Reason
  answer_differs : ℕ → Reason
  undetermined : ℕ → Reason
  needless : ℕ → Reason

abbrev pub first_of : List (Option Reason) → Option Reason
first_of [] = None
first_of (None ∷ rows) = first_of rows
first_of (Some reason ∷ rows) = Some reason

abbrev pub when_so : Bool → Reason → Option Reason
when_so holds reason = if holds then Some reason else None

-- each of the lists has so many numbers
abbrev pub have_length : ℕ → List (List ℕ) → Bool
have_length dims [] = true
have_length dims (vector ∷ vectors) = (length vector == dims) && have_length dims vectors

-- no low end is above its high end
abbrev pub rises : List ℕ → List ℕ → Bool
rises (l ∷ lows) (h ∷ highs) = nat_le l h && rises lows highs
rises _ _ = true

-- the vector lies between the ends of the box in each dimension
abbrev pub lies : List Span → List ℕ → Bool
lies [] [] = true
lies (s ∷ box) (v ∷ x) = nat_le s.low v && (nat_le v s.high && lies box x)
lies _ _ = false

-- the id is above the one before, if there is one
abbrev pub is_above : Option ℕ → ℕ → Bool
is_above None id = true
is_above (Some before) id = nat_lt before id

abbrev pub is_box : ℕ → Option ℕ → ℕ → BoxRow → Bool
is_box dims before position row = nat_lt position 4096 && (length row.low == dims && (length row.high == dims && (rises row.low row.high && is_above before row.id)))

abbrev pub is_entry : ℕ → List BoxRow → Option ℕ → Taken → Bool
is_entry dims boxes before taken = is_above before taken.id && (has_box boxes taken.id && (length taken.vector == dims && length taken.other == dims))

-- the position of the first box, or entry, that isn't well formed, from a position on
abbrev pub first_bad_box : ℕ → Option ℕ → ℕ → List BoxRow → Option ℕ
first_bad_box dims before position [] = None
first_bad_box dims before position (row ∷ boxes) = if is_box dims before position row then first_bad_box dims (Some row.id) (position + 1) boxes else Some position

abbrev pub first_bad_entry : ℕ → List BoxRow → Option ℕ → ℕ → List Taken → Option ℕ
first_bad_entry dims boxes before position [] = None
first_bad_entry dims boxes before position (taken ∷ fetched) = if is_entry dims boxes before taken then first_bad_entry dims boxes (Some taken.id) (position + 1) fetched else Some position

-- the id of the first entry that passes the test; the least, since they ascend
abbrev pub first_entry : (Taken → Bool) → List Taken → Option ℕ
first_entry test [] = None
first_entry test (taken ∷ fetched) = if test taken then Some taken.id else first_entry test fetched

abbrev pub is_same : Pair → Pair → Bool
is_same p q = p.dist == q.dist && p.id == q.id

-- the first position from n on at which two lists differ; a missing pair differs
abbrev pub first_difference : ℕ → List Pair → List Pair → Option ℕ
first_difference n [] [] = None
first_difference n (p ∷ ps) (q ∷ qs) = if is_same p q then first_difference (n + 1) ps qs else Some n
first_difference n _ _ = Some n

abbrev pub is_outside : Certificate → Taken → Bool
is_outside c taken = not (lies (box_at c.boxes taken.id) taken.vector)

abbrev pub is_substitute_outside : Certificate → Taken → Bool
is_substitute_outside c taken = not (lies (box_at c.boxes taken.id) taken.other)

abbrev pub is_needless : Certificate → Taken → Bool
is_needless c taken = is_none (first_difference 0 (substituted_list c taken) (known_list c))

abbrev pub form_rows : Certificate → List (Option Reason)
form_rows c =
    when_so (not (is_within 1 4096 c.k)) form_k
    ∷ when_so (not (is_within 1 256 (length c.weights))) form_weights
    ∷ when_so (not (is_within 1 16 (length c.objects) && have_length (length c.weights) c.objects)) form_objects
    ∷ option_map form_boxes (first_bad_box (length c.weights) None 0 c.boxes)
    ∷ option_map form_fetched (first_bad_entry (length c.weights) c.boxes None 0 c.fetched)
    ∷ []

abbrev pub rows : Certificate → List (Option Reason)
rows c =
    first_of (form_rows c)
    ∷ option_map vector_outside (first_entry (is_outside c) c.fetched)
    ∷ option_map substitute_outside (first_entry (is_substitute_outside c) c.fetched)
    ∷ option_map answer_differs (first_difference 0 c.answer (known_list c))
    ∷ option_map (λ (p : Pair). undetermined p.id) (first_before (kth c.k (known_list c)) (first_unknown c))
    ∷ option_map needless (first_entry (is_needless c) c.fetched)
    ∷ []

-- why the certificate is refused, if it is
abbrev pub reason : Certificate → Option Reason
reason c = first_of (rows c)

abbrev pub Accepts : Certificate → Type 0
Accepts c = reason c ≡ None
