-- What bytes say that are to be a certificate's text. The kinds of all parts come before the range of any number.
use Rattle.std.specs.Prelude.{◌≡◌, ℕ, ◌^◌, ◌==◌, Bool, false, ◌&&◌, nat_lt, List, [], ◌∷◌, codes, Option, None, Some, option_and_then, if◌then◌else◌}
use Rattle.std.specs.List.{list_all}
use Rattle.std.specs.Option.{option_map, is_some}
use Rattle.std.specs.Str.{is_utf8}
use Rattle.serde_json.specs.Data.{Data, Items, no_items, item}
use Rattle.serde_json.specs.Events.{members_len}
use Rattle.serde_json.specs.Find.{as_array, as_number, as_object, as_u64, get}
use Rattle.serde_json.specs.Read.{read}
use Rattle.va_core.specs.declared.pair.Pair.{Pair}
use Rattle.va_cert.specs.declared.certificate.BoxRow.{BoxRow}
use Rattle.va_cert.specs.declared.certificate.Taken.{Taken}
use Rattle.va_cert.specs.declared.certificate.Certificate.{Certificate}
use Rattle.va_cert.specs.Text.{text_of, Fits}
use Rattle.va_cert.specs.declared.fault.FormFault.{FormFault}
use Rattle.va_cert.specs.declared.fault.FormFault.TheVariants as faults

abbrev pub list_of : Items → List Data
list_of no_items = []
list_of (item d ds) = d ∷ list_of ds

abbrev pub as_list : Data → Option (List Data)
as_list d = option_map list_of (as_array d)

-- it is there, and passes the test
abbrev pub passes : {A : Type 0} → (A → Bool) → Option A → Bool
passes test None = false
passes test (Some a) = test a

-- kinds

abbrev pub is_number : Data → Bool
is_number d = is_some (as_number d)

-- a list of which each member passes the test
abbrev pub is_list : (Data → Bool) → Data → Bool
is_list test d = passes (list_all test) (as_list d)

abbrev pub are_numbers : Data → Bool
are_numbers d = is_list is_number d

abbrev pub are_two_numbers : List Data → Bool
are_two_numbers (a ∷ b ∷ []) = is_number a && is_number b
are_two_numbers _ = false

abbrev pub is_pair : Data → Bool
is_pair d = passes are_two_numbers (as_list d)

abbrev pub are_number_and_lists : List Data → Bool
are_number_and_lists (a ∷ b ∷ c ∷ []) = is_number a && (are_numbers b && are_numbers c)
are_number_and_lists _ = false

abbrev pub is_row : Data → Bool
is_row d = passes are_number_and_lists (as_list d)

-- an object with exactly the six keys, each of its kind
abbrev pub has_kinds : Data → Bool
has_kinds d = passes (λ members. members_len members == 6) (as_object d)
    && (passes (is_list is_pair) (get (codes "answer") d)
    && (passes (is_list is_row) (get (codes "boxes") d)
    && (passes (is_list is_row) (get (codes "fetched") d)
    && (passes is_number (get (codes "k") d)
    && (passes (is_list are_numbers) (get (codes "objects") d)
    && passes are_numbers (get (codes "weights") d))))))

-- numbers that are whole, written with digits alone, and below an end

abbrev pub below : ℕ → ℕ → Option ℕ
below end n = if nat_lt n end then Some n else None

abbrev pub whole_below : ℕ → Data → Option ℕ
whole_below end d = option_and_then (below end) (option_and_then as_u64 (as_number d))

abbrev pub as_byte : Data → Option ℕ
as_byte = whole_below (2 ^ 8)

abbrev pub as_word : Data → Option ℕ
as_word = whole_below (2 ^ 16)

abbrev pub as_id : Data → Option ℕ
as_id = whole_below (2 ^ 32)

abbrev pub as_dist : Data → Option ℕ
as_dist = whole_below (2 ^ 64)

-- each member, read
abbrev pub all_of : {A B : Type 0} → (A → Option B) → List A → Option (List B)
all_of f [] = Some []
all_of f (a ∷ rest) = option_and_then (λ b. option_map (λ bs. b ∷ bs) (all_of f rest)) (f a)

abbrev pub all_in : {A : Type 0} → (Data → Option A) → Data → Option (List A)
all_in f d = option_and_then (all_of f) (as_list d)

abbrev pub as_bytes : Data → Option (List ℕ)
as_bytes = all_in as_byte

abbrev pub pair_of : List Data → Option Pair
pair_of (a ∷ b ∷ []) = option_and_then (λ i. option_map (λ d. record { dist = d; id = i }) (as_dist b)) (as_id a)
pair_of _ = None

abbrev pub as_pair : Data → Option Pair
as_pair d = option_and_then pair_of (as_list d)

abbrev pub row_of : List Data → Option BoxRow
row_of (a ∷ b ∷ c ∷ []) = option_and_then (λ i. option_and_then (λ l. option_map (λ h. record { id = i; low = l; high = h }) (as_bytes c)) (as_bytes b)) (as_id a)
row_of _ = None

abbrev pub as_row : Data → Option BoxRow
as_row d = option_and_then row_of (as_list d)

abbrev pub taken_of : List Data → Option Taken
taken_of (a ∷ b ∷ c ∷ []) = option_and_then (λ i. option_and_then (λ v. option_map (λ o. record { id = i; vector = v; other = o }) (as_bytes c)) (as_bytes b)) (as_id a)
taken_of _ = None

abbrev pub as_taken : Data → Option Taken
as_taken d = option_and_then taken_of (as_list d)

-- the value of a key, read
abbrev pub at_key : {A : Type 0} → (Data → Option A) → List ℕ → Data → Option A
at_key f key d = option_and_then f (get key d)

abbrev pub as_certificate : Data → Option Certificate
as_certificate d =
    option_and_then (λ a. option_and_then (λ b. option_and_then (λ f. option_and_then (λ k. option_and_then (λ o. option_map (λ w.
    record { answer = a; boxes = b; fetched = f; k = k; objects = o; weights = w })
    (at_key (all_in as_word) (codes "weights") d))
    (at_key (all_in as_bytes) (codes "objects") d))
    (at_key as_word (codes "k") d))
    (at_key (all_in as_taken) (codes "fetched") d))
    (at_key (all_in as_row) (codes "boxes") d))
    (at_key (all_in as_pair) (codes "answer") d)

-- what bytes say
pub data Reading : Type 0 where
  certificate : Certificate → Reading
  no_value : Reading
  other_kind : Reading
  unfit_number : Reading

abbrev pub with_numbers : Option Certificate → Reading
with_numbers None = unfit_number
with_numbers (Some c) = certificate c

abbrev pub with_value : Option Data → Reading
with_value None = no_value
with_value (Some d) = if has_kinds d then with_numbers (as_certificate d) else other_kind

-- one JSON value as UTF-8, with at most 127 lists and objects open at a place; of two equal keys the last one counts
abbrev pub value_of : List ℕ → Option Data
value_of text = if is_utf8 text then read text else None

abbrev pub reading : List ℕ → Reading
reading text = with_value (value_of text)

-- the fault that such a reading has; want of memory says nothing
abbrev pub IsFaultOf : FormFault → Reading → Type 0
IsFaultOf faults.Text r = r ≡ no_value
IsFaultOf faults.Object r = r ≡ other_kind
IsFaultOf faults.Number r = r ≡ unfit_number
IsFaultOf faults.Memory r = Unit {0}

-- a part that isn't read has an unfit number; or memory was wanting
abbrev pub IsUnfit : {A : Type 0} → FormFault → Option A → Type 0
IsUnfit faults.Text part = ⊥
IsUnfit faults.Object part = ⊥
IsUnfit faults.Number part = part ≡ None
IsUnfit faults.Memory part = Unit {0}

-- the text of a certificate is read as that certificate
abbrev pub ReadsBack : Type 0
ReadsBack = (c : Certificate) → Fits c → reading (text_of c) ≡ certificate c
