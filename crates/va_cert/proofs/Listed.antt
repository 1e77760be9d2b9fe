-- Lists of values, read member by member, and what bytes are as a value.
use Rattle.std.proofs.Common.{◌≡◌, ℕ, ◌==◌, eqb, Bool, true, false, List, [], ◌∷◌, ◌++◌, length, map, drop, drop-cons, get_or, append_assoc, append-nil, suc, ◌+◌, ◌<◌, ◌≤◌, arith, option_and_then, Option, None, Some, refl, ap, sym, ◌∙◌, if◌then◌else◌, String, Global, IsUtf8}
use Rattle.std.specs.List.{list_all}
use Rattle.std.specs.Option.{option_map}
use Rattle.std.specs.Str.{is_utf8}
use Rattle.std.proofs.lemmas.List.Folds.{list_all-map}
use Rattle.std.proofs.lemmas.Str.{IsUtf8-from_is_utf8, is_utf8-from_IsUtf8}
use Rattle.serde_json.proofs.Views.{members_len-members_view}
use Rattle.serde_json.specs.Data.{Data, Items, Members}
use Rattle.serde_json.specs.Events.{members_len}
use Rattle.serde_json.specs.Find.{as_array}
use Rattle.serde_json.specs.Read.{read}
use Rattle.serde_json.specs.View.{view, items_of, items_view, members_view}
use Rattle.serde_json.specs.declared.value.Value.{Value}
use Rattle.std.proofs.lemmas.List.{drop_all}
use Rattle.va_cert.specs.Reads.{list_of, as_list, passes, is_list, value_of, all_of, IsUnfit}
use Rattle.va_cert.specs.declared.fault.FormFault.{FormFault}
use Rattle.va_cert.specs.declared.fault.FormFault.TheVariants.{Text, Object, Number, Memory}

pub list_back : (ds : List Data) → list_of (items_of ds) ≡ ds
list_back [] = refl
list_back (d ∷ ds) = ap (λ (l : List Data). d ∷ l) (list_back ds)

pub listed : (d : Data) (values : List Value) → ◌≡◌ {A = Option Items} (Some (items_view values)) (as_array d) → ◌≡◌ {A = Option (List Data)} (Some (map view values)) (as_list d)
listed d values h = ap Some (sym (list_back (map view values))) ∙ ap (option_map list_of) h

pub of_kind : (test : Data → Bool) (d : Data) (values : List Value) → ◌≡◌ {A = Option (List Data)} (Some (map view values)) (as_list d) → list_all (λ v. test (view v)) values ≡ is_list test d
of_kind test d values h = sym (list_all-map test view values) ∙ ap (passes (list_all test)) h

pub six_keys : (o : Option Members) (entries : List (String Global × Value)) → ◌≡◌ {A = Option Members} (Some (members_view entries)) o → eqb (length entries) 6 ≡ passes (λ members. members_len members == 6) o
six_keys o entries h = ap (λ (n : ℕ). eqb n 6) (sym (members_len-members_view entries)) ∙ ap (passes (λ members. members_len members == 6)) h

pub value_is : {text : List ℕ} {d : Data} → IsUtf8 text → ◌≡◌ {A = Option Data} (read text) (Some d) → ◌≡◌ {A = Option Data} (Some d) (value_of text)
value_is {text} u h = rw (is_utf8-from_IsUtf8 text u) (sym h)

pub no_value_is : {text : List ℕ} → (IsUtf8 text → ◌≡◌ {A = Option Data} (read text) None) → ◌≡◌ {A = Option Data} None (value_of text)
no_value_is {text} h = elim (is_utf8 text) as (λ b. is_utf8 text ≡ b → ◌≡◌ {A = Option Data} None (if b then read text else None)) [
  | true ↦ λ e. sym (h (IsUtf8-from_is_utf8 text e))
  | false ↦ λ e. refl
] refl

-- what was read, and what is left of it
abbrev pub behind : {A : Type 0} → List A → Option (List A) → Option (List A)
behind done rest = option_map (λ more. done ++ more) rest

behind_more : {A : Type 0} (done : List A) (a : A) (rest : Option (List A)) → behind done (option_map (λ more. a ∷ more) rest) ≡ behind (done ++ a ∷ []) rest
behind_more done a None = refl
behind_more done a (Some more) = ap Some (sym (append_assoc done (a ∷ []) more))

left_is : (values : List Value) (i : ℕ) (v : Value) → i < length values → v ≡ get_or values i v → map view (drop i values) ≡ view v ∷ map view (drop (i + 1) values)
left_is values i v h e =
    let n : suc i ≡ i + 1 = omega arith in
    ap (map view) (drop-cons values i v h ∙ ap (λ (x : Value). x ∷ drop (suc i) values) (sym e)) ∙ ap (λ (m : ℕ). view v ∷ map view (drop m values)) n

pub part_next : {A : Type 0} (f : Data → Option A) (values : List Value) (i : ℕ) (v : Value) (done new : List A) (a : A) → i < length values → v ≡ get_or values i v → f (view v) ≡ Some a → new ≡ done ++ a ∷ [] →
    behind done (all_of f (map view (drop i values))) ≡ all_of f (map view values) → behind new (all_of f (map view (drop (i + 1) values))) ≡ all_of f (map view values)
part_next {A} f values i v done new a h e r n inv =
    ap (λ (l : List A). behind l (all_of f (map view (drop (i + 1) values)))) n
    ∙ (sym (behind_more done a (all_of f (map view (drop (i + 1) values))))
    ∙ (ap (behind done) (sym (ap (all_of f) (left_is values i v h e) ∙ ap (λ (o : Option A). option_and_then (λ b. option_map (λ bs. b ∷ bs) (all_of f (map view (drop (i + 1) values)))) o) r)) ∙ inv))

pub part_none : {A : Type 0} (f : Data → Option A) (values : List Value) (i : ℕ) (v : Value) (done : List A) → i < length values → v ≡ get_or values i v → f (view v) ≡ None →
    behind done (all_of f (map view (drop i values))) ≡ all_of f (map view values) → all_of f (map view values) ≡ None
part_none {A} f values i v done h e r inv =
    sym inv ∙ ap (behind done) (ap (all_of f) (left_is values i v h e) ∙ ap (λ (o : Option A). option_and_then (λ b. option_map (λ bs. b ∷ bs) (all_of f (map view (drop (i + 1) values)))) o) r)

pub parts_end : {A : Type 0} (f : Data → Option A) (values : List Value) (i : ℕ) (done : List A) → length values ≤ i → behind done (all_of f (map view (drop i values))) ≡ all_of f (map view values) → all_of f (map view values) ≡ Some done
parts_end f values i done h inv = sym inv ∙ (ap (λ (l : List Value). behind done (all_of f (map view l))) (drop_all i values h) ∙ ap Some (append-nil done))

-- a fault of a part is one of the list
pub unfit_list : {A : Type 0} (f : Data → Option A) (values : List Value) (i : ℕ) (v : Value) (done : List A) (fault : FormFault) → i < length values → v ≡ get_or values i v → IsUnfit fault (f (view v)) →
    behind done (all_of f (map view (drop i values))) ≡ all_of f (map view values) → IsUnfit fault (all_of f (map view values))
unfit_list f values i v done Text h e r inv = absurd r
unfit_list f values i v done Object h e r inv = absurd r
unfit_list f values i v done Number h e r inv = part_none f values i v done h e r inv
unfit_list f values i v done Memory h e r inv = tt
