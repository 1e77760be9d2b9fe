-- What clap makes of the words that it is given, and the mode of them.
use Rattle.std.proofs.Common.{◌≡◌, ℕ, Bool, true, false, eqb, not, ◌&&◌, List, [], ◌∷◌, ◌++◌, ◌⊎◌, inl, inr, None, Some, Option, refl, sym, ap, subst, ◌∙◌, eqb-true, arith, codes}
use Rattle.std.specs.List.{before_first}
use Rattle.std.specs.Str.{bytes_eq}
use Rattle.std.proofs.lemmas.Bool.{cases_Bool}
use Rattle.std.proofs.lemmas.Bool.Decides.{nat_tests}
use Rattle.std.proofs.lemmas.Slice.Eq.{bytes_eq-Decides}
use Rattle.clap.specs.Words.{App, HasKind, HasMatchesOf, Row, Text, fault_of, found_of, is_simple_and_free, kind_of, matches_of, rows_of}
use Rattle.clap.specs.declared.error.Error.{Error}
use Rattle.clap.specs.declared.error.kind.ErrorKind.{ErrorKind}
use Rattle.clap.specs.declared.error.kind.ErrorKind.TheVariants as kind
use Rattle.clap.specs.declared.parser.matches.ArgMatches.{ArgMatches}
use Rattle.clap.proofs.OnLiterals.{clap_on_literals}
use Rattle.va_words.specs.Options.{Shows, begins_with_dash, is_simple_use, mode_shown, names_option, options_app, second_dash}
use Rattle.va_words.specs.Words.{is_equals, mode_named, mode_of, value_in}
use Rattle.va_words.specs.declared.form.Mode.{Mode}
use Rattle.va_words.proofs.Naming.{named}

-- clap takes the words, and what it shows is their mode
pub record Taken (words : List Text) : Type 0 where
  pub passes : fault_of options_app words ≡ []
  pub csv : Bool
  pub export : Bool
  pub work : Option Text
  pub shows : Shows (matches_of options_app words) csv export work
  pub mode : mode_shown csv export work ≡ mode_of words

-- clap refuses the words, and they have no mode
pub record Refused (words : List Text) : Type 0 where
  pub fault : ErrorKind
  pub fails : fault_of options_app words ≡ fault ∷ []
  pub mode : mode_of words ≡ None

abbrev pub Parses : List Text → Type 0
Parses words = Taken words ⊎ Refused words

both : (a b : Bool) → (a && b) ≡ true → (a ≡ true) × (b ≡ true)
both true b e = (refl, e)
both false b e = cc

not_true : (a : Bool) → not a ≡ true → a ≡ false
not_true true e = cc
not_true false e = refl

no_word : Parses []
unfolding clap_on_literals
no_word = inl (record {
  passes = refl;
  csv = false;
  export = false;
  work = None;
  shows = record { csv_shown = refl; export_shown = refl; work_shown = refl };
  mode = refl;
})

csv_alone : Parses (codes "--csv" ∷ [])
unfolding clap_on_literals
csv_alone = inl (record {
  passes = refl;
  csv = true;
  export = false;
  work = None;
  shows = record { csv_shown = refl; export_shown = refl; work_shown = refl };
  mode = refl;
})

csv_valued : (value : Text) → Parses ((codes "--csv=" ++ value) ∷ [])
unfolding clap_on_literals
csv_valued value = inr (record { fault = kind.TooManyValues; fails = refl; mode = refl })

export_alone : Parses (codes "--export" ∷ [])
unfolding clap_on_literals
export_alone = inl (record {
  passes = refl;
  csv = false;
  export = true;
  work = None;
  shows = record { csv_shown = refl; export_shown = refl; work_shown = refl };
  mode = refl;
})

export_valued : (value : Text) → Parses ((codes "--export=" ++ value) ∷ [])
unfolding clap_on_literals
export_valued value = inr (record { fault = kind.TooManyValues; fails = refl; mode = refl })

work_alone : Parses (codes "--work" ∷ [])
unfolding clap_on_literals
work_alone = inr (record { fault = kind.InvalidValue; fails = refl; mode = refl })

work_valued : (value : Text) → Parses ((codes "--work=" ++ value) ∷ [])
unfolding clap_on_literals
work_valued value = inl (record {
  passes = refl;
  csv = false;
  export = false;
  work = Some value;
  shows = record { csv_shown = refl; export_shown = refl; work_shown = refl };
  mode = refl;
})

work_next : (value : Text) → begins_with_dash value ≡ false → Parses (codes "--work" ∷ value ∷ [])
unfolding clap_on_literals
work_next [] plain = inl (record {
  passes = refl;
  csv = false;
  export = false;
  work = Some [];
  shows = record { csv_shown = refl; export_shown = refl; work_shown = refl };
  mode = refl;
})
work_next (byte ∷ value) plain = inl (record {
  passes = simp plain refl;
  csv = false;
  export = false;
  work = Some (byte ∷ value);
  shows = record { csv_shown = simp plain refl; export_shown = simp plain refl; work_shown = simp plain refl };
  mode = refl;
})

no_byte : Parses ([] ∷ [])
unfolding clap_on_literals
no_byte = inr (record { fault = kind.UnknownArgument; fails = refl; mode = refl })

pub flipped : (byte : ℕ) → eqb byte 45 ≡ false → eqb 45 byte ≡ false
flipped byte other = grind (arith, nat_tests)

plain_word : (byte : ℕ) (word : Text) → eqb byte 45 ≡ false → Parses ((byte ∷ word) ∷ [])
unfolding clap_on_literals
plain_word byte word plain = inr (record { fault = kind.UnknownArgument; fails = simp plain refl; mode = rw (flipped byte plain) refl })

unnamed : (name : Text) (value : Option Text) → bytes_eq (codes "csv") name ≡ false → bytes_eq (codes "export") name ≡ false →
    bytes_eq (codes "work") name ≡ false → mode_named name value ≡ None
unnamed name None csv export work = rw (csv, export) refl
unnamed name (Some value) csv export work = rw work refl

other_fails : (byte : ℕ) (word : Text) → bytes_eq (codes "csv") (before_first is_equals (byte ∷ word)) ≡ false →
    bytes_eq (codes "export") (before_first is_equals (byte ∷ word)) ≡ false →
    bytes_eq (codes "work") (before_first is_equals (byte ∷ word)) ≡ false →
    fault_of options_app ((45 ∷ 45 ∷ byte ∷ word) ∷ []) ≡ kind.UnknownArgument ∷ []
unfolding clap_on_literals
other_fails byte word csv export work = simp (csv, export, work) refl

-- a word of an option's name
of_name : (key word : Text) → bytes_eq key (before_first is_equals word) ≡ true → Parses ((45 ∷ 45 ∷ key) ∷ []) →
    ((value : Text) → Parses ((45 ∷ 45 ∷ (key ++ 61 ∷ value)) ∷ [])) → Parses ((45 ∷ 45 ∷ word) ∷ [])
of_name key word same alone valued = elim (named key word ((bytes_eq-Decides key (before_first is_equals word)).0 same)) [
  | inl whole ↦ subst (λ (t : Text). Parses ((45 ∷ 45 ∷ t) ∷ [])) (sym whole) alone
  | inr cut ↦ subst (λ (t : Text). Parses ((45 ∷ 45 ∷ t) ∷ [])) (sym cut.1) (valued cut.0)
]

-- a word with two dashes and a name
long_word : (byte : ℕ) (word : Text) → Parses ((45 ∷ 45 ∷ byte ∷ word) ∷ [])
long_word byte word =
    let name = before_first is_equals (byte ∷ word) in
    elim (cases_Bool (bytes_eq (codes "csv") name)) [
      | inl csv ↦ of_name (codes "csv") (byte ∷ word) csv csv_alone csv_valued
      | inr csv ↦ elim (cases_Bool (bytes_eq (codes "export") name)) [
        | inl export ↦ of_name (codes "export") (byte ∷ word) export export_alone export_valued
        | inr export ↦ elim (cases_Bool (bytes_eq (codes "work") name)) [
          | inl work ↦ of_name (codes "work") (byte ∷ word) work work_alone work_valued
          | inr work ↦ inr (record {
            fault = kind.UnknownArgument;
            fails = other_fails byte word csv export work;
            mode = unnamed name (value_in (byte ∷ word)) csv export work;
          })
        ]
      ]
    ]

after_dash : (word : Text) → second_dash word ≡ true → Parses ((45 ∷ word) ∷ [])
after_dash [] e = cc
after_dash (byte ∷ []) e = let (dash, name) = both (eqb byte 45) false e in cc
after_dash (byte ∷ next ∷ word) e =
    let (dash, name) = both (eqb byte 45) true e in
    subst (λ (b : ℕ). Parses ((45 ∷ b ∷ next ∷ word) ∷ [])) (sym (eqb-true byte 45 dash)) (long_word next word)

one_word : (word : Text) → names_option word ≡ true → Parses (word ∷ [])
one_word [] e = no_byte
one_word (byte ∷ word) e = elim (cases_Bool (eqb byte 45)) [
  | inl dash ↦
      let second : second_dash word ≡ true = rw dash at e in
      subst (λ (b : ℕ). Parses ((b ∷ word) ∷ [])) (sym (eqb-true byte 45 dash)) (after_dash word second)
  | inr plain ↦ plain_word byte word plain
]

two_words : (name value : Text) → bytes_eq name (codes "--work") ≡ true → begins_with_dash value ≡ false → Parses (name ∷ value ∷ [])
two_words name value same plain =
    subst (λ (t : Text). Parses (t ∷ value ∷ [])) (sym ((bytes_eq-Decides name (codes "--work")).0 same)) (work_next value plain)

pub parses : (words : List Text) → is_simple_use words ≡ true → Parses words
parses [] e = no_word
parses (word ∷ []) e = one_word word e
parses (name ∷ value ∷ []) e =
    let (same, plain) = both (bytes_eq name (codes "--work")) (not (begins_with_dash value)) e in
    two_words name value same (not_true (begins_with_dash value) plain)
parses (one ∷ two ∷ three ∷ words) e = cc

simple_app : is_simple_and_free options_app ≡ true
simple_app = refl

at_options : (P : App → Type 0) (a : App) → a ≡ options_app → (is_simple_and_free a ≡ true → P a) → P options_app
at_options P a is by_app = subst P is (by_app (ap is_simple_and_free is ∙ simple_app))

module _ (words : List Text) (a : App) (is : a ≡ options_app) (simple : is_simple_use words ≡ true) where
  -- where clap takes the words, what its matches show is their mode
  pub accepted : (m : ArgMatches) (answer : Option Mode) → (is_simple_and_free a ≡ true → fault_of a words ≡ []) → HasMatchesOf a words m →
      ((csv export : Bool) (work : Option Text) → Shows (rows_of (found_of m)) csv export work → answer ≡ mode_shown csv export work) →
      answer ≡ mode_of words
  accepted m answer passes matches by_shows = elim (parses words simple) [
    | inl taken ↦
        let rows : rows_of (found_of m) ≡ matches_of options_app words = (subst (λ (a : App). HasMatchesOf a words m) is matches refl).0 in
        by_shows taken.csv taken.export taken.work
        (subst (λ (rows : List Row). Shows rows taken.csv taken.export taken.work) (sym rows) taken.shows) ∙ taken.mode
    | inr denied ↦
        let bad : [] ≡ denied.fault ∷ [] = sym (at_options (λ a. fault_of a words ≡ []) a is passes) ∙ denied.fails in cc
  ]

  -- where it refuses them, they have none
  pub refused : (e : Error) → (is_simple_and_free a ≡ true → HasKind (fault_of a words) e) → (kind_of e ≡ kind.OutOfMemory → ⊥) →
      mode_of words ≡ None
  refused e has memory = elim (parses words simple) [
    | inl taken ↦ elim (rw taken.passes at (at_options (λ a. HasKind (fault_of a words) e) a is has)) [
      | inl is ↦ absurd (memory is)
      | inr none ↦ absurd none
    ]
    | inr denied ↦ denied.mode
  ]
