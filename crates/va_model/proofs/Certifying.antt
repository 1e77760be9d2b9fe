-- A certificate is that of a map, marks and a query that fit together, so it is accepted and tells.
use Rattle.std.proofs.Common.{◌≡◌, ℕ, ◌≤◌, ◌<◌, ◌^◌, ◌==◌, ◌&&◌, zero, suc, not, Bool, true, false, List, [], ◌∷◌, length, replicate, Option, None, Some, refl, arith}
use Rattle.std.specs.Prelude.{nat_lt, IfSome}
use Rattle.std.specs.List.{AllByRecursion}
use Rattle.std.proofs.lemmas.Bool.Decides.{nat_tests}
use Rattle.std.proofs.lemmas.List.{length-replicate}
use Rattle.va_cert.specs.Made.{AreOfShape}
use Rattle.va_cert.proofs.Acceptance.{made_is_accepted}
use Rattle.va_cert.proofs.Telling.{made_tells}
use Rattle.va_core.specs.Distance as distances
use Rattle.va_core.specs.Shape.{is_within}
use Rattle.va_core.specs.Vectors as vectors
use Rattle.va_lang.specs.Command.{Command, Query, cert}
use Rattle.va_lang.specs.Grammar.{command_of}
use Rattle.va_lang.specs.Spelling.{IsCommand, IsList, IsQuery, IsVector}
use Rattle.va_lang.specs.declared.reply.Why.TheVariants.{K, Length, Limit}
use Rattle.va_lang.proofs.OneSpelling as spelling
use Rattle.va_layout.specs.Stands.{Stands}
use Rattle.va_model.specs.Certificates.{Convinces}
use Rattle.va_model.specs.Rows.{first_reason}
use Rattle.va_model.specs.Searching.{have_length, items_of, query_fits, query_in, too_many, weights_fit, weights_of}
use Rattle.va_model.specs.State.{Store, holding}
use Rattle.va_model.specs.Step.{refusal}
use Rattle.va_model.proofs.Standing.{are_vectors, most_dims, one_each, small_ids, some_dims}
use Rattle.va_core.proofs.Tests.{and_both, at_least, at_most}

-- the numbers of a command are in their ranges, if a line has one
abbrev pub IsInRanges : Option Command → Type 0
IsInRanges None = Unit {0}
IsInRanges (Some command) = IsCommand command

ranges_of : (line : List ℕ) (command : Option Command) → command_of line ≡ command → IsInRanges command
ranges_of line None is = tt
ranges_of line (Some command) is = spelling.line_in_ranges line command is

pub line_in_ranges : (line : List ℕ) → IsInRanges (command_of line)
line_in_ranges line = ranges_of line (command_of line) refl

no_reason : (fits within many : Bool) → first_reason ((not fits, Length) ∷ (not within, K) ∷ (many, Limit) ∷ []) ≡ None → (fits ≡ true) × (within ≡ true) × (many ≡ false)
no_reason true true false none = (refl, refl, refl)
no_reason true true true none = absurd (cc)
no_reason true false many none = absurd (cc)
no_reason false within many none = absurd (cc)

in_length : (dims : ℕ) (objects : List (List ℕ)) → have_length dims objects ≡ true → AllByRecursion IsVector objects → AllByRecursion (λ object. vectors.IsVector dims object) objects
in_length dims [] fit ranges = tt
in_length dims (object ∷ objects) fit ranges =
    let hold = and_both (length object == dims) (have_length dims objects) fit in
    (record { one_each = grind (arith, nat_tests, hold.0); bytes = ranges.0.each }, in_length dims objects hold.1 ranges.1)

all_ones : (dims : ℕ) → AllByRecursion (λ weight. weight < 2 ^ 16) (replicate dims 1)
all_ones zero = tt
all_ones (suc dims) = (omega arith, all_ones dims)

-- a weight is there for each dimension
pub one_for_each : (dims : ℕ) (weights : Option (List ℕ)) → weights_fit dims weights ≡ true → length (weights_of dims weights) ≡ dims
one_for_each dims None fit = length-replicate dims 1
one_for_each dims (Some weights) fit = grind (arith, nat_tests, fit)

each_weight : (dims : ℕ) (weights : Option (List ℕ)) → IfSome weights (λ weights. IsList 256 (λ n. n < 2 ^ 16) weights) → AllByRecursion (λ weight. weight < 2 ^ 16) (weights_of dims weights)
each_weight dims None ranges = all_ones dims
each_weight dims (Some weights) ranges = ranges.each

-- the query of a line that fits the shape
pub query_right : (store : Store) (query : Query) → query_fits store.kept.shape.dims query ≡ true → IsQuery query → distances.IsQuery store.kept.shape.dims (query_in store.kept query)
query_right store query fit ranges =
    let dims = store.kept.shape.dims in
    let last = and_both (is_within 1 16 (length query.objects) && have_length dims query.objects) (weights_fit dims query.weights) fit in
    let first = and_both (is_within 1 16 (length query.objects)) (have_length dims query.objects) last.0 in
    record {
      some_objects = ranges.objects.some;
      most_objects = ranges.objects.few;
      objects = in_length dims query.objects first.1 ranges.objects.each;
      one_each = one_for_each dims query.weights last.1;
      weights = each_weight dims query.weights ranges.weights;
    }

few_enough : (n : ℕ) → nat_lt 4096 n ≡ false → n ≤ 4096
few_enough n many = grind (arith, nat_tests, many)

module _ (store : Store) (image : List ℕ) (stands : Stands store.kept image) (k : ℕ) (query : Query) (ranges : IsQuery query) (free : refusal (cert k query) (holding store) ≡ None) where
  of_shape : AreOfShape store.kept.shape.dims (items_of store) store.kept.marks (query_in store.kept query) k
  of_shape =
      let none = no_reason (query_fits store.kept.shape.dims query) (is_within 1 4096 k) (too_many store) free in
      record {
        some_dims = some_dims stands;
        most_dims = most_dims stands;
        one_each = one_each stands;
        valid = stands.opens.named.valid;
        differ = stands.opens.differ;
        few = few_enough (length (items_of store)) none.2;
        vectors = are_vectors stands;
        fits = query_right store query none.0 ranges;
        some_k = at_least 1 4096 k none.1;
        most_k = at_most 1 4096 k none.1;
      }

  pub convinces : Convinces k query store
  convinces = record {
    shape = of_shape;
    ids = small_ids stands;
    accepted = made_is_accepted store.kept.shape.dims (items_of store) store.kept.marks (query_in store.kept query) k of_shape;
    telling = made_tells store.kept.shape.dims (items_of store) store.kept.marks (query_in store.kept query) k of_shape;
  }
