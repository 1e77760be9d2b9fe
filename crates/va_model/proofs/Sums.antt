-- What the replies of some searches tell adds up to numbers far below 2^64.
use Rattle.std.proofs.Common.{◌≡◌, ℕ, ◌+◌, ◌*◌, ◌^◌, ◌<◌, ◌≤◌, not, min, Bool, true, false, List, [], ◌∷◌, ◌++◌, length, slice_get, if◌then◌else◌, Option, None, Some, refl, sym, ap, ◌∙◌, subst, arith}
use Rattle.std.proofs.lemmas.List.Sorted.{length_permutation}
use Rattle.std.specs.Prelude.{nat_lt}
use Rattle.std.specs.List.{AllByRecursion, filter}
use Rattle.va_cert.proofs.Distances.{distance_small}
use Rattle.va_core.specs.declared.pair.Pair.{Pair}
use Rattle.va_core.specs.declared.shape.ShapeFault.TheVariants.{Bits, Capacity, Dims}
use Rattle.va_core.specs.Approximations.{is_needed, is_candidate, low_pair}
use Rattle.va_core.specs.Distance as distances
use Rattle.va_core.specs.Distance.{distance, pair_of, pairs_of}
use Rattle.va_core.specs.Places.{Item, live_items}
use Rattle.va_core.specs.Ranking.{answer, lesser}
use Rattle.va_core.specs.Reads.{approximated}
use Rattle.va_core.specs.Shape.{Shape, is_within, shape_fault}
use Rattle.va_core.specs.Vectors.{IsVector}
use Rattle.va_core.proofs.Items.{pairs_differ}
use Rattle.va_core.proofs.Nearest.{answer_full}
use Rattle.va_core.proofs.Ranking.{all_ascending}
use Rattle.va_core.proofs.Sorting.{all_filter, ascending_by_permutes}
use Rattle.va_lang.specs.Command.{Command, Query, create, insert, delete, get, stat, marks, knn, ssa, range, «open», next, close, requant, convert, cert}
use Rattle.va_lang.specs.Grammar.{command_of}
use Rattle.va_lang.specs.Reply.{Reply}
use Rattle.va_lang.specs.Spelling.{IsCommand, IsQuery}
use Rattle.va_lang.specs.declared.reply.Why.{Why}
use Rattle.va_lang.specs.declared.reply.Why.TheVariants.{K, Length}
use Rattle.va_layout.specs.Stands.{Building, Stands}
use Rattle.va_layout.proofs.Headers.{head_of}
use Rattle.va_model.specs.Cursors.{advances, cursor_of, gives, ranking}
use Rattle.va_model.specs.Lines.{Line, long, text}
use Rattle.va_model.specs.Memory.{wants_memory}
use Rattle.va_model.specs.Refitting.{converts, converts_all, converts_first, converts_of, ids_above}
use Rattle.va_model.specs.Rows.{Outcome, Want, at_once, between, first_reason, never, without_memory}
use Rattle.va_model.specs.Runs.{AreReplies}
use Rattle.va_model.specs.Searching.{candidates_for, items_of, nearest_to, query_fits, query_in, read_for_nearest}
use Rattle.va_model.specs.Silent.{AreLittle, Sums, asks_nearest, asks_nearest_in, asks_nearest_of, nearest_lines, no_sums, plus, sum_of_distances, sums_of, told_by}
use Rattle.va_model.specs.State.{OpenCursor, State, StandsFor, Store, blank, holding}
use Rattle.va_model.specs.Step.{effect, obey, refusal, step, step_command, want}
use Rattle.va_model.proofs.Certifying.{IsInRanges, line_in_ranges, query_right}
use Rattle.va_model.proofs.Standing.{are_vectors, most_dims}
use Rattle.va_core.proofs.Tests.{at_most}
use Rattle.va_core.proofs.Members.{filter_few}

pub nearest_append : (first second : List Line) → nearest_lines (first ++ second) ≡ nearest_lines first + nearest_lines second
nearest_append [] second = omega arith
nearest_append (line ∷ first) second = omega (arith, nearest_append first second)

pub nearest_at_most : (lines : List Line) → nearest_lines lines ≤ length lines
nearest_at_most [] = omega arith
nearest_at_most (line ∷ lines) = omega (arith, one (asks_nearest_in line), nearest_at_most lines)
  where
    one : (asks : Bool) → (if asks then 1 else 0) ≤ 1
    one true = omega arith
    one false = omega arith

-- other commands tell nothing
abbrev TellsNothing : Outcome → Type 0
TellsNothing outcome = told_by outcome.reply ≡ no_sums

gives_nothing : (name : ℕ) (cursor : OpenCursor) (pair : Option Pair) (store : Store) → TellsNothing (gives name cursor pair store)
gives_nothing name cursor None store = refl
gives_nothing name cursor (Some pair) store = refl

next_nothing : (name : ℕ) (cursor : Option OpenCursor) (store : Store) → TellsNothing (advances name cursor store)
next_nothing name None store = refl
next_nothing name (Some cursor) store = gives_nothing name cursor (slice_get (ranking cursor) cursor.given) store

converts_nothing : (n : ℕ) (ids : List ℕ) (building : Building) (store : Store) → TellsNothing (converts_of n ids building store)
converts_nothing n ids building store = elim (nat_lt n (length ids)) as (λ c. TellsNothing (if c then converts_first n ids building store else converts_all ids building store)) [
  | true ↦ refl
  | false ↦ refl
]

convert_nothing : (n : ℕ) (building : Option Building) (store : Store) → TellsNothing (converts n building store)
convert_nothing n None store = refl
convert_nothing n (Some building) store = converts_nothing n (ids_above building.last store) building store

effect_nothing : (command : Command) (state : State) → asks_nearest command ≡ false → TellsNothing (effect command state)
effect_nothing (create dims bits capacity) blank other = refl
effect_nothing (create dims bits capacity) (holding store) other = refl
effect_nothing (insert id vector) blank other = refl
effect_nothing (insert id vector) (holding store) other = refl
effect_nothing (delete id) blank other = refl
effect_nothing (delete id) (holding store) other = refl
effect_nothing (get id) blank other = refl
effect_nothing (get id) (holding store) other = refl
effect_nothing stat blank other = refl
effect_nothing stat (holding store) other = refl
effect_nothing marks blank other = refl
effect_nothing marks (holding store) other = refl
effect_nothing (knn k query) blank other = refl
effect_nothing (knn k query) (holding store) other = absurd (cc)
effect_nothing (ssa k query) blank other = refl
effect_nothing (ssa k query) (holding store) other = refl
effect_nothing (range radius query) blank other = refl
effect_nothing (range radius query) (holding store) other = refl
effect_nothing («open» name query) blank other = refl
effect_nothing («open» name query) (holding store) other = refl
effect_nothing (next name) blank other = refl
effect_nothing (next name) (holding store) other = next_nothing name (cursor_of name store) store
effect_nothing (close name) blank other = refl
effect_nothing (close name) (holding store) other = refl
effect_nothing requant blank other = refl
effect_nothing requant (holding store) other = refl
effect_nothing (convert n) blank other = refl
effect_nothing (convert n) (holding store) other = convert_nothing n store.building store
effect_nothing (cert k query) blank other = refl
effect_nothing (cert k query) (holding store) other = refl

-- what holds of a command that isn't refused, and of refusals, holds of each outcome
module _ (P : Sums → Type 0) (nothing : P no_sums) where
  wanting_tells : (w : Want) (state : State) (outcome : Outcome) → P (told_by outcome.reply) → P (told_by (without_memory w state outcome).reply)
  wanting_tells never state outcome tells = tells
  wanting_tells at_once state outcome tells = nothing
  wanting_tells between state outcome tells = nothing

  obey_tells : (why : Option Why) (command : Command) (state : State) (m : Bool) → (why ≡ None → P (told_by (effect command state).reply)) → P (told_by (obey why command state m).reply)
  obey_tells (Some why) command state m tells = nothing
  obey_tells None command state true tells = wanting_tells (want command state) state (effect command state) (tells refl)
  obey_tells None command state false tells = tells refl

command_nothing : (command : Option Command) (state : State) (m : Bool) → asks_nearest_of command ≡ false → TellsNothing (step_command command state m)
command_nothing None state m other = refl
command_nothing (Some command) state m other = obey_tells (λ sums. sums ≡ no_sums) refl (refusal command state) command state m (λ free. effect_nothing command state other)

pub step_tells_nothing : (state : State) (line : Line) (m : Bool) → asks_nearest_in line ≡ false → told_by (step state line m).reply ≡ no_sums
step_tells_nothing state long m other = refl
step_tells_nothing state (text bytes) m other = command_nothing (command_of bytes) state m other

live_most : (places : List (Option Item)) → length (live_items places) ≤ length places
live_most [] = omega arith
live_most (None ∷ places) = omega (arith, live_most places)
live_most (Some item ∷ places) = omega (arith, live_most places)

last_right : (a b c : Bool) → (if not a then Some Dims else (if not b then Some Bits else (if not c then Some Capacity else None))) ≡ None → c ≡ true
last_right true true true none = refl
last_right true true false none = absurd (cc)
last_right true false c none = absurd (cc)
last_right false b c none = absurd (cc)

capacity_most : (shape : Shape) → shape_fault shape ≡ None → shape.capacity ≤ 1048576
capacity_most shape valid = at_most 1 1048576 shape.capacity (last_right (is_within 1 256 shape.dims) (is_within 1 (8 * shape.dims) shape.bits) (is_within 1 1048576 shape.capacity) valid)

-- the sum of some distances
pairs_small : (dims : ℕ) (query : distances.Query) (items : List Item) → dims ≤ 256 → distances.IsQuery dims query → AllByRecursion (λ (item : Item). IsVector dims item.vector) items
    → AllByRecursion (λ (pair : Pair). pair.dist < 2 ^ 44) (pairs_of query items)
pairs_small dims query [] most fits all = tt
pairs_small dims query (item ∷ items) most fits all = (distance_small dims query item.vector most fits all.0.bytes, pairs_small dims query items most fits all.1)

sum_small : (pairs : List Pair) → AllByRecursion (λ (pair : Pair). pair.dist < 2 ^ 44) pairs → sum_of_distances pairs ≤ length pairs * 2 ^ 44
sum_small [] all = omega arith
sum_small (pair ∷ pairs) all = omega (arith, all.0, sum_small pairs all.1)

no_reason : (fits within : Bool) → first_reason ((not fits, Length) ∷ (not within, K) ∷ []) ≡ None → (fits ≡ true) × (within ≡ true)
no_reason true true none = (refl, refl)
no_reason true false none = absurd (cc)
no_reason false within none = absurd (cc)

module _ (store : Store) (image : List ℕ) (stands : Stands store.kept image) (k : ℕ) (query : Query) where
  few_items : length (items_of store) ≤ 1048576
  few_items =
      let most : store.kept.shape.capacity ≤ 1048576 = capacity_most store.kept.shape (head_of store.kept.shape image stands.opens.head).valid in
      omega (arith, most, stands.opens.count, live_most store.kept.places)

  few_candidates : length (candidates_for k query store) ≤ 1048576
  few_candidates = omega (arith, few_items, filter_few (is_candidate (approximated store.kept.marks (query_in store.kept query)) (items_of store) k) (items_of store))

  few_reads : length (read_for_nearest k query store) ≤ 1048576
  few_reads =
      let s = approximated store.kept.marks (query_in store.kept query) in
      let needed : List Item = filter (is_needed s (items_of store) (λ (item : Item). distance (query_in store.kept query) item.vector) k) (items_of store) in
      let same : length (read_for_nearest k query store) ≡ length needed = length_permutation needed (read_for_nearest k query store) (ascending_by_permutes (low_pair s) needed) in
      omega (arith, same, few_items, filter_few (is_needed s (items_of store) (λ (item : Item). distance (query_in store.kept query) item.vector) k) (items_of store))

  module _ (ranges : IsQuery query) (free : refusal (knn k query) (holding store) ≡ None) where
    small_sum : sum_of_distances (nearest_to k query store) ≤ 2 ^ 56
    small_sum =
        let asked = query_in store.kept query in
        let pairs : List Pair = pairs_of asked (items_of store) in
        let none = no_reason (query_fits store.kept.shape.dims query) (is_within 1 4096 k) free in
        let small : AllByRecursion (λ (pair : Pair). pair.dist < 2 ^ 44) pairs = pairs_small store.kept.shape.dims asked (items_of store) (most_dims stands) (query_right store query none.0 ranges) (are_vectors stands) in
        let those : AllByRecursion (λ (pair : Pair). pair.dist < 2 ^ 44) (answer pairs k) = all_ascending (λ (pair : Pair). pair.dist < 2 ^ 44) _ (all_filter (λ (pair : Pair). pair.dist < 2 ^ 44) (λ p. nat_lt (lesser pairs p) k) pairs small) in
        let number : length (answer pairs k) ≡ min k (length pairs) = answer_full pairs k (pairs_differ asked (items_of store) stands.opens.differ) in
        omega (arith, sum_small (answer pairs k) those, number, at_most 1 4096 k none.1)

    knn_little : AreLittle 1 (told_by (effect (knn k query) (holding store)).reply)
    knn_little = record { fetched = omega (arith, few_reads); candidates = omega (arith, few_candidates); distances = omega (arith, small_sum) }

nothing_little : AreLittle 1 no_sums
nothing_little = record { fetched = omega arith; candidates = omega arith; distances = omega arith }

other_little : (command : Command) (state : State) → asks_nearest command ≡ false → AreLittle 1 (told_by (effect command state).reply)
other_little command state other = subst (λ (sums : Sums). AreLittle 1 sums) (sym (effect_nothing command state other)) nothing_little

effect_little : (state : State) (image : List ℕ) → StandsFor state image → (command : Command) → IsCommand command → refusal command state ≡ None → AreLittle 1 (told_by (effect command state).reply)
effect_little blank image stands (knn k query) ranges free = nothing_little
effect_little (holding store) image stands (knn k query) ranges free = knn_little store image stands k query ranges.1 free
effect_little state image stands (create dims bits capacity) ranges free = other_little (create dims bits capacity) state refl
effect_little state image stands (insert id vector) ranges free = other_little (insert id vector) state refl
effect_little state image stands (delete id) ranges free = other_little (delete id) state refl
effect_little state image stands (get id) ranges free = other_little (get id) state refl
effect_little state image stands stat ranges free = other_little stat state refl
effect_little state image stands marks ranges free = other_little marks state refl
effect_little state image stands (ssa k query) ranges free = other_little (ssa k query) state refl
effect_little state image stands (range radius query) ranges free = other_little (range radius query) state refl
effect_little state image stands («open» name query) ranges free = other_little («open» name query) state refl
effect_little state image stands (next name) ranges free = other_little (next name) state refl
effect_little state image stands (close name) ranges free = other_little (close name) state refl
effect_little state image stands requant ranges free = other_little requant state refl
effect_little state image stands (convert n) ranges free = other_little (convert n) state refl
effect_little state image stands (cert k query) ranges free = other_little (cert k query) state refl

module _ (state : State) (image : List ℕ) (stands : StandsFor state image) where
  command_little : (command : Option Command) → IsInRanges command → (m : Bool) → AreLittle 1 (told_by (step_command command state m).reply)
  command_little None ranges m = nothing_little
  command_little (Some command) ranges m = obey_tells (λ (sums : Sums). AreLittle 1 sums) nothing_little (refusal command state) command state m (λ free. effect_little state image stands command ranges free)

  -- in a state that an image stands for a reply tells little
  pub step_tells_little : (line : Line) (m : Bool) → AreLittle 1 (told_by (step state line m).reply)
  step_tells_little long m = nothing_little
  step_tells_little (text bytes) m = command_little (command_of bytes) (line_in_ranges bytes) m

-- replies each of which tells little
abbrev pub EachLittle : List Reply → Type 0
EachLittle replies = AllByRecursion (λ reply. AreLittle 1 (told_by reply)) replies

little_more : (asks : Bool) (n : ℕ) (sums more : Sums) → (asks ≡ false → sums ≡ no_sums) → AreLittle 1 sums → AreLittle n more → AreLittle ((if asks then 1 else 0) + n) (plus sums more)
little_more true n sums more nothing here rest = record {
  fetched = omega (arith, here.fetched, rest.fetched);
  candidates = omega (arith, here.candidates, rest.candidates);
  distances = omega (arith, here.distances, rest.distances);
}
little_more false n sums more nothing here rest = subst (λ (first : Sums). AreLittle (0 + n) (plus first more)) (sym (nothing refl)) (record {
  fetched = omega (arith, rest.fetched);
  candidates = omega (arith, rest.candidates);
  distances = omega (arith, rest.distances);
})

-- the replies to lines tell no more than those of their searches do
pub little_in_all : (start : State) (lines : List Line) (replies : List Reply) → AreReplies start lines replies → EachLittle replies → AreLittle (nearest_lines lines) (sums_of replies)
little_in_all start [] [] fits each = record { fetched = omega arith; candidates = omega arith; distances = omega arith }
little_in_all start [] (reply ∷ replies) fits each = absurd fits
little_in_all start (line ∷ lines) [] fits each = absurd fits
little_in_all start (line ∷ lines) (reply ∷ replies) fits each =
    little_more (asks_nearest_in line) (nearest_lines lines) (told_by reply) (sums_of replies)
    (λ other. ap told_by fits.0 ∙ step_tells_nothing start line (wants_memory reply) other)
    each.0
    (little_in_all (step start line (wants_memory reply)).state lines replies fits.1 each.1)

-- the sums of so few searches fit 64 bits
pub record FitWords (sums : Sums) : Type 0 where
  pub fetched : sums.fetched < 2 ^ 64
  pub candidates : sums.candidates < 2 ^ 64
  pub distances : sums.distances < 2 ^ 64

pub little_fits : (searches : ℕ) (sums : Sums) → searches ≤ 32 → AreLittle searches sums → FitWords sums
little_fits searches sums few little = record {
  fetched = omega (arith, few, little.fetched);
  candidates = omega (arith, few, little.candidates);
  distances = omega (arith, few, little.distances);
}

-- what some searches tell, and then others
pub little_both : {first more : Sums} (n m : ℕ) → AreLittle n first → AreLittle m more → AreLittle (n + m) (plus first more)
little_both n m here rest = record {
  fetched = omega (arith, here.fetched, rest.fetched);
  candidates = omega (arith, here.candidates, rest.candidates);
  distances = omega (arith, here.distances, rest.distances);
}

-- one line
pub line_little : (state : State) (image : List ℕ) → StandsFor state image → (line : Line) → AreLittle (nearest_lines (line ∷ [])) (plus (told_by (step state line false).reply) no_sums)
line_little state image stands line = little_more (asks_nearest_in line) 0 (told_by (step state line false).reply) no_sums
    (λ other. step_tells_nothing state line false other)
    (step_tells_little state image stands line false)
    (record { fetched = omega arith; candidates = omega arith; distances = omega arith })
