-- The cursors that a session holds beside those of its state, and the places that they hold back.
use Rattle.std.proofs.Common.{◌≡◌, inr, ℕ, zero, suc, ◌+◌, ◌<◌, ◌≤◌, ◌==◌, ◌||◌, nat_lt, Bool, true, false, List, [], ◌∷◌, length, map, get_or, Option, None, Some, if◌then◌else◌, replicate, refl, ap, sym, ◌∙◌, arith}
use Rattle.std.proofs.lemmas.Bool.Decides.{nat_tests}
use Rattle.std.proofs.Math.ListN.{get_or-replicate}
use Rattle.std.proofs.lemmas.List.{get_or_past, length-replicate}
use Rattle.std.proofs.lemmas.List.Folds.{list_any-append}
use Rattle.std.specs.List.{AllByRecursion, flat_map}
use Rattle.va_core.specs.Places.{Item, id_of}
use Rattle.va_core.specs.Shape.{Shape}
use Rattle.va_cursor.specs.Cursors.{Cursor}
use Rattle.va_layout.specs.Fields.{gate_range, vector_in}
use Rattle.va_layout.specs.Layout.{vector_at}
use Rattle.va_layout.specs.Parts.{KeepsRest}
use Rattle.va_layout.specs.Stands.{Kept}
use Rattle.va_model.specs.Least.{SnapshotsStood, StoodFor}
use Rattle.va_model.specs.State as rules
use Rattle.va_model.specs.State.{State, Store, blank, held_places, holding, live_places, no_cursors, only_kept, open_cursors}
use Rattle.va_model.specs.Writing.{first_unheld, free_place, is_held}
use Rattle.va_ports.specs.Shelves.{place_of}
use Rattle.va_search.specs.Cursors.{VectorsStand}
use Rattle.va_serve.specs.Held.{AreCounts, HaveShape, count_open, none_open, number_of, times}
use Rattle.va_serve.specs.Session.{AreCursors, IsAt, IsCursorOf, IsStore, KeepsHeld, Sitting}
use Rattle.va_store.specs.Known.{HeldStay, IsOf, Known, first_free}
use Rattle.va_store.specs.Shelved.{cells_from}

-- as many are open
pub count_cursors : (cursors : List (Option rules.OpenCursor)) (held : List (Option Cursor)) → AreCursors cursors held → count_open held ≡ length (open_cursors cursors)
count_cursors [] [] are = refl
count_cursors [] (h ∷ held) are = absurd are
count_cursors (c ∷ cursors) [] are = absurd are
count_cursors (None ∷ cursors) (None ∷ held) are = count_cursors cursors held are.1
count_cursors (None ∷ cursors) (Some h ∷ held) are = absurd are.0
count_cursors (Some c ∷ cursors) (None ∷ held) are = absurd are.0
count_cursors (Some c ∷ cursors) (Some h ∷ held) are = let rest : count_open held ≡ length (open_cursors cursors) = count_cursors cursors held are.1 in omega (arith, rest)

-- an image stood for each snapshot
pub stood_for : (cursors : List (Option rules.OpenCursor)) (held : List (Option Cursor)) → AreCursors cursors held → StoodFor cursors
stood_for [] [] are = tt
stood_for [] (h ∷ held) are = absurd are
stood_for (c ∷ cursors) [] are = absurd are
stood_for (None ∷ cursors) (None ∷ held) are = stood_for cursors held are.1
stood_for (None ∷ cursors) (Some h ∷ held) are = absurd are.0
stood_for (Some c ∷ cursors) (None ∷ held) are = absurd are.0
stood_for (Some c ∷ cursors) (Some h ∷ held) are = (are.0.stood, stood_for cursors held are.1)

pub stood_at : (start : State) (sitting : Sitting) (image : List ℕ) → IsAt start sitting image → SnapshotsStood start
stood_at blank sitting image at = tt
stood_at (holding store) sitting image at = stood_of store sitting.store sitting.cursors at.is
  where
    stood_of : (store : Store) (held : Option Known) (cursors : List (Option Cursor)) → IsStore (holding store) held cursors → StoodFor store.cursors
    stood_of store None cursors is = absurd is
    stood_of store (Some held) cursors is = stood_for store.cursors cursors is.cursors

-- where none is open
none_each : (n : ℕ) → AreCursors (replicate n None) (replicate n None)
none_each zero = tt
none_each (suc n) = (tt, none_each n)

pub fresh_cursors : AreCursors no_cursors none_open
unfolding no_cursors none_open
fresh_cursors = none_each 64

none_kept : (image : List ℕ) (n : ℕ) → AllByRecursion (λ (cursor : rules.OpenCursor). VectorsStand cursor.snapshot image) (open_cursors (replicate n None))
none_kept image zero = tt
none_kept image (suc n) = none_kept image n

pub fresh_held : (kept : Kept) (image : List ℕ) → KeepsHeld (holding (only_kept kept)) image
unfolding no_cursors
fresh_held kept image = none_kept image 64

shapes_each : (shape : Shape) (n : ℕ) → HaveShape shape (replicate n None)
shapes_each shape zero = tt
shapes_each shape (suc n) = (tt, shapes_each shape n)

pub fresh_shapes : (shape : Shape) → HaveShape shape none_open
unfolding none_open
fresh_shapes shape = shapes_each shape 64

number_none : (place n : ℕ) → number_of place (replicate n None) ≡ 0
number_none place zero = refl
number_none place (suc n) = number_none place n

pub fresh_counts : (capacity : ℕ) → AreCounts none_open (replicate capacity 0)
unfolding none_open
fresh_counts capacity place inside = get_or-replicate capacity place 0 0 (omega (arith, inside, length-replicate {A = ℕ} capacity 0)) ∙ sym (number_none place 64)

pub fresh_names : length none_open ≡ 64
unfolding none_open
fresh_names = length-replicate {A = Option Cursor} 64 None

plus_zero : (n : ℕ) → n ≡ n + 0
plus_zero n = omega arith

zero_plus : (n : ℕ) → n ≡ 0 + n
zero_plus n = omega arith

plus_suc : (n p : ℕ) → n + suc p ≡ n + 1 + p
plus_suc n p = omega arith

-- The places of a snapshot.
live_mapped : (from : ℕ) (places : List (Option Item)) → map place_of (cells_from from (map id_of places)) ≡ live_places from places
live_mapped from [] = refl
live_mapped from (None ∷ places) = live_mapped (from + 1) places
live_mapped from (Some item ∷ places) = ap (λ (l : List ℕ). from ∷ l) (live_mapped (from + 1) places)

places_are : {cursor : rules.OpenCursor} {held : Cursor} → IsCursorOf cursor held → held.places ≡ live_places 0 cursor.snapshot.places
places_are {cursor} {held} is = is.ranks.stands.places ∙ ap (map place_of) is.ranks.is.cells ∙ live_mapped 0 cursor.snapshot.places

-- how often a place is listed tells whether it is
more_or_none : (b : Bool) (n : ℕ) (rest : Bool) → nat_lt 0 n ≡ rest → nat_lt 0 ((if b then 1 else 0) + n) ≡ (b || rest)
more_or_none true n rest e = grind (arith, nat_tests)
more_or_none false n rest e = ap (nat_lt 0) (sym (zero_plus n)) ∙ e

times_any : (place : ℕ) (l : List ℕ) → nat_lt 0 (times place l) ≡ is_held l place
times_any place [] = refl
times_any place (p ∷ l) = more_or_none (p == place) (times place l) (is_held l place) (times_any place l)

some_of : (a b : ℕ) → nat_lt 0 (a + b) ≡ (nat_lt 0 a || nat_lt 0 b)
some_of zero b = ap (nat_lt 0) (sym (zero_plus b))
some_of (suc a) b = grind (arith, nat_tests)

abbrev places_held : List (Option rules.OpenCursor) → List ℕ
places_held cursors = flat_map (λ (cursor : rules.OpenCursor). live_places 0 cursor.snapshot.places) (open_cursors cursors)

number_any : (place : ℕ) (cursors : List (Option rules.OpenCursor)) (held : List (Option Cursor)) → AreCursors cursors held → nat_lt 0 (number_of place held) ≡ is_held (places_held cursors) place
number_any place [] [] are = refl
number_any place [] (h ∷ held) are = absurd are
number_any place (c ∷ cursors) [] are = absurd are
number_any place (None ∷ cursors) (None ∷ held) are = number_any place cursors held are.1
number_any place (None ∷ cursors) (Some h ∷ held) are = absurd are.0
number_any place (Some c ∷ cursors) (None ∷ held) are = absurd are.0
number_any place (Some c ∷ cursors) (Some h ∷ held) are =
    some_of (times place h.places) (number_of place held)
    ∙ ap (λ (b : Bool). nat_lt 0 (times place h.places) || b) (number_any place cursors held are.1)
    ∙ ap (λ (b : Bool). b || is_held (places_held cursors) place) (times_any place h.places ∙ ap (λ (l : List ℕ). is_held l place) (places_are are.0))
    ∙ sym (list_any-append (λ (p : ℕ). p == place) (live_places 0 c.snapshot.places) (places_held cursors))

or_true : (b : Bool) → (b || true) ≡ true
or_true true = refl
or_true false = refl

-- a snapshot has the shape of its cursor, and as many places
snapshot_shape : (cursor : rules.OpenCursor) (held : Cursor) {shape : Shape} → IsCursorOf cursor held → held.shape ≡ shape → shape ≡ cursor.snapshot.shape
snapshot_shape cursor held is same = sym same ∙ is.ranks.stands.shape ∙ is.ranks.is.shape

snapshot_count : (cursor : rules.OpenCursor) (held : Cursor) {shape : Shape} → IsCursorOf cursor held → held.shape ≡ shape → length cursor.snapshot.places ≡ shape.capacity
snapshot_count cursor held is same = is.stood.1.opens.count ∙ ap (λ (s : Shape). s.capacity) (sym (snapshot_shape cursor held is same))

-- a place behind the last isn't held
behind_live : (from : ℕ) (places : List (Option Item)) (place : ℕ) → from + length places ≤ place → is_held (live_places from places) place ≡ false
behind_live from [] place behind = refl
behind_live from (None ∷ places) place behind = behind_live (from + 1) places place (omega (arith, behind))
behind_live from (Some item ∷ places) place behind =
    let less : from < place = omega (arith, behind) in
    let other : (from == place) ≡ false = grind (arith, nat_tests, less) in
    ap (λ (b : Bool). b || is_held (live_places (from + 1) places) place) other ∙ behind_live (from + 1) places place (omega (arith, behind))

behind_held : (shape : Shape) (place : ℕ) (cursors : List (Option rules.OpenCursor)) (held : List (Option Cursor)) → HaveShape shape held → AreCursors cursors held → shape.capacity ≤ place → is_held (places_held cursors) place ≡ false
behind_held shape place [] [] shapes are behind = refl
behind_held shape place [] (h ∷ held) shapes are behind = absurd are
behind_held shape place (c ∷ cursors) [] shapes are behind = absurd are
behind_held shape place (None ∷ cursors) (None ∷ held) shapes are behind = behind_held shape place cursors held shapes.1 are.1 behind
behind_held shape place (None ∷ cursors) (Some h ∷ held) shapes are behind = absurd are.0
behind_held shape place (Some c ∷ cursors) (None ∷ held) shapes are behind = absurd are.0
behind_held shape place (Some c ∷ cursors) (Some h ∷ held) shapes are behind =
    let rest : is_held (places_held cursors) place ≡ false = behind_held shape place cursors held shapes.1 are.1 behind in
    let count : length c.snapshot.places ≡ shape.capacity = snapshot_count c h are.0 shapes.0.shape_is in
    let here : is_held (live_places 0 c.snapshot.places) place ≡ false = behind_live 0 c.snapshot.places place (omega (arith, count, behind)) in
    list_any-append (λ (p : ℕ). p == place) (live_places 0 c.snapshot.places) (places_held cursors) ∙ ap (λ (b : Bool). b || is_held (places_held cursors) place) here ∙ rest

-- what holds back a place, by the numbers that a session keeps
pub record HoldBack (shape : Shape) (cursors : List (Option Cursor)) (numbers : List ℕ) : Type 0 where
  pub shapes : HaveShape shape cursors
  pub numbered : length numbers ≡ shape.capacity
  pub counts : AreCounts cursors numbers

module _ {shape : Shape} {held : List (Option Cursor)} {numbers : List ℕ} (back : HoldBack shape held numbers) where
  numbers_any : (cursors : List (Option rules.OpenCursor)) → AreCursors cursors held → (place : ℕ) → nat_lt 0 (get_or numbers place 0) ≡ is_held (places_held cursors) place
  numbers_any cursors are place = by_case (nat_lt place (length numbers)) refl
    where
      by_case : (b : Bool) → nat_lt place (length numbers) ≡ b → nat_lt 0 (get_or numbers place 0) ≡ is_held (places_held cursors) place
      by_case true inside = let within : place < length numbers = grind (arith, nat_tests, inside) in ap (nat_lt 0) (back.counts place within) ∙ number_any place cursors held are
      by_case false outside =
          let behind : length numbers ≤ place = grind (arith, nat_tests, outside) in
          ap (nat_lt 0) (get_or_past numbers place 0 behind) ∙ sym (behind_held shape place cursors held back.shapes are (omega (arith, behind, back.numbered)))

-- the least place that is neither live nor held, by the one list and by the other
free_from : (places : List (Option Item)) (from : ℕ) (held numbers : List ℕ) → ((p : ℕ) → nat_lt 0 (get_or numbers p 0) ≡ is_held held (from + p)) → from + first_free (map id_of places) numbers ≡ first_unheld held from places
free_from [] from held numbers same = omega arith
free_from (None ∷ places) from held [] same =
    let free : is_held held from ≡ false = ap (is_held held) (plus_zero from) ∙ sym (same 0) in
    rw free (omega arith)
free_from (None ∷ places) from held (zero ∷ numbers) same =
    let free : is_held held from ≡ false = ap (is_held held) (plus_zero from) ∙ sym (same 0) in
    rw free (omega arith)
free_from (None ∷ places) from held (suc n ∷ numbers) same =
    let some : nat_lt 0 (suc n) ≡ true = grind (arith, nat_tests) in
    let shut : is_held held from ≡ true = ap (is_held held) (plus_zero from) ∙ sym (same 0) ∙ some in
    let rest : from + 1 + first_free (map id_of places) numbers ≡ first_unheld held (from + 1) places = free_from places (from + 1) held numbers (λ p. same (suc p) ∙ ap (is_held held) (plus_suc from p)) in
    rw shut (omega (arith, rest))
free_from (Some item ∷ places) from held [] same =
    let rest : from + 1 + first_free (map id_of places) [] ≡ first_unheld held (from + 1) places = free_from places (from + 1) held [] (λ p. same (suc p) ∙ ap (is_held held) (plus_suc from p)) in
    omega (arith, rest)
free_from (Some item ∷ places) from held (n ∷ numbers) same =
    let rest : from + 1 + first_free (map id_of places) numbers ≡ first_unheld held (from + 1) places = free_from places (from + 1) held numbers (λ p. same (suc p) ∙ ap (is_held held) (plus_suc from p)) in
    omega (arith, rest)

pub free_is_first : {cursors : List (Option Cursor)} {numbers : List ℕ} (known : Known) (store : Store) → HoldBack known.shape cursors numbers → IsOf known store.kept → AreCursors store.cursors cursors → first_free known.ids numbers ≡ free_place store
free_is_first {cursors} {numbers} known store back is are =
    ap (λ (ids : List (Option ℕ)). first_free ids numbers) is.ids
    ∙ zero_plus (first_free (map id_of store.kept.places) numbers)
    ∙ free_from store.kept.places 0 (held_places store) numbers (λ p. numbers_any back store.cursors are p ∙ ap (is_held (held_places store)) (zero_plus p))

-- The vectors of held places stay where each held place does.
pub inside_places : (places : List (Option Item)) (p : ℕ) (item : Item) → get_or places p None ≡ Some item → p < length places
inside_places [] p item at = absurd (cc)
inside_places (x ∷ places) zero item at = omega arith
inside_places (x ∷ places) (suc p) item at = omega (arith, inside_places places p item at)

live_listed : (from : ℕ) (places : List (Option Item)) (p : ℕ) (item : Item) → get_or places p None ≡ Some item → is_held (live_places from places) (from + p) ≡ true
live_listed from [] p item at = absurd (cc)
live_listed from (None ∷ places) zero item at = absurd (cc)
live_listed from (None ∷ places) (suc p) item at = ap (is_held (live_places (from + 1) places)) (plus_suc from p) ∙ live_listed (from + 1) places p item at
live_listed from (Some x ∷ places) zero item at = let same : from ≡ from + 0 = plus_zero from in let here : (from == (from + 0)) ≡ true = grind (arith, nat_tests, same) in ap (λ (b : Bool). b || is_held (live_places (from + 1) places) (from + 0)) here
live_listed from (Some x ∷ places) (suc p) item at =
    let rest : is_held (live_places (from + 1) places) (from + suc p) ≡ true = ap (is_held (live_places (from + 1) places)) (plus_suc from p) ∙ live_listed (from + 1) places p item at in
    ap (λ (b : Bool). (from == (from + suc p)) || b) rest ∙ or_true (from == (from + suc p))

not_zero : (n : ℕ) → nat_lt 0 n ≡ true → n ≡ 0 → ⊥
not_zero zero some none = cc
not_zero (suc n) some none = omega (arith, none)

kept_by : (known : Known) (numbers old new : List ℕ) (cursors : List (Option rules.OpenCursor)) (held : List (Option Cursor)) → HaveShape known.shape held → AreCursors cursors held
    → ((place : ℕ) → is_held (places_held cursors) place ≡ true → get_or numbers place 0 ≡ 0 → ⊥) → HeldStay known.shape numbers old new
    → AllByRecursion (λ (cursor : rules.OpenCursor). VectorsStand cursor.snapshot old) (open_cursors cursors) → AllByRecursion (λ (cursor : rules.OpenCursor). VectorsStand cursor.snapshot new) (open_cursors cursors)
kept_by known numbers old new [] [] shapes are some stay keeps = tt
kept_by known numbers old new [] (h ∷ held) shapes are some stay keeps = absurd are
kept_by known numbers old new (c ∷ cursors) [] shapes are some stay keeps = absurd are
kept_by known numbers old new (None ∷ cursors) (None ∷ held) shapes are some stay keeps = kept_by known numbers old new cursors held shapes.1 are.1 some stay keeps
kept_by known numbers old new (None ∷ cursors) (Some h ∷ held) shapes are some stay keeps = absurd are.0
kept_by known numbers old new (Some c ∷ cursors) (None ∷ held) shapes are some stay keeps = absurd are.0
kept_by known numbers old new (Some c ∷ cursors) (Some h ∷ held) shapes are some stay keeps = (
  λ p item at.
      let here : is_held (live_places 0 c.snapshot.places) p ≡ true = ap (is_held (live_places 0 c.snapshot.places)) (zero_plus p) ∙ live_listed 0 c.snapshot.places p item at in
      let inside : p < known.shape.capacity = omega (arith, inside_places c.snapshot.places p item at, snapshot_count c h are.0 shapes.0.shape_is) in
      let both : is_held (places_held (Some c ∷ cursors)) p ≡ true = list_any-append (λ (q : ℕ). q == p) (live_places 0 c.snapshot.places) (places_held cursors) ∙ ap (λ (b : Bool). b || is_held (places_held cursors) p) here in
      sym (ap (λ (s : Shape). vector_in s p new) (snapshot_shape c h are.0 shapes.0.shape_is)) ∙ (stay p inside (some p both)).vector ∙ ap (λ (s : Shape). vector_in s p old) (snapshot_shape c h are.0 shapes.0.shape_is) ∙ keeps.0 p item at,
  kept_by known numbers old new cursors held shapes.1 are.1 (λ place later. some place (list_any-append (λ (q : ℕ). q == place) (live_places 0 c.snapshot.places) (places_held cursors) ∙ ap (λ (b : Bool). is_held (live_places 0 c.snapshot.places) place || b) later ∙ or_true (is_held (live_places 0 c.snapshot.places) place))) stay keeps.1,
)

pub held_stay : {cursors : List (Option Cursor)} {numbers : List ℕ} (known : Known) (store : Store) (old new : List ℕ) → HoldBack known.shape cursors numbers → AreCursors store.cursors cursors → HeldStay known.shape numbers old new → KeepsHeld (holding store) old → KeepsHeld (holding store) new
held_stay {cursors} {numbers} known store old new back are stay keeps =
    kept_by known numbers old new store.cursors cursors back.shapes are (λ place held. not_zero (get_or numbers place 0) (numbers_any back store.cursors are place ∙ held)) stay keeps

vectors_by : (shape : Shape) (old new : List ℕ) (cursors : List (Option rules.OpenCursor)) (held : List (Option Cursor)) → HaveShape shape held → AreCursors cursors held
    → ((p : ℕ) → p < shape.capacity → vector_in shape p new ≡ vector_in shape p old)
    → AllByRecursion (λ (cursor : rules.OpenCursor). VectorsStand cursor.snapshot old) (open_cursors cursors) → AllByRecursion (λ (cursor : rules.OpenCursor). VectorsStand cursor.snapshot new) (open_cursors cursors)
vectors_by shape old new [] [] shapes are same keeps = tt
vectors_by shape old new [] (h ∷ held) shapes are same keeps = absurd are
vectors_by shape old new (c ∷ cursors) [] shapes are same keeps = absurd are
vectors_by shape old new (None ∷ cursors) (None ∷ held) shapes are same keeps = vectors_by shape old new cursors held shapes.1 are.1 same keeps
vectors_by shape old new (None ∷ cursors) (Some h ∷ held) shapes are same keeps = absurd are.0
vectors_by shape old new (Some c ∷ cursors) (None ∷ held) shapes are same keeps = absurd are.0
vectors_by shape old new (Some c ∷ cursors) (Some h ∷ held) shapes are same keeps = (
  λ p item at.
      let inside : p < shape.capacity = omega (arith, inside_places c.snapshot.places p item at, snapshot_count c h are.0 shapes.0.shape_is) in
      sym (ap (λ (s : Shape). vector_in s p new) (snapshot_shape c h are.0 shapes.0.shape_is)) ∙ same p inside ∙ ap (λ (s : Shape). vector_in s p old) (snapshot_shape c h are.0 shapes.0.shape_is) ∙ keeps.0 p item at,
  vectors_by shape old new cursors held shapes.1 are.1 same keeps.1,
)

-- where each vector stays
pub vectors_stay : (cursors : List (Option Cursor)) (known : Known) (store : Store) (old new : List ℕ) → HaveShape known.shape cursors → AreCursors store.cursors cursors → ((p : ℕ) → p < known.shape.capacity → vector_in known.shape p new ≡ vector_in known.shape p old)
    → KeepsHeld (holding store) old → KeepsHeld (holding store) new
vectors_stay cursors known store old new shapes are same keeps = vectors_by known.shape old new store.cursors cursors shapes are same keeps

-- a gate lies before all vectors
pub gate_stays : (cursors : List (Option Cursor)) (known : Known) (store : Store) (place : ℕ) (old new : List ℕ) → HaveShape known.shape cursors → place < known.shape.capacity → AreCursors store.cursors cursors → KeepsRest (gate_range place) old new
    → KeepsHeld (holding store) old → KeepsHeld (holding store) new
gate_stays cursors known store place old new shapes inside are rest keeps =
    vectors_stay cursors known store old new shapes are (λ p within. rest.same (vector_at known.shape p) known.shape.dims (inr (omega (arith, inside)), tt)) keeps
