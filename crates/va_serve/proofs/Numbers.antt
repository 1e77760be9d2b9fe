-- The numbers by which places are held back.
use Rattle.std.proofs.Common.{◌≡◌, ℕ, zero, suc, ◌+◌, ◌<◌, ◌≤◌, ◌==◌, Bool, true, false, List, [], ◌∷◌, length, drop, set, get_or, if◌then◌else◌, Option, None, Some, refl, sym, ap, ◌∙◌, arith}
use Rattle.std.proofs.lemmas.Bool.Decides.{nat_tests}
use Rattle.va_core.specs.Shape.{Shape}
use Rattle.va_cursor.specs.Cursors.{Ascends, Cursor}
use Rattle.va_serve.specs.Held.{AreCounts, HasCursorShape, HaveShape, IsCursorOver, count_open, is_open_at, number_of, times}

-- the first of what is left, and the rest
pub times_drop : (place : ℕ) (places : List ℕ) (i : ℕ) → i < length places → times place (drop i places) ≡ times place (get_or places i 0 ∷ []) + times place (drop (i + 1) places)
times_drop place [] i inside = absurd (omega arith)
times_drop place (p ∷ places) zero inside = let one : times place (drop 1 (p ∷ places)) ≡ times place places = refl in omega arith
times_drop place (p ∷ places) (suc i) inside = times_drop place places i (omega (arith, inside)) ∙ ap (λ (n : ℕ). times place (get_or places i 0 ∷ []) + times place (drop n (p ∷ places))) (more i)
  where
    more : (i : ℕ) → suc (i + 1) ≡ suc i + 1
    more i = omega arith

pub times_end : (place : ℕ) (places : List ℕ) (i : ℕ) → length places ≤ i → times place (drop i places) ≡ 0
times_end place [] zero behind = refl
times_end place [] (suc i) behind = refl
times_end place (p ∷ places) zero behind = absurd (omega (arith, behind))
times_end place (p ∷ places) (suc i) behind = times_end place places i (omega (arith, behind))

-- what ascends has each once
times_behind : (place : ℕ) (places : List ℕ) → ((k : ℕ) → k < length places → place < get_or places k 0) → times place places ≡ 0
times_behind place [] later = refl
times_behind place (p ∷ places) later =
    let here : place < p = later 0 (omega arith) in
    let test : (p == place) ≡ false = grind (arith, nat_tests, here) in
    let rest : times place places ≡ 0 = times_behind place places (λ k inside. later (suc k) (omega (arith, inside))) in
    rw test (omega (arith, rest))

rest_ascends : (p : ℕ) (places : List ℕ) → Ascends (p ∷ places) → Ascends places
rest_ascends p places ascends i j less inside = ascends (suc i) (suc j) (omega (arith, less)) (omega (arith, inside))

once_at : (here : Bool) (place p : ℕ) (places : List ℕ) → (p == place) ≡ here → Ascends (p ∷ places) → times place places ≤ 1 → (if here then 1 else 0) + times place places ≤ 1
once_at false place p places is ascends rest = omega (arith, rest)
once_at true place p places is ascends rest =
    let same : p ≡ place = grind (arith, nat_tests, is) in
    let none : times place places ≡ 0 = times_behind place places (λ k inside. let later : p < get_or places k 0 = ascends 0 (suc k) (omega arith) (omega (arith, inside)) in omega (arith, later, same)) in
    omega (arith, none)

pub once_each : (places : List ℕ) → Ascends places → (place : ℕ) → times place places ≤ 1
once_each [] ascends place = omega arith
once_each (p ∷ places) ascends place = once_at (p == place) place p places refl ascends (once_each places (rest_ascends p places ascends) place)

-- no more cursors hold a place than there are names
pub number_most : (shape : Shape) (cursors : List (Option Cursor)) → HaveShape shape cursors → (place : ℕ) → number_of place cursors ≤ length cursors
number_most shape [] shapes place = omega arith
number_most shape (None ∷ cursors) shapes place = omega (arith, number_most shape cursors shapes.1 place)
number_most shape (Some c ∷ cursors) shapes place = omega (arith, number_most shape cursors shapes.1 place, shapes.0.once place)

pub open_most : (cursors : List (Option Cursor)) → count_open cursors ≤ length cursors
open_most [] = omega arith
open_most (None ∷ cursors) = omega (arith, open_most cursors)
open_most (Some c ∷ cursors) = omega (arith, open_most cursors)

-- one more cursor under a name under which none was open, and one less
pub number_with : (cursors : List (Option Cursor)) (name : ℕ) (cursor : Cursor) (place : ℕ) → is_open_at name cursors ≡ false → name < length cursors → number_of place (set cursors name (Some cursor)) ≡ number_of place cursors + times place cursor.places
number_with [] name cursor place none inside = absurd (omega arith)
number_with (None ∷ cursors) zero cursor place none inside = omega arith
number_with (Some c ∷ cursors) zero cursor place none inside = absurd (cc)
number_with (None ∷ cursors) (suc name) cursor place none inside = number_with cursors name cursor place none (omega (arith, inside))
number_with (Some c ∷ cursors) (suc name) cursor place none inside = omega (arith, number_with cursors name cursor place none (omega (arith, inside)))

pub number_without : (cursors : List (Option Cursor)) (name : ℕ) (cursor : Cursor) (place : ℕ) → get_or cursors name None ≡ Some cursor → number_of place (set cursors name None) + times place cursor.places ≡ number_of place cursors
number_without [] name cursor place at = absurd (cc)
number_without (None ∷ cursors) zero cursor place at = absurd (cc)
number_without (Some c ∷ cursors) zero cursor place at =
    let same : times place c.places ≡ times place cursor.places = ap (λ (x : Cursor). times place x.places) (same_cursor at) in
    omega (arith, same)
  where
    same_cursor : {x y : Cursor} → Some x ≡ Some y → x ≡ y
    same_cursor {x} {y} e = cc
number_without (None ∷ cursors) (suc name) cursor place at = number_without cursors name cursor place at
number_without (Some c ∷ cursors) (suc name) cursor place at = omega (arith, number_without cursors name cursor place at)

-- a cursor that gave a pair holds the same places
pub number_same : (cursors : List (Option Cursor)) (name : ℕ) (before after : Cursor) (place : ℕ) → get_or cursors name None ≡ Some before → after.places ≡ before.places → number_of place (set cursors name (Some after)) ≡ number_of place cursors
number_same [] name before after place at same = refl
number_same (None ∷ cursors) zero before after place at same = absurd (cc)
number_same (Some c ∷ cursors) zero before after place at same = ap (λ (l : List ℕ). times place l + number_of place cursors) (same ∙ sym (ap (λ (x : Cursor). x.places) (same_cursor at)))
  where
    same_cursor : {x y : Cursor} → Some x ≡ Some y → x ≡ y
    same_cursor {x} {y} e = cc
number_same (None ∷ cursors) (suc name) before after place at same = number_same cursors name before after place at same
number_same (Some c ∷ cursors) (suc name) before after place at same = ap (λ (n : ℕ). times place c.places + n) (number_same cursors name before after place at same)

pub shapes_set : (shape : Shape) (cursors : List (Option Cursor)) (name : ℕ) (cursor : Option Cursor) → HaveShape shape cursors → HasCursorShape shape cursor → HaveShape shape (set cursors name cursor)
shapes_set shape [] name cursor shapes is = tt
shapes_set shape (c ∷ cursors) zero cursor shapes is = (is, shapes.1)
shapes_set shape (c ∷ cursors) (suc name) cursor shapes is = (shapes.0, shapes_set shape cursors name cursor shapes.1 is)

pub shape_found : (shape : Shape) (cursors : List (Option Cursor)) (name : ℕ) (cursor : Cursor) → HaveShape shape cursors → get_or cursors name None ≡ Some cursor → IsCursorOver shape cursor
shape_found shape [] name cursor shapes at = absurd (cc)
shape_found shape (None ∷ cursors) zero cursor shapes at = absurd (cc)
shape_found shape (Some c ∷ cursors) zero cursor shapes at = rw (same_cursor at) at shapes.0
  where
    same_cursor : {x y : Cursor} → Some x ≡ Some y → x ≡ y
    same_cursor {x} {y} e = cc
shape_found shape (c ∷ cursors) (suc name) cursor shapes at = shape_found shape cursors name cursor shapes.1 at

times_self : (place : ℕ) → times place (place ∷ []) ≡ 1
times_self place = let same : (place == place) ≡ true = grind (arith, nat_tests) in rw same refl

-- a step of the loops over the places of a snapshot
pub hold_step : (place i now start next : ℕ) (places : List ℕ) → i < length places → now + times place (drop i places) ≡ start → next ≡ now + times place (get_or places i 0 ∷ []) → next + times place (drop (i + 1) places) ≡ start
hold_step place i now start next places inside before is = omega (arith, times_drop place places i inside, before, is)

pub release_step : (place i now start next : ℕ) (places : List ℕ) → i < length places → now + times place places ≡ start + times place (drop i places) → next + times place (get_or places i 0 ∷ []) ≡ now → next + times place places ≡ start + times place (drop (i + 1) places)
release_step place i now start next places inside before is = omega (arith, times_drop place places i inside, before, is)

-- there is room for one more, and one to take away
pub room_left : (i now start : ℕ) (places : List ℕ) → i < length places → now + times (get_or places i 0) (drop i places) ≡ start → start < 256 → now < 255
room_left i now start places inside before small = omega (arith, times_drop (get_or places i 0) places i inside, times_self (get_or places i 0), before, small)

pub some_left : (i now start : ℕ) (places : List ℕ) → i < length places → now + times (get_or places i 0) places ≡ start + times (get_or places i 0) (drop i places) → times (get_or places i 0) places ≤ start → 1 ≤ now
some_left i now start places inside before most = omega (arith, times_drop (get_or places i 0) places i inside, times_self (get_or places i 0), before, most)

-- the numbers once a cursor was kept, and once it is gone
pub kept_counts : (cursors : List (Option Cursor)) (name : ℕ) (cursor : Cursor) (numbers now : List ℕ) → AreCounts cursors numbers → is_open_at name cursors ≡ false → name < length cursors → length now ≡ length numbers
    → ((place : ℕ) → place < length numbers → get_or now place 0 ≡ get_or numbers place 0 + times place cursor.places) → AreCounts (set cursors name (Some cursor)) now
kept_counts cursors name cursor numbers now counts none inside same more place within =
    let before : place < length numbers = omega (arith, within, same) in
    omega (arith, more place before, counts place before, number_with cursors name cursor place none inside)

pub gone_counts : (cursors : List (Option Cursor)) (name : ℕ) (cursor : Cursor) (numbers now : List ℕ) → AreCounts cursors numbers → get_or cursors name None ≡ Some cursor → length now ≡ length numbers
    → ((place : ℕ) → place < length numbers → get_or now place 0 + times place cursor.places ≡ get_or numbers place 0) → AreCounts (set cursors name None) now
gone_counts cursors name cursor numbers now counts at same fewer place within =
    let before : place < length numbers = omega (arith, within, same) in
    omega (arith, fewer place before, counts place before, number_without cursors name cursor place at)

pub same_counts : (cursors : List (Option Cursor)) (name : ℕ) (before after : Cursor) (numbers : List ℕ) → AreCounts cursors numbers → get_or cursors name None ≡ Some before → after.places ≡ before.places → AreCounts (set cursors name (Some after)) numbers
same_counts cursors name before after numbers counts at same place within = counts place within ∙ sym (number_same cursors name before after place at same)

-- what a cursor holds back has at least its number, and there is room for the places of one more
pub held_enough : (cursors : List (Option Cursor)) (name : ℕ) (cursor : Cursor) (numbers places : List ℕ) → places ≡ cursor.places → AreCounts cursors numbers → get_or cursors name None ≡ Some cursor
    → (place : ℕ) → place < length numbers → times place places ≤ get_or numbers place 0
held_enough cursors name cursor numbers places same counts at place inside =
    let its : times place places ≡ times place cursor.places = ap (times place) same in
    omega (arith, its, counts place inside, number_without cursors name cursor place at)

pub room_for : (shape : Shape) (cursors : List (Option Cursor)) (numbers places : List ℕ) → HaveShape shape cursors → length cursors ≡ 64 → AreCounts cursors numbers → Ascends places
    → (place : ℕ) → place < length numbers → get_or numbers place 0 + times place places < 256
room_for shape cursors numbers places shapes names counts ascends place inside =
    omega (arith, counts place inside, number_most shape cursors shapes place, names, once_each places ascends place)
