-- What the calls of a disk leave of the parts of an image.
use Rattle.std.proofs.Common.{◌≡◌, ⊎_elim, ℕ, ◌+◌, ◌≤◌, List, [], ◌∷◌, ◌++◌, length, take, drop, Result, Ok, Err, OnOk, OnErr, refl, ◌∙◌, ap, append_assoc}
use Rattle.std.proofs.lemmas.List.{drop_at, take_at, length-take-le}
use Rattle.va_disk.specs.Crashes.{Follows, Holds, Torn}
use Rattle.va_disk.specs.TornLaws.{torn_of_holds}
use Rattle.va_layout.specs.Parts.{part, KeepsRest}
use Rattle.va_layout.proofs.Parts.{part_front, part_behind, rest_then, rest_more, rest_twice}

pub rest_of_torn : (at n : ℕ) (old new : List ℕ) → Torn at n old new → KeepsRest ((at, n) ∷ []) old new
rest_of_torn at n old new torn = record {
  no_shorter = torn.no_shorter;
  same = λ i k apart. ⊎_elim (λ before. part_front i k at new old before torn.before) (λ behind. part_behind i k (at + n) new old behind torn.after) apart.0;
}

-- a write that may have failed leaves its range torn
pub torn_either : {T E : Type 0} (r : Result T E) (at : ℕ) (old bytes new : List ℕ) (told : Type 0) → at ≤ length old → OnOk r (told → Holds old at bytes new) → OnErr r (told → Torn at (length bytes) old new) → told → Torn at (length bytes) old new
torn_either (Ok x) at old bytes new told le ok err is = torn_of_holds at old bytes le new (ok is)
torn_either (Err e) at old bytes new told le ok err is = err is

-- what was written stands there
pub part_of_holds : (at : ℕ) (old bytes new : List ℕ) → at ≤ length old → Holds old at bytes new → part at (length bytes) new ≡ bytes
part_of_holds at old bytes new le holds =
    let rest = drop (at + length bytes) old in
    ap (λ (l : List ℕ). part at (length bytes) l) (holds ∙ append_assoc (take at old) bytes rest)
    ∙ ap (λ (l : List ℕ). take (length bytes) l) (drop_at (take at old) (bytes ++ rest) at (length-take-le at old le))
    ∙ take_at bytes rest (length bytes) refl

pub follows_rest : (at n : ℕ) (a b : List ℕ → Type 0) → Follows (Torn at n) a b → Follows (KeepsRest ((at, n) ∷ [])) a b
follows_rest at n a b torn = λ x left. (let mid = torn x left in (mid.0, mid.1, rest_of_torn at n mid.0 x mid.2))

pub follows_then : (r s : List (ℕ × ℕ)) (a b c : List ℕ → Type 0) → Follows (KeepsRest r) a b → Follows (KeepsRest s) b c → Follows (KeepsRest (r ++ s)) a c
follows_then r s a b c first second = λ x left.
    let mid = second x left in
    let start = first mid.0 mid.1 in
    (start.0, start.1, rest_then r s start.0 mid.0 x start.2 mid.2)

pub follows_more : (r s : List (ℕ × ℕ)) (a b : List ℕ → Type 0) → Follows (KeepsRest r) a b → Follows (KeepsRest (r ++ s)) a b
follows_more r s a b first = λ x left. (let start = first x left in (start.0, start.1, rest_more r s start.0 x start.2))

-- what holds on Ok leads to more
pub on_ok : {T E : Type 0} (r : Result T E) {P Q : Type 0} → OnOk r P → (P → Q) → OnOk r Q
on_ok (Ok x) p f = f p
on_ok (Err e) p f = tt

-- one change more in the same ranges
pub follows_twice : (r s : List (ℕ × ℕ)) (a b c : List ℕ → Type 0) → ((x y : List ℕ) → KeepsRest s x y → KeepsRest r x y) → Follows (KeepsRest r) a b → Follows (KeepsRest s) b c → Follows (KeepsRest r) a c
follows_twice r s a b c within first second = λ x left.
    let mid = second x left in
    let start = first mid.0 mid.1 in
    (start.0, start.1, rest_twice r start.0 mid.0 x start.2 (within mid.0 x mid.2))
