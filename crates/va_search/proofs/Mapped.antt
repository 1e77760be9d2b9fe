-- A list and its members under a map: where names, distances and bounds agree, the same members are read.
use Rattle.std.proofs.Common.{◌≡◌, ℕ, Bool, true, false, List, [], ◌∷◌, ◌++◌, map, if◌then◌else◌, refl, sym, ap, ◌∙◌}
use Rattle.std.proofs.lemmas.List.{map-append}
use Rattle.std.specs.List.{filter, AllByRecursion}
use Rattle.va_core.specs.declared.pair.Pair.{Pair}
use Rattle.va_core.specs.Approximations.{Approximations, candidates, is_candidate, is_needed, is_needed_within, is_next, low_pair, need, need_next, need_within, paired, pairs}
use Rattle.va_core.specs.Ranking.{is_less}
use Rattle.va_core.specs.Scanning.{scanned, scanned_after}
use Rattle.va_core.specs.Sorting.{ascending_by, placed_by}
use Rattle.va_core.proofs.Members.{IsAmong, all_append, all_at, all_from}
use Rattle.va_core.proofs.Sorting.{all_ascending_by, all_filter}

-- the name, the bounds and the distance of a member are those of what it is mapped to
pub record Mirrors {X Y : Type 0} (f : X → Y) (s : Approximations X) (t : Approximations Y) (d : X → ℕ) (e : Y → ℕ) (x : X) : Type 0 where
  pub name : t.name (f x) ≡ s.name x
  pub low : t.low (f x) ≡ s.low x
  pub high : t.high (f x) ≡ s.high x
  pub dist : e (f x) ≡ d x

pub all_weaker : {X : Type 0} (P Q : X → Type 0) (l : List X) → ((x : X) → P x → Q x) → AllByRecursion P l → AllByRecursion Q l
all_weaker P Q [] h all = tt
all_weaker P Q (x ∷ l) h all = (h x all.0, all_weaker P Q l h all.1)

-- a part under a test
pub filter_mapped : {X Y : Type 0} (f : X → Y) (p : X → Bool) (q : Y → Bool) (l : List X) → AllByRecursion (λ x. q (f x) ≡ p x) l → filter q (map f l) ≡ map f (filter p l)
filter_mapped f p q [] all = refl
filter_mapped {X} {Y} f p q (x ∷ l) all =
    let rest : filter q (map f l) ≡ map f (filter p l) = filter_mapped f p q l all.1 in
    ap (λ (c : Bool). if c then f x ∷ filter q (map f l) else filter q (map f l)) all.0
    ∙ elim (p x) as (λ c. (if c then f x ∷ filter q (map f l) else filter q (map f l)) ≡ map f (if c then x ∷ filter p l else filter p l)) [
      | true ↦ ap (λ (m : List Y). f x ∷ m) rest
      | false ↦ rest
    ]

-- a list in the order of its keys
placed_mapped : {X Y : Type 0} (f : X → Y) (key : X → Pair) (key' : Y → Pair) (x : X) (l : List X) → key' (f x) ≡ key x → AllByRecursion (λ y. key' (f y) ≡ key y) l → placed_by key' (f x) (map f l) ≡ map f (placed_by key x l)
placed_mapped f key key' x [] same all = refl
placed_mapped {X} {Y} f key key' x (y ∷ l) same all =
    let rest : placed_by key' (f x) (map f l) ≡ map f (placed_by key x l) = placed_mapped f key key' x l same all.1 in
    let test : is_less (key' (f y)) (key' (f x)) ≡ is_less (key y) (key x) = ap (λ (p : Pair). is_less p (key' (f x))) all.0 ∙ ap (λ (p : Pair). is_less (key y) p) same in
    ap (λ (c : Bool). if c then f y ∷ placed_by key' (f x) (map f l) else f x ∷ (f y ∷ map f l)) test
    ∙ elim (is_less (key y) (key x)) as (λ c. (if c then f y ∷ placed_by key' (f x) (map f l) else f x ∷ (f y ∷ map f l)) ≡ map f (if c then y ∷ placed_by key x l else x ∷ (y ∷ l))) [
      | true ↦ ap (λ (m : List Y). f y ∷ m) rest
      | false ↦ refl
    ]

pub ascending_mapped : {X Y : Type 0} (f : X → Y) (key : X → Pair) (key' : Y → Pair) (l : List X) → AllByRecursion (λ y. key' (f y) ≡ key y) l → ascending_by key' (map f l) ≡ map f (ascending_by key l)
ascending_mapped f key key' [] all = refl
ascending_mapped f key key' (x ∷ l) all =
    ap (placed_by key' (f x)) (ascending_mapped f key key' l all.1)
    ∙ placed_mapped f key key' x (ascending_by key l) all.0 (all_ascending_by (λ y. key' (f y) ≡ key y) key l all.1)

-- each member of the list mirrors what it is mapped to
pub record AreMirrored {X Y : Type 0} (f : X → Y) (s : Approximations X) (t : Approximations Y) (d : X → ℕ) (e : Y → ℕ) (l : List X) : Type 0 where
  pub each : AllByRecursion (Mirrors f s t d e) l

module _ {X Y : Type 0} {f : X → Y} {s : Approximations X} {t : Approximations Y} {d : X → ℕ} {e : Y → ℕ} where
  rest_mirrored : {x : X} {l : List X} → AreMirrored f s t d e (x ∷ l) → AreMirrored f s t d e l
  rest_mirrored all = record { each = all.each.1 }

  -- the pairs
  pub pairs_mapped : (l : List X) → AreMirrored f s t d e l → pairs t.name e (map f l) ≡ pairs s.name d l
  pairs_mapped [] all = refl
  pairs_mapped (x ∷ l) all =
      ap (λ (p : Pair). p ∷ pairs t.name e (map f l)) (ap (λ (n : ℕ). paired n (t.name (f x))) all.each.0.dist ∙ ap (λ (n : ℕ). paired (d x) n) all.each.0.name)
      ∙ ap (λ (ps : List Pair). paired (d x) (s.name x) ∷ ps) (pairs_mapped l (rest_mirrored all))

  -- the same with the upper bounds for the distances
  pub at_highs : {l : List X} → AreMirrored f s t d e l → AreMirrored f s t s.high t.high l
  at_highs {l} all = record { each = all_weaker (Mirrors f s t d e) (Mirrors f s t s.high t.high) l (λ x m. record { name = m.name; low = m.low; high = m.high; dist = m.high }) all.each }

  keys_same : {l : List X} → AreMirrored f s t d e l → AllByRecursion (λ x. low_pair t (f x) ≡ low_pair s x) l
  keys_same {l} all = all_weaker (Mirrors f s t d e) (λ x. low_pair t (f x) ≡ low_pair s x) l (λ x m. rw (m.low, m.name) refl) all.each

  -- what is picked under a test, in the order of the lower bounds
  picked_mapped : (p : X → Bool) (q : Y → Bool) (l : List X) → AreMirrored f s t d e l → ((x : X) → Mirrors f s t d e x → q (f x) ≡ p x) → ascending_by (low_pair t) (filter q (map f l)) ≡ map f (ascending_by (low_pair s) (filter p l))
  picked_mapped p q l all same =
      ap (ascending_by (low_pair t)) (filter_mapped f p q l (all_weaker (Mirrors f s t d e) (λ x. q (f x) ≡ p x) l same all.each))
      ∙ ascending_mapped f (low_pair s) (low_pair t) (filter p l) (all_filter (λ x. low_pair t (f x) ≡ low_pair s x) p l (keys_same all))

  needed_same : (l : List X) (k : ℕ) (x : X) → pairs t.name e (map f l) ≡ pairs s.name d l → Mirrors f s t d e x → is_needed t (map f l) e k (f x) ≡ is_needed s l d k x
  needed_same l k x same m = rw (m.low, m.high, m.name, same) refl

  -- what is needed for the k nearest
  pub need_mapped : (l : List X) (k : ℕ) → AreMirrored f s t d e l → need t (map f l) e k ≡ map f (need s l d k)
  need_mapped l k all = picked_mapped (is_needed s l d k) (is_needed t (map f l) e k) l all (λ x m. needed_same l k x (pairs_mapped l all) m)

  next_same : (l : List X) (k : ℕ) (x : X) → pairs t.name e (map f l) ≡ pairs s.name d l → Mirrors f s t d e x → is_next t (map f l) e k (f x) ≡ is_next s l d k x
  next_same l k x same m = rw (m.low, m.high, m.name, same) refl

  -- what is needed for one pair more
  pub next_mapped : (l : List X) (k : ℕ) → AreMirrored f s t d e l → need_next t (map f l) e k ≡ map f (need_next s l d k)
  next_mapped l k all = picked_mapped (is_next s l d k) (is_next t (map f l) e k) l all (λ x m. next_same l k x (pairs_mapped l all) m)

  -- what is needed within a radius
  pub need_within_mapped : (l : List X) (radius : ℕ) → AreMirrored f s t d e l → need_within t (map f l) radius ≡ map f (need_within s l radius)
  need_within_mapped l radius all = filter_mapped f (is_needed_within s radius) (is_needed_within t radius) l
      (all_weaker (Mirrors f s t d e) (λ x. is_needed_within t radius (f x) ≡ is_needed_within s radius x) l (λ x m. rw (m.low, m.high) refl) all.each)

  -- what a scan reads
  scanned_after_mapped : (k : ℕ) (before l : List X) → AreMirrored f s t d e before → AreMirrored f s t d e l → scanned_after t e k (map f before) (map f l) ≡ map f (scanned_after s d k before l)
  scanned_after_mapped k before [] first all = refl
  scanned_after_mapped k before (x ∷ l) first all =
      let more : AreMirrored f s t d e (before ++ x ∷ []) = record { each = all_append (Mirrors f s t d e) before (x ∷ []) first.each (all.each.0, tt) } in
      let rest : scanned_after t e k (map f before ++ f x ∷ []) (map f l) ≡ map f (scanned_after s d k (before ++ x ∷ []) l) =
      ap (λ (b : List Y). scanned_after t e k b (map f l)) (sym (map-append f before (x ∷ []))) ∙ scanned_after_mapped k (before ++ x ∷ []) l more (rest_mirrored all) in
      ap (λ (c : Bool). if c then f x ∷ scanned_after t e k (map f before ++ f x ∷ []) (map f l) else scanned_after t e k (map f before ++ f x ∷ []) (map f l)) (needed_same before k x (pairs_mapped before first) all.each.0)
      ∙ elim (is_needed s before d k x) as (λ c. (if c then f x ∷ scanned_after t e k (map f before ++ f x ∷ []) (map f l) else scanned_after t e k (map f before ++ f x ∷ []) (map f l)) ≡ map f (if c then x ∷ scanned_after s d k (before ++ x ∷ []) l else scanned_after s d k (before ++ x ∷ []) l)) [
        | true ↦ ap (λ (m : List Y). f x ∷ m) rest
        | false ↦ rest
      ]

  pub scanned_mapped : (l : List X) (k : ℕ) → AreMirrored f s t d e l → scanned t (map f l) e k ≡ map f (scanned s l d k)
  scanned_mapped l k all = scanned_after_mapped k [] l (record { each = tt }) all

candidate_same : {X Y : Type 0} {f : X → Y} {s : Approximations X} {t : Approximations Y} {d : X → ℕ} {e : Y → ℕ} (l : List X) (k : ℕ) (x : X) → pairs t.name t.high (map f l) ≡ pairs s.name s.high l → Mirrors f s t d e x → is_candidate t (map f l) k (f x) ≡ is_candidate s l k x
candidate_same l k x same m = rw (m.low, m.name, same) refl

-- the candidates
pub candidates_mapped : {X Y : Type 0} {f : X → Y} {s : Approximations X} {t : Approximations Y} {d : X → ℕ} {e : Y → ℕ} (l : List X) (k : ℕ) → AreMirrored f s t d e l → candidates t (map f l) k ≡ map f (candidates s l k)
candidates_mapped {f = f} {s} {t} {d} {e} l k all =
    filter_mapped f (is_candidate s l k) (is_candidate t (map f l) k) l
    (all_weaker (Mirrors f s t d e) (λ x. is_candidate t (map f l) k (f x) ≡ is_candidate s l k x) l (λ x m. candidate_same l k x (pairs_mapped l (at_highs all)) m) all.each)

-- Each member that is read is one of the list.
abbrev pub AreAmong : {X : Type 0} → List X → List X → Type 0
AreAmong l part = AllByRecursion (λ x. IsAmong x l) part

pub all_among : {X : Type 0} (P : X → Type 0) (l part : List X) → AllByRecursion P l → AreAmong l part → AllByRecursion P part
all_among P l part all among = all_weaker (λ x. IsAmong x l) P part (λ x here. all_at P l x all here) among

all_themselves : {X : Type 0} (l : List X) → AreAmong l l
all_themselves l = all_from (λ x. IsAmong x l) l (λ x here. here)

picked_among : {X : Type 0} (s : Approximations X) (l : List X) (p : X → Bool) → AreAmong l (ascending_by (low_pair s) (filter p l))
picked_among s l p = all_ascending_by (λ x. IsAmong x l) (low_pair s) (filter p l) (all_filter (λ x. IsAmong x l) p l (all_themselves l))

pub need_among : {X : Type 0} (s : Approximations X) (l : List X) (d : X → ℕ) (k : ℕ) → AreAmong l (need s l d k)
need_among s l d k = picked_among s l (is_needed s l d k)

pub next_among : {X : Type 0} (s : Approximations X) (l : List X) (d : X → ℕ) (k : ℕ) → AreAmong l (need_next s l d k)
next_among s l d k = picked_among s l (is_next s l d k)

pub need_within_among : {X : Type 0} (s : Approximations X) (l : List X) (radius : ℕ) → AreAmong l (need_within s l radius)
need_within_among s l radius = all_filter (λ x. IsAmong x l) (is_needed_within s radius) l (all_themselves l)

all_scanned : {X : Type 0} (P : X → Type 0) (s : Approximations X) (d : X → ℕ) (k : ℕ) (before l : List X) → AllByRecursion P l → AllByRecursion P (scanned_after s d k before l)
all_scanned P s d k before [] all = tt
all_scanned P s d k before (x ∷ l) all =
    elim (is_needed s before d k x) as (λ c. AllByRecursion P (if c then x ∷ scanned_after s d k (before ++ x ∷ []) l else scanned_after s d k (before ++ x ∷ []) l)) [
      | true ↦ (all.0, all_scanned P s d k (before ++ x ∷ []) l all.1)
      | false ↦ all_scanned P s d k (before ++ x ∷ []) l all.1
    ]

pub scanned_among : {X : Type 0} (s : Approximations X) (l : List X) (d : X → ℕ) (k : ℕ) → AreAmong l (scanned s l d k)
scanned_among s l d k = all_scanned (λ x. IsAmong x l) s d k [] l (all_themselves l)
