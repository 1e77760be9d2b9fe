-- One box more among those over which is gathered.
use Rattle.std.proofs.Common.{◌≡◌, ℕ, ◌+◌, ◌<◌, Bool, true, false, not, ◌||◌, List, [], ◌∷◌, ◌++◌, length, take, get_or, Option, Some, slice_get, if◌then◌else◌, refl, ap, sym, ◌∙◌}
use Rattle.std.specs.List.{filter}
use Rattle.std.proofs.lemmas.List.{take_more}
use Rattle.va_core.specs.declared.pair.Pair.{Pair}
use Rattle.va_core.proofs.Ranking.{ascending_more}
use Rattle.va_core.specs.Approximations.{paired, pairs, is_wide}
use Rattle.va_core.specs.Ranking.{is_less, placed, ascending}
use Rattle.va_cert.specs.declared.certificate.BoxRow.{BoxRow}
use Rattle.va_cert.specs.declared.certificate.Certificate.{Certificate}
use Rattle.va_cert.specs.Known.{bounds, known_dist, is_known, is_fetched}
use Rattle.va_check.specs.Gathers.{known_pairs, least_unknown, lower}

part_more : {X : Type 0} (name d : X → ℕ) (test : X → Bool) (xs : List X) (x : X) → test x ≡ true → pairs name d (filter test (xs ++ x ∷ [])) ≡ pairs name d (filter test xs) ++ paired (d x) (name x) ∷ []
part_more name d test [] x h = rw h refl
part_more name d test (y ∷ xs) x h = let rest : pairs name d (filter test (xs ++ x ∷ [])) ≡ pairs name d (filter test xs) ++ paired (d x) (name x) ∷ [] = part_more name d test xs x h in
    elim (test y) as (λ b. pairs name d (if b then y ∷ filter test (xs ++ x ∷ []) else filter test (xs ++ x ∷ [])) ≡ pairs name d (if b then y ∷ filter test xs else filter test xs) ++ paired (d x) (name x) ∷ []) [
      | true ↦ ap (λ (ps : List Pair). paired (d y) (name y) ∷ ps) rest
      | false ↦ rest
    ]

part_same : {X : Type 0} (name d : X → ℕ) (test : X → Bool) (xs : List X) (x : X) → test x ≡ false → pairs name d (filter test (xs ++ x ∷ [])) ≡ pairs name d (filter test xs)
part_same name d test [] x h = rw h refl
part_same name d test (y ∷ xs) x h = let rest : pairs name d (filter test (xs ++ x ∷ [])) ≡ pairs name d (filter test xs) = part_same name d test xs x h in
    elim (test y) as (λ b. pairs name d (if b then y ∷ filter test (xs ++ x ∷ []) else filter test (xs ++ x ∷ [])) ≡ pairs name d (if b then y ∷ filter test xs else filter test xs)) [
      | true ↦ ap (λ (ps : List Pair). paired (d y) (name y) ∷ ps) rest
      | false ↦ rest
    ]

first_placed : (p : Pair) (l : List Pair) → slice_get (placed p l) 0 ≡ lower (slice_get l 0) p
first_placed p [] = refl
first_placed p (q ∷ l) = elim (is_less q p) as (λ b. slice_get (if b then q ∷ placed p l else p ∷ (q ∷ l)) 0 ≡ (if b then Some q else Some p)) [ true ↦ refl | false ↦ refl ]

first_more : (ps : List Pair) (p : Pair) → slice_get (ascending (ps ++ p ∷ [])) 0 ≡ lower (slice_get (ascending ps) 0) p
first_more ps p = ap (λ (l : List Pair). slice_get l 0) (ascending_more ps p) ∙ first_placed p (ascending ps)

or_first : (a b : Bool) → (a || b) ≡ false → a ≡ false
or_first true b h = h
or_first false b h = refl

-- the distance that is told of an unknown box is its least one
pub unknown_low : (c : Certificate) (row : BoxRow) → is_known c row ≡ false → known_dist c row ≡ (bounds c).low row
unknown_low c row h = let f : is_fetched c.fetched row.id ≡ false = or_first (is_fetched c.fetched row.id) (not (is_wide (bounds c) row)) h in rw f refl

pub known_more : (c : Certificate) (boxes : List BoxRow) (row : BoxRow) → is_known c row ≡ true → known_pairs c (boxes ++ row ∷ []) ≡ known_pairs c boxes ++ paired (known_dist c row) row.id ∷ []
known_more c boxes row h = part_more (λ (r : BoxRow). r.id) (known_dist c) (is_known c) boxes row h

pub known_same : (c : Certificate) (boxes : List BoxRow) (row : BoxRow) → is_known c row ≡ false → known_pairs c (boxes ++ row ∷ []) ≡ known_pairs c boxes
known_same c boxes row h = part_same (λ (r : BoxRow). r.id) (known_dist c) (is_known c) boxes row h

pub least_more : (c : Certificate) (boxes : List BoxRow) (row : BoxRow) → is_known c row ≡ false → least_unknown c (boxes ++ row ∷ []) ≡ lower (least_unknown c boxes) (paired (known_dist c row) row.id)
least_more c boxes row h =
    ap (λ (ps : List Pair). slice_get (ascending ps) 0) (part_more (λ (r : BoxRow). r.id) (bounds c).low (λ (r : BoxRow). not (is_known c r)) boxes row (ap not h))
    ∙ (first_more (pairs (λ (r : BoxRow). r.id) (bounds c).low (filter (λ (r : BoxRow). not (is_known c r)) boxes)) (paired ((bounds c).low row) row.id)
    ∙ ap (λ (n : ℕ). lower (least_unknown c boxes) (paired n row.id)) (sym (unknown_low c row h)))

pub least_same : (c : Certificate) (boxes : List BoxRow) (row : BoxRow) → is_known c row ≡ true → least_unknown c (boxes ++ row ∷ []) ≡ least_unknown c boxes
least_same c boxes row h = ap (λ (ps : List Pair). slice_get (ascending ps) 0) (part_same (λ (r : BoxRow). r.id) (bounds c).low (λ (r : BoxRow). not (is_known c r)) boxes row (ap not h))

pub one_taken : (boxes : List BoxRow) (i : ℕ) (row : BoxRow) → i < length boxes → row ≡ get_or boxes i row → take (i + 1) boxes ≡ take i boxes ++ row ∷ []
one_taken boxes i row h e = take_more boxes i row h ∙ ap (λ (r : BoxRow). take i boxes ++ r ∷ []) (sym e)

pub known_next : (c : Certificate) (boxes : List BoxRow) (i d : ℕ) (row : BoxRow) (old new : List Pair) → i < length boxes → row ≡ get_or boxes i row → is_known c row ≡ true → d ≡ known_dist c row →
    old ≡ known_pairs c (take i boxes) → new ≡ old ++ paired d row.id ∷ [] → new ≡ known_pairs c (take (i + 1) boxes)
known_next c boxes i d row old new h e k at was now =
    now ∙ (ap (λ (ps : List Pair). ps ++ paired d row.id ∷ []) was
    ∙ (ap (λ (n : ℕ). known_pairs c (take i boxes) ++ paired n row.id ∷ []) at
    ∙ (sym (known_more c (take i boxes) row k) ∙ ap (known_pairs c) (sym (one_taken boxes i row h e)))))

pub known_stays : (c : Certificate) (boxes : List BoxRow) (i : ℕ) (row : BoxRow) (old new : List Pair) → i < length boxes → row ≡ get_or boxes i row → is_known c row ≡ false →
    old ≡ known_pairs c (take i boxes) → new ≡ old → new ≡ known_pairs c (take (i + 1) boxes)
known_stays c boxes i row old new h e k was now =
    now ∙ (was ∙ (sym (known_same c (take i boxes) row k) ∙ ap (known_pairs c) (sym (one_taken boxes i row h e))))

pub least_next : (c : Certificate) (boxes : List BoxRow) (i d : ℕ) (row : BoxRow) (old new : Option Pair) → i < length boxes → row ≡ get_or boxes i row → is_known c row ≡ false → d ≡ known_dist c row →
    old ≡ least_unknown c (take i boxes) → new ≡ lower old (paired d row.id) → new ≡ least_unknown c (take (i + 1) boxes)
least_next c boxes i d row old new h e k at was now =
    now ∙ (ap (λ (o : Option Pair). lower o (paired d row.id)) was
    ∙ (ap (λ (n : ℕ). lower (least_unknown c (take i boxes)) (paired n row.id)) at
    ∙ (sym (least_more c (take i boxes) row k) ∙ ap (least_unknown c) (sym (one_taken boxes i row h e)))))

pub least_stays : (c : Certificate) (boxes : List BoxRow) (i : ℕ) (row : BoxRow) (old new : Option Pair) → i < length boxes → row ≡ get_or boxes i row → is_known c row ≡ true →
    old ≡ least_unknown c (take i boxes) → new ≡ old → new ≡ least_unknown c (take (i + 1) boxes)
least_stays c boxes i row old new h e k was now =
    now ∙ (was ∙ (sym (least_same c (take i boxes) row k) ∙ ap (least_unknown c) (sym (one_taken boxes i row h e))))
