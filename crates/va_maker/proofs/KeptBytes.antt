-- Vectors that stand one after another in bytes.
use Rattle.std.proofs.Common.{◌≡◌, ℕ, zero, suc, ◌+◌, ◌*◌, ◌<◌, ◌≤◌, List, [], ◌∷◌, ◌++◌, Some, length, take, drop, get_or, eqb, if◌then◌else◌, refl, ap, ◌∙◌, take_all, length-append, drop-cons, arith}
use Rattle.std.proofs.lemmas.List.{drop-drop, drop-append-le, take-append-le, length-drop}
use Rattle.va_maker.specs.Kept.{HasRoom, kept_in, kept_of}

pub kept_count : (dims : ℕ) (places bytes : List ℕ) → length (kept_in dims places bytes) ≡ length places
kept_count dims [] bytes = refl
kept_count dims (place ∷ places) bytes = ap suc (kept_count dims places (drop dims bytes))

-- one vector more
pub kept_more : (dims : ℕ) (places bytes : List ℕ) (place : ℕ) (vector : List ℕ) → length bytes ≡ length places * dims → length vector ≡ dims →
    kept_in dims (places ++ place ∷ []) (bytes ++ vector) ≡ kept_in dims places bytes ++ (place, vector) ∷ []
kept_more dims [] [] place vector len is = ap (λ (v : List ℕ). (place, v) ∷ []) (take_all dims vector (omega (arith, is)))
kept_more dims [] (x ∷ bytes) place vector len is = absurd (omega (arith, len))
kept_more dims (p ∷ places) bytes place vector len is =
    let first : take dims (bytes ++ vector) ≡ take dims bytes = take-append-le dims bytes vector (omega (arith, len)) in
    let behind : drop dims (bytes ++ vector) ≡ drop dims bytes ++ vector = drop-append-le dims bytes vector (omega (arith, len)) in
    let left : length (drop dims bytes) ≡ length places * dims = omega (arith, length-drop dims bytes, len) in
    let rest : kept_in dims (places ++ place ∷ []) (drop dims bytes ++ vector) ≡ kept_in dims places (drop dims bytes) ++ (place, vector) ∷ [] = kept_more dims places (drop dims bytes) place vector left is in
    rw (first, behind, rest) refl

-- of the places from one on, the first is the one that is looked for, or the rest is
pub kept_next : (dims i : ℕ) (places bytes : List ℕ) (place : ℕ) → i < length places →
    kept_of (kept_in dims (drop i places) (drop (i * dims) bytes)) place
    ≡ (if eqb (get_or places i 0) place then Some (take dims (drop (i * dims) bytes)) else kept_of (kept_in dims (drop (i + 1) places) (drop ((i + 1) * dims) bytes)) place)
kept_next dims i places bytes place h =
    let front : drop i places ≡ get_or places i 0 ∷ drop (suc i) places = drop-cons places i 0 h in
    let one : suc i ≡ i + 1 = omega arith in
    let sum : i * dims + dims ≡ (i + 1) * dims = omega arith in
    let behind : drop dims (drop (i * dims) bytes) ≡ drop ((i + 1) * dims) bytes = drop-drop dims (i * dims) bytes ∙ ap (λ (n : ℕ). drop n bytes) sum in
    ap (λ (l : List ℕ). kept_of (kept_in dims l (drop (i * dims) bytes)) place) front
    ∙ ap (λ (kept : List (ℕ × List ℕ)). if eqb (get_or places i 0) place then Some (take dims (drop (i * dims) bytes)) else kept_of kept place)
    (ap (λ (n : ℕ). kept_in dims (drop n places) (drop dims (drop (i * dims) bytes))) one ∙ ap (λ (l : List ℕ). kept_in dims (drop (i + 1) places) l) behind)

pub vector_inside : (dims i count : ℕ) → i < count → i * dims + dims ≤ count * dims
vector_inside dims i zero h = absurd (omega (arith, h))
vector_inside dims zero (suc count) h = omega arith
vector_inside dims (suc i) (suc count) h = let rest : i * dims + dims ≤ count * dims = vector_inside dims i count (omega (arith, h)) in omega (arith, rest)

-- room that is taken
pub room_taken : {dims most : ℕ} {places bytes : List ℕ} {room_places room_bytes : ℕ} (place : ℕ) (vector : List ℕ) → HasRoom dims most places bytes room_places room_bytes → length places < most → length vector ≡ dims →
    HasRoom dims most (places ++ place ∷ []) (bytes ++ vector) room_places room_bytes
room_taken {dims} {most} {places} {bytes} place vector has few is =
    let count : length (places ++ place ∷ []) ≡ suc (length places) = length-append places (place ∷ []) ∙ omega arith in
    let size : length (bytes ++ vector) ≡ length bytes + length vector = length-append bytes vector in
    let filled : length bytes ≡ length places * dims = has.filled in
    record {
      filled = rw count (omega (arith, size, filled, is));
      few = omega (arith, count, few);
      all_places = has.all_places;
      all_bytes = has.all_bytes;
    }
