-- The lines of a script by their places.
use Rattle.std.specs.Prelude.{Result, Ok, Err, OnOk}
use Rattle.std.proofs.Common.{◌≡◌, ◌≢◌, ℕ, zero, suc, ◌+◌, ◌-◌, ◌*◌, ◌<◌, ◌≤◌, List, [], ◌∷◌, length, drop, get_or, refl, ap, sym, ◌∙◌, arith}
use Rattle.std.proofs.lemmas.List.{get_or_append_left, get_or-append_right, length-append, length-drop, drop_all, drop_more}
use Rattle.std.proofs.lemmas.List.FromFn.{get_or-map-range_with_len, length-map-range_with_len}
use Rattle.va_script.specs.Progress.{state_behind, vectors_in}
use Rattle.va_script.specs.Script.{convert_line, create_line, drawn, insert_line, inserts, requant_line, script, search_line, searches, state_after, vector_after}
use Rattle.va_script.proofs.Drawing.{drawn_on}

pub length_inserts : (n : ℕ) → length (inserts n) ≡ n
unfolding inserts
length_inserts n = length-map-range_with_len (λ id. insert_line id (vector_after (id - 1) n)) 1 n

pub length_searches : (n : ℕ) → length (searches n) ≡ 32
unfolding searches
length_searches n = length-map-range_with_len (λ search. search_line (vector_after (n + search) n)) 0 32

-- a script has so many lines
pub length_script : (n : ℕ) → length (script n) ≡ n + 35
unfolding script
length_script n =
    omega (arith, length-append (inserts n) (requant_line ∷ convert_line ∷ searches n), length_inserts n, length_searches n)

-- the generator begins at n
pub begins : (n : ℕ) → n ≡ state_behind n 0
unfolding state_behind vectors_in state_after
begins n =
    let none : ((0 - 1) - ((0 - 1) - n)) + (0 - (n + 3)) ≡ 0 = omega arith in
    rw none refl

-- one vector more is drawn
pub on_one : (n lines : ℕ) → vectors_in n (lines + 1) ≡ vectors_in n lines + 1 →
    state_after 8 (state_behind n lines) ≡ state_behind n (lines + 1)
unfolding state_behind
on_one n lines e =
    let count : 8 + 8 * vectors_in n lines ≡ 8 * vectors_in n (lines + 1) = omega (arith, e) in
    drawn_on 8 (8 * vectors_in n lines) n ∙ ap (λ draws. state_after draws n) count

-- none is drawn
pub on_none : (n lines : ℕ) → vectors_in n (lines + 1) ≡ vectors_in n lines → state_behind n lines ≡ state_behind n (lines + 1)
unfolding state_behind
on_none n lines e = ap (λ vectors. state_after (8 * vectors) n) (sym e)

pub in_insert : (n id : ℕ) → 1 ≤ id → id ≤ n → vectors_in n (id + 1) ≡ vectors_in n id + 1
unfolding vectors_in
in_insert n id some most = omega arith

pub in_search : (n lines : ℕ) → n + 3 ≤ lines → vectors_in n (lines + 1) ≡ vectors_in n lines + 1
unfolding vectors_in
in_search n lines behind = omega arith

-- the line of an insert
pub at_insert : (n id : ℕ) → 1 ≤ id → id ≤ n → insert_line id (drawn (state_behind n id)) ≡ get_or (script n) id []
unfolding script inserts vector_after state_behind vectors_in
at_insert n zero some most = absurd (omega arith)
at_insert n (suc before) some most =
    let count : ((suc before - 1) - ((suc before - 1) - n)) + (suc before - (n + 3)) ≡ suc before - 1 = omega arith in
    let at = get_or-map-range_with_len (λ id. insert_line id (vector_after (id - 1) n)) 1 n before (suc before) [] (omega arith) (omega arith) in
    let left = get_or_append_left (inserts n) (requant_line ∷ convert_line ∷ searches n) [] before (omega (arith, length_inserts n)) in
    ap (λ vectors. insert_line (suc before) (drawn (state_after (8 * vectors) n))) count ∙ sym (left ∙ at)

-- the line that makes the store
pub at_create : (n : ℕ) → create_line n ≡ get_or (script n) 0 []
unfolding script
at_create n = refl

-- the lines behind the inserts
pub behind_inserts : (n place i : ℕ) → place ≡ suc (n + i) →
    get_or (requant_line ∷ convert_line ∷ searches n) i [] ≡ get_or (script n) place []
unfolding script
behind_inserts n place i e =
    let lines = requant_line ∷ convert_line ∷ searches n in
    let at = get_or-append_right (inserts n) lines n (n + i) [] (length_inserts n) (omega arith) in
    let same : n + i - n ≡ i = omega arith in
    rw e (sym (at ∙ ap (λ j. get_or lines j []) same))

-- two lines have no vector
pub in_fixed : (n lines : ℕ) → n + 1 ≤ lines → lines ≤ n + 2 → vectors_in n (lines + 1) ≡ vectors_in n lines
unfolding vectors_in
in_fixed n lines from most = omega arith

pub in_create : (n : ℕ) → vectors_in n (0 + 1) ≡ vectors_in n 0
unfolding vectors_in
in_create n = omega arith

-- what holds whatever the answer is
pub always : {X E : Type 0} (r : Result X E) {P : Type 0} → P → OnOk r P
always (Ok x) p = p
always (Err e) p = tt

-- the line of a search
pub at_search : (n place i : ℕ) → place ≡ suc (n + suc (suc i)) → i < 32 →
    search_line (drawn (state_behind n place)) ≡ get_or (script n) place []
unfolding searches vector_after state_behind vectors_in
at_search n place i e less =
    let count : ((place - 1) - ((place - 1) - n)) + (place - (n + 3)) ≡ n + i = omega (arith, e) in
    let at = get_or-map-range_with_len (λ search. search_line (vector_after (n + search) n)) 0 32 i i [] less (omega arith) in
    ap (λ vectors. search_line (drawn (state_after (8 * vectors) n))) count ∙ sym at ∙ behind_inserts n place (suc (suc i)) e

-- what is left begins with the line that is given next
pub next_given : (n given : ℕ) (line : List ℕ) → given < n + 35 → line ≡ get_or (script n) given [] →
    drop given (script n) ≡ line ∷ drop (given + 1) (script n)
next_given n given line less e = rw e (drop_more (script n) given [] (omega (arith, length_script n)))

-- after the last line nothing is left
pub ended : (n given : ℕ) → n + 35 ≤ given → drop given (script n) ≡ []
ended n given all = drop_all given (script n) (omega (arith, length_script n))

-- lines are left
pub some_left : (n given : ℕ) → given < n + 35 → drop given (script n) ≢ []
some_left n given less none = omega (arith, less, length_script n, length-drop given (script n), ap length none)
