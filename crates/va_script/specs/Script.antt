-- The script of the work mode: a store of n places is filled with n drawn vectors and requantized, and 32 drawn vectors are searched.
use Rattle.std.specs.Prelude.{ℕ, zero, suc, ◌+◌, ◌-◌, ◌*◌, ◌/◌, ◌%◌, ◌^◌, List, ◌∷◌, ◌++◌, map, codes, decimal}
use Rattle.std.specs.List.{join_with_byte, range_with_len}

-- the state that a draw leaves
unfoldable pub next_state : ℕ → ℕ
next_state state = (state * 6364136223846793005 + 1442695040888963407) % 2 ^ 64

-- the byte that it gives: the highest one of the state that it leaves
unfoldable pub byte_of : ℕ → ℕ
byte_of state = state / 2 ^ 56

-- the state after so many draws
unfoldable pub state_after : ℕ → ℕ → ℕ
state_after zero state = state
state_after (suc draws) state = next_state (state_after draws state)

-- the next eight bytes
unfoldable pub drawn : ℕ → List ℕ
drawn state = map (λ draw. byte_of (state_after draw state)) (range_with_len 1 8)

-- the vector that is drawn after so many others, where the generator began at n
unfoldable pub vector_after : ℕ → ℕ → List ℕ
vector_after others n = drawn (state_after (8 * others) n)

-- its numbers with commas between them
abbrev pub vector_text : List ℕ → List ℕ
vector_text vector = join_with_byte 44 (map decimal vector)

abbrev pub create_line : ℕ → List ℕ
create_line n = codes "create 8 32 " ++ decimal n

abbrev pub insert_line : ℕ → List ℕ → List ℕ
insert_line id vector = codes "insert " ++ (decimal id ++ 32 ∷ vector_text vector)

abbrev pub requant_line : List ℕ
requant_line = codes "requant"

abbrev pub convert_line : List ℕ
convert_line = codes "convert 4294967295"

abbrev pub search_line : List ℕ → List ℕ
search_line vector = codes "knn 10 " ++ vector_text vector

-- the ids are 1 to n
unfoldable pub inserts : ℕ → List (List ℕ)
inserts n = map (λ id. insert_line id (vector_after (id - 1) n)) (range_with_len 1 n)

-- they draw on where the inserts ended
unfoldable pub searches : ℕ → List (List ℕ)
searches n = map (λ search. search_line (vector_after (n + search) n)) (range_with_len 0 32)

-- the lines, without their newlines
unfoldable pub script : ℕ → List (List ℕ)
script n = create_line n ∷ (inserts n ++ requant_line ∷ convert_line ∷ searches n)
