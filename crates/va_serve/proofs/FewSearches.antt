-- The script has 32 lines that search for the nearest.
use Rattle.std.proofs.Common.{◌≡◌, ◌≤◌, ℕ, ◌-◌, ◌^◌, true, false, List, [], ◌∷◌, ◌++◌, Option, None, Some, codes, length, map, refl, ap, ◌∙◌, arith, if◌then◌else◌}
use Rattle.std.proofs.lemmas.List.{length-map, map-append}
use Rattle.std.specs.Prelude.{decimal, nat_le}
use Rattle.std.specs.List.{range_with_len}
use Rattle.va_lang.specs.Grammar.{command_of, create_of, creating, insert_of, inserting, number_below, vector_of}
use Rattle.va_lang.specs.Texts.{split_at}
use Rattle.va_model.specs.Lines.{Line, line_of, long, text}
use Rattle.va_model.specs.Silent.{asks_nearest_in, asks_nearest_of, nearest_lines}
use Rattle.va_model.proofs.Sums.{nearest_append, nearest_at_most}
use Rattle.va_script.specs.Script.{convert_line, create_line, insert_line, inserts, requant_line, script, searches, vector_after, vector_text}
use Rattle.va_script.proofs.Lines.{length_searches}

insert_other : (id : Option ℕ) (vector : Option (List ℕ)) → asks_nearest_of (insert_of id vector) ≡ false
insert_other None vector = refl
insert_other (Some id) None = refl
insert_other (Some id) (Some vector) = refl

inserting_other : (words : List (List ℕ)) → asks_nearest_of (inserting words) ≡ false
inserting_other [] = refl
inserting_other (one ∷ []) = refl
inserting_other (one ∷ two ∷ []) = insert_other (number_below (2 ^ 32) one) (vector_of two)
inserting_other (one ∷ two ∷ three ∷ words) = refl

create_other : (dims bits capacity : Option ℕ) → asks_nearest_of (create_of dims bits capacity) ≡ false
create_other None bits capacity = refl
create_other (Some dims) None capacity = refl
create_other (Some dims) (Some bits) None = refl
create_other (Some dims) (Some bits) (Some capacity) = refl

creating_other : (words : List (List ℕ)) → asks_nearest_of (creating words) ≡ false
creating_other [] = refl
creating_other (one ∷ []) = refl
creating_other (one ∷ two ∷ []) = refl
creating_other (one ∷ two ∷ three ∷ []) = create_other (number_below (2 ^ 16) one) (number_below (2 ^ 16) two) (number_below (2 ^ 32) three)
creating_other (one ∷ two ∷ three ∷ four ∷ words) = refl

-- a line may be too long to be run
line_other : (part : List ℕ) → asks_nearest_of (command_of part) ≡ false → asks_nearest_in (line_of part) ≡ false
line_other part other = elim (nat_le (length part) 65535) as (λ fits. asks_nearest_in (if fits then text part else long) ≡ false) [
  | true ↦ other
  | false ↦ refl
]

insert_line_other : (id : ℕ) (vector : List ℕ) → asks_nearest_in (line_of (insert_line id vector)) ≡ false
insert_line_other id vector = line_other (insert_line id vector) (inserting_other (split_at 32 (decimal id ++ 32 ∷ vector_text vector)))

create_line_other : (n : ℕ) → asks_nearest_in (line_of (create_line n)) ≡ false
create_line_other n = line_other (create_line n) (creating_other (split_at 32 (codes "8 32 " ++ decimal n)))

one_other : (line : Line) (lines : List Line) → asks_nearest_in line ≡ false → nearest_lines (line ∷ lines) ≡ nearest_lines lines
one_other line lines other = rw other (omega arith)

inserts_other : (n : ℕ) (ids : List ℕ) → nearest_lines (map line_of (map (λ id. insert_line id (vector_after (id - 1) n)) ids)) ≡ 0
inserts_other n [] = refl
inserts_other n (id ∷ ids) =
    one_other (line_of (insert_line id (vector_after (id - 1) n))) (map line_of (map (λ id. insert_line id (vector_after (id - 1) n)) ids)) (insert_line_other id (vector_after (id - 1) n)) ∙ inserts_other n ids

behind_few : (n : ℕ) → nearest_lines (map line_of (requant_line ∷ convert_line ∷ searches n)) ≤ 32
behind_few n = omega (arith, nearest_at_most (map line_of (searches n)), length-map (searches n) line_of, length_searches n)

pub few_searches : (n : ℕ) → nearest_lines (map line_of (script n)) ≤ 32
unfolding script inserts
few_searches n =
    let behind = requant_line ∷ convert_line ∷ searches n in
    omega (
      arith,
      one_other (line_of (create_line n)) (map line_of (inserts n ++ behind)) (create_line_other n),
      ap nearest_lines (map-append line_of (inserts n) behind),
      nearest_append (map line_of (inserts n)) (map line_of behind),
      inserts_other n (range_with_len 1 n),
      behind_few n,
    )
