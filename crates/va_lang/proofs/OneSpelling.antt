-- A command has one line.
use Rattle.std.proofs.Common.{◌≡◌, ℕ, ◌^◌, ◌<◌, ◌≤◌, Bool, true, false, List, [], ◌∷◌, Option, Some, None, decimal, codes, eqb, if◌then◌else◌, refl, ap, sym, ◌∙◌, subst, lit≤, arith}
use Rattle.std.specs.List.{AllByRecursion}
use Rattle.std.specs.Option.{option_map}
use Rattle.std.specs.Str.{bytes_eq}
use Rattle.std.proofs.lemmas.Bool.Decides.{nat_tests}
use Rattle.va_lang.specs.Command.{Query, Command, create, insert, delete, get, stat, marks, knn, ssa, range, «open», next, close, requant, convert, cert}
use Rattle.va_lang.specs.Grammar.{Form, number_below, number_in, sole, above_zero, vector_of, query_of, about, alone, numbered, counted, asking, insert_of, inserting, create_of, creating, store_forms, search_forms, session_forms, read_by, command_of_words, command_of}
use Rattle.va_lang.specs.Spelling.{query_words, command_words, command_text, IsQuery, IsCommand}
use Rattle.va_lang.specs.Texts.{split_at, joined}
use Rattle.va_lang.proofs.Numerals.{number_spelled}
use Rattle.va_lang.proofs.QuerySpelling.{same_word, vector_spelled, query_spelled}
use Rattle.va_lang.proofs.Separated.{joined_split}

-- these words spell this command, whose numbers are in range
record Spells (words : List (List ℕ)) (command : Command) : Type 0 where
  are : words ≡ command_words command
  ranges : IsCommand command

spells_same : (words : List (List ℕ)) (found command : Command) → Some found ≡ Some command → words ≡ command_words found → IsCommand found → Spells words command
spells_same words found command e are ranges =
    let same : found ≡ command = cc in
    let P : Command → Type 0 = λ command. Spells words command in
    subst P same (record { are = are; ranges = ranges })

-- whatever a row of the table reads is spelled by the row's word and the words that it read
abbrev IsSpelled : Form → Type 0
IsSpelled row = (words : List (List ℕ)) (command : Command) → row.fields words ≡ Some command → Spells (row.word ∷ words) command

alone_spelled : (name : List ℕ) (made : Command) → command_words made ≡ name ∷ [] → IsCommand made →
    (words : List (List ℕ)) (command : Command) → alone made words ≡ Some command → Spells (name ∷ words) command
alone_spelled name made spelling ranges [] command e = spells_same (name ∷ []) made command e (sym spelling) ranges
alone_spelled name made spelling ranges (word ∷ words) command e = cc

-- one word is the text of a number
number_of_words : (words : List (List ℕ)) (text : List ℕ) → sole words ≡ Some text → words ≡ text ∷ []
number_of_words [] text e = cc
number_of_words (word ∷ []) text e = cc
number_of_words (word ∷ second ∷ words) text e = cc

module _ (limit : ℕ) (fits : limit ≤ 2 ^ 64) where
  word_of_number : (words : List (List ℕ)) (word : Option (List ℕ)) (n : ℕ) → sole words ≡ word → number_in limit word ≡ Some n →
      (words ≡ decimal n ∷ []) × (n < limit)
  word_of_number words None n is e = cc
  word_of_number words (Some text) n is e =
      let number = number_spelled limit fits text n e in
      (number_of_words words text is ∙ ap (λ (l : List ℕ). l ∷ []) number.0, number.1)

  module _ (name : List ℕ) (make : ℕ → Command) (spelling : (n : ℕ) → command_words (make n) ≡ name ∷ decimal n ∷ []) where
    made_spelled : (words : List (List ℕ)) (n : ℕ) (command : Command) → (words ≡ decimal n ∷ []) → IsCommand (make n) →
        Some (make n) ≡ Some command → Spells (name ∷ words) command
    made_spelled words n command are ranges e = spells_same (name ∷ words) (make n) command e (ap (λ (l : List (List ℕ)). name ∷ l) are ∙ sym (spelling n)) ranges

    numbered_at : (words : List (List ℕ)) (n : Option ℕ) (command : Command) → ((n : ℕ) → n < limit → IsCommand (make n)) →
        number_in limit (sole words) ≡ n → option_map make n ≡ Some command → Spells (name ∷ words) command
    numbered_at words None command ranges is e = cc
    numbered_at words (Some n) command ranges is e =
        let number = word_of_number words (sole words) n refl is in
        made_spelled words n command number.0 (ranges n number.1) e

    numbered_spelled : ((n : ℕ) → n < limit → IsCommand (make n)) → (words : List (List ℕ)) (command : Command) → numbered limit make words ≡ Some command → Spells (name ∷ words) command
    numbered_spelled ranges words command e = numbered_at words (number_in limit (sole words)) command ranges refl e

    counted_some : (is_zero : Bool) (words : List (List ℕ)) (n : ℕ) (command : Command) → ((n : ℕ) → 1 ≤ n → n < limit → IsCommand (make n)) →
        number_in limit (sole words) ≡ Some n → eqb n 0 ≡ is_zero → option_map make (if is_zero then None else Some n) ≡ Some command → Spells (name ∷ words) command
    counted_some true words n command ranges read is e = cc
    counted_some false words n command ranges read is e =
        let number = word_of_number words (sole words) n refl read in
        let some : 1 ≤ n = grind (arith, nat_tests) in
        made_spelled words n command number.0 (ranges n some number.1) e

    counted_at : (words : List (List ℕ)) (n : Option ℕ) (command : Command) → ((n : ℕ) → 1 ≤ n → n < limit → IsCommand (make n)) →
        number_in limit (sole words) ≡ n → option_map make (above_zero n) ≡ Some command → Spells (name ∷ words) command
    counted_at words None command ranges is e = cc
    counted_at words (Some n) command ranges is e = counted_some (eqb n 0) words n command ranges is refl e

    counted_spelled : ((n : ℕ) → 1 ≤ n → n < limit → IsCommand (make n)) → (words : List (List ℕ)) (command : Command) → counted limit make words ≡ Some command → Spells (name ∷ words) command
    counted_spelled ranges words command e = counted_at words (number_in limit (sole words)) command ranges refl e

  module _ (name : List ℕ) (make : ℕ → Query → Command) (spelling : (n : ℕ) (query : Query) → command_words (make n query) ≡ name ∷ decimal n ∷ query_words query)
      (ranges : (n : ℕ) (query : Query) → n < limit → IsQuery query → IsCommand (make n query)) where
    asked_at : (text : List ℕ) (words : List (List ℕ)) (n : Option ℕ) (query : Query) (command : Command) → query_of words ≡ Some query →
        number_below limit text ≡ n → option_map (λ n. make n query) n ≡ Some command → Spells (name ∷ text ∷ words) command
    asked_at text words None query command asked is e = cc
    asked_at text words (Some n) query command asked is e =
        let number = number_spelled limit fits text n is in
        let spells = query_spelled words query asked in
        spells_same (name ∷ text ∷ words) (make n query) command e (rw (number.0, spells.are) (sym (spelling n query))) (ranges n query number.1 spells.ranges)

    about_at : (text : List ℕ) (words : List (List ℕ)) (query : Option Query) (command : Command) → query_of words ≡ query →
        about limit make (option_map (λ query. (text, query)) query) ≡ Some command → Spells (name ∷ text ∷ words) command
    about_at text words None command is e = cc
    about_at text words (Some query) command is e = asked_at text words (number_below limit text) query command is refl e

    asking_spelled : (words : List (List ℕ)) (command : Command) → asking limit make words ≡ Some command → Spells (name ∷ words) command
    asking_spelled [] command e = cc
    asking_spelled (text ∷ words) command e = about_at text words (query_of words) command refl e

insert_at : (one two : List ℕ) (i : Option ℕ) (v : Option (List ℕ)) (command : Command) → number_below (2 ^ 32) one ≡ i → vector_of two ≡ v →
    insert_of i v ≡ Some command → Spells (codes "insert" ∷ one ∷ two ∷ []) command
insert_at one two None v command ri rv e = cc
insert_at one two (Some i) None command ri rv e = cc
insert_at one two (Some i) (Some v) command ri rv e =
    let id = number_spelled (2 ^ 32) (lit≤ tt) one i ri in
    let vector = vector_spelled two v rv in
    spells_same (codes "insert" ∷ one ∷ two ∷ []) (insert i v) command e (rw (id.0, vector.0) refl) (id.1, vector.1)

insert_spelled : (words : List (List ℕ)) (command : Command) → inserting words ≡ Some command → Spells (codes "insert" ∷ words) command
insert_spelled [] command e = cc
insert_spelled (one ∷ []) command e = cc
insert_spelled (one ∷ two ∷ []) command e = insert_at one two (number_below (2 ^ 32) one) (vector_of two) command refl refl e
insert_spelled (one ∷ two ∷ three ∷ words) command e = cc

create_at : (one two three : List ℕ) (d b c : Option ℕ) (command : Command) → number_below (2 ^ 16) one ≡ d → number_below (2 ^ 16) two ≡ b →
    number_below (2 ^ 32) three ≡ c → create_of d b c ≡ Some command → Spells (codes "create" ∷ one ∷ two ∷ three ∷ []) command
create_at one two three None b c command rd rb rc e = cc
create_at one two three (Some d) None c command rd rb rc e = cc
create_at one two three (Some d) (Some b) None command rd rb rc e = cc
create_at one two three (Some d) (Some b) (Some c) command rd rb rc e =
    let dims = number_spelled (2 ^ 16) (lit≤ tt) one d rd in
    let bits = number_spelled (2 ^ 16) (lit≤ tt) two b rb in
    let capacity = number_spelled (2 ^ 32) (lit≤ tt) three c rc in
    spells_same (codes "create" ∷ one ∷ two ∷ three ∷ []) (create d b c) command e (rw (dims.0, bits.0, capacity.0) refl) (dims.1, bits.1, capacity.1)

create_spelled : (words : List (List ℕ)) (command : Command) → creating words ≡ Some command → Spells (codes "create" ∷ words) command
create_spelled [] command e = cc
create_spelled (one ∷ []) command e = cc
create_spelled (one ∷ two ∷ []) command e = cc
create_spelled (one ∷ two ∷ three ∷ []) command e = create_at one two three (number_below (2 ^ 16) one) (number_below (2 ^ 16) two) (number_below (2 ^ 32) three) command refl refl refl e
create_spelled (one ∷ two ∷ three ∷ four ∷ words) command e = cc

stores_spelled : AllByRecursion IsSpelled store_forms
stores_spelled = (
  create_spelled,
  (
    insert_spelled,
    (
      numbered_spelled (2 ^ 32) (lit≤ tt) (codes "delete") (λ id. delete id) (λ n. refl) (λ n less. less),
      (
        numbered_spelled (2 ^ 32) (lit≤ tt) (codes "get") (λ id. get id) (λ n. refl) (λ n less. less),
        (
          alone_spelled (codes "stat") stat refl tt,
          (
            alone_spelled (codes "marks") marks refl tt,
            tt,
          ),
        ),
      ),
    ),
  ),
)

searches_spelled : AllByRecursion IsSpelled search_forms
searches_spelled = (
  asking_spelled (2 ^ 16) (lit≤ tt) (codes "knn") (λ k query. knn k query) (λ n q. refl) (λ n q less is. (less, is)),
  (
    asking_spelled (2 ^ 16) (lit≤ tt) (codes "ssa") (λ k query. ssa k query) (λ n q. refl) (λ n q less is. (less, is)),
    (
      asking_spelled (2 ^ 64) (lit≤ tt) (codes "range") (λ radius query. range radius query) (λ n q. refl) (λ n q less is. (less, is)),
      (
        asking_spelled (2 ^ 16) (lit≤ tt) (codes "cert") (λ k query. cert k query) (λ n q. refl) (λ n q less is. (less, is)),
        tt,
      ),
    ),
  ),
)

sessions_spelled : AllByRecursion IsSpelled session_forms
sessions_spelled = (
  asking_spelled 64 (lit≤ tt) (codes "open") (λ name query. «open» name query) (λ n q. refl) (λ n q less is. (less, is)),
  (
    numbered_spelled 64 (lit≤ tt) (codes "next") (λ name. next name) (λ n. refl) (λ n less. less),
    (
      numbered_spelled 64 (lit≤ tt) (codes "close") (λ name. close name) (λ n. refl) (λ n less. less),
      (
        alone_spelled (codes "requant") requant refl tt,
        (
          counted_spelled (2 ^ 32) (lit≤ tt) (codes "convert") (λ n. convert n) (λ n. refl) (λ n some less. (some, less)),
          tt,
        ),
      ),
    ),
  ),
)

-- the row whose word stands first reads the others
row_at : (matches : Bool) (row : Form) (others : Option Command) (word : List ℕ) (words : List (List ℕ)) (command : Command) → bytes_eq word row.word ≡ matches →
    IsSpelled row → (others ≡ Some command → Spells (word ∷ words) command) →
    (if matches then row.fields words else others) ≡ Some command → Spells (word ∷ words) command
row_at true row others word words command is spelled behind e = rw (same_word word row.word is) (spelled words command e)
row_at false row others word words command is spelled behind e = behind e

rows_spelled : (rows : List Form) → AllByRecursion IsSpelled rows → (word : List ℕ) (words : List (List ℕ)) (otherwise : Option Command) (command : Command) →
    (otherwise ≡ Some command → Spells (word ∷ words) command) → read_by rows word words otherwise ≡ Some command → Spells (word ∷ words) command
rows_spelled [] all word words otherwise command behind e = behind e
rows_spelled (row ∷ rows) all word words otherwise command behind e =
    row_at (bytes_eq word row.word) row (read_by rows word words otherwise) word words command refl all.0 (λ e. rows_spelled rows all.1 word words otherwise command behind e) e

words_spelled : (words : List (List ℕ)) (command : Command) → command_of_words words ≡ Some command → Spells words command
words_spelled [] command e = cc
words_spelled (word ∷ words) command e =
    rows_spelled store_forms stores_spelled word words _ command
    (λ e. rows_spelled search_forms searches_spelled word words _ command (λ e. rows_spelled session_forms sessions_spelled word words None command (λ e. cc) e) e) e

-- the line is the text of its command
pub line_spelled : (line : List ℕ) (command : Command) → command_of line ≡ Some command → line ≡ command_text command
line_spelled line command e = sym (joined_split 32 line) ∙ ap (joined 32) (words_spelled (split_at 32 line) command e).are

pub line_in_ranges : (line : List ℕ) (command : Command) → command_of line ≡ Some command → IsCommand command
line_in_ranges line command e = (words_spelled (split_at 32 line) command e).ranges
