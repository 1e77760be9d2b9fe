-- Which command a line is, if it is one: words with one space between two, numbers in their one decimal form. The table
-- of forms has each command with the words behind its first one.
use Rattle.std.specs.Prelude.{ℕ, ◌+◌, ◌*◌, ◌-◌, ◌^◌, Bool, true, false, List, [], ◌∷◌, ◌&&◌, not, ◌==◌, nat_lt, nat_le, length, take, drop, Option, None, Some, if◌then◌else◌, codes}
use Rattle.std.specs.Option.{option_map}
use Rattle.std.specs.Str.{bytes_eq}
use Rattle.va_lang.specs.Texts.{split_at}
use Rattle.va_lang.specs.Command.{Query, Command, create, insert, delete, get, stat, marks, knn, ssa, range, «open», next, close, requant, convert, cert}

-- the number that these digits stand for, after n
abbrev pub value_after : ℕ → List ℕ → ℕ
value_after n [] = n
value_after n (digit ∷ digits) = value_after (10 * n + (digit - 48)) digits

abbrev pub all_digits : List ℕ → Bool
all_digits [] = true
all_digits (b ∷ bytes) = (nat_le 48 b && nat_le b 57) && all_digits bytes

-- one byte, or bytes that don't begin with a zero
abbrev pub has_one_form : List ℕ → Bool
has_one_form [] = false
has_one_form (b ∷ []) = true
has_one_form (b ∷ c ∷ bytes) = not (b == 48)

abbrev pub is_numeral : List ℕ → Bool
is_numeral text = has_one_form text && all_digits text

-- the number below the limit that the text is, if it is one
abbrev pub number_below : ℕ → List ℕ → Option ℕ
number_below limit text =
    if is_numeral text && nat_lt (value_after 0 text) limit then Some (value_after 0 text) else None

-- what these texts are read as, if all are
abbrev pub onto : {A : Type 0} → Option A → Option (List A) → Option (List A)
onto None read = None
onto (Some a) None = None
onto (Some a) (Some read) = Some (a ∷ read)

abbrev pub all_read : {A : Type 0} → (List ℕ → Option A) → List (List ℕ) → Option (List A)
all_read read [] = Some []
all_read read (text ∷ texts) = onto (read text) (all_read read texts)

abbrev pub at_most : {A : Type 0} → ℕ → Option (List A) → Option (List A)
at_most most None = None
at_most most (Some all) = if nat_le (length all) most then Some all else None

-- what a text has between separators, so many at most
abbrev pub separated : {A : Type 0} → ℕ → ℕ → (List ℕ → Option A) → List ℕ → Option (List A)
separated separator most read text = at_most most (all_read read (split_at separator text))

-- a form V: coordinates, each a byte, with commas
abbrev pub vector_of : List ℕ → Option (List ℕ)
vector_of text = separated 44 256 (number_below (2 ^ 8)) text

-- the objects of a query: forms V with slashes
abbrev pub objects_of : List ℕ → Option (List (List ℕ))
objects_of text = separated 47 16 vector_of text

abbrev pub weights_of : List ℕ → Option (List ℕ)
weights_of word = if bytes_eq (take 2 word) (codes "w=") then separated 44 256 (number_below (2 ^ 16)) (drop 2 word) else None

-- the words behind the objects: perhaps one of weights
abbrev pub weighing : List (List ℕ) → Option (Option (List ℕ))
weighing [] = Some None
weighing (word ∷ []) = option_map (λ weights. Some weights) (weights_of word)
weighing (word ∷ second ∷ words) = None

abbrev pub weighed : Option (List (List ℕ)) → Option (Option (List ℕ)) → Option Query
weighed None weights = None
weighed (Some objects) None = None
weighed (Some objects) (Some weights) = Some (record { objects = objects; weights = weights })

-- a form Q: the objects, and what stands behind them
abbrev pub query_of : List (List ℕ) → Option Query
query_of [] = None
query_of (text ∷ words) = weighed (objects_of text) (weighing words)

-- the fields of a command: none
abbrev pub alone : Command → List (List ℕ) → Option Command
alone command [] = Some command
alone command (word ∷ words) = None

-- the one word there, if there is just one
abbrev pub sole : List (List ℕ) → Option (List ℕ)
sole [] = None
sole (word ∷ []) = Some word
sole (word ∷ second ∷ words) = None

abbrev pub number_in : ℕ → Option (List ℕ) → Option ℕ
number_in limit None = None
number_in limit (Some text) = number_below limit text

abbrev pub above_zero : Option ℕ → Option ℕ
above_zero None = None
above_zero (Some n) = if n == 0 then None else Some n

-- one number
abbrev pub numbered : ℕ → (ℕ → Command) → List (List ℕ) → Option Command
numbered limit make words = option_map make (number_in limit (sole words))

-- one number above 0
abbrev pub counted : ℕ → (ℕ → Command) → List (List ℕ) → Option Command
counted limit make words = option_map make (above_zero (number_in limit (sole words)))

-- a number's text, and a query
abbrev pub text_and_query : List (List ℕ) → Option (List ℕ × Query)
text_and_query [] = None
text_and_query (text ∷ words) = option_map (λ query. (text, query)) (query_of words)

abbrev pub about : ℕ → (ℕ → Query → Command) → Option (List ℕ × Query) → Option Command
about limit make None = None
about limit make (Some asked) = option_map (λ n. make n asked.1) (number_below limit asked.0)

-- a number and a query
abbrev pub asking : ℕ → (ℕ → Query → Command) → List (List ℕ) → Option Command
asking limit make words = about limit make (text_and_query words)

-- an id and a vector
abbrev pub insert_of : Option ℕ → Option (List ℕ) → Option Command
insert_of None vector = None
insert_of (Some id) None = None
insert_of (Some id) (Some vector) = Some (insert id vector)

abbrev pub inserting : List (List ℕ) → Option Command
inserting [] = None
inserting (one ∷ []) = None
inserting (one ∷ two ∷ []) = insert_of (number_below (2 ^ 32) one) (vector_of two)
inserting (one ∷ two ∷ three ∷ words) = None

-- the three numbers of a shape
abbrev pub create_of : Option ℕ → Option ℕ → Option ℕ → Option Command
create_of None bits capacity = None
create_of (Some dims) None capacity = None
create_of (Some dims) (Some bits) None = None
create_of (Some dims) (Some bits) (Some capacity) = Some (create dims bits capacity)

abbrev pub creating : List (List ℕ) → Option Command
creating [] = None
creating (one ∷ []) = None
creating (one ∷ two ∷ []) = None
creating (one ∷ two ∷ three ∷ []) = create_of (number_below (2 ^ 16) one) (number_below (2 ^ 16) two) (number_below (2 ^ 32) three)
creating (one ∷ two ∷ three ∷ four ∷ words) = None

-- a command's first word, and what its further words are read as
pub record Form : Type 0 where
  pub word : List ℕ
  pub fields : List (List ℕ) → Option Command

abbrev pub form : List ℕ → (List (List ℕ) → Option Command) → Form
form word fields = record { word = word; fields = fields }

-- the commands about the store and its places
abbrev pub store_forms : List Form
store_forms =
    form (codes "create") creating
    ∷ form (codes "insert") inserting
    ∷ form (codes "delete") (numbered (2 ^ 32) (λ id. delete id))
    ∷ form (codes "get") (numbered (2 ^ 32) (λ id. get id))
    ∷ form (codes "stat") (alone stat)
    ∷ form (codes "marks") (alone marks)
    ∷ []

-- the searches
abbrev pub search_forms : List Form
search_forms =
    form (codes "knn") (asking (2 ^ 16) (λ k query. knn k query))
    ∷ form (codes "ssa") (asking (2 ^ 16) (λ k query. ssa k query))
    ∷ form (codes "range") (asking (2 ^ 64) (λ radius query. range radius query))
    ∷ form (codes "cert") (asking (2 ^ 16) (λ k query. cert k query))
    ∷ []

-- the cursors and the building, which end with the run
abbrev pub session_forms : List Form
session_forms =
    form (codes "open") (asking 64 (λ name query. «open» name query))
    ∷ form (codes "next") (numbered 64 (λ name. next name))
    ∷ form (codes "close") (numbered 64 (λ name. close name))
    ∷ form (codes "requant") (alone requant)
    ∷ form (codes "convert") (counted (2 ^ 32) (λ n. convert n))
    ∷ []

-- what the row with this first word reads, or else another table
abbrev pub read_by : List Form → List ℕ → List (List ℕ) → Option Command → Option Command
read_by [] word words otherwise = otherwise
read_by (row ∷ rows) word words otherwise = if bytes_eq word row.word then row.fields words else read_by rows word words otherwise

abbrev pub command_of_words : List (List ℕ) → Option Command
command_of_words [] = None
command_of_words (word ∷ words) =
    read_by store_forms word words (read_by search_forms word words (read_by session_forms word words None))

-- the command that a line is, if it is one
abbrev pub command_of : List ℕ → Option Command
command_of line = command_of_words (split_at 32 line)
