-- The one line of a command.
use Rattle.std.specs.Prelude.{ℕ, ◌<◌, ◌≤◌, ◌^◌, List, [], ◌∷◌, ◌++◌, length, map, codes, decimal, Option, None, Some, IfSome}
use Rattle.std.specs.List.{AllByRecursion}
use Rattle.va_lang.specs.Texts.{joined}
use Rattle.va_lang.specs.Command.{Query, Command, create, insert, delete, get, stat, marks, knn, ssa, range, «open», next, close, requant, convert, cert}

-- numbers with a comma between two
abbrev pub list_text : List ℕ → List ℕ
list_text numbers = joined 44 (map decimal numbers)

abbrev pub weights_words : Option (List ℕ) → List (List ℕ)
weights_words None = []
weights_words (Some weights) = (codes "w=" ++ list_text weights) ∷ []

abbrev pub query_words : Query → List (List ℕ)
query_words query = joined 47 (map list_text query.objects) ∷ weights_words query.weights

abbrev pub command_words : Command → List (List ℕ)
command_words (create dims bits capacity) = codes "create" ∷ decimal dims ∷ decimal bits ∷ decimal capacity ∷ []
command_words (insert id vector) = codes "insert" ∷ decimal id ∷ list_text vector ∷ []
command_words (delete id) = codes "delete" ∷ decimal id ∷ []
command_words (get id) = codes "get" ∷ decimal id ∷ []
command_words stat = codes "stat" ∷ []
command_words marks = codes "marks" ∷ []
command_words (knn k query) = codes "knn" ∷ decimal k ∷ query_words query
command_words (ssa k query) = codes "ssa" ∷ decimal k ∷ query_words query
command_words (range radius query) = codes "range" ∷ decimal radius ∷ query_words query
command_words («open» name query) = codes "open" ∷ decimal name ∷ query_words query
command_words (next name) = codes "next" ∷ decimal name ∷ []
command_words (close name) = codes "close" ∷ decimal name ∷ []
command_words requant = codes "requant" ∷ []
command_words (convert n) = codes "convert" ∷ decimal n ∷ []
command_words (cert k query) = codes "cert" ∷ decimal k ∷ query_words query

abbrev pub command_text : Command → List ℕ
command_text command = joined 32 (command_words command)

-- so many at most, one at least, and each has P
pub record IsList {A : Type 0} (most : ℕ) (P : A → Type 0) (list : List A) : Type 0 where
  pub some : 1 ≤ length list
  pub few : length list ≤ most
  pub each : AllByRecursion P list

-- 1 to 256 bytes
abbrev pub IsVector : List ℕ → Type 0
IsVector vector = IsList 256 (λ n. n < 2 ^ 8) vector

-- 1 to 16 vectors, and perhaps 1 to 256 weights
pub record IsQuery (query : Query) : Type 0 where
  pub objects : IsList 16 IsVector query.objects
  pub weights : IfSome query.weights (λ weights. IsList 256 (λ n. n < 2 ^ 16) weights)

-- the numbers of the command are in their ranges
abbrev pub IsCommand : Command → Type 0
IsCommand (create dims bits capacity) = (dims < 2 ^ 16) × (bits < 2 ^ 16) × (capacity < 2 ^ 32)
IsCommand (insert id vector) = (id < 2 ^ 32) × IsVector vector
IsCommand (delete id) = id < 2 ^ 32
IsCommand (get id) = id < 2 ^ 32
IsCommand stat = Unit {0}
IsCommand marks = Unit {0}
IsCommand (knn k query) = (k < 2 ^ 16) × IsQuery query
IsCommand (ssa k query) = (k < 2 ^ 16) × IsQuery query
IsCommand (range radius query) = (radius < 2 ^ 64) × IsQuery query
IsCommand («open» name query) = (name < 64) × IsQuery query
IsCommand (next name) = name < 64
IsCommand (close name) = name < 64
IsCommand requant = Unit {0}
IsCommand (convert n) = (1 ≤ n) × (n < 2 ^ 32)
IsCommand (cert k query) = (k < 2 ^ 16) × IsQuery query
