-- Vectors as CSV: the records of a text, the line of a record, and the record of a vector.
use Rattle.std.specs.Prelude.{ℕ, List, [], ◌∷◌, ◌++◌, map, drop, codes, decimal}
use Rattle.std.specs.List.{join_with_byte}
use Rattle.csv.specs.Reading.{records, default_config, strip_bom}

-- the records that csv reads in a text, as their fields: none of them is a header, and a byte order mark isn't read
abbrev pub records_of : List ℕ → List (List (List ℕ))
records_of text = records default_config (strip_bom text)

-- the field that stands for the id
abbrev pub id_of : List (List ℕ) → List ℕ
id_of [] = []
id_of (id ∷ coordinates) = id

-- the line that inserts a record
abbrev pub line_of : List (List ℕ) → List ℕ
line_of fields = codes "insert " ++ (id_of fields ++ 32 ∷ join_with_byte 44 (drop 1 fields))

abbrev pub lines_of : List ℕ → List (List ℕ)
lines_of text = map line_of (records_of text)

-- the record of an id and a vector, with a newline
abbrev pub row_of : ℕ → List ℕ → List ℕ
row_of id vector = join_with_byte 44 (map decimal (id ∷ vector)) ++ 10 ∷ []
