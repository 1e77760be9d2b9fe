-- A reply on its way: its line in three parts, of which the middle may be long, and what of a text waits to be given.
use Rattle.std.specs.Prelude.{◌≡◌, ℕ, Bool, true, false, List, [], ◌∷◌, ◌++◌, codes}
use Rattle.std.specs.List.{flat_map}
use Rattle.va_disk.specs.Told.{Gives}
use Rattle.va_lang.specs.Reply.{Reply, created, placed, deleted, vector, stat, marks, near, scanned, within, opened, next_pair, at_end, closed, begun, more_left, switched, cert, work, error, filtered_text, pair_text, read_text, reply_text, row_text}
use Rattle.va_lang.specs.Spelling.{list_text}

-- the front of a text was given, and the rest of it waits
pub record Gathers (told : Type 0) (old text waiting new : List ℕ) : Type 0 where
  pub front : List ℕ
  pub is : front ++ waiting ≡ text
  pub given : Gives told old front new

-- the reply has a part in it that is as long as it may be: a list, or a text that it is lent
abbrev pub has_middle : Reply → Bool
has_middle created = false
has_middle (placed place) = false
has_middle (deleted place) = false
has_middle (vector coordinates) = true
has_middle (stat shape live cursors building) = false
has_middle (marks rows) = true
has_middle (near pairs fetched candidates live) = true
has_middle (scanned pairs fetched live) = true
has_middle (within pairs fetched live) = true
has_middle (opened live) = false
has_middle (next_pair pair fetched) = false
has_middle at_end = false
has_middle closed = false
has_middle (begun live) = false
has_middle (more_left done left) = false
has_middle (switched done) = false
has_middle (cert text) = true
has_middle (work n fetched candidates sum) = false
has_middle (error why) = false

-- what stands before that part, or all of the text where there is none
abbrev pub head_text : Reply → List ℕ
head_text created = reply_text created
head_text (placed place) = reply_text (placed place)
head_text (deleted place) = reply_text (deleted place)
head_text (vector coordinates) = codes "vector "
head_text (stat shape live cursors building) = reply_text (stat shape live cursors building)
head_text (marks rows) = codes "marks"
head_text (near pairs fetched candidates live) = codes "near"
head_text (scanned pairs fetched live) = codes "near"
head_text (within pairs fetched live) = codes "within"
head_text (opened live) = reply_text (opened live)
head_text (next_pair pair fetched) = reply_text (next_pair pair fetched)
head_text at_end = reply_text at_end
head_text closed = reply_text closed
head_text (begun live) = reply_text (begun live)
head_text (more_left done left) = reply_text (more_left done left)
head_text (switched done) = reply_text (switched done)
head_text (cert text) = codes "cert "
head_text (work n fetched candidates sum) = reply_text (work n fetched candidates sum)
head_text (error why) = reply_text (error why)

-- the part itself
abbrev pub middle_text : Reply → List ℕ
middle_text created = []
middle_text (placed place) = []
middle_text (deleted place) = []
middle_text (vector coordinates) = list_text coordinates
middle_text (stat shape live cursors building) = []
middle_text (marks rows) = flat_map row_text rows
middle_text (near pairs fetched candidates live) = flat_map pair_text pairs
middle_text (scanned pairs fetched live) = flat_map pair_text pairs
middle_text (within pairs fetched live) = flat_map pair_text pairs
middle_text (opened live) = []
middle_text (next_pair pair fetched) = []
middle_text at_end = []
middle_text closed = []
middle_text (begun live) = []
middle_text (more_left done left) = []
middle_text (switched done) = []
middle_text (cert text) = text
middle_text (work n fetched candidates sum) = []
middle_text (error why) = []

-- what stands behind it, with the newline
abbrev pub tail_text : Reply → List ℕ
tail_text created = 10 ∷ []
tail_text (placed place) = 10 ∷ []
tail_text (deleted place) = 10 ∷ []
tail_text (vector coordinates) = 10 ∷ []
tail_text (stat shape live cursors building) = 10 ∷ []
tail_text (marks rows) = 10 ∷ []
tail_text (near pairs fetched candidates live) = filtered_text fetched candidates live ++ 10 ∷ []
tail_text (scanned pairs fetched live) = read_text fetched live ++ 10 ∷ []
tail_text (within pairs fetched live) = read_text fetched live ++ 10 ∷ []
tail_text (opened live) = 10 ∷ []
tail_text (next_pair pair fetched) = 10 ∷ []
tail_text at_end = 10 ∷ []
tail_text closed = 10 ∷ []
tail_text (begun live) = 10 ∷ []
tail_text (more_left done left) = 10 ∷ []
tail_text (switched done) = 10 ∷ []
tail_text (cert text) = 10 ∷ []
tail_text (work n fetched candidates sum) = 10 ∷ []
tail_text (error why) = 10 ∷ []
