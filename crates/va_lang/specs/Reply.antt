-- The replies, one constructor for each, and their texts.
use Rattle.std.specs.Prelude.{◌≡◌, ℕ, true, List, [], ◌∷◌, ◌++◌, codes, decimal, Option, None, Some}
use Rattle.std.specs.List.{flat_map}
use Rattle.va_core.specs.Shape as shapes
use Rattle.va_lang.specs.Spelling.{list_text}
use Rattle.va_core.specs.declared.pair.Pair.{Pair}
use Rattle.va_lang.specs.declared.reply.Why.{Why}
use Rattle.va_lang.specs.declared.reply.Why.TheVariants.{Long, Syntax, NoStore, Exists, Shape, Length, Duplicate, Full, Unknown, K, Busy, Idle, Cursor, Limit, Memory}
use Rattle.va_core.specs.Texts.{IsOneLine}

pub data Reply : Type 0 where
  created : Reply
  placed : ℕ → Reply
  deleted : ℕ → Reply
  vector : List ℕ → Reply
  stat : shapes.Shape → ℕ → ℕ → Option (Option ℕ) → Reply
  marks : List (List ℕ) → Reply
  near : List Pair → ℕ → ℕ → ℕ → Reply
  scanned : List Pair → ℕ → ℕ → Reply
  within : List Pair → ℕ → ℕ → Reply
  opened : ℕ → Reply
  next_pair : Pair → ℕ → Reply
  at_end : Reply
  closed : Reply
  begun : ℕ → Reply
  more_left : ℕ → ℕ → Reply
  switched : ℕ → Reply
  cert : List ℕ → Reply
  work : ℕ → ℕ → ℕ → ℕ → Reply
  error : Why → Reply

abbrev pub why_text : Why → List ℕ
why_text Long = codes "long"
why_text Syntax = codes "syntax"
why_text NoStore = codes "no-store"
why_text Exists = codes "exists"
why_text Shape = codes "shape"
why_text Length = codes "length"
why_text Duplicate = codes "duplicate"
why_text Full = codes "full"
why_text Unknown = codes "unknown"
why_text K = codes "k"
why_text Busy = codes "busy"
why_text Idle = codes "idle"
why_text Cursor = codes "cursor"
why_text Limit = codes "limit"
why_text Memory = codes "memory"

abbrev pub pair_text : Pair → List ℕ
pair_text pair = codes " " ++ decimal pair.id ++ codes ":" ++ decimal pair.dist

-- the marks of a dimension behind those before
abbrev pub row_text : List ℕ → List ℕ
row_text row = codes " " ++ list_text row

-- so many of something, behind its word
abbrev pub count_text : List ℕ → ℕ → List ℕ
count_text word n = word ++ decimal n

-- how much a search read, and of how much
abbrev pub read_text : ℕ → ℕ → List ℕ
read_text fetched live = count_text (codes " fetched ") fetched ++ count_text (codes " live ") live

-- the same with the candidates
abbrev pub filtered_text : ℕ → ℕ → ℕ → List ℕ
filtered_text fetched candidates live =
    count_text (codes " fetched ") fetched ++ count_text (codes " candidates ") candidates ++ count_text (codes " live ") live

-- no building, one that has converted nothing yet, or the last id that it converted
abbrev pub building_text : Option (Option ℕ) → List ℕ
building_text None = codes "no"
building_text (Some None) = codes "yes"
building_text (Some (Some id)) = decimal id

-- the text of a reply, without its newline
abbrev pub reply_text : Reply → List ℕ
reply_text created = codes "created"
reply_text (placed place) = codes "placed " ++ decimal place
reply_text (deleted place) = codes "deleted " ++ decimal place
reply_text (vector coordinates) = codes "vector " ++ list_text coordinates
reply_text (stat shape live cursors building) =
    codes "stat dims " ++ decimal shape.dims ++ codes " bits " ++ decimal shape.bits ++ codes " capacity " ++ decimal shape.capacity
    ++ codes " live " ++ decimal live ++ codes " cursors " ++ decimal cursors ++ codes " building " ++ building_text building
reply_text (marks rows) = codes "marks" ++ flat_map row_text rows
reply_text (near pairs fetched candidates live) = codes "near" ++ flat_map pair_text pairs ++ filtered_text fetched candidates live
reply_text (scanned pairs fetched live) = codes "near" ++ flat_map pair_text pairs ++ read_text fetched live
reply_text (within pairs fetched live) = codes "within" ++ flat_map pair_text pairs ++ read_text fetched live
reply_text (opened live) = codes "opened " ++ decimal live
reply_text (next_pair pair fetched) = codes "next" ++ pair_text pair ++ count_text (codes " fetched ") fetched
reply_text at_end = codes "end"
reply_text closed = codes "closed"
reply_text (begun live) = codes "building " ++ decimal live
reply_text (more_left done left) = codes "more " ++ decimal done ++ codes " " ++ decimal left
reply_text (switched done) = codes "switched " ++ decimal done
reply_text (cert text) = codes "cert " ++ text
reply_text (work n fetched candidates sum) =
    count_text (codes "work ") n ++ count_text (codes " fetched ") fetched ++ count_text (codes " candidates ") candidates ++ count_text (codes " sum ") sum
reply_text (error why) = codes "error " ++ why_text why

-- the line that is given for a reply
abbrev pub reply_line : Reply → List ℕ
reply_line reply = reply_text reply ++ 10 ∷ []

-- what a reply is lent is one line
abbrev pub LendsLine : Reply → Type 0
LendsLine created = Unit {0}
LendsLine (placed place) = Unit {0}
LendsLine (deleted place) = Unit {0}
LendsLine (vector coordinates) = Unit {0}
LendsLine (stat shape live cursors building) = Unit {0}
LendsLine (marks rows) = Unit {0}
LendsLine (near pairs fetched candidates live) = Unit {0}
LendsLine (scanned pairs fetched live) = Unit {0}
LendsLine (within pairs fetched live) = Unit {0}
LendsLine (opened live) = Unit {0}
LendsLine (next_pair pair fetched) = Unit {0}
LendsLine at_end = Unit {0}
LendsLine closed = Unit {0}
LendsLine (begun live) = Unit {0}
LendsLine (more_left done left) = Unit {0}
LendsLine (switched done) = Unit {0}
LendsLine (cert text) = IsOneLine text
LendsLine (work n fetched candidates sum) = Unit {0}
LendsLine (error why) = Unit {0}
