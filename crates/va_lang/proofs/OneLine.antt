-- No reply holds a newline, where the text that it is lent holds none.
use Rattle.std.proofs.Common.{ℕ, ◌<◌, Option, None, Some, List, [], ◌∷◌, ◌++◌, codes, decimal, refl, lit<}
use Rattle.std.specs.List.{flat_map}
use Rattle.va_core.specs.declared.pair.Pair.{Pair}
use Rattle.va_lang.specs.declared.reply.Why.{Why}
use Rattle.va_lang.specs.declared.reply.Why.TheVariants.{Long, Syntax, NoStore, Exists, Shape, Length, Duplicate, Full, Unknown, K, Busy, Idle, Cursor, Limit, Memory}
use Rattle.va_lang.specs.Reply.{Reply, created, placed, deleted, vector, stat, marks, near, scanned, within, opened, next_pair, at_end, closed, begun, more_left, switched, cert, work, error, LendsLine, building_text, count_text, filtered_text, read_text, row_text, why_text, pair_text, reply_text}
use Rattle.va_lang.specs.Grammar.{number_below}
use Rattle.va_lang.specs.Spelling.{list_text}
use Rattle.va_lang.proofs.Spelled.{separated_lacks}
use Rattle.va_core.specs.Texts.{IsOneLine}
use Rattle.va_core.proofs.Texts.{lacks_both, decimal_lacks}

number : (n : ℕ) → IsOneLine (decimal n)
number n = decimal_lacks 10 n (lit< tt)

word : (why : Why) → IsOneLine (why_text why)
word Long = refl
word Syntax = refl
word NoStore = refl
word Exists = refl
word Shape = refl
word Length = refl
word Duplicate = refl
word Full = refl
word Unknown = refl
word K = refl
word Busy = refl
word Idle = refl
word Cursor = refl
word Limit = refl
word Memory = refl

pair : (p : Pair) → IsOneLine (pair_text p)
pair p = lacks_both 10 (decimal p.id ++ codes ":") (decimal p.dist) (lacks_both 10 (decimal p.id) (codes ":") (number p.id) refl) (number p.dist)

pairs : (ps : List Pair) → IsOneLine (flat_map pair_text ps)
pairs [] = refl
pairs (p ∷ ps) = lacks_both 10 (pair_text p) (flat_map pair_text ps) (pair p) (pairs ps)

building_lacks : (b : Option (Option ℕ)) → IsOneLine (building_text b)
building_lacks None = refl
building_lacks (Some None) = refl
building_lacks (Some (Some id)) = number id

count : (text : List ℕ) (n : ℕ) → IsOneLine text → IsOneLine (count_text text n)
count text n e = lacks_both 10 text (decimal n) e (number n)

live_count : (live : ℕ) → IsOneLine (count_text (codes " live ") live)
live_count live = count (codes " live ") live refl

fetched_count : (fetched : ℕ) → IsOneLine (count_text (codes " fetched ") fetched)
fetched_count fetched = count (codes " fetched ") fetched refl

read : (fetched live : ℕ) → IsOneLine (read_text fetched live)
read fetched live = lacks_both 10 (count_text (codes " fetched ") fetched) (count_text (codes " live ") live) (fetched_count fetched) (live_count live)

filtered : (fetched candidates live : ℕ) → IsOneLine (filtered_text fetched candidates live)
filtered fetched candidates live =
    let front = count_text (codes " fetched ") fetched ++ count_text (codes " candidates ") candidates in
    let to_front : IsOneLine front = lacks_both 10 (count_text (codes " fetched ") fetched) (count_text (codes " candidates ") candidates) (fetched_count fetched) (count (codes " candidates ") candidates refl) in
    lacks_both 10 front (count_text (codes " live ") live) to_front (live_count live)

-- pairs behind a word, and a text behind these
pairs_between : (word : List ℕ) (ps : List Pair) (tail : List ℕ) → IsOneLine word → IsOneLine tail → IsOneLine (word ++ flat_map pair_text ps ++ tail)
pairs_between word ps tail e f = lacks_both 10 (word ++ flat_map pair_text ps) tail (lacks_both 10 word (flat_map pair_text ps) e (pairs ps)) f

list : (numbers : List ℕ) → IsOneLine (list_text numbers)
list numbers = separated_lacks 44 256 (number_below 256) decimal (λ n. n < 256) 10 refl number numbers

rows_lack : (rows : List (List ℕ)) → IsOneLine (flat_map row_text rows)
rows_lack [] = refl
rows_lack (row ∷ rows) = lacks_both 10 (row_text row) (flat_map row_text rows) (lacks_both 10 (codes " ") (list_text row) refl (list row)) (rows_lack rows)

-- a number behind a word
after : (text : List ℕ) (n : ℕ) (more : List ℕ) → IsOneLine text → IsOneLine more → IsOneLine ((text ++ decimal n) ++ more)
after text n more e f = lacks_both 10 (text ++ decimal n) more (lacks_both 10 text (decimal n) e (number n)) f

pub reply_one_line : (reply : Reply) → LendsLine reply → IsOneLine (reply_text reply)
reply_one_line created lends = refl
reply_one_line (placed place) lends = number place
reply_one_line (deleted place) lends = number place
reply_one_line (vector coordinates) lends = list coordinates
reply_one_line (stat shape live cursors b) lends =
    let dims = codes "stat dims " ++ decimal shape.dims ++ codes " bits " in
    let bits = dims ++ decimal shape.bits ++ codes " capacity " in
    let capacity = bits ++ decimal shape.capacity ++ codes " live " in
    let lives = capacity ++ decimal live ++ codes " cursors " in
    let front = lives ++ decimal cursors ++ codes " building " in
    let to_dims : IsOneLine dims = after (codes "stat dims ") shape.dims (codes " bits ") refl refl in
    let to_bits : IsOneLine bits = after dims shape.bits (codes " capacity ") to_dims refl in
    let to_capacity : IsOneLine capacity = after bits shape.capacity (codes " live ") to_bits refl in
    let to_lives : IsOneLine lives = after capacity live (codes " cursors ") to_capacity refl in
    let to_front : IsOneLine front = after lives cursors (codes " building ") to_lives refl in
    lacks_both 10 front (building_text b) to_front (building_lacks b)
reply_one_line (marks rows) lends = lacks_both 10 (codes "marks") (flat_map row_text rows) refl (rows_lack rows)
reply_one_line (near ps fetched candidates live) lends = pairs_between (codes "near") ps (filtered_text fetched candidates live) refl (filtered fetched candidates live)
reply_one_line (scanned ps fetched live) lends = pairs_between (codes "near") ps (read_text fetched live) refl (read fetched live)
reply_one_line (within ps fetched live) lends = pairs_between (codes "within") ps (read_text fetched live) refl (read fetched live)
reply_one_line (opened live) lends = number live
reply_one_line (next_pair p fetched) lends =
    lacks_both 10 (codes "next" ++ pair_text p) (count_text (codes " fetched ") fetched) (lacks_both 10 (codes "next") (pair_text p) refl (pair p)) (fetched_count fetched)
reply_one_line at_end lends = refl
reply_one_line closed lends = refl
reply_one_line (begun live) lends = number live
reply_one_line (more_left done left) lends = lacks_both 10 (codes "more " ++ decimal done ++ codes " ") (decimal left) (after (codes "more ") done (codes " ") refl refl) (number left)
reply_one_line (switched done) lends = number done
reply_one_line (cert text) lends = lacks_both 10 (codes "cert ") text refl lends
reply_one_line (work n fetched candidates sum) lends =
    let to_fetched = count_text (codes "work ") n ++ count_text (codes " fetched ") fetched in
    let to_candidates = to_fetched ++ count_text (codes " candidates ") candidates in
    let e : IsOneLine to_fetched = lacks_both 10 (count_text (codes "work ") n) (count_text (codes " fetched ") fetched) (count (codes "work ") n refl) (fetched_count fetched) in
    let f : IsOneLine to_candidates = lacks_both 10 to_fetched (count_text (codes " candidates ") candidates) e (count (codes " candidates ") candidates refl) in
    lacks_both 10 to_candidates (count_text (codes " sum ") sum) f (count (codes " sum ") sum refl)
reply_one_line (error why) lends = word why
