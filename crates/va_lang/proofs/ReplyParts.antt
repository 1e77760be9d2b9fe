-- The line of a reply in its three parts.
use Rattle.std.proofs.Common.{◌≡◌, ℕ, List, [], ◌∷◌, ◌++◌, codes, refl, ap, sym, append_assoc, append-nil}
use Rattle.std.specs.List.{flat_map}
use Rattle.va_lang.specs.Reply.{Reply, created, placed, deleted, vector, stat, marks, near, scanned, within, opened, next_pair, at_end, closed, begun, more_left, switched, cert, work, error, filtered_text, pair_text, read_text, reply_text, reply_line}
use Rattle.va_lang.specs.Gathering.{head_text, middle_text, tail_text}

-- a text with no list behind it
no_list : (text : List ℕ) → (text ++ []) ++ 10 ∷ [] ≡ text ++ 10 ∷ []
no_list text = ap (λ (l : List ℕ). l ++ 10 ∷ []) (append-nil text)

-- what stands behind a list
behind_list : (text tail : List ℕ) → text ++ (tail ++ 10 ∷ []) ≡ text ++ tail ++ 10 ∷ []
behind_list text tail = sym (append_assoc text tail (10 ∷ []))

pub in_parts : (reply : Reply) → (head_text reply ++ middle_text reply) ++ tail_text reply ≡ reply_line reply
in_parts created = refl
in_parts (placed place) = no_list (reply_text (placed place))
in_parts (deleted place) = no_list (reply_text (deleted place))
in_parts (vector coordinates) = refl
in_parts (stat shape live cursors building) = no_list (reply_text (stat shape live cursors building))
in_parts (marks rows) = refl
in_parts (near pairs fetched candidates live) = behind_list (codes "near" ++ flat_map pair_text pairs) (filtered_text fetched candidates live)
in_parts (scanned pairs fetched live) = behind_list (codes "near" ++ flat_map pair_text pairs) (read_text fetched live)
in_parts (within pairs fetched live) = behind_list (codes "within" ++ flat_map pair_text pairs) (read_text fetched live)
in_parts (opened live) = no_list (reply_text (opened live))
in_parts (next_pair pair fetched) = no_list (reply_text (next_pair pair fetched))
in_parts at_end = no_list (reply_text at_end)
in_parts closed = no_list (reply_text closed)
in_parts (begun live) = no_list (reply_text (begun live))
in_parts (more_left done left) = no_list (reply_text (more_left done left))
in_parts (switched done) = no_list (reply_text (switched done))
in_parts (cert text) = refl
in_parts (work n fetched candidates sum) = no_list (reply_text (work n fetched candidates sum))
in_parts (error why) = no_list (reply_text (error why))
