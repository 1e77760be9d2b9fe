use Rattle.std.proofs.Common.{◌≡◌, ◌++◌, List, ℕ, drop, codes, ap, ◌∙◌, append_assoc}
use Rattle.std.specs.List.{flat_map}
use Rattle.std.proofs.lemmas.List.{take_rest}
use Rattle.va_lang.specs.Reply.{row_text}
use Rattle.va_lang.specs.Spelling.{list_text}
use Rattle.va_lang.proofs.VectorText.{behind, list_behind}
use Rattle.va_lang.proofs.sending.gather_row.Goals as goal

-- a blank and the marks behind a line
row_behind : (line blank now row : List ℕ) → blank ≡ line ++ codes " " → now ++ flat_map behind (drop 1 row) ≡ blank ++ list_text row →
    now ++ flat_map behind (drop 1 row) ≡ line ++ row_text row
row_behind line blank now row is same = same ∙ ap (λ (l : List ℕ). l ++ list_text row) is ∙ append_assoc line (codes " ") (list_text row)

pub returns-clause-given : goal.returns-clause-given
returns-clause-given g c =
    let same = row_behind c.args.line.now c.push.new.self _ c.args.row.now c.push.ensures
    (list_behind c.push.new.self _ c.args.row.now _ c.push_number.ensures.text c.from.ensures c.in-len1-up.len_at_least) in
    rw (← same) (rw (take_rest c.args.row.now 1) at c.gather_each.ensures.given)

pub returns-clause-part : goal.returns-clause-part
returns-clause-part g c =
    let same = row_behind c.args.line.now c.push.new.self _ c.args.row.now c.push.ensures
    (list_behind c.push.new.self _ c.args.row.now _ c.push_number.ensures.text c.from.ensures c.in-len1-up.len_at_least) in
    rw (← same) (rw (take_rest c.args.row.now 1) at c.gather_each.ensures.part)

pub returns-clause-frame : goal.returns-clause-frame
returns-clause-frame g c =
    let same = row_behind c.args.line.now c.push.new.self _ c.args.row.now c.push.ensures
    (list_behind c.push.new.self _ c.args.row.now _ c.push_number.ensures.text c.from.ensures c.in-len1-up.len_at_least) in
    rw (← same) (rw (take_rest c.args.row.now 1) at c.gather_each.ensures.frame)
