use Rattle.std.proofs.Common.{◌≡◌, ◌++◌, List, ℕ, codes, ap, ◌∙◌, append_assoc}
use Rattle.va_lang.specs.Reply.{count_text}
use Rattle.va_lang.proofs.sending.push_filtered.Goals as goal

-- three texts behind a line
three : (line a b c : List ℕ) → line ++ a ++ b ++ c ≡ line ++ (a ++ b ++ c)
three line a b c = ap (λ (l : List ℕ). l ++ c) (append_assoc line a b) ∙ append_assoc line (a ++ b) c

pub returns-clause-text : goal.returns-clause-text
returns-clause-text c =
    rw (c.push_count-3.ensures.text, c.push_count-2.ensures.text, c.push_count.ensures.text, c.from-3.ensures, c.from-2.ensures, c.from.ensures)
    (three c.args.line.now (count_text (codes " fetched ") c.args.fetched) (count_text (codes " candidates ") c.args.candidates) (count_text (codes " live ") c.args.live))
