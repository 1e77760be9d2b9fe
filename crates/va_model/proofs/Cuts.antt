-- The bytes that are given are cut into reply lines in one way.
use Rattle.std.proofs.Common.{◌≡◌, ℕ, Bool, true, false, not, ◌&&◌, List, [], ◌∷◌, ◌++◌, eqb, map, refl, ap, ◌∙◌, append_assoc}
use Rattle.std.specs.List.{AllByRecursion}
use Rattle.va_lang.specs.Reply.{LendsLine, Reply, reply_text, reply_line}
use Rattle.va_lang.proofs.OneLine.{reply_one_line}
use Rattle.va_model.specs.Lines.{Parts, parts, onto}
use Rattle.va_model.specs.Runs.{reply_lines}
use Rattle.va_core.specs.Texts.{lacks, IsOneLine}

-- neither the first byte nor a later one is a newline
first_and_later : (first later : Bool) → (not first && later) ≡ true → (first ≡ false) × (later ≡ true)
first_and_later true later none = cc
first_and_later false later none = (refl, none)

parts_line : (text rest : List ℕ) → IsOneLine text → parts (text ++ 10 ∷ rest) ≡ record { ended = text ∷ (parts rest).ended; rest = (parts rest).rest }
parts_line [] rest none = refl
parts_line (b ∷ text) rest none =
    let both = first_and_later (eqb b 10) (lacks 10 text) none in
    rw both.0 (ap (λ (p : Parts). onto b p.ended p.rest) (parts_line text rest both.1))

parts_open : (text : List ℕ) → IsOneLine text → parts text ≡ record { ended = []; rest = text }
parts_open [] none = refl
parts_open (b ∷ text) none =
    let both = first_and_later (eqb b 10) (lacks 10 text) none in
    rw both.0 (ap (λ (p : Parts). onto b p.ended p.rest) (parts_open text both.1))

pub cut_in_one_way : (replies : List Reply) (more : List ℕ) → AllByRecursion LendsLine replies → IsOneLine more → parts (reply_lines replies ++ more) ≡ record { ended = map reply_text replies; rest = more }
cut_in_one_way [] more lend none = parts_open more none
cut_in_one_way (reply ∷ replies) more lend none =
    let regroup : reply_lines (reply ∷ replies) ++ more ≡ reply_text reply ++ 10 ∷ (reply_lines replies ++ more) =
    append_assoc (reply_line reply) (reply_lines replies) more ∙ append_assoc (reply_text reply) (10 ∷ []) (reply_lines replies ++ more) in
    ap parts regroup
    ∙ parts_line (reply_text reply) (reply_lines replies ++ more) (reply_one_line reply lend.0)
    ∙ ap (λ (p : Parts). record { ended = reply_text reply ∷ p.ended; rest = p.rest }) (cut_in_one_way replies more lend.1 none)
