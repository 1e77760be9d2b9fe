-- What follows the first word of a line, or a part of it.
use Rattle.std.proofs.Common.{◌≡◌, ℕ, List, ◌∷◌, Option, Some, subst, sym}
use denote.Ref.{Bor}
use Rattle.va_lang.specs.SaidCommand.{parts_after}
use Rattle.va_lang.specs.Texts.{split_at}
use Rattle.va_lang.proofs.Splitting.{some_part}

-- something follows
pub one_word : (P : List (List ℕ) → Type 0) → ((one : List ℕ) (words : List (List ℕ)) → P (one ∷ words)) →
    {fields : Option (Bor (List ℕ))} {rest : Bor (List ℕ)} → fields ≡ Some rest → P (parts_after 32 fields)
one_word P at {fields} {rest} is = rw is (some_part P at 32 rest.now)

-- two words or more follow
pub two_words : (P : List (List ℕ) → Type 0) → ((one two : List ℕ) (words : List (List ℕ)) → P (one ∷ two ∷ words)) →
    {fields more : Option (Bor (List ℕ))} {rest behind : Bor (List ℕ)} {word : List ℕ} →
    fields ≡ Some rest → split_at 32 rest.now ≡ word ∷ parts_after 32 more → more ≡ Some behind → P (parts_after 32 fields)
two_words P at {fields} {more} {rest} {behind} {word} is parts further =
    let Q : List (List ℕ) → Type 0 = λ words. P (word ∷ words) in
    let whole : P (word ∷ parts_after 32 more) = one_word Q (λ two words. at word two words) further in
    rw is (subst P (sym parts) whole)
