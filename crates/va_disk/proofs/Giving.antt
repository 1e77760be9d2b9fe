-- Texts that are given one after another, and bytes that are taken so.
use Rattle.std.proofs.Common.{ℕ, List, [], ◌++◌, refl, sym, ◌∙◌, ap, arith, append_assoc, append-nil, length-append}
use Rattle.va_disk.specs.Told.{Gives, Takes, IsPrefix, IsProperPrefix, GivesPrefix, GivesPart}

pub gives_nothing : (told : Type 0) (old : List ℕ) → Gives told old [] old
gives_nothing told old tells = sym (append-nil old)

-- two texts, one after the other
pub gives_both : (told : Type 0) (old mid new a b : List ℕ) → Gives told old a mid → Gives told mid b new → Gives told old (a ++ b) new
gives_both told old mid new a b first next tells =
    next tells ∙ ap (λ (l : List ℕ). l ++ b) (first tells) ∙ append_assoc old a b

pub takes_nothing : (told : Type 0) (left : List ℕ) → Takes told left [] left
takes_nothing told left tells = refl

pub takes_both : (told : Type 0) (old mid new a b : List ℕ) → Takes told old a mid → Takes told mid b new → Takes told old (a ++ b) new
takes_both told old mid new a b first next tells =
    first tells ∙ ap (λ (l : List ℕ). a ++ l) (next tells) ∙ sym (append_assoc a b new)

pub prefix_none : (text : List ℕ) → IsPrefix [] text
prefix_none text = record { rest = text; is = refl }

pub prefix_whole : (text : List ℕ) → IsPrefix text text
prefix_whole text = record { rest = []; is = append-nil text }

pub prefix_of_proper : (part text : List ℕ) → IsProperPrefix part text → IsPrefix part text
prefix_of_proper part text p = record { rest = p.missing; is = p.is }

-- a prefix of the first of two texts is one of both
pub prefix_first : (part a b : List ℕ) → IsPrefix part a → IsPrefix part (a ++ b)
prefix_first part a b p = record { rest = p.rest ++ b; is = sym (append_assoc part p.rest b) ∙ ap (λ (l : List ℕ). l ++ b) p.is }

-- the first text and a prefix of the second
pub prefix_after : (a part b : List ℕ) → IsPrefix part b → IsPrefix (a ++ part) (a ++ b)
prefix_after a part b p = record { rest = p.rest; is = append_assoc a part p.rest ∙ ap (λ (l : List ℕ). a ++ l) p.is }

pub proper_first : (part a b : List ℕ) → IsProperPrefix part a → IsProperPrefix part (a ++ b)
proper_first part a b p = record {
  missing = p.missing ++ b;
  lacks = omega (arith, p.lacks, length-append p.missing b);
  is = sym (append_assoc part p.missing b) ∙ ap (λ (l : List ℕ). l ++ b) p.is;
}

pub proper_after : (a part b : List ℕ) → IsProperPrefix part b → IsProperPrefix (a ++ part) (a ++ b)
proper_after a part b p = record { missing = p.missing; lacks = p.lacks; is = append_assoc a part p.missing ∙ ap (λ (l : List ℕ). a ++ l) p.is }

module _ (told : Type 0) (old mid new a b : List ℕ) where
  pub gives_prefix_first : GivesPrefix told old a new → GivesPrefix told old (a ++ b) new
  gives_prefix_first p = record { part = p.part; begins = prefix_first p.part a b p.begins; given = p.given }

  pub gives_prefix_after : Gives told old a mid → GivesPrefix told mid b new → GivesPrefix told old (a ++ b) new
  gives_prefix_after first p = record {
    part = a ++ p.part;
    begins = prefix_after a p.part b p.begins;
    given = gives_both told old mid new a p.part first p.given;
  }

  pub gives_part_first : GivesPart told old a new → GivesPart told old (a ++ b) new
  gives_part_first p = record { part = p.part; begins = proper_first p.part a b p.begins; given = p.given }

  pub gives_part_after : Gives told old a mid → GivesPart told mid b new → GivesPart told old (a ++ b) new
  gives_part_after first p = record {
    part = a ++ p.part;
    begins = proper_after a p.part b p.begins;
    given = gives_both told old mid new a p.part first p.given;
  }
