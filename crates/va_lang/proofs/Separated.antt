-- A text is its parts with the separators between them, and in one way.
use Rattle.std.proofs.Common.{◌≡◌, ℕ, ◌<◌, Bool, true, false, ◌&&◌, not, List, [], ◌∷◌, ◌++◌, length, eqb, if◌then◌else◌, refl, ap, sym, ◌∙◌, eq-eqb, arith}
use Rattle.std.proofs.lemmas.Bool.Decides.{nat_tests}
use Rattle.va_lang.specs.Texts.{split_at, onto_first, joined}
use Rattle.va_core.proofs.Tests.{and_both, both_and, not_true}
use Rattle.va_core.specs.Texts.{lacks}
use Rattle.va_core.proofs.Texts.{lacks_both}

equal : (a b : ℕ) → eqb a b ≡ true → a ≡ b
equal a b e = grind (arith, nat_tests)

abbrev pub all_lack : ℕ → List (List ℕ) → Bool
all_lack byte [] = true
all_lack byte (text ∷ texts) = lacks byte text && all_lack byte texts

module _ (s : ℕ) where
  joined_onto : (b : ℕ) (parts : List (List ℕ)) → joined s (onto_first b parts) ≡ b ∷ joined s parts
  joined_onto b [] = refl
  joined_onto b (part ∷ []) = refl
  joined_onto b (part ∷ next ∷ parts) = refl

  joined_break : (parts : List (List ℕ)) → 0 < length parts → joined s ([] ∷ parts) ≡ s ∷ joined s parts
  joined_break [] some = absurd (omega arith)
  joined_break (part ∷ parts) some = refl

  onto_some : (b : ℕ) (parts : List (List ℕ)) → 0 < length (onto_first b parts)
  onto_some b [] = omega arith
  onto_some b (part ∷ parts) = omega arith

  some_at : (c : Bool) (b : ℕ) (parts : List (List ℕ)) → 0 < length (if c then [] ∷ parts else onto_first b parts)
  some_at true b parts = omega arith
  some_at false b parts = onto_some b parts

  pub split_some : (text : List ℕ) → 0 < length (split_at s text)
  split_some [] = omega arith
  split_some (b ∷ text) = some_at (eqb b s) b (split_at s text)

  joined_at : (c : Bool) (b : ℕ) (parts : List (List ℕ)) (text : List ℕ) → eqb b s ≡ c → 0 < length parts → joined s parts ≡ text →
      joined s (if c then [] ∷ parts else onto_first b parts) ≡ b ∷ text
  joined_at true b parts text e some same =
      joined_break parts some ∙ ap (λ (x : ℕ). x ∷ joined s parts) (sym (equal b s e)) ∙ ap (λ (l : List ℕ). b ∷ l) same
  joined_at false b parts text e some same = joined_onto b parts ∙ ap (λ (l : List ℕ). b ∷ l) same

  -- joined again, the parts are the text
  pub joined_split : (text : List ℕ) → joined s (split_at s text) ≡ text
  joined_split [] = refl
  joined_split (b ∷ text) = joined_at (eqb b s) b (split_at s text) text refl (split_some text) (joined_split text)

  split_part : (part : List ℕ) → lacks s part ≡ true → split_at s part ≡ part ∷ []
  split_part [] e = refl
  split_part (b ∷ part) e =
      let h = and_both (not (eqb b s)) (lacks s part) e in
      rw (not_true (eqb b s) h.0, split_part part h.1) refl

  split_break : (part rest : List ℕ) → lacks s part ≡ true → split_at s (part ++ s ∷ rest) ≡ part ∷ split_at s rest
  split_break [] rest e = rw (eq-eqb s s refl) refl
  split_break (b ∷ part) rest e =
      let h = and_both (not (eqb b s)) (lacks s part) e in
      rw (not_true (eqb b s) h.0, split_break part rest h.1) refl

  -- split again, the text is its parts
  pub split_joined : (parts : List (List ℕ)) → 0 < length parts → all_lack s parts ≡ true → split_at s (joined s parts) ≡ parts
  split_joined [] some e = absurd (omega arith)
  split_joined (part ∷ []) some e = split_part part (and_both (lacks s part) true e).0
  split_joined (part ∷ next ∷ parts) some e =
      let h = and_both (lacks s part) (all_lack s (next ∷ parts)) e in
      split_break part (joined s (next ∷ parts)) h.0 ∙ ap (λ (l : List (List ℕ)). part ∷ l) (split_joined (next ∷ parts) (omega arith) h.1)

  -- a text of parts that lack another byte lacks it, if the separator does
  pub lacks_joined : (byte : ℕ) (parts : List (List ℕ)) → eqb s byte ≡ false → all_lack byte parts ≡ true → lacks byte (joined s parts) ≡ true
  lacks_joined byte [] other e = refl
  lacks_joined byte (part ∷ []) other e = (and_both (lacks byte part) true e).0
  lacks_joined byte (part ∷ next ∷ parts) other e =
      let h = and_both (lacks byte part) (all_lack byte (next ∷ parts)) e in
      lacks_both byte part (s ∷ joined s (next ∷ parts)) h.0 (rw other (lacks_joined byte (next ∷ parts) other h.1))
