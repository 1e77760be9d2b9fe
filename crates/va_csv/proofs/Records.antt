-- The records that a reader went through are those of the definition.
use Rattle.std.proofs.Common.{◌≡◌, ℕ, zero, suc, ◌+◌, ◌≤◌, List, [], ◌∷◌, ◌++◌, length, true, false, Some, None, refl, sym, ap, subst, arith}
use Rattle.csv.specs.Machine.{Read, ends_at_end, field_after, fields_after, is_end, next_record, step}
use Rattle.csv.specs.Reading.{AreRecords, Reached, records, records_from}
use Rattle.csv.specs.declared.parser.Config.{Config}
use Rattle.csv.specs.declared.parser.State.{State}
use Rattle.csv.specs.declared.parser.State.TheVariants as st

-- a record leaves no more than there was
left : (cfg : Config) (xs : List ℕ) (s : State) (fields : List (List ℕ)) (field : List ℕ) (p : Read)
    → next_record cfg s fields field xs ≡ Some p → length p.2 ≤ length xs
unfolding next_record
left cfg [] s fields field p h = (elim (ends_at_end s) as (λ y. ends_at_end s ≡ y → length p.2 ≤ 0) [
  | true ↦ λ t. let h' = rw t at h in let same : (fields ++ (field ∷ []), st.StartRecord, []) ≡ p = cc in subst (λ (q : Read). length q.2 ≤ 0) same (omega arith)
  | false ↦ λ t. let h' = rw t at h in cc
]) refl
left cfg (c ∷ rest) s fields field p h = (elim (is_end (step cfg s c).1) as (λ y. is_end (step cfg s c).1 ≡ y → length p.2 ≤ length (c ∷ rest)) [
  | true ↦ λ t. let h' = rw t at h in let same : (fields_after (step cfg s c).1 fields field, (step cfg s c).0, rest) ≡ p = cc in subst (λ (q : Read). length q.2 ≤ length (c ∷ rest)) same (omega arith)
  | false ↦ λ t. let down = left cfg rest (step cfg s c).0 (fields_after (step cfg s c).1 fields field) (field_after (step cfg s c).1 c field) p (rw t at h) in omega (arith, down)
]) refl

-- of a text with a byte, it takes one at least
shrinks : (cfg : Config) (c : ℕ) (rest : List ℕ) (s : State) (fields : List (List ℕ)) (field : List ℕ) (p : Read)
    → next_record cfg s fields field (c ∷ rest) ≡ Some p → length p.2 ≤ length rest
unfolding next_record
shrinks cfg c rest s fields field p h = (elim (is_end (step cfg s c).1) as (λ y. is_end (step cfg s c).1 ≡ y → length p.2 ≤ length rest) [
  | true ↦ λ t. let h' = rw t at h in let same : (fields_after (step cfg s c).1 fields field, (step cfg s c).0, rest) ≡ p = cc in subst (λ (q : Read). length q.2 ≤ length rest) same (omega arith)
  | false ↦ λ t. left cfg rest (step cfg s c).0 (fields_after (step cfg s c).1 fields field) (field_after (step cfg s c).1 c field) p (rw t at h)
]) refl

-- the end of a text is the end of the last record at most
at_end : (cfg : Config) (s : State) (p : Read) → next_record cfg s [] [] [] ≡ Some p → (p.1 ≡ st.StartRecord) × (p.2 ≡ [])
unfolding next_record
at_end cfg s p h = (elim (ends_at_end s) as (λ y. ends_at_end s ≡ y → (p.1 ≡ st.StartRecord) × (p.2 ≡ [])) [
  | true ↦ λ t. let h' = rw t at h in let same : ([] ++ ([] ∷ []), st.StartRecord, []) ≡ p = cc in (sym (ap (λ (q : Read). q.1) same), sym (ap (λ (q : Read). q.2) same))
  | false ↦ λ t. let h' = rw t at h in cc
]) refl

none_left : (cfg : Config) (s : State) (xs : List ℕ) (rows : List (List (List ℕ))) (s2 : State) (ys : List ℕ)
    → s ≡ st.StartRecord → xs ≡ [] → Reached cfg s xs rows s2 ys → length rows ≤ 0
unfolding Reached next_record
none_left cfg s xs [] s2 ys e n r = omega arith
none_left cfg s xs (row ∷ rows) s2 ys e n r = let h = rw (e, n) at r.1 in cc

at_most : (cfg : Config) (rows : List (List (List ℕ))) (s : State) (xs : List ℕ) (s2 : State) (ys : List ℕ)
    → Reached cfg s xs rows s2 ys → length rows ≤ length xs + 1
unfolding Reached
at_most cfg [] s xs s2 ys r = omega arith
at_most cfg (row ∷ rows) s [] s2 ys r =
    let end = at_end cfg s r.0 r.1 in
    let none = none_left cfg r.0.1 r.0.2 rows s2 ys end.0 end.1 r.3 in omega (arith, none)
at_most cfg (row ∷ rows) s (c ∷ rest) s2 ys r =
    let less = shrinks cfg c rest s [] [] r.0 r.1 in
    let more = at_most cfg rows r.0.1 r.0.2 s2 ys r.3 in omega (arith, less, more)

gathered : (cfg : Config) (n : ℕ) (rows : List (List (List ℕ))) (s : State) (xs : List ℕ) (s2 : State) (ys : List ℕ)
    → Reached cfg s xs rows s2 ys → next_record cfg s2 [] [] ys ≡ None → length rows ≤ n → records_from cfg n s xs ≡ rows
unfolding Reached records_from
gathered cfg zero [] s xs s2 ys r e h = refl
gathered cfg zero (row ∷ rows) s xs s2 ys r e h = absurd (omega (arith, h))
gathered cfg (suc n) [] s xs s2 ys r e h = rw (r.0, r.1, e) refl
gathered cfg (suc n) (row ∷ rows) s xs s2 ys r e h =
    rw (r.1, r.2) (ap (λ l. r.0.0 ∷ l) (gathered cfg n rows r.0.1 r.0.2 s2 ys r.3 e (omega (arith, h))))

-- the records of the relation are those of the function
pub records_are : (cfg : Config) (xs : List ℕ) (rows : List (List (List ℕ))) → AreRecords cfg st.StartRecord xs rows → records cfg xs ≡ rows
records_are cfg xs rows a = gathered cfg (length xs + 1) rows st.StartRecord xs a.0 a.1 a.2 a.3 (at_most cfg rows st.StartRecord xs a.0 a.1 a.2)
