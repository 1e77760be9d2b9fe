-- Fields that lie apart.
use Rattle.std.proofs.Common.{◌≡◌, ◌⊎◌, ⊎_elim, inl, inr, ℕ, ◌+◌, ◌*◌, ◌≤◌, ◌<◌, List, get_or, refl, ap, arith}
use Rattle.std.proofs.lemmas.Bool.{cases_order}
use Rattle.std.proofs.lemmas.Nat.{mul-le}
use Rattle.va_core.specs.Shape.{Shape, code_bytes}
use Rattle.va_layout.specs.Parts.{Apart, KeepsRest}
use Rattle.va_layout.specs.Layout.{slot_at, vector_at, FollowOn}
use Rattle.va_layout.specs.Fields.{IsSamePlace, gated_ranges, gate_range, gate_in, item_in, place_ranges}
use Rattle.va_layout.proofs.Sizes.{region_is}

pub times_le : (d p q : ℕ) → p < q → p * d + d ≤ q * d
times_le d p q less = omega (arith, mul-le (p + 1) d q d (omega arith) (omega arith))

-- a slot ends before the vectors begin
pub slot_before : (shape : Shape) (p : ℕ) → p < shape.capacity → slot_at p + 8 ≤ vector_at shape 0
slot_before shape p inside = omega arith

-- the fields of a place lie apart from these ranges
pub record FieldsApart (shape : Shape) (q : ℕ) (ranges : List (ℕ × ℕ)) : Type 0 where
  pub gate : Apart (slot_at q) 1 ranges
  pub id : Apart (slot_at q + 4) 4 ranges
  pub vector : Apart (vector_at shape q) shape.dims ranges

pub item_kept : (shape : Shape) (q : ℕ) (ranges : List (ℕ × ℕ)) (a c : List ℕ) → FieldsApart shape q ranges → KeepsRest ranges a c → item_in shape q c ≡ item_in shape q a
item_kept shape q ranges a c apart keeps =
    rw (keeps.same (slot_at q) 1 apart.gate, keeps.same (slot_at q + 4) 4 apart.id, keeps.same (vector_at shape q) shape.dims apart.vector) refl

-- the gate of a place stays, whatever is written behind it
pub gate_stays : (shape : Shape) {p : ℕ} {a c : List ℕ} → p < shape.capacity → KeepsRest (gated_ranges shape p) a c → gate_in p c ≡ gate_in p a
gate_stays shape {p} {a} {c} inside keeps = ap (λ (l : List ℕ). get_or l 0 0) (keeps.same (slot_at p) 1 (inl (omega arith), (inl (omega arith), (inl (omega arith), (inl (omega arith), tt)))))

-- the header lies before all that
pub head_before : (shape : Shape) (p : ℕ) → Apart 0 32 (gated_ranges shape p)
head_before shape p = (inl (omega arith), (inl (omega arith), (inl (omega arith), (inl (omega arith), tt))))

slots_apart : (p q : ℕ) → (q ≡ p → ⊥) → (slot_at q + 8 ≤ slot_at p) ⊎ (slot_at p + 8 ≤ slot_at q)
slots_apart p q ne = ⊎_elim (λ same. absurd (ne same)) (λ order. ⊎_elim (λ less. inl (omega arith)) (λ more. inr (omega arith)) order) (cases_order q p)

vectors_apart : (shape : Shape) (p q : ℕ) → (q ≡ p → ⊥) → (vector_at shape q + shape.dims ≤ vector_at shape p) ⊎ (vector_at shape p + shape.dims ≤ vector_at shape q)
vectors_apart shape p q ne = ⊎_elim (λ same. absurd (ne same)) (λ order. ⊎_elim
    (λ less. inl (let e : q * shape.dims + shape.dims ≤ p * shape.dims = times_le shape.dims q p less in omega (arith, e)))
    (λ more. inr (let e : p * shape.dims + shape.dims ≤ q * shape.dims = times_le shape.dims p q more in omega (arith, e))) order) (cases_order q p)

-- what is written of one place behind its gate lies apart from the fields of another
pub gated_apart : (shape : Shape) (p q : ℕ) → p < shape.capacity → q < shape.capacity → (q ≡ p → ⊥) → FieldsApart shape q (gated_ranges shape p)
gated_apart shape p q p_in q_in ne =
    let slots = slots_apart p q ne in
    let fits = times_le (code_bytes shape) p shape.capacity p_in in
    let len = region_is shape in
    record {
      gate = (⊎_elim (λ l. inl (omega (arith, l))) (λ r. inr (omega (arith, r))) slots, (inl (omega arith), (inl (omega arith), (inl (omega arith), tt))));
      id = (⊎_elim (λ l. inl (omega (arith, l))) (λ r. inr (omega (arith, r))) slots, (inl (omega arith), (inl (omega arith), (inl (omega arith), tt))));
      vector = (inr (omega arith), (vectors_apart shape p q ne, (inr (omega (arith, fits, len)), (inr (omega (arith, fits, len)), tt))));
    }

pub gate_apart : (shape : Shape) (p q : ℕ) → p < shape.capacity → q < shape.capacity → (q ≡ p → ⊥) → FieldsApart shape q (gate_range p)
gate_apart shape p q p_in q_in ne = let slots = slots_apart p q ne in record {
  gate = (⊎_elim (λ l. inl (omega (arith, l))) (λ r. inr (omega (arith, r))) slots, tt);
  id = (⊎_elim (λ l. inl (omega (arith, l))) (λ r. inr (omega (arith, r))) slots, tt);
  vector = (inr (omega arith), tt);
}

-- all bytes of one place lie apart from the slot and the vector of another
pub same_place : (shape : Shape) {a c : List ℕ} (p q : ℕ) → p < shape.capacity → q < shape.capacity → (q ≡ p → ⊥) → KeepsRest (place_ranges shape p) a c → IsSamePlace shape q a c
same_place shape {a} {c} p q p_in q_in ne keeps =
    let slots = slots_apart p q ne in
    let fits = times_le (code_bytes shape) p shape.capacity p_in in
    let len = region_is shape in
    record {
      slot = keeps.same (slot_at q) 8 (⊎_elim (λ l. inl (omega (arith, l))) (λ r. inr (omega (arith, r))) slots, (inl (omega arith), (inl (omega arith), (inl (omega arith), (⊎_elim (λ l. inl (omega (arith, l))) (λ r. inr (omega (arith, r))) slots, tt)))));
      vector = keeps.same (vector_at shape q) shape.dims (inr (omega arith), (vectors_apart shape p q ne, (inr (omega (arith, fits, len)), (inr (omega (arith, fits, len)), (inr (omega arith), tt)))));
    }

one_more : (p d : ℕ) → (p + 1) * d ≡ p * d + d
one_more p d = grind arith

pub follow_on : (shape : Shape) → FollowOn shape
follow_on shape = record {
  first_slot = refl;
  next_slot = λ p. omega arith;
  marks_a = refl;
  first_code = λ region. omega arith;
  next_code = λ region p. omega (arith, one_more p (code_bytes shape));
  marks_b = omega (arith, region_is shape);
  first_vector = omega (arith, region_is shape);
  next_vector = λ p. omega (arith, one_more p shape.dims);
  end = refl;
}
