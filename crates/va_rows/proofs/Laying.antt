-- What stands in a place that was laid.
use Rattle.std.proofs.Common.{◌≡◌, inl, ℕ, ◌+◌, ◌<◌, ◌^◌, List, [], ◌∷◌, length, take, drop, sym, ◌∙◌, ap, arith}
use Rattle.std.specs.Int.{w32, to_be_bytes, from_be_bytes}
use Rattle.std.proofs.lemmas.Nat.{from_be_bytes-to_be_bytes_4}
use Rattle.va_core.specs.Shape.{Shape}
use Rattle.va_layout.specs.Parts.{part, KeepsRest}
use Rattle.va_layout.specs.Layout.{slot_at, vector_at}
use Rattle.va_layout.specs.Fields.{IsLaid}
use Rattle.va_layout.proofs.Parts.{part_begin, part_end}
use Rattle.va_layout.proofs.Apart.{slot_before}

id_begins : (p : ℕ) → slot_at p + 4 ≡ slot_at p + 1 + 3
id_begins p = omega arith

pub laid : (shape : Shape) (p id : ℕ) (vector a b c : List ℕ) → id < 2 ^ 32 → p < shape.capacity → length vector ≡ shape.dims
    → part (slot_at p + 1) 7 b ≡ 0 ∷ 0 ∷ 0 ∷ to_be_bytes w32 id → KeepsRest ((vector_at shape p, length vector) ∷ []) b c → part (vector_at shape p) (length vector) c ≡ vector
    → IsLaid shape p (record { id = id; vector = vector }) c
laid shape p id vector a b c small inside len slot rest there =
    let slot_now : part (slot_at p + 1) 7 c ≡ 0 ∷ 0 ∷ 0 ∷ to_be_bytes w32 id = rest.same (slot_at p + 1) 7 (inl (omega (arith, slot_before shape p inside)), tt) ∙ slot in
    record {
      spare = part_begin (slot_at p + 1) 3 7 c (omega arith) ∙ ap (λ (l : List ℕ). take 3 l) slot_now;
      id = ap (from_be_bytes w32) (ap (λ (n : ℕ). part n 4 c) (id_begins p) ∙ part_end (slot_at p + 1) 3 4 c ∙ ap (λ (l : List ℕ). drop 3 l) slot_now) ∙ from_be_bytes-to_be_bytes_4 id small;
      vector = ap (λ (n : ℕ). part (vector_at shape p) n c) (sym len) ∙ there;
    }
