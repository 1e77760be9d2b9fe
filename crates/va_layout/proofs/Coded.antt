-- A place that is laid, and then its code is written.
use Rattle.std.proofs.Common.{◌≡◌, inl, inr, ℕ, ◌+◌, ◌≤◌, ◌<◌, List, [], ◌∷◌, ◌++◌, sym, ◌∙◌, ap, arith}
use Rattle.std.specs.Int.{w32, from_be_bytes}
use Rattle.va_core.specs.Places.{Item}
use Rattle.va_core.specs.Shape.{Shape, code_bytes}
use Rattle.va_layout.specs.declared.region.Region.{Region}
use Rattle.va_layout.specs.declared.region.Region.TheVariants.{A, B}
use Rattle.va_layout.specs.Fields.{IsLaid, code_range, gated_ranges, laid_ranges}
use Rattle.va_layout.specs.Layout.{code_at, slot_at, vector_at}
use Rattle.va_layout.specs.Parts.{Apart, KeepsRest}
use Rattle.va_layout.proofs.Parts.{apart_split, rest_more}
use Rattle.va_layout.proofs.Regions.{code_ends, region_begins, region_ends}

pub laid_gated : (shape : Shape) (p : ℕ) {a c : List ℕ} → KeepsRest (laid_ranges shape p) a c → KeepsRest (gated_ranges shape p) a c
laid_gated shape p {a} {c} keeps = rest_more (laid_ranges shape p) ((code_at shape A p, code_bytes shape) ∷ (code_at shape B p, code_bytes shape) ∷ []) a c keeps

-- apart from all that is written of a place behind its gate, and so from what is laid and from its code in a region
gated_split : (shape : Shape) (region : Region) (p at n : ℕ) → Apart at n (gated_ranges shape p) → Apart at n (laid_ranges shape p) × Apart at n (code_range shape region p)
gated_split shape A p at n apart = let both = apart_split at n (laid_ranges shape p) ((code_at shape A p, code_bytes shape) ∷ (code_at shape B p, code_bytes shape) ∷ []) apart in (both.0, (both.1.0, tt))
gated_split shape B p at n apart = let both = apart_split at n (laid_ranges shape p) ((code_at shape A p, code_bytes shape) ∷ (code_at shape B p, code_bytes shape) ∷ []) apart in (both.0, both.1.1)

pub coded_gated : (shape : Shape) (region : Region) (p : ℕ) {a b c : List ℕ} → KeepsRest (laid_ranges shape p) a b → KeepsRest (code_range shape region p) b c → KeepsRest (gated_ranges shape p) a c
coded_gated shape region p laid coded = record {
  no_shorter = omega (arith, laid.no_shorter, coded.no_shorter);
  same = λ at n apart. (let both = gated_split shape region p at n apart in coded.same at n both.1 ∙ laid.same at n both.0);
}

-- what was laid stays while a code is written
pub laid_stays : {shape : Shape} (region : Region) {p : ℕ} {item : Item} {a c : List ℕ} → p < shape.capacity → IsLaid shape p item a → KeepsRest (code_range shape region p) a c → IsLaid shape p item c
laid_stays {shape} region {p} inside laid keeps =
    let begins = region_begins shape region in
    let code = code_ends shape region p inside in
    let ends = region_ends shape region in
    record {
      spare = keeps.same (slot_at p + 1) 3 (inl (omega (arith, begins, inside)), tt) ∙ laid.spare;
      id = ap (from_be_bytes w32) (keeps.same (slot_at p + 4) 4 (inl (omega (arith, begins, inside)), tt)) ∙ laid.id;
      vector = keeps.same (vector_at shape p) shape.dims (inr (omega (arith, code, ends)), tt) ∙ laid.vector;
    }
