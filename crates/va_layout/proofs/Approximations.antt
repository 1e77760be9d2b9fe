-- The approximations of a region, and what a change leaves of them.
use Rattle.std.proofs.Common.{◌≡◌, ⊎_elim, inl, inr, ℕ, ◌<◌, List, [], ◌∷◌, length, get_or, set, Option, Some, None, refl, sym, ◌∙◌, ap, subst, arith}
use Rattle.std.proofs.lemmas.Bool.{cases_eq}
use Rattle.std.proofs.lemmas.List.{get_or-set_same, get_or-set_other}
use Rattle.va_core.specs.Cells.{NamesSlices}
use Rattle.va_core.specs.Codes.{packed}
use Rattle.va_core.specs.MarkBytes.{marks_len, marks_read}
use Rattle.va_core.specs.Marks.{AreValid, HasShape, cell}
use Rattle.va_core.specs.Places.{HoldItems, IsItem, Item}
use Rattle.va_core.specs.Shape.{Shape, code_bytes}
use Rattle.va_core.specs.Vectors.{IsVector}
use Rattle.va_core.proofs.Cells.{names_own}
use Rattle.va_layout.specs.declared.region.Region.{Region}
use Rattle.va_layout.specs.Parts.{Apart, KeepsRest}
use Rattle.va_layout.specs.Layout.{marks_at, code_at, region_len, other_region}
use Rattle.va_layout.specs.Fields.{IsOwnCode, NamesCell, code_in, code_range, gate_range, gated_ranges, selection_range}
use Rattle.va_layout.specs.Stands.{HasApproximations}
use Rattle.va_layout.proofs.Regions.{beside, code_apart, code_ends, codes_apart, marks_apart, region_begins}
use Rattle.va_layout.proofs.Sizes.{region_is}

module _ {X : Type 0} {shape : Shape} {region : Region} {marks : List (List ℕ)} {IsRight : X → List ℕ → Type 0} {places : List (Option X)} {a : List ℕ} (has : HasApproximations shape region marks IsRight places a) where
  -- a change apart from the marks, and from the codes of all places that hold something
  pub approximations_stay : {ranges : List (ℕ × ℕ)} {c : List ℕ} → KeepsRest ranges a c → Apart (marks_at shape region) (marks_len shape) ranges
      → ((q : ℕ) (x : X) → q < shape.capacity → get_or places q None ≡ Some x → Apart (code_at shape region q) (code_bytes shape) ranges) → HasApproximations shape region marks IsRight places c
  approximations_stay {ranges} {c} keeps apart codes = record {
    there = ap (λ (l : List ℕ). marks_read shape l) (keeps.same (marks_at shape region) (marks_len shape) apart) ∙ has.there;
    fit = has.fit;
    valid = has.valid;
    codes = λ q x inside live. subst (IsRight x) (sym (keeps.same (code_at shape region q) (code_bytes shape) (codes q x inside live))) (has.codes q x inside live);
  }

  -- an empty place was written behind its gate, with codes in any region
  pub approximations_gated : (p : ℕ) {c : List ℕ} → p < shape.capacity → get_or places p None ≡ None → KeepsRest (gated_ranges shape p) a c → HasApproximations shape region marks IsRight places c
  approximations_gated p inside none keeps = approximations_stay keeps (marks_apart shape region p inside)
      (λ q x q_in live. code_apart shape region p q inside q_in (λ same. (let e : None ≡ Some x = sym none ∙ ap (λ (n : ℕ). get_or places n None) (sym same) ∙ live in cc)))

  -- the gate of a place was set
  pub approximations_gate : {p : ℕ} {c : List ℕ} → p < shape.capacity → KeepsRest (gate_range p) a c → HasApproximations shape region marks IsRight places c
  approximations_gate inside keeps = let begins = region_begins shape region in
      approximations_stay keeps (inr (omega (arith, begins)), tt) (λ q x q_in live. (inr (omega (arith, begins)), tt))

  -- a region was selected
  pub approximations_selected : {c : List ℕ} → KeepsRest selection_range a c → HasApproximations shape region marks IsRight places c
  approximations_selected keeps = let begins = region_begins shape region in
      approximations_stay keeps (inr (omega (arith, begins)), tt) (λ q x q_in live. (inr (omega (arith, begins)), tt))

  -- the other region changed
  pub approximations_beside : {c : List ℕ} → KeepsRest ((marks_at shape (other_region region), region_len shape) ∷ []) a c → HasApproximations shape region marks IsRight places c
  approximations_beside keeps =
      let apart = beside shape region in
      approximations_stay keeps
      (⊎_elim (λ l. inl (omega (arith, l, region_is shape))) (λ r. inr (omega (arith, r))) apart, tt)
      (λ q x q_in live. (let ends = code_ends shape region q q_in in ⊎_elim (λ l. inl (omega (arith, l, ends))) (λ r. inr (omega (arith, r))) apart, tt))

  -- a place comes to hold something for which the code that stands there is right, or nothing
  pub approximations_with : (p : ℕ) (new : Option X) → p < length places → ((x : X) → new ≡ Some x → IsRight x (code_in shape region p a)) → HasApproximations shape region marks IsRight (set places p new) a
  approximations_with p new inside right = record {
    there = has.there;
    fit = has.fit;
    valid = has.valid;
    codes = λ q x q_in live. ⊎_elim
        (λ same. subst (λ (n : ℕ). IsRight x (code_in shape region n a)) (sym same)
        (right x (sym (get_or-set_same places p new None inside) ∙ ap (λ (n : ℕ). get_or (set places p new) n None) (sym same) ∙ live)))
        (λ ne. has.codes q x q_in (sym (get_or-set_other places p q new None ne) ∙ live))
        (cases_eq q p);
  }

  -- what is right for all that is held
  pub approximations_weaker : {IsOther : X → List ℕ → Type 0} → ((p : ℕ) (x : X) → p < shape.capacity → get_or places p None ≡ Some x → (code : List ℕ) → IsRight x code → IsOther x code)
      → HasApproximations shape region marks IsOther places a
  approximations_weaker weaker = record {
    there = has.there;
    fit = has.fit;
    valid = has.valid;
    codes = λ p x inside live. weaker p x inside live (code_in shape region p a) (has.codes p x inside live);
  }

  -- the code of one place was written
  pub approximations_converted : {p : ℕ} {c : List ℕ} {IsOther : X → List ℕ → Type 0} → KeepsRest (code_range shape region p) a c
      → ((x : X) → get_or places p None ≡ Some x → IsOther x (code_in shape region p c))
      → ((q : ℕ) (x : X) → (q ≡ p → ⊥) → get_or places q None ≡ Some x → (code : List ℕ) → IsRight x code → IsOther x code) → HasApproximations shape region marks IsOther places c
  approximations_converted {p} {c} {IsOther} keeps here others = record {
    there = ap (λ (l : List ℕ). marks_read shape l) (keeps.same (marks_at shape region) (marks_len shape) (inl (omega arith), tt)) ∙ has.there;
    fit = has.fit;
    valid = has.valid;
    codes = λ q x q_in live. ⊎_elim
        (λ same. subst (λ (n : ℕ). IsOther x (code_in shape region n c)) (sym same) (here x (ap (λ (n : ℕ). get_or places n None) (sym same) ∙ live)))
        (λ ne. (let apart : Apart (code_at shape region q) (code_bytes shape) (code_range shape region p) =
        (⊎_elim (λ l. inl (omega (arith, l))) (λ r. inr (omega (arith, r))) (codes_apart (code_bytes shape) p q ne), tt) in
        subst (IsOther x) (sym (keeps.same (code_at shape region q) (code_bytes shape) apart)) (others q x ne live (code_in shape region q a) (has.codes q x q_in live))))
        (cases_eq q p);
  }

-- the own code of an item of the shape names a cell
pub own_names : {shape : Shape} {marks : List (List ℕ)} {item : Item} → HasShape shape marks → AreValid marks → IsItem shape.dims item → NamesCell shape marks (packed shape (cell marks item.vector))
own_names {shape} {marks} {item} fit valid is =
    let own : NamesSlices marks (cell marks item.vector) = names_own marks item.vector valid (subst (λ (n : ℕ). IsVector n item.vector) (sym fit.one_each) is.vector) in
    record {
      slices = cell marks item.vector;
      fit = record {
        one_each = own.one_each ∙ fit.one_each;
        fit = λ dim inside. omega (arith, own.inside dim (omega (arith, inside, fit.one_each)), fit.counts dim inside);
      };
      packs = refl;
      names = own;
    }

-- and so do the own codes of items of the shape
pub own_named : {shape : Shape} {region : Region} {marks : List (List ℕ)} {places : List (Option Item)} {image : List ℕ} → HoldItems shape.dims places
    → HasApproximations shape region marks (IsOwnCode shape marks) places image → HasApproximations shape region marks (λ item code. NamesCell shape marks code) places image
own_named {shape} {region} {marks} items own = approximations_weaker own
    (λ p item inside live code is. subst (NamesCell shape marks) (sym is) (own_names own.fit own.valid (items p item live)))
