-- A file that stays blank while a new store is written.
use Rattle.std.proofs.Common.{◌≡◌, ◌<◌, ◌≤◌, inl, ℕ, ◌-◌, List, [], ◌∷◌, length, get_or, sym, ◌∙◌, ap, arith}
use Rattle.va_core.specs.Shape.{Shape}
use Rattle.va_disk.specs.Crashes.{Torn}
use Rattle.va_layout.specs.Layout.{layout_len}
use Rattle.va_layout.specs.Parts.{KeepsRest}
use Rattle.va_layout.specs.Stands.{IsBlank}
use Rattle.va_layout.proofs.Headers.{blank_gate, blank_short}
use Rattle.va_layout.proofs.Writes.{rest_of_torn}
use Rattle.va_store.specs.Empty.{IsLaidBare, IsMade, IsShut, StaysBlank, behind_gate, head_gate, layout_range}
use Rattle.va_store.proofs.Filled.{IsFresh, blank_or_empty}
use Rattle.va_layout.proofs.Parts.{rest_around, rest_twice}

-- a gate that isn't touched stays shut
still_blank : (a c : List ℕ) (n : ℕ) → IsShut a → KeepsRest ((1, n) ∷ []) a c → IsBlank c
still_blank a c n shut keeps = blank_gate c (λ is_open. shut (sym (ap (λ (l : List ℕ). get_or l 0 0) (keeps.same 0 1 (inl (omega arith), tt))) ∙ is_open))

-- the first byte of a file that is too short was written
pub cleared : {image d c : List ℕ} → length image < 32 → d ≡ image → Torn 0 1 d c → StaysBlank image c
cleared {image} {d} {c} short same torn = record {
  blank = blank_short c (omega (arith, ap length same, short, torn.no_longer));
  behind = rw same at (rest_of_torn 0 1 d c torn);
}

module _ (shape : Shape) {old : List ℕ} where
  pub first_inside : {c : List ℕ} → KeepsRest head_gate old c → KeepsRest (layout_range shape) old c
  first_inside {c} keeps = rest_around 0 1 0 (layout_len shape) old c (omega arith) (omega arith) keeps

  pub made_blank : {c : List ℕ} → StaysBlank old c → IsMade shape old c
  made_blank {c} stays = record { either = inl stays.blank; behind = first_inside stays.behind }

  module _ {shut : List ℕ} (first : KeepsRest head_gate old shut) where
    pub laid_behind : {c : List ℕ} → KeepsRest (behind_gate shape) shut c → KeepsRest (layout_range shape) old c
    laid_behind {c} keeps = rest_twice (layout_range shape) old shut c (first_inside first) (rest_around 1 (layout_len shape - 1) 0 (layout_len shape) shut c (omega arith) (omega arith) keeps)

    -- the gate was made shut and stable, and then all behind it was laid
    pub made_laid : {d c : List ℕ} → IsShut shut → d ≡ shut → KeepsRest (behind_gate shape) d c → IsMade shape old c
    made_laid {d} {c} is_shut same keeps =
        let here : KeepsRest (behind_gate shape) shut c = rw same at keeps in
        record { either = inl (still_blank shut c (layout_len shape - 1) is_shut here); behind = laid_behind here }

    module _ {laid c : List ℕ} (keeps : KeepsRest (behind_gate shape) shut laid) (torn : Torn 0 1 laid c) where
      pub opened_behind : KeepsRest (layout_range shape) old c
      opened_behind = rest_twice (layout_range shape) old laid c (laid_behind keeps) (rest_around 0 1 0 (layout_len shape) laid c (omega arith) (omega arith) (rest_of_torn 0 1 laid c torn))

      -- then the gate was opened
      pub made_opened : IsFresh shape → IsLaidBare shape laid → layout_len shape ≤ length laid → IsMade shape old c
      made_opened fresh bare long = record { either = blank_or_empty fresh bare long torn; behind = opened_behind }
