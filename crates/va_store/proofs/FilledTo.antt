-- Places below which none is empty.
use Rattle.std.proofs.Common.{◌≡◌, ⊎_elim, ℕ, ◌+◌, ◌≤◌, ◌<◌, List, length, get_or, set, Option, None, Some, sym, ◌∙◌, ap, arith}
use Rattle.std.proofs.lemmas.Bool.{cases_eq}
use Rattle.std.proofs.lemmas.List.{get_or-set_same, get_or-set_other, length-set}
use Rattle.va_store.specs.Index.{IsFilledTo}

pub filled_none : (ids : List (Option ℕ)) → IsFilledTo 0 ids
filled_none ids = record { within = omega arith; live = λ p less none. omega (arith, less) }

-- an id came
pub filled_more : (end : ℕ) (ids : List (Option ℕ)) (place id : ℕ) → IsFilledTo end ids → IsFilledTo end (set ids place (Some id))
filled_more end ids place id filled = record {
  within = omega (arith, length-set ids place (Some id), filled.within);
  live = λ p less none. ⊎_elim
      (λ same. (let e : Some id ≡ None = sym (get_or-set_same ids place (Some id) None (omega (arith, same, less, filled.within))) ∙ ap (λ (q : ℕ). get_or (set ids place (Some id)) q None) (sym same) ∙ none in cc))
      (λ ne. filled.live p less (sym (get_or-set_other ids place p (Some id) None ne) ∙ none))
      (cases_eq p place);
}

-- an id went
pub filled_less : (end : ℕ) (ids : List (Option ℕ)) (place least : ℕ) → IsFilledTo end ids → (least ≤ end) × (least ≤ place) → IsFilledTo least (set ids place None)
filled_less end ids place least filled low = record {
  within = omega (arith, length-set ids place None, filled.within, low.0);
  live = λ p less none. filled.live p (omega (arith, less, low.0)) (sym (get_or-set_other ids place p None None (λ same. omega (arith, same, less, low.1))) ∙ none);
}

-- one place more that isn't empty
pub filled_next : (end : ℕ) (ids : List (Option ℕ)) → IsFilledTo end ids → end < length ids → (get_or ids end None ≡ None → ⊥) → IsFilledTo (end + 1) ids
filled_next end ids filled inside there = record {
  within = omega (arith, inside);
  live = λ p less none. ⊎_elim (λ same. there (ap (λ (q : ℕ). get_or ids q None) (sym same) ∙ none)) (λ ne. filled.live p (omega (arith, less, ne)) none) (cases_eq p end);
}
