-- Pairs that are offered one after another.
use Rattle.std.proofs.Common.{◌≡◌, ℕ, zero, suc, List, [], ◌∷◌, ◌++◌, take, refl, sym, ap, ◌∙◌, append_assoc, append-nil}
use Rattle.va_core.specs.Ranking.{ascending, placed}
use Rattle.va_core.specs.declared.pair.Pair.{Pair}
use Rattle.va_core.proofs.Nearest.{kept_more, answer_is_first}
use Rattle.va_keep.specs.Kept.{offered}
use Rattle.va_keep.specs.KeptLaws.{HoldsTheAnswer, HoldsTheLeast}

offered_after : (k : ℕ) (seen kept pairs : List Pair) → kept ≡ take k (ascending seen) → (offered (record { most = k; pairs = kept }) pairs).pairs ≡ take k (ascending (seen ++ pairs))
offered_after k seen kept [] so_far = so_far ∙ ap (λ (all : List Pair). take k (ascending all)) (sym (append-nil seen))
offered_after k seen kept (pair ∷ pairs) so_far =
    offered_after k (seen ++ pair ∷ []) (take k (placed pair kept)) pairs (kept_more k pair seen kept so_far)
    ∙ ap (λ (all : List Pair). take k (ascending all)) (append_assoc seen (pair ∷ []) pairs)

none_first : (k : ℕ) → [] ≡ take k (ascending [])
none_first zero = refl
none_first (suc k) = refl

pub offered_least : HoldsTheLeast
offered_least k pairs = offered_after k [] [] pairs (none_first k)

-- once all pairs were offered, the answer is kept
pub offered_answer : HoldsTheAnswer
offered_answer k pairs differ = offered_least k pairs ∙ sym (answer_is_first pairs k differ)
