-- What a sort gives, cut.
use Rattle.std.proofs.Common.{◌≡◌, ℕ, List, take, is_lt, ap}
use Rattle.std.specs.List.Sorted.{IsPermutation, IsSortedBy}
use Rattle.va_core.specs.declared.pair.Pair.{Pair}
use Rattle.va_core.proofs.Ranking.{ascending_is_only, sorted_in_order}
use Rattle.va_core.specs.Ranking.{pair_cmp, ascending}

pub cut_is : (k : ℕ) (old new : List Pair) → IsPermutation old new → IsSortedBy (λ p q. is_lt (pair_cmp p q)) new → take k new ≡ take k (ascending old)
cut_is k old new moved sorted = ap (take k) (ascending_is_only old new moved (sorted_in_order new sorted))
