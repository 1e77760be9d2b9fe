-- One value more at the front.
use Rattle.std.proofs.Common.{◌≡◌, ℕ, ◌+◌, ◌-◌, ◌<◌, ◌≤◌, arith}
use Rattle.va_bound.specs.Extremes.{IsExtreme}
use Rattle.va_bound.specs.declared.entry.Entry.{Entry}

-- the values before the end are one fewer, seen from one further back
pub one_before : (p : ℕ → ℕ) (at last : ℕ) (entry : Entry) → 0 < at → at ≤ last → IsExtreme p at (last - at) entry → IsExtreme p (at - 1 + 1) (last - (at - 1) - 1) entry
one_before p at last entry some h is =
    let here : at - 1 + 1 ≡ at = omega arith in
    let left : last - (at - 1) - 1 ≡ last - at = omega arith in
    rw (here, left) is
