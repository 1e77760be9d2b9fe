use Rattle.std.proofs.Common.{◌≡◌, ℕ, ◌+◌, ◌<◌, drop, get_or, length}
use Rattle.va_serve.specs.Held.{times}
use Rattle.va_serve.proofs.ranking.hold.Given as goal

-- what is left comes on top
abbrev pub invariant-loop-place : goal.invariant-loop-place
invariant-loop-place l = record {
  same : length l.held ≡ length l.fn.held;
  more : (p : ℕ) → p < length l.fn.held → get_or l.held p 0 + times p (drop l.place-index l.places) ≡ get_or l.fn.held p 0 + times p l.places;
}
