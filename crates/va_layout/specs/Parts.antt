-- Parts of an image, and what a change of some ranges leaves as it was.
use Rattle.std.specs.Prelude.{◌≡◌, ◌⊎◌, ℕ, ◌+◌, ◌≤◌, List, [], ◌∷◌, length, take, drop, get_or}

-- so many bytes from there
abbrev pub part : ℕ → ℕ → List ℕ → List ℕ
part at n image = take n (drop at image)

-- the byte there, or 0 behind the end
abbrev pub byte_at : ℕ → List ℕ → ℕ
byte_at at image = get_or (part at 1 image) 0 0

-- a range lies apart from each of these
abbrev pub Apart : ℕ → ℕ → List (ℕ × ℕ) → Type 0
Apart at n [] = Unit {0}
Apart at n (range ∷ ranges) = ((at + n ≤ range.0) ⊎ (range.0 + range.1 ≤ at)) × Apart at n ranges

-- new is no shorter than old, and has the same bytes in each range that lies apart from these
pub record KeepsRest (ranges : List (ℕ × ℕ)) (old new : List ℕ) : Type 0 where
  pub no_shorter : length old ≤ length new
  pub same : (at n : ℕ) → Apart at n ranges → part at n new ≡ part at n old
