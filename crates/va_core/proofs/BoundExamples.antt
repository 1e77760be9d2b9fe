-- Worked examples of bounds, answers and reads, computed from the definitions: bounds over all vectors of each box.
use Rattle.std.proofs.Common.{◌≡◌, ℕ, List, [], ◌∷◌, map, length, refl}
use Rattle.std.specs.List.{range_with_len}
use Rattle.va_core.specs.Places.{Item}
use Rattle.va_core.specs.Distance.{Query, distance, pairs_of}
use Rattle.va_core.specs.Ranking.{answer, within}
use Rattle.va_core.specs.Boxes.{low_of, high_of, lowest, highest}
use Rattle.va_core.specs.Cells.{box_of}
use Rattle.va_core.specs.Parts.{joined_least, joined_greatest}
use Rattle.va_core.specs.DistanceParts.{added, parts_of}
use Rattle.va_core.specs.Approximations.{Approximations, paired, need, candidates}
use Rattle.va_core.specs.Reads.{approximated, nearest_reads, within_reads, scan_reads, nearest_candidates}

-- two slices, and a slice for each value, in both of two dimensions
abbrev halves : List (List ℕ)
halves = (0 ∷ 128 ∷ 256 ∷ []) ∷ (0 ∷ 128 ∷ 256 ∷ []) ∷ []

abbrev values : List (List ℕ)
values = range_with_len 0 257 ∷ range_with_len 0 257 ∷ []

abbrev asked : List (List ℕ) → Query
asked objects = record { objects = objects; weights = 1 ∷ 1 ∷ [] }

abbrev corner : Query
corner = asked ((0 ∷ 0 ∷ []) ∷ [])

abbrev item : ℕ → ℕ → ℕ → Item
item id x y = record { id = id; vector = x ∷ y ∷ [] }

abbrev three : List Item
three = item 1 10 10 ∷ item 2 120 120 ∷ item 3 200 200 ∷ []

abbrev ids : List Item → List ℕ
ids items = map (λ (i : Item). i.id) items

lower_bounds : map (approximated halves corner).low three ≡ 0 ∷ 0 ∷ 32768 ∷ []
unfolding low_of high_of
lower_bounds = refl

upper_bounds : map (approximated halves corner).high three ≡ 32258 ∷ 32258 ∷ 130050 ∷ []
unfolding low_of high_of
upper_bounds = refl

two_objects : map (approximated halves (asked ((0 ∷ 0 ∷ []) ∷ (20 ∷ 20 ∷ []) ∷ []))).low three ≡ 400 ∷ 400 ∷ 56096 ∷ []
unfolding low_of high_of
two_objects = refl

first_vectors : lowest (distance (asked ((10 ∷ 200 ∷ []) ∷ []))) (box_of halves (10 ∷ 10 ∷ [])) ≡ 10 ∷ 127 ∷ []
unfolding lowest low_of
first_vectors = refl

last_vectors : highest (distance corner) (box_of halves (10 ∷ 10 ∷ [])) ≡ 127 ∷ 127 ∷ []
unfolding highest high_of
last_vectors = refl

-- of values that attain a bound alike the lesser comes first

tied_vector : highest (distance (asked ((1 ∷ 1 ∷ []) ∷ []))) (box_of ((0 ∷ 3 ∷ 256 ∷ []) ∷ (0 ∷ 3 ∷ 256 ∷ []) ∷ []) (0 ∷ 0 ∷ [])) ≡ 0 ∷ 0 ∷ []
unfolding highest high_of
tied_vector = refl

-- no items

none_read : nearest_reads halves corner [] 1 ≡ []
none_read = refl

-- the nearest, and all three

nearest_one : answer (pairs_of corner three) 1 ≡ paired 200 1 ∷ []
nearest_one = refl

nearest_nine : answer (pairs_of corner three) 9 ≡ paired 200 1 ∷ paired 28800 2 ∷ paired 80000 3 ∷ []
nearest_nine = refl

two_read : ids (nearest_reads halves corner three 1) ≡ 1 ∷ 2 ∷ []
unfolding low_of high_of
two_read = refl

three_read : ids (nearest_reads halves corner three 9) ≡ 1 ∷ 2 ∷ 3 ∷ []
unfolding low_of high_of
three_read = refl

two_candidates : ids (nearest_candidates halves corner three 1) ≡ 1 ∷ 2 ∷ []
unfolding low_of high_of
two_candidates = refl

three_candidates : ids (nearest_candidates halves corner three 9) ≡ 1 ∷ 2 ∷ 3 ∷ []
unfolding low_of high_of
three_candidates = refl

-- a cell for each vector, or no weights: every cell is narrow

narrow_unread : ids (nearest_reads values corner three 1) ≡ []
unfolding low_of high_of
narrow_unread = refl

narrow_candidate : ids (nearest_candidates values corner three 1) ≡ 1 ∷ []
unfolding low_of high_of
narrow_candidate = refl

unweighted_unread : ids (nearest_reads halves (record { objects = (0 ∷ 0 ∷ []) ∷ []; weights = 0 ∷ 0 ∷ [] }) three 1) ≡ []
unfolding low_of high_of
unweighted_unread = refl

unweighted_candidate : ids (nearest_candidates halves (record { objects = (0 ∷ 0 ∷ []) ∷ []; weights = 0 ∷ 0 ∷ [] }) three 1) ≡ 1 ∷ []
unfolding low_of high_of
unweighted_candidate = refl

-- equal distances go to the lesser id: an id below the nearest one is read, and one above it isn't

greater_id_unread : ids (nearest_reads halves (asked ((10 ∷ 10 ∷ []) ∷ [])) (item 5 10 10 ∷ item 7 10 10 ∷ []) 1) ≡ 5 ∷ []
unfolding low_of high_of
greater_id_unread = refl

lesser_id_read : ids (nearest_reads halves (asked ((10 ∷ 10 ∷ []) ∷ [])) (item 5 10 10 ∷ item 7 10 10 ∷ item 3 20 20 ∷ []) 1) ≡ 3 ∷ 5 ∷ []
unfolding low_of high_of
lesser_id_read = refl

tie_with_a_bound : ids (nearest_reads halves (asked ((118 ∷ 0 ∷ []) ∷ [])) (item 5 108 0 ∷ item 3 128 0 ∷ []) 1) ≡ 5 ∷ 3 ∷ []
unfolding low_of high_of
tie_with_a_bound = refl

two_objects_read : ids (nearest_reads halves (asked ((0 ∷ 0 ∷ []) ∷ (20 ∷ 20 ∷ []) ∷ [])) three 1) ≡ 1 ∷ []
unfolding low_of high_of
two_objects_read = refl

two_objects_candidates : ids (nearest_candidates halves (asked ((0 ∷ 0 ∷ []) ∷ (20 ∷ 20 ∷ []) ∷ [])) three 1) ≡ 1 ∷ 2 ∷ []
unfolding low_of high_of
two_objects_candidates = refl

-- within a radius

within_200 : within (pairs_of corner three) 200 ≡ paired 200 1 ∷ []
within_200 = refl

within_199 : within (pairs_of corner three) 199 ≡ []
within_199 = refl

within_199_read : ids (within_reads halves corner three 199) ≡ 1 ∷ 2 ∷ []
unfolding low_of high_of
within_199_read = refl

-- a scan from the farthest on reads all

scan_read : ids (scan_reads halves corner (item 3 200 200 ∷ item 2 120 120 ∷ item 1 10 10 ∷ []) 1) ≡ 3 ∷ 2 ∷ 1 ∷ []
unfolding low_of high_of
scan_read = refl

-- three dimensions of four slices each, by the sums of the extreme parts
abbrev quarters : List (List ℕ)
quarters = (0 ∷ 64 ∷ 128 ∷ 192 ∷ 256 ∷ []) ∷ (0 ∷ 64 ∷ 128 ∷ 192 ∷ 256 ∷ []) ∷ (0 ∷ 64 ∷ 128 ∷ 192 ∷ 256 ∷ []) ∷ []

abbrev solid : ℕ → ℕ → ℕ → ℕ → Item
solid id x y z = record { id = id; vector = x ∷ y ∷ z ∷ [] }

abbrev five : List Item
five = solid 101 200 30 40 ∷ solid 102 190 35 50 ∷ solid 103 20 180 60 ∷ solid 104 60 60 200 ∷ solid 105 210 25 45 ∷ []

abbrev near_first : Query
near_first = record { objects = (205 ∷ 28 ∷ 42 ∷ []) ∷ []; weights = 1 ∷ 1 ∷ 1 ∷ [] }

abbrev summed : Approximations Item
summed = record {
  name = λ i. i.id;
  low = λ i. joined_least added 0 (parts_of near_first) (box_of quarters i.vector);
  high = λ i. joined_greatest added 0 (parts_of near_first) (box_of quarters i.vector);
}

nearest_two_of_five : answer (pairs_of near_first five) 2 ≡ paired 33 101 ∷ paired 43 105 ∷ []
nearest_two_of_five = refl

two_of_five_read : ids (need summed five (λ i. distance near_first i.vector) 2) ≡ 101 ∷ 105 ∷ []
two_of_five_read = refl

three_of_five_candidates : length (candidates summed five 2) ≡ 3
three_of_five_candidates = refl
