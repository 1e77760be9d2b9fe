-- Worked examples of marks, slices and packed codes, computed from the definitions.
use Rattle.std.proofs.Common.{◌≡◌, ℕ, [], ◌∷◌, refl, None, Some}
use Rattle.va_core.specs.Shape.{Shape}
use Rattle.va_core.specs.Marks.{row_of, marks_of, slice_of, interval, cell}
use Rattle.va_core.specs.MarkBytes.{marks_bytes, marks_len}
use Rattle.va_core.specs.Codes.{packed}

abbrev shape_of : ℕ → ℕ → Shape
shape_of dims bits = record { dims = dims; bits = bits; capacity = 4 }

of_four : row_of 2 (10 ∷ 10 ∷ 20 ∷ 30 ∷ []) ≡ 0 ∷ 10 ∷ 20 ∷ 30 ∷ 256 ∷ []
unfolding row_of
of_four = refl

of_zeros : row_of 2 (0 ∷ 0 ∷ 0 ∷ 0 ∷ []) ≡ 0 ∷ 0 ∷ 0 ∷ 0 ∷ 256 ∷ []
unfolding row_of
of_zeros = refl

zero_is_in_the_last : slice_of (0 ∷ 0 ∷ 0 ∷ 0 ∷ 256 ∷ []) 0 ≡ 3
zero_is_in_the_last = refl

the_last_has_all : interval (0 ∷ 0 ∷ 0 ∷ 0 ∷ 256 ∷ []) 3 ≡ Some (0, 255)
the_last_has_all = refl

the_others_are_empty : interval (0 ∷ 0 ∷ 0 ∷ 0 ∷ 256 ∷ []) 1 ≡ None
the_others_are_empty = refl

of_none : marks_of (shape_of 2 2) [] ≡ (0 ∷ 128 ∷ 256 ∷ []) ∷ (0 ∷ 128 ∷ 256 ∷ []) ∷ []
unfolding marks_of row_of
of_none = refl

of_three : marks_of (shape_of 2 2) ((10 ∷ 10 ∷ []) ∷ (120 ∷ 120 ∷ []) ∷ (200 ∷ 200 ∷ []) ∷ []) ≡ (0 ∷ 120 ∷ 256 ∷ []) ∷ (0 ∷ 120 ∷ 256 ∷ []) ∷ []
unfolding marks_of row_of
of_three = refl

in_a_cell : cell ((0 ∷ 128 ∷ 256 ∷ []) ∷ (0 ∷ 128 ∷ 256 ∷ []) ∷ []) (120 ∷ 200 ∷ []) ≡ 0 ∷ 1 ∷ []
in_a_cell = refl

as_bytes : marks_bytes ((0 ∷ 128 ∷ 256 ∷ []) ∷ (0 ∷ 128 ∷ 256 ∷ []) ∷ []) ≡ 0 ∷ 0 ∷ 0 ∷ 128 ∷ 1 ∷ 0 ∷ 0 ∷ 0 ∷ 0 ∷ 128 ∷ 1 ∷ 0 ∷ []
as_bytes = refl

so_many_bytes : marks_len (shape_of 2 2) ≡ 12
unfolding marks_len
so_many_bytes = refl

two_bits : packed (shape_of 2 2) (1 ∷ 1 ∷ []) ≡ 0xC0 ∷ []
unfolding packed
two_bits = refl

the_second_of_three : packed (shape_of 3 6) (0 ∷ 2 ∷ 0 ∷ []) ≡ 0x20 ∷ []
unfolding packed
the_second_of_three = refl

the_third_of_three : packed (shape_of 3 6) (0 ∷ 0 ∷ 3 ∷ []) ≡ 0x0C ∷ []
unfolding packed
the_third_of_three = refl

two_and_one : packed (shape_of 2 3) (2 ∷ 1 ∷ []) ≡ 0xA0 ∷ []
unfolding packed
two_and_one = refl

one_and_none : packed (shape_of 2 1) (1 ∷ 0 ∷ []) ≡ 0x80 ∷ []
unfolding packed
one_and_none = refl

whole_bytes : packed (shape_of 2 16) (200 ∷ 10 ∷ []) ≡ 0xC8 ∷ 0x0A ∷ []
unfolding packed
whole_bytes = refl
