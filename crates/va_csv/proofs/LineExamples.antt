-- Worked examples of records and lines, computed from the definitions.
use Rattle.std.proofs.Common.{◌≡◌, [], ◌∷◌, ◌++◌, refl, codes}
use Rattle.std.specs.Fmt.{digits}
use Rattle.csv.proofs.OnLiterals.{csv_on_literals}
use Rattle.va_csv.specs.Lines.{lines_of, row_of}

three_records : lines_of (codes "1,10,10" ++ 10 ∷ codes "2,120,120" ++ 10 ∷ codes "x,1,1" ++ 10 ∷ [])
    ≡ codes "insert 1 10,10" ∷ codes "insert 2 120,120" ∷ codes "insert x 1,1" ∷ []
unfolding csv_on_literals
three_records = refl

one_field : lines_of (codes "7") ≡ codes "insert 7 " ∷ []
unfolding csv_on_literals
one_field = refl

no_record : lines_of (10 ∷ 13 ∷ 10 ∷ []) ≡ []
unfolding csv_on_literals
no_record = refl

in_quotes : lines_of (34 ∷ codes "8,9" ++ 34 ∷ codes ",10") ≡ codes "insert 8,9 10" ∷ []
unfolding csv_on_literals
in_quotes = refl

of_a_vector : row_of 1 (10 ∷ 10 ∷ []) ≡ codes "1,10,10" ++ 10 ∷ []
unfolding digits
of_a_vector = refl
