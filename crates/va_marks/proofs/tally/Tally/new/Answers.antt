use Rattle.std.proofs.Common.{◌≡◌, ℕ, ◌<◌, List, [], ◌∙◌, arith, ap, map, refl, sum, length}
use Rattle.std.specs.List.{range_with_len}
use Rattle.std.proofs.lemmas.List.Elements.{All-nil}
use Rattle.std.proofs.lemmas.List.FromFn.{length-map-range_with_len, get_or-map-range_with_len}
use Rattle.va_marks.specs.Counts.{counts_at, counts_of}
use Rattle.va_marks.proofs.Counting.{length-counts_of, sum-counts_of}
use Rattle.va_marks.proofs.tally.Tally.new.Goals as goal

-- each of n equal columns
column_at : (columns : List (List ℕ)) (n : ℕ) (counts : List ℕ) → columns ≡ map (λ _. counts) (range_with_len 0 n) → (dim : ℕ) → dim < n → counts_at columns dim ≡ counts
column_at columns n counts e dim l = ap (λ all. counts_at all dim) e ∙ get_or-map-range_with_len (λ _. counts) 0 n dim dim [] l (omega arith)

pub invariant_of-result : goal.invariant_of-result
invariant_of-result c = record {
  one_each = ap length c.in-Ok.ensures ∙ length-map-range_with_len (λ _. counts_of []) 0 c.args.shape.dims;
  counts = λ dim l. let none : counts_at c.in-Ok.columns.items dim ≡ counts_of [] = column_at c.in-Ok.columns.items c.args.shape.dims (counts_of []) c.in-Ok.ensures dim l in record {
    each_value = ap length none ∙ length-counts_of [];
    all = ap sum none ∙ sum-counts_of [] (All-nil (λ x. x < 256));
  };
}

pub returns-in-Ok-clause-none : goal.returns-in-Ok-clause-none
returns-in-Ok-clause-none c = record {
  added = refl;
  bytes = λ dim l. All-nil (λ x. x < 256);
  counts = λ dim l. column_at c.in-Ok.columns.items c.args.shape.dims (counts_of []) c.in-Ok.ensures dim l;
}
