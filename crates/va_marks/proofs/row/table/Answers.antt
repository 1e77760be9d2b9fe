use Rattle.std.proofs.Common.{◌≡◌, ℕ, List, ◌+◌, ◌<◌, length, get_or, arith, below_more, ◌∙◌, sym, ap, [], ◌∷◌, ◌++◌}
use Rattle.std.proofs.lemmas.List.{get_or_push, get_or_append_left, length_push}
use Rattle.va_core.specs.Marks.{slice_of}
use Rattle.va_core.proofs.Slices.{slice_between}
use Rattle.va_marks.proofs.row.table.Goals as goal

-- a slice more
pushed : (marks xs ys : List ℕ) (v s : ℕ) → length xs ≡ v → ys ≡ xs ++ s ∷ [] → ((k : ℕ) → k < v → get_or xs k 0 ≡ slice_of marks k) → s ≡ slice_of marks v → (k : ℕ) → k < v + 1 → get_or ys k 0 ≡ slice_of marks k
pushed marks xs ys v s l e h f = below_more (λ k. get_or ys k 0 ≡ slice_of marks k) v
    (λ k p. ap (λ zs. get_or zs k 0) e ∙ get_or_append_left xs (s ∷ []) 0 k (omega arith) ∙ h k p)
    (ap (λ zs. get_or zs v 0) e ∙ get_or_push xs s 0 v l ∙ f)

pub loop-value-preserved : goal.loop-value-preserved
loop-value-preserved c = record {
  one_each = ap length c.in_ok-push.ensures.items ∙ length_push c.loop-value.slices.items _ ∙ ap (λ n. n + 1) c.loop-value.invariant.one_each;
  inside = c.slice_from-slice.ensures.inside;
  low = omega (arith, c.slice_from-slice.ensures.low);
  exact = pushed c.args.marks.now c.loop-value.slices.items c.push.new.self.items c.loop-value.value c.slice_from-slice.result c.loop-value.invariant.one_each c.in_ok-push.ensures.items c.loop-value.invariant.exact
      (sym (slice_between c.args.marks.now c.slice_from-slice.result c.loop-value.value c.requires.valid c.slice_from-slice.ensures.inside c.slice_from-slice.ensures.low c.slice_from-slice.ensures.high));
}
