use Rattle.std.proofs.Common.{◌≡◌, ◌++◌, ◌∷◌, [], List, length, ap, sym, ◌∙◌, subst, arith}
use Rattle.std.specs.List.{AllByRecursion}
use Rattle.std.proofs.lemmas.List.{length_push}
use Rattle.va_bound.specs.declared.entry.Entry.{Entry}
use Rattle.va_bound.specs.Extremes.{IsSmall}
use Rattle.va_bound.specs.Tables.{AreRight}
use Rattle.va_bound.proofs.Tables.{right_pushed, small_pushed}
use Rattle.va_bound.proofs.making.push_row.Goals as goal

pub loop-slice-preserved : goal.loop-slice-preserved
loop-slice-preserved c =
    let items : c.push_reserved.new.self.items ≡ c.loop-slice.entries.items ++ c.entry_of.result ∷ [] = c.push_reserved.ensures.items in
    record {
      place = ap (λ (entries : List Entry). length entries) items ∙ length_push c.loop-slice.entries.items c.entry_of.result ∙ omega (arith, c.loop-slice.invariant.place);
      room = c.push_reserved.ensures.capacity ∙ c.loop-slice.invariant.room;
      right = subst (λ (entries : List Entry). AreRight c.args.marks.now c.args.query.now c.args.slices entries) (sym items)
          (right_pushed c.args.marks.now c.args.query.now c.args.slices c.args.dim c.loop-slice.slice c.loop-slice.entries.items c.entry_of.result c.loop-slice.invariant.place c.loop-slice-test.true c.loop-slice.invariant.right c.entry_of.ensures.right);
      small = subst (AllByRecursion IsSmall) (sym items) (small_pushed c.loop-slice.entries.items c.entry_of.result c.loop-slice.invariant.small c.entry_of.ensures.small);
    }
