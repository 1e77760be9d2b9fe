use Rattle.std.proofs.Common.{List, subst, rules}
use Rattle.std.specs.List.Sorted.{IsNonDecreasingBy, IsPermutation}
use Rattle.std.proofs.lemmas.List.Sorted.{IsNonDecreasingBy-from_sort_by_key}
use Rattle.va_core.specs.Cells.{NamesSlices}
use Rattle.va_maker.proofs.ById.{all_moved, sorted_is}
use Rattle.va_maker.specs.declared.coded.CodedCell.{CodedCell}
use Rattle.va_maker.proofs.coded.coded_cells.Goals as goal

pub returns-clause-cells : goal.returns-clause-cells
returns-clause-cells g c =
    let cs = g.S.Shelf.contents c.args.shelf.now in
    let old = c.in_ok-cells.cells.items in
    let new = c.sort_unstable_by_key.new.self.items in
    let sorted : IsNonDecreasingBy (λ (cell : CodedCell). cell.id) new = IsNonDecreasingBy-from_sort_by_key (λ (cell : CodedCell). cell.id) _ c.sort_unstable_by_key.ensures.sorted (λ a r q k. search rules) in
    record {
      names = all_moved (λ (cell : CodedCell). NamesSlices cs.marks cell.code) old new c.sort_unstable_by_key.ensures.permutation c.in_ok-cells.ensures.names;
      all = λ t. sorted_is cs cs.cells new (g.met.S.Shelf.sound c.args.shelf.now).ids
          (subst (λ (l : List CodedCell). IsPermutation l new) (c.in_ok-cells.ensures.all t) c.sort_unstable_by_key.ensures.permutation) sorted;
    }
