use Rattle.std.proofs.Common.{inr, refl, arith, ap, length}
use Rattle.va_store.specs.Index.{IsOrdered}
use Rattle.va_store.proofs.FilledTo.{filled_none}
use Rattle.va_store.proofs.Sorted.{first_twice, index_of_ordered, none_twice}
use Rattle.va_store.proofs.index.Index.of.Goals as goal

pub returns-in-Some-clause-refused : goal.returns-in-Some-clause-refused
returns-in-Some-clause-refused c =
    let ordered : IsOrdered c.args.ids.items c.in_ok-entries.entries.items = rw c.deref.ensures.value at c.in_ok-entries.ensures.ordered in
    inr (first_twice ordered c.in-Some.repeat (rw c.deref-2.ensures.value at c.in-Some.ensures))

pub invariant_of-result : goal.invariant_of-result
invariant_of-result c =
    let ordered : IsOrdered c.args.ids.items c.in_ok-entries.entries.items = rw c.deref.ensures.value at c.in_ok-entries.ensures.ordered in
    let same = ap length c.deref.ensures.value in (
      index_of_ordered ordered (rw c.deref-2.ensures.value at c.in_default.ensures),
      omega (arith, same, c.in_ok-entries.ensures.room),
      c.requires,
      filled_none _,
    )

pub returns-clause-ids : goal.returns-clause-ids
returns-clause-ids c =
    let ordered : IsOrdered c.args.ids.items c.in_ok-entries.entries.items = rw c.deref.ensures.value at c.in_ok-entries.ensures.ordered in
    (none_twice ordered (rw c.deref-2.ensures.value at c.in_default.ensures), refl)
