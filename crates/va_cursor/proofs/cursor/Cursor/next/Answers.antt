use Rattle.std.proofs.Common.{rules, ◌≡◌, ◌+◌, ◌<◌, ◌^◌, suc, Option, None, Some, [], length, refl, ap, sym, ◌∙◌, subst, arith}
use Rattle.va_core.specs.Shape.{Shape}
use Rattle.va_cursor.specs.Cursors.{Cursor, IsWaiting, in_order}
use Rattle.va_cursor.specs.Rankings.{is_wide}
use Rattle.va_cursor.proofs.Ordering.{popped_in_order, popped_room}
use Rattle.va_cursor.proofs.Visiting.{waiting_popped}
use Rattle.va_cursor.proofs.Giving.{result_failed, took_gave}
use Rattle.va_cursor.proofs.cursor.Cursor.next.Goals as goal
use Rattle.va_core.proofs.Members.{filter_few}

pub read_until_known-requires-clause-small : goal.read_until_known-requires-clause-small
read_until_known-requires-clause-small g c =
    let few = filter_few is_wide (in_order c.self.inside.queue.entries) in
    omega (arith, few, c.self.invariant.count, c.self.invariant.few)

pub returns-in_err-read_until_known-clause-failed : goal.returns-in_err-read_until_known-clause-failed
returns-in_err-read_until_known-clause-failed g c =
    rw (sym c.self.view_is) (result_failed g.S.Shelf c.from_residual.result c.in_err-read_until_known.field-0.0 c.from_residual.ensures.1 c.in_err-read_until_known.ensures.halts
    (record { shape = refl; query = refl; places = refl }) refl)

pub returns-in_default-clause-gave : goal.returns-in_default-clause-gave
returns-in_default-clause-gave g c =
    let none : c.read_until_known.new.queue.entries ≡ [] = search rules in
    let empty : c.pop.new.self.entries ≡ [] = search rules in
    rw (sym c.self.view_is) (λ t snapshot since s kept. took_gave s g.S.Shelf {next = None}
    (record { known = in_order c.read_until_known.new.queue.entries; visits = c.in_ok-read_until_known.ensures.visits; is_known = c.in_ok-read_until_known.ensures.known; gives = (ap in_order none, ap in_order empty) })
    (record { shape = refl; query = refl; places = refl }) refl t kept)

pub overflow_add-self : goal.overflow_add-self
overflow_add-self g c =
    let first = popped_in_order c.in_ok-read_until_known.ensures.waiting.differ c.in-Some.ensures.rest c.in-Some.ensures.least in
    let some : length (in_order c.read_until_known.new.queue.entries) ≡ suc (length (in_order c.pop.new.self.entries)) = ap length first in
    let sum : c.self.inside.given + 1 < 2 ^ 32 = omega (arith, some, c.in_ok-read_until_known.ensures.as_many, c.self.invariant.count, c.self.invariant.few) in
    search (rules, sum)

pub invariant_of-self-2 : goal.invariant_of-self-2
invariant_of-self-2 g c =
    let first = popped_in_order c.in_ok-read_until_known.ensures.waiting.differ c.in-Some.ensures.rest c.in-Some.ensures.least in
    let some : length (in_order c.read_until_known.new.queue.entries) ≡ suc (length (in_order c.pop.new.self.entries)) = ap length first in
    let shape : (g.S.Shelf.contents c.args.shelf.now).shape ≡ c.self.inside.shape = c.requires ∙ ap (λ (x : Cursor). x.shape) (sym c.self.view_is) in
    let fewer = popped_room c.pop.new.self.room c.in-Some.ensures.rest (rw c.in-Some.ensures.room c.in_ok-read_until_known.ensures.waiting.room) in
    record {
      weights = c.self.invariant.weights;
      ascends = c.self.invariant.ascends;
      few = c.self.invariant.few;
      count = omega (arith, some, c.in_ok-read_until_known.ensures.as_many, c.self.invariant.count);
      waiting = subst (λ (x : Shape). IsWaiting x.capacity c.pop.new.self) shape (waiting_popped first fewer c.in_ok-read_until_known.ensures.waiting);
    }

pub returns-clause-gave : goal.returns-clause-gave
returns-clause-gave g c =
    let first = popped_in_order c.in_ok-read_until_known.ensures.waiting.differ c.in-Some.ensures.rest c.in-Some.ensures.least in
    rw (sym c.self.view_is) (λ t snapshot since s kept. took_gave s g.S.Shelf {next = Some c.low_pair.result}
    (record { known = in_order c.read_until_known.new.queue.entries; visits = c.in_ok-read_until_known.ensures.visits; is_known = c.in_ok-read_until_known.ensures.known; gives = (c.in-Some.entry, first, c.low_pair.ensures) })
    (record { shape = refl; query = refl; places = refl }) refl t kept)

pub returns-clause-took : goal.returns-clause-took
returns-clause-took g c =
    let first = popped_in_order c.in_ok-read_until_known.ensures.waiting.differ c.in-Some.ensures.rest c.in-Some.ensures.least in
    rw (sym c.self.view_is)
    (record { known = in_order c.read_until_known.new.queue.entries; visits = c.in_ok-read_until_known.ensures.visits; is_known = c.in_ok-read_until_known.ensures.known; gives = (c.in-Some.entry, first, c.low_pair.ensures) })

pub returns-clause-end : goal.returns-clause-end
returns-clause-end g c =
    let first = popped_in_order c.in_ok-read_until_known.ensures.waiting.differ c.in-Some.ensures.rest c.in-Some.ensures.least in
    let some : length (in_order c.read_until_known.new.queue.entries) ≡ suc (length (in_order c.pop.new.self.entries)) = ap length first in
    rw (sym c.self.view_is) ((λ h. absurd (some_none h)), (λ (h : c.self.inside.given ≡ length c.self.inside.places.items). absurd (omega (arith, h, some, c.in_ok-read_until_known.ensures.as_many, c.self.invariant.count))))
  where
    some_none : {X : Type 0} {x : X} → ◌≡◌ {A = Option X} (Some x) None → ⊥
    some_none h = cc
