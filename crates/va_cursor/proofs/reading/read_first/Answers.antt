use Rattle.std.proofs.Common.{rules, ◌≡◌, ◌+◌, ◌<◌, ◌≤◌, ◌^◌, ◌∷◌, [], ◌⊎◌, List, true, false, refl, ap, sym, subst, ◌∙◌, arith}
use Rattle.va_core.specs.Distance.{distance}
use Rattle.va_keep.specs.declared.entry.Entry.{Entry}
use Rattle.va_cursor.specs.Cursors.{AreInside, in_order}
use Rattle.va_cursor.specs.Fetches.{IsKnown}
use Rattle.va_cursor.specs.Rankings.{is_wide}
use Rattle.va_cursor.proofs.Ordering.{first_in_order}
use Rattle.va_cursor.proofs.Visiting.{IsSettled, as_many, fewer_wide, put_back, visits_one, waiting_settled, wide_some}
use Rattle.va_cursor.proofs.reading.read_first.Given.{Over}
use Rattle.va_cursor.proofs.reading.read_first.Goals as goal

pub returns-then-entry-clause-known : goal.returns-then-entry-clause-known
returns-then-entry-clause-known g c same =
    let split = first_in_order c.args.queue.now.entries c.requires.waiting.differ c.in-Some.ensures.held c.in-Some.ensures.least in
    let narrow : is_wide c.in-Some.entry ≡ false = search rules in
    subst IsKnown (sym split.1) narrow

pub fetch-requires-clause-place : goal.fetch-requires-clause-place
fetch-requires-clause-place g c =
    let split = first_in_order c.args.queue.now.entries c.requires.waiting.differ c.in-Some.ensures.held c.in-Some.ensures.least in
    (subst (AreInside (g.S.Shelf.contents c.args.shelf.now).shape.capacity) split.1 c.requires.waiting.inside).0

pub overflow_add-count : goal.overflow_add-count
overflow_add-count g c =
    let split = first_in_order c.args.queue.now.entries c.requires.waiting.differ c.in-Some.ensures.held c.in-Some.ensures.least in
    let wide : is_wide c.in-Some.entry ≡ true = search rules in
    let some = wide_some split.1 wide in
    let sum : c.args.count.now + 1 < 2 ^ 32 = omega (arith, some, c.requires.small) in
    search (rules, sum)

pub returns-then-dist-entry-clause-halts : goal.returns-then-dist-entry-clause-halts
returns-then-dist-entry-clause-halts g c =
    let e = c.in-Some.entry in
    let dist = c.distance-dist.result in
    let split = first_in_order c.args.queue.now.entries c.requires.waiting.differ c.in-Some.ensures.held c.in-Some.ensures.least in
    let wide : is_wide e ≡ true = search rules in
    let outside : (dist < e.low) ⊎ (e.high < dist) = search rules in
    record {
      read = [];
      last = e ∷ [];
      passed = c.in-Ok.ensures.passes;
      counted = refl;
      reads = λ _. refl;
      ends = record {
        entry = e;
        rest = split.0;
        first = split.1;
        is_last = refl;
        wide = wide;
        place_is = refl;
        low_is = refl;
        high_is = refl;
        outside = outside;
        dist_is = λ t. c.distance-dist.ensures.distance ∙ ap (distance c.args.query.now) (c.in-Ok.ensures.vector t);
      };
    }

-- the first entry was put back with its distance
settled_now : (g : Over) (c : goal.After-settle_first g) → (rest : List Entry) × IsSettled (in_order c.args.queue.now.entries) (in_order c.settle_first.new.queue.entries) c.in-Some.entry rest c.distance-dist.result
settled_now g c =
    let wide : is_wide c.in-Some.entry ≡ true = search rules in
    let low : c.in-Some.entry.low ≤ c.distance-dist.result = search rules in
    let high : c.distance-dist.result ≤ c.in-Some.entry.high = search rules in
    put_back c.args.queue.now.entries c.settle_first.new.queue.entries
    (first_in_order c.args.queue.now.entries c.requires.waiting.differ c.in-Some.ensures.held c.in-Some.ensures.least) c.settle_first.ensures.settled wide low high

pub returns-clause-visits : goal.returns-clause-visits
returns-clause-visits g c =
    visits_one g.S.Shelf c.args.query.now c.args.shelf.now c.fetch.new.self c.args.count.now (settled_now g c).1
    (λ t. c.distance-dist.ensures.distance ∙ ap (distance c.args.query.now) (c.in-Ok.ensures.vector t)) c.in-Ok.ensures.passes

pub returns-clause-fewer : goal.returns-clause-fewer
returns-clause-fewer g c same = fewer_wide (settled_now g c).1

pub returns-clause-waiting : goal.returns-clause-waiting
returns-clause-waiting g c = waiting_settled (settled_now g c).1 c.settle_first.ensures.count c.settle_first.ensures.room c.requires.waiting

pub returns-clause-small : goal.returns-clause-small
returns-clause-small g c =
    let fewer = fewer_wide (settled_now g c).1 in
    omega (arith, fewer, c.requires.small)

pub returns-clause-as_many : goal.returns-clause-as_many
returns-clause-as_many g c = as_many (settled_now g c).1
