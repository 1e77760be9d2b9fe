use Rattle.std.proofs.Common.{rules, ◌≡◌, ◌<◌, ◌^◌, ap, sym, ◌∙◌, subst, arith}
use Rattle.va_core.specs.Shape.{Shape}
use Rattle.va_cursor.specs.Cursors.{AreInside, in_order}
use Rattle.va_cursor.proofs.Opening.{opened_ascends, opened_count, opened_differ, opened_inside, opened_many, opened_places, opened_remains}
use Rattle.va_cursor.proofs.cursor.Cursor.open.Goals as goal

pub invariant_of-result : goal.invariant_of-result
invariant_of-result g c =
    let sound = g.met.S.Shelf.sound c.args.shelf.now in
    let fills = c.in_ok-fill.ensures.fills in
    let shape : c.shape.result ≡ (g.S.Shelf.contents c.args.shelf.now).shape = c.shape.ensures ∙ ap (λ x. x.shape) c.in_ok-fill.ensures.contents in
    let live : c.live-live.result < 2 ^ 32 = search rules in
    let count = opened_count sound fills in
    record {
      weights = c.requires ∙ sym (ap (λ (x : Shape). x.dims) shape);
      ascends = opened_ascends sound fills;
      few = omega (arith, live, c.live-live.ensures, opened_many sound fills);
      count = omega (arith, count);
      waiting = record {
        differ = opened_differ sound fills;
        inside = subst (λ (x : Shape). AreInside x.capacity (in_order c.fill.new.queue.entries)) (sym shape) (opened_inside sound fills);
        room = c.in_ok-fill.ensures.room;
      };
    }

pub returns-clause-stands : goal.returns-clause-stands
returns-clause-stands g c t =
    let sound = g.met.S.Shelf.sound c.args.shelf.now in
    let fills = c.in_ok-fill.ensures.fills in
    record {
      sound = sound;
      shape = c.shape.ensures ∙ ap (λ x. x.shape) c.in_ok-fill.ensures.contents;
      places = opened_places sound fills;
      remains = opened_remains sound fills t;
    }
