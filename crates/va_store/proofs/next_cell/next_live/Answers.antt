use Rattle.std.proofs.Common.{rules, ◌≡◌, ◌+◌, ◌<◌, ◌∙◌, ℕ, None, length, drop, get_or, ap, sym, arith}
use Rattle.va_store.specs.Shelved.{cells_from}
use Rattle.va_store.proofs.Shelving.{cells_none, left_at, scans_both}
use Rattle.va_store.proofs.next_cell.next_live.Goals as goal

pub returns-in_err-place-clause-scan : goal.returns-in_err-place-clause-scan
returns-in_err-place-clause-scan g c = scans_both g.D.Storage c.args.store.now c.loop-place.store c.next_place.new.store c.args.disk.now c.loop-place.disk c.next_place.new.disk c.loop-place.invariant.scan c.next_place.ensures.scan

pub returns-in-Some-id_at-clause-scan : goal.returns-in-Some-id_at-clause-scan
returns-in-Some-id_at-clause-scan g c = scans_both g.D.Storage c.args.store.now c.loop-place.store c.next_place.new.store c.args.disk.now c.loop-place.disk c.next_place.new.disk c.loop-place.invariant.scan c.next_place.ensures.scan

pub loop-place-preserved : goal.loop-place-preserved
loop-place-preserved g c =
    let so_far = c.loop-place.invariant in
    let before = c.loop-place.store in
    let after = c.next_place.new.store in
    let place = c.in-Some.place in
    let given : (place ≡ before.scan.place) × (after.scan.place ≡ place + 1) = search rules in
    let inside : place < before.shape.capacity = search rules in
    let empty : get_or before.ids place None ≡ None = search rules in
    let less : place < length before.ids = omega (arith, inside, c.next_place.ensures.ids) in
    record {
      left = left_at before after (place + 1) c.next_place.ensures.scan.same given.1 ∙ sym (cells_none before.ids place less empty)
          ∙ ap (λ (n : ℕ). cells_from n (drop n before.ids)) given.0 ∙ so_far.left;
      scan = scans_both g.D.Storage c.args.store.now before after c.args.disk.now c.loop-place.disk c.next_place.new.disk so_far.scan c.next_place.ensures.scan;
      unchanged = c.next_place.ensures.changed ∙ so_far.unchanged;
      code_length = c.next_place.ensures.length ∙ so_far.code_length;
      quiet = c.in_ok-place.ensures.cause.stayed ∙ so_far.quiet;
    }

pub returns-clause-scan : goal.returns-clause-scan
returns-clause-scan g c = scans_both g.D.Storage c.args.store.now c.loop-place.store c.next_place.new.store c.args.disk.now c.loop-place.disk c.next_place.new.disk c.loop-place.invariant.scan c.next_place.ensures.scan
