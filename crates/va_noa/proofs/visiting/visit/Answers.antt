use Rattle.std.proofs.Common.{◌≡◌, ◌<◌, true, false, ltb, ◌∷◌, ◌++◌, [], List, ℕ, length, refl, ap, ◌∙◌, sym, subst, rules, arith}
use Rattle.std.proofs.lemmas.List.Sorted.{length_permutation}
use Rattle.va_core.specs.Ranking.{lesser}
use Rattle.va_keep.specs.Queued as queues
use Rattle.va_ports.specs.Searches.{Stopped, Took, clamped_distance}
use Rattle.va_ports.specs.Shelves.{Contents}
use Rattle.va_bounded.specs.BoundedCells.{HasBounds, cell_of, wide_cells}
use Rattle.va_bounded.proofs.Giving.{err_is}
use Rattle.va_noa.specs.Entries.{bounded_at}
use Rattle.va_noa.specs.NearestReads.{clamped_needed}
use Rattle.va_noa.proofs.Popping.{entries_rest, entry_first}
use Rattle.va_noa.proofs.VisitSteps.{Pops, none_left, popped, popped_bounds, stops_at, visits_kept, visits_more, visits_start, visits_stopped, visits_took}
use Rattle.va_noa.proofs.visiting.visit.Goals as goal

pub loop-entry-init : goal.loop-entry-init
loop-entry-init g c =
    let cs = g.S.Shelf.contents c.args.shelf.now in
    let none : length c.args.fetched.now.items ≡ 0 = ap length c.requires.none_fetched in
    record {
      stay = refl;
      entries = c.requires.entries;
      visits = visits_start g.met.S.Shelf.passes_none refl c.requires.none_kept c.requires.none_fetched c.requires.held;
      room = omega (arith, none, c.requires.room);
      faults = refl;
    }

pub loop-entry-smaller : goal.loop-entry-smaller
loop-entry-smaller g c =
    let count : length (c.in-Some.entry ∷ c.pop.new.self.entries) ≡ length c.loop-entry.queue.entries = length_permutation c.loop-entry.queue.entries (c.in-Some.entry ∷ c.pop.new.self.entries) c.in-Some.ensures.rest in
    omega (arith, count)

pub known_distance-requires-clause-place : goal.known_distance-requires-clause-place
known_distance-requires-clause-place g c =
    subst (λ (x : Contents). c.in-Some.entry.place < x.shape.capacity) (sym c.loop-entry.invariant.stay)
    (entry_first (g.S.Shelf.contents c.args.shelf.now).shape.capacity c.in-Some.ensures.rest c.loop-entry.invariant.entries).0

pub known_distance-requires-clause-order : goal.known_distance-requires-clause-order
known_distance-requires-clause-order g c =
    (entry_first (g.S.Shelf.contents c.args.shelf.now).shape.capacity c.in-Some.ensures.rest c.loop-entry.invariant.entries).1

pub known_distance-requires-clause-room : goal.known_distance-requires-clause-room
known_distance-requires-clause-room g c =
    let count : length (c.in-Some.entry ∷ c.pop.new.self.entries) ≡ length c.loop-entry.queue.entries = length_permutation c.loop-entry.queue.entries (c.in-Some.entry ∷ c.pop.new.self.entries) c.in-Some.ensures.rest in
    omega (arith, count, c.loop-entry.invariant.room)

pub known_distance-requires-clause-bounds : goal.known_distance-requires-clause-bounds
known_distance-requires-clause-bounds g c t =
    let cs = g.S.Shelf.contents c.args.shelf.now in
    let query = c.args.query.now in
    let entry = c.in-Some.entry in
    let v = c.loop-entry.invariant.visits in
    let pops : Pops g.S.Shelf cs query v.rest entry c.pop.new.self.entries =
    popped (g.met.S.Shelf.sound c.args.shelf.now).ids v c.in-Some.ensures.rest c.in-Some.ensures.least in
    subst (λ (x : Contents). HasBounds x query (bounded_at entry)) (sym c.loop-entry.invariant.stay) (popped_bounds pops t)

pub returns-then-not-is_near-clause-took : goal.returns-then-not-is_near-clause-took
returns-then-not-is_near-clause-took g c =
    let cs = g.S.Shelf.contents c.args.shelf.now in
    let query = c.args.query.now in
    let k = c.args.keep.now.most in
    let entry = c.in-Some.entry in
    let kept = c.loop-entry.keep in
    let v = c.loop-entry.invariant.visits in
    let pops : Pops g.S.Shelf cs query v.rest entry c.pop.new.self.entries =
    popped (g.met.S.Shelf.sound c.args.shelf.now).ids v c.in-Some.ensures.rest c.in-Some.ensures.least in
    let far : ltb (lesser kept.pairs (queues.low_pair entry)) kept.most ≡ false = search rules in
    visits_took c.requires.ordered v
    (stops_at c.requires.ordered v pops far)

pub returns-then-not-is_near-clause-kept : goal.returns-then-not-is_near-clause-kept
returns-then-not-is_near-clause-kept g c t =
    let cs = g.S.Shelf.contents c.args.shelf.now in
    let query = c.args.query.now in
    let k = c.args.keep.now.most in
    let entry = c.in-Some.entry in
    let kept = c.loop-entry.keep in
    let ids = (g.met.S.Shelf.sound c.args.shelf.now).ids in
    let v = c.loop-entry.invariant.visits in
    let pops : Pops g.S.Shelf cs query v.rest entry c.pop.new.self.entries =
    popped ids v c.in-Some.ensures.rest c.in-Some.ensures.least in
    let far : ltb (lesser kept.pairs (queues.low_pair entry)) kept.most ≡ false = search rules in
    visits_kept c.requires.ordered v
    (stops_at c.requires.ordered v pops far) ids t

pub returns-in_err-dist-clause-stopped : goal.returns-in_err-dist-clause-stopped
returns-in_err-dist-clause-stopped g c =
    let cs = g.S.Shelf.contents c.args.shelf.now in
    let query = c.args.query.now in
    let k = c.args.keep.now.most in
    let entry = c.in-Some.entry in
    let kept = c.loop-entry.keep in
    let why = c.in_err-dist.field-0.0 in
    let v = c.loop-entry.invariant.visits in
    let pops : Pops g.S.Shelf cs query v.rest entry c.pop.new.self.entries =
    popped (g.met.S.Shelf.sound c.args.shelf.now).ids v c.in-Some.ensures.rest c.in-Some.ensures.least in
    let near : ltb (lesser kept.pairs (queues.low_pair entry)) kept.most ≡ true = search rules in
    let stop : (reads : List (ℕ × ℕ)) → Stopped g.S.Shelf cs query (wide_cells cs query (cell_of (bounded_at entry) ∷ []) ++ reads) c.loop-entry.shelf c.known_distance.new.shelf why =
    subst (λ (x : Contents). (reads : List (ℕ × ℕ)) → Stopped g.S.Shelf x query (wide_cells x query (cell_of (bounded_at entry) ∷ []) ++ reads) c.loop-entry.shelf c.known_distance.new.shelf why) c.loop-entry.invariant.stay c.in_err-dist.ensures.stopped in
    err_is c.from_residual.result why (Stopped g.S.Shelf cs query (clamped_needed cs query k) c.args.shelf.now c.known_distance.new.shelf) c.from_residual.ensures.1
    (visits_stopped c.requires.ordered v pops g.met.S.Shelf.passes_both near stop c.in_err-dist.ensures.never_memory)

pub loop-entry-preserved : goal.loop-entry-preserved
loop-entry-preserved g c =
    let cs = g.S.Shelf.contents c.args.shelf.now in
    let query = c.args.query.now in
    let k = c.args.keep.now.most in
    let entry = c.in-Some.entry in
    let kept = c.loop-entry.keep in
    let v = c.loop-entry.invariant.visits in
    let stay = c.loop-entry.invariant.stay in
    let pops : Pops g.S.Shelf cs query v.rest entry c.pop.new.self.entries =
    popped (g.met.S.Shelf.sound c.args.shelf.now).ids v c.in-Some.ensures.rest c.in-Some.ensures.least in
    let near : ltb (lesser kept.pairs (queues.low_pair entry)) kept.most ≡ true = search rules in
    let count : length (entry ∷ c.pop.new.self.entries) ≡ length c.loop-entry.queue.entries = length_permutation c.loop-entry.queue.entries (entry ∷ c.pop.new.self.entries) c.in-Some.ensures.rest in
    let dist : g.S.Shelf.told → c.in_ok-dist.dist ≡ clamped_distance cs query (cell_of (bounded_at entry)) =
    subst (λ (x : Contents). g.S.Shelf.told → c.in_ok-dist.dist ≡ clamped_distance x query (cell_of (bounded_at entry))) stay c.in_ok-dist.ensures.distance in
    let took : Took g.S.Shelf cs query (wide_cells cs query (cell_of (bounded_at entry) ∷ [])) c.loop-entry.shelf c.known_distance.new.shelf c.loop-entry.fetched.items c.known_distance.new.fetched.items =
    subst (λ (x : Contents). Took g.S.Shelf x query (wide_cells x query (cell_of (bounded_at entry) ∷ [])) c.loop-entry.shelf c.known_distance.new.shelf c.loop-entry.fetched.items c.known_distance.new.fetched.items) stay c.in_ok-dist.ensures.took in
    record {
      stay = c.in_ok-dist.ensures.contents ∙ stay;
      entries = entries_rest cs.shape.capacity c.in-Some.ensures.rest c.loop-entry.invariant.entries;
      visits = visits_more c.requires.ordered v pops g.met.S.Shelf.passes_both near dist took c.offer.ensures;
      room = omega (arith, count, c.loop-entry.invariant.room, c.in_ok-dist.ensures.few, c.in_ok-dist.ensures.room);
      faults = c.in_ok-dist.ensures.cause.stayed ∙ c.loop-entry.invariant.faults;
    }

pub returns-clause-took : goal.returns-clause-took
returns-clause-took g c =
    let cs = g.S.Shelf.contents c.args.shelf.now in
    let k = c.args.keep.now.most in
    let v = c.loop-entry.invariant.visits in
    visits_took c.requires.ordered v
    (none_left v (search rules))

pub returns-clause-kept : goal.returns-clause-kept
returns-clause-kept g c t =
    let cs = g.S.Shelf.contents c.args.shelf.now in
    let k = c.args.keep.now.most in
    let v = c.loop-entry.invariant.visits in
    visits_kept c.requires.ordered v
    (none_left v (search rules)) (g.met.S.Shelf.sound c.args.shelf.now).ids t
