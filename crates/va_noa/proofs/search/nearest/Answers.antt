use Rattle.std.proofs.Common.{◌≡◌, ◌≤◌, ◌++◌, List, ℕ, filter, length, map, ap, ◌∙◌, sym, subst, arith}
use Rattle.va_core.specs.declared.pair.Pair.{Pair}
use Rattle.va_core.specs.Ranking.{answer}
use Rattle.va_keep.specs.Kept.{Kept}
use Rattle.va_keep.specs.Queued.{is_near_to}
use Rattle.va_ports.proofs.Own.{clamped_own, own_between}
use Rattle.va_ports.proofs.Searching.{stopped_shelf}
use Rattle.va_ports.specs.Shelves.{Contents, id_of, place_of}
use Rattle.va_ports.specs.declared.search.SearchFault.TheVariants.{Shelf}
use Rattle.va_bounded.specs.Keeps.{clamped_pairs}
use Rattle.va_bounded.proofs.Giving.{err_is, want_stops}
use Rattle.va_noa.specs.Entries.{AreEntries}
use Rattle.va_noa.specs.Filling.{AreOrdered, Fills, HoldsQueued}
use Rattle.va_noa.specs.NearestReads.{StoppedNeeded, TookNeeded, clamped_needed}
use Rattle.va_noa.proofs.Ends.{fills_for, kept_since, none_for_want, stopped_since, took_since}
use Rattle.va_noa.proofs.LeastRead.{candidates_counted, nearest_is_least, needed_few, needed_own}
use Rattle.va_noa.proofs.search.nearest.Goals as goal

pub returns-in_err-bounds-clause-stopped : goal.returns-in_err-bounds-clause-stopped
returns-in_err-bounds-clause-stopped g c =
    let cs = g.S.Shelf.contents c.args.shelf.now in
    let query = c.args.query.now in
    want_stops g.S.Shelf cs query g.met.S.Shelf.passes_none (clamped_needed cs query c.args.k) c.args.shelf.now c.from_residual.result c.from_residual.ensures.1

pub returns-in_err-highs-clause-stopped : goal.returns-in_err-highs-clause-stopped
returns-in_err-highs-clause-stopped g c =
    let cs = g.S.Shelf.contents c.args.shelf.now in
    let query = c.args.query.now in
    want_stops g.S.Shelf cs query g.met.S.Shelf.passes_none (clamped_needed cs query c.args.k) c.args.shelf.now c.from_residual-in_err-highs.result c.from_residual-in_err-highs.ensures.1

pub returns-in_err-keep-clause-stopped : goal.returns-in_err-keep-clause-stopped
returns-in_err-keep-clause-stopped g c =
    let cs = g.S.Shelf.contents c.args.shelf.now in
    let query = c.args.query.now in
    want_stops g.S.Shelf cs query g.met.S.Shelf.passes_none (clamped_needed cs query c.args.k) c.args.shelf.now c.from_residual-in_err-keep.result c.from_residual-in_err-keep.ensures.1

pub returns-in_err-queue-clause-stopped : goal.returns-in_err-queue-clause-stopped
returns-in_err-queue-clause-stopped g c =
    let cs = g.S.Shelf.contents c.args.shelf.now in
    let query = c.args.query.now in
    want_stops g.S.Shelf cs query g.met.S.Shelf.passes_none (clamped_needed cs query c.args.k) c.args.shelf.now c.from_residual-in_err-queue.result c.from_residual-in_err-queue.ensures.1

pub returns-in_err-fill-clause-stopped : goal.returns-in_err-fill-clause-stopped
returns-in_err-fill-clause-stopped g c =
    let cs = g.S.Shelf.contents c.args.shelf.now in
    let query = c.args.query.now in
    let fault = c.in_err-fill.field-0.0 in
    err_is c.from_residual-in_err-fill.result (Shelf fault) (StoppedNeeded g.S.Shelf query c.args.k c.args.shelf.now c.fill.new.shelf) c.from_residual-in_err-fill.ensures.1
    (stopped_shelf g.S.Shelf cs query (clamped_needed cs query c.args.k) c.args.shelf.now c.fill.new.shelf fault c.in_err-fill.ensures.passes)

pub returns-in_default-clause-stopped : goal.returns-in_default-clause-stopped
returns-in_default-clause-stopped g c = none_for_want c.in_ok-fill.ensures.passes

pub visit-requires-clause-entries : goal.visit-requires-clause-entries
visit-requires-clause-entries g c =
    subst (λ (x : Contents). AreEntries x.shape.capacity c.fill.new.queue.entries) (sym c.in_ok-fill.ensures.contents) c.in_ok-fill.ensures.entries

pub visit-requires-clause-held : goal.visit-requires-clause-held
visit-requires-clause-held g c told =
    let cs = g.S.Shelf.contents c.args.shelf.now in
    let query = c.args.query.now in
    let k = c.args.k in
    let fills : Fills g.S.Shelf.told cs query k cs.cells c.fill.new.highs c.fill.new.queue.entries = fills_for (ap (λ (x : Kept). x.most) c.in_ok-highs.ensures) c.in_ok-fill.ensures.fills in
    let entries = c.fill.new.queue.entries in
    subst (λ (x : Contents). HoldsQueued x query c.in_ok-keep.keep.most entries) (sym c.in_ok-fill.ensures.contents)
    (subst (λ (n : ℕ). HoldsQueued cs query n entries) (sym (ap (λ (x : Kept). x.most) c.in_ok-keep.ensures)) (fills.held told))

pub visit-requires-clause-ordered : goal.visit-requires-clause-ordered
visit-requires-clause-ordered g c told =
    subst (λ (x : Contents). AreOrdered x c.args.query.now x.cells) (sym c.in_ok-fill.ensures.contents) (c.in_ok-fill.ensures.fills.ordered told)

pub returns-in_err-visit-clause-stopped : goal.returns-in_err-visit-clause-stopped
returns-in_err-visit-clause-stopped g c =
    let stop : StoppedNeeded g.S.Shelf c.args.query.now c.args.k c.args.shelf.now c.visit.new.shelf c.in_err-visit.field-0.0 =
    stopped_since g.S.Shelf g.met.S.Shelf.passes_both c.args.query.now c.in_ok-fill.ensures.passes c.in_ok-fill.ensures.contents (ap (λ (x : Kept). x.most) c.in_ok-keep.ensures) c.in_err-visit.field-0.0 c.in_err-visit.ensures.stopped c.in_err-visit.ensures.never_memory in
    err_is c.from_residual-in_err-visit.result c.in_err-visit.field-0.0 (StoppedNeeded g.S.Shelf c.args.query.now c.args.k c.args.shelf.now c.visit.new.shelf) c.from_residual-in_err-visit.ensures.1 stop

pub returns-in_err-visit-clause-goes_on : goal.returns-in_err-visit-clause-goes_on
returns-in_err-visit-clause-goes_on g c =
    let stop : StoppedNeeded g.S.Shelf c.args.query.now c.args.k c.args.shelf.now c.visit.new.shelf c.in_err-visit.field-0.0 =
    stopped_since g.S.Shelf g.met.S.Shelf.passes_both c.args.query.now c.in_ok-fill.ensures.passes c.in_ok-fill.ensures.contents (ap (λ (x : Kept). x.most) c.in_ok-keep.ensures) c.in_err-visit.field-0.0 c.in_err-visit.ensures.stopped c.in_err-visit.ensures.never_memory in
    (map place_of (stop.before ++ stop.last), stop.passed)

pub returns-clause-known : goal.returns-clause-known
returns-clause-known g c told =
    let query = c.args.query.now in
    c.into_sorted.ensures.held ∙ kept_since query c.visit.new.keep.pairs c.in_ok-fill.ensures.contents (ap (λ (x : Kept). x.most) c.in_ok-keep.ensures) (c.in_ok-visit.ensures.kept told)

pub returns-clause-pairs : goal.returns-clause-pairs
returns-clause-pairs g c told own =
    let cs = g.S.Shelf.contents c.args.shelf.now in
    let query = c.args.query.now in
    let k = c.args.k in
    let known : c.into_sorted.result ≡ answer (clamped_pairs cs query cs.cells) k = c.into_sorted.ensures.held ∙ kept_since query c.visit.new.keep.pairs c.in_ok-fill.ensures.contents (ap (λ (x : Kept). x.most) c.in_ok-keep.ensures) (c.in_ok-visit.ensures.kept told) in
    known ∙ ap (λ (l : List Pair). answer l k) (clamped_own cs query cs.cells (own_between cs (g.met.S.Shelf.sound c.args.shelf.now) query cs.cells own))

pub returns-clause-fetched : goal.returns-clause-fetched
returns-clause-fetched g c told own =
    let cs = g.S.Shelf.contents c.args.shelf.now in
    let took : TookNeeded g.S.Shelf c.args.query.now c.args.k c.args.shelf.now c.visit.new.shelf c.visit.new.fetched.items =
    took_since g.S.Shelf g.met.S.Shelf.passes_both c.args.query.now c.in_ok-fill.ensures.passes c.in_ok-fill.ensures.contents (ap (λ (x : Kept). x.most) c.in_ok-keep.ensures) c.visit.new.fetched.items c.in_ok-visit.ensures.took in
    took.listed ∙ ap (map id_of) (took.exact told ∙ needed_own cs (g.met.S.Shelf.sound c.args.shelf.now) c.args.query.now c.args.k own)

pub returns-clause-took : goal.returns-clause-took
returns-clause-took g c =
    took_since g.S.Shelf g.met.S.Shelf.passes_both c.args.query.now c.in_ok-fill.ensures.passes c.in_ok-fill.ensures.contents (ap (λ (x : Kept). x.most) c.in_ok-keep.ensures) c.visit.new.fetched.items c.in_ok-visit.ensures.took

pub returns-clause-least : goal.returns-clause-least
returns-clause-least g c told own =
    let cs = g.S.Shelf.contents c.args.shelf.now in
    let query = c.args.query.now in
    let k = c.args.k in
    let sound = g.met.S.Shelf.sound c.args.shelf.now in
    let took : TookNeeded g.S.Shelf c.args.query.now c.args.k c.args.shelf.now c.visit.new.shelf c.visit.new.fetched.items =
    took_since g.S.Shelf g.met.S.Shelf.passes_both c.args.query.now c.in_ok-fill.ensures.passes c.in_ok-fill.ensures.contents (ap (λ (x : Kept). x.most) c.in_ok-keep.ensures) c.visit.new.fetched.items c.in_ok-visit.ensures.took in
    nearest_is_least cs sound query k c.visit.new.fetched.items own (took.listed ∙ ap (map id_of) (took.exact told ∙ needed_own cs sound query k own))

pub returns-clause-candidates : goal.returns-clause-candidates
returns-clause-candidates g c told =
    let cs = g.S.Shelf.contents c.args.shelf.now in
    let query = c.args.query.now in
    let k = c.args.k in
    let fills : Fills g.S.Shelf.told cs query k cs.cells c.fill.new.highs c.fill.new.queue.entries = fills_for (ap (λ (x : Kept). x.most) c.in_ok-highs.ensures) c.in_ok-fill.ensures.fills in
    c.count_near-candidates.ensures ∙ candidates_counted fills told

pub returns-clause-few : goal.returns-clause-few
returns-clause-few g c told =
    let cs = g.S.Shelf.contents c.args.shelf.now in
    let query = c.args.query.now in
    let k = c.args.k in
    let took : TookNeeded g.S.Shelf c.args.query.now c.args.k c.args.shelf.now c.visit.new.shelf c.visit.new.fetched.items =
    took_since g.S.Shelf g.met.S.Shelf.passes_both c.args.query.now c.in_ok-fill.ensures.passes c.in_ok-fill.ensures.contents (ap (λ (x : Kept). x.most) c.in_ok-keep.ensures) c.visit.new.fetched.items c.in_ok-visit.ensures.took in
    let fills : Fills g.S.Shelf.told cs query k cs.cells c.fill.new.highs c.fill.new.queue.entries = fills_for (ap (λ (x : Kept). x.most) c.in_ok-highs.ensures) c.in_ok-fill.ensures.fills in
    let few : length c.visit.new.fetched.items ≤ length (filter (is_near_to c.fill.new.highs) c.fill.new.queue.entries) =
    needed_few fills told (took.listed ∙ ap (map id_of) (took.exact told)) in
    omega (arith, few, c.count_near-candidates.ensures)

pub returns-clause-goes_on : goal.returns-clause-goes_on
returns-clause-goes_on g c =
    let took : TookNeeded g.S.Shelf c.args.query.now c.args.k c.args.shelf.now c.visit.new.shelf c.visit.new.fetched.items =
    took_since g.S.Shelf g.met.S.Shelf.passes_both c.args.query.now c.in_ok-fill.ensures.passes c.in_ok-fill.ensures.contents (ap (λ (x : Kept). x.most) c.in_ok-keep.ensures) c.visit.new.fetched.items c.in_ok-visit.ensures.took in
    (map place_of took.read, took.passed)
