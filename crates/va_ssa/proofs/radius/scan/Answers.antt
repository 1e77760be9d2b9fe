use Rattle.std.proofs.Common.{◌≡◌, suc, ◌∷◌, ◌++◌, [], List, ℕ, length, ap, ◌∙◌, sym, subst, arith}
use Rattle.std.proofs.lemmas.Result.{err_from_is_err_and}
use Rattle.va_core.specs.Approximations.{need_within}
use Rattle.va_ports.proofs.Places.{inside_cells}
use Rattle.va_ports.specs.Searches.{Took, Stopped, bounds_of}
use Rattle.va_ports.specs.Shelves.{AreInside, Contents}
use Rattle.va_bounded.specs.BoundedCells.{cell_of}
use Rattle.va_ssa.specs.Within.{found_within}
use Rattle.va_ssa.proofs.Finding.{found_more, within_after, within_reads}
use Rattle.va_ports.specs.declared.search.SearchFault.TheVariants.{Shelf}
use Rattle.va_bounded.proofs.Giving.{err_is, gave_none, gave_some, inside_rest}
use Rattle.va_bounded.proofs.Scanned.{all_taken, scanned_end, scanned_failed, scanned_more, scanned_start, scanned_stopped}
use Rattle.va_ssa.proofs.radius.scan.Goals as goal

pub loop-cell-init : goal.loop-cell-init
loop-cell-init g c =
    let cs = g.S.Shelf.contents c.args.shelf.now in
    let query = c.args.query.now in
    let radius = c.args.radius in
    let none : length c.args.pairs.now.items ≡ 0 = ap length c.requires.no_pairs in
    let none_fetched : length c.args.fetched.now.items ≡ 0 = ap length c.requires.none_fetched in
    let all : length (g.S.Shelf.left c.rewind.new.self) ≡ length cs.cells = ap length c.rewind.ensures.left in
    record {
      stay = c.rewind.ensures.contents;
      scanned = scanned_start g.S.Shelf g.met.S.Shelf.passes_both cs query (within_after cs query radius) (within_reads cs query radius)
          (λ (taken : List (ℕ × ℕ)). g.S.Shelf.told → c.args.pairs.now.items ≡ found_within cs query radius taken) (g.S.Shelf.left c.rewind.new.self) c.args.shelf.now c.rewind.new.self c.args.fetched.now.items
          c.rewind.ensures.left c.requires.none_fetched c.rewind.ensures.passes (λ _. c.requires.no_pairs);
      places = subst (AreInside cs.shape.capacity) (sym c.rewind.ensures.left) (inside_cells 0 cs.shape.capacity cs.cells (g.met.S.Shelf.sound c.args.shelf.now).places);
      pairs_room = omega (arith, all, none, c.requires.pairs_room);
      room = omega (arith, all, none_fetched, c.requires.room);
      few = omega (arith, all, none_fetched);
      faults = c.rewind.ensures.faults;
    }

pub loop-cell-preserved : goal.loop-cell-preserved
loop-cell-preserved g c =
    let cs = g.S.Shelf.contents c.args.shelf.now in
    let query = c.args.query.now in
    let radius = c.args.radius in
    let cell = c.in-Some.cell in
    let left = g.S.Shelf.left c.loop-cell.shelf in
    let left' = g.S.Shelf.left c.next_bounded.new.shelf in
    let first = c.loop-cell.invariant.scanned in
    let stay : g.S.Shelf.contents c.next_bounded.new.shelf ≡ cs = c.in_ok-cell.ensures.contents ∙ c.loop-cell.invariant.stay in
    let gave : left ≡ cell_of cell ∷ left' = gave_some c.in_ok-cell.field-0 cell left left' c.in-Some.is c.in_ok-cell.ensures.gave in
    let same : g.S.Shelf.left c.visit.new.shelf ≡ left' = c.in_ok-visit.ensures.left in
    let fewer : length left ≡ suc (length (g.S.Shelf.left c.visit.new.shelf)) = ap length gave ∙ ap (λ (l : List (ℕ × ℕ)). length (cell_of cell ∷ l)) (sym same) in
    let took : Took g.S.Shelf cs query (need_within (bounds_of cs query) (cell_of cell ∷ []) radius) c.next_bounded.new.shelf c.visit.new.shelf c.loop-cell.fetched.items c.visit.new.fetched.items =
    subst (λ (x : Contents). Took g.S.Shelf x query (need_within (bounds_of x query) (cell_of cell ∷ []) radius) c.next_bounded.new.shelf c.visit.new.shelf c.loop-cell.fetched.items c.visit.new.fetched.items) stay c.in_ok-visit.ensures.took in
    let more : g.S.Shelf.told → c.visit.new.pairs.items ≡ c.loop-cell.pairs.items ++ found_within cs query radius (cell_of cell ∷ []) =
    subst (λ (x : Contents). g.S.Shelf.told → c.visit.new.pairs.items ≡ c.loop-cell.pairs.items ++ found_within x query radius (cell_of cell ∷ [])) stay c.in_ok-visit.ensures.pairs in
    record {
      stay = c.in_ok-visit.ensures.contents ∙ stay;
      scanned = rw same (scanned_more g.S.Shelf g.met.S.Shelf.passes_both cs query (within_after cs query radius) (within_reads cs query radius)
          (λ (taken : List (ℕ × ℕ)). g.S.Shelf.told → c.loop-cell.pairs.items ≡ found_within cs query radius taken) (λ (taken : List (ℕ × ℕ)). g.S.Shelf.told → c.visit.new.pairs.items ≡ found_within cs query radius taken)
          (cell_of cell) left left' c.args.shelf.now c.loop-cell.shelf c.next_bounded.new.shelf c.visit.new.shelf c.loop-cell.fetched.items c.visit.new.fetched.items
          first gave c.in_ok-cell.ensures.passes took (λ t. found_more cs query radius first.taken (cell_of cell) c.loop-cell.pairs.items c.visit.new.pairs.items (first.holds t) (more t)));
      places = rw same (inside_rest cs.shape.capacity (cell_of cell) left left' gave c.loop-cell.invariant.places);
      pairs_room = omega (arith, fewer, c.loop-cell.invariant.pairs_room, c.in_ok-visit.ensures.pairs_few, c.in_ok-visit.ensures.pairs_room);
      room = omega (arith, fewer, c.loop-cell.invariant.room, c.in_ok-visit.ensures.few, c.in_ok-visit.ensures.room);
      few = omega (arith, fewer, c.loop-cell.invariant.few, c.in_ok-visit.ensures.few);
      faults = c.in_ok-visit.ensures.cause.stayed ∙ c.in_ok-cell.ensures.stayed ∙ c.loop-cell.invariant.faults;
    }

pub returns-clause-took : goal.returns-clause-took
returns-clause-took g c =
    let cs = g.S.Shelf.contents c.args.shelf.now in
    let query = c.args.query.now in
    let radius = c.args.radius in
    let left = g.S.Shelf.left c.loop-cell.shelf in
    let none : left ≡ [] = gave_none c.in_ok-cell.field-0 left (g.S.Shelf.left c.next_bounded.new.shelf) c.in_default.not-Some c.in_ok-cell.ensures.gave in
    scanned_end g.S.Shelf g.met.S.Shelf.passes_both cs query (within_after cs query radius) (within_reads cs query radius)
    (λ (taken : List (ℕ × ℕ)). g.S.Shelf.told → c.loop-cell.pairs.items ≡ found_within cs query radius taken) left c.args.shelf.now c.loop-cell.shelf c.next_bounded.new.shelf c.loop-cell.fetched.items
    c.loop-cell.invariant.scanned none c.in_ok-cell.ensures.passes

pub returns-clause-pairs : goal.returns-clause-pairs
returns-clause-pairs g c t =
    let cs = g.S.Shelf.contents c.args.shelf.now in
    let query = c.args.query.now in
    let radius = c.args.radius in
    let left = g.S.Shelf.left c.loop-cell.shelf in
    let first = c.loop-cell.invariant.scanned in
    let none : left ≡ [] = gave_none c.in_ok-cell.field-0 left (g.S.Shelf.left c.next_bounded.new.shelf) c.in_default.not-Some c.in_ok-cell.ensures.gave in
    ◌∙◌ {b = found_within cs query radius first.taken} (first.holds t) (ap (found_within cs query radius) (all_taken g.S.Shelf g.met.S.Shelf.passes_both cs query (within_after cs query radius) (within_reads cs query radius)
    (λ (taken : List (ℕ × ℕ)). g.S.Shelf.told → c.loop-cell.pairs.items ≡ found_within cs query radius taken) left c.args.shelf.now c.loop-cell.shelf c.loop-cell.fetched.items first none))

pub returns-in_err-cell-clause-stopped : goal.returns-in_err-cell-clause-stopped
returns-in_err-cell-clause-stopped g c =
    let cs = g.S.Shelf.contents c.args.shelf.now in
    let query = c.args.query.now in
    let radius = c.args.radius in
    let left = g.S.Shelf.left c.loop-cell.shelf in
    err_is c.from_residual.result (Shelf c.in_err-cell.field-0.0) (Stopped g.S.Shelf cs query (within_after cs query radius [] cs.cells) c.args.shelf.now c.next_bounded.new.shelf) c.from_residual.ensures.1
    (scanned_failed g.S.Shelf g.met.S.Shelf.passes_both cs query (within_after cs query radius) (within_reads cs query radius)
    (λ (taken : List (ℕ × ℕ)). g.S.Shelf.told → c.loop-cell.pairs.items ≡ found_within cs query radius taken) left c.args.shelf.now c.loop-cell.shelf c.next_bounded.new.shelf c.loop-cell.fetched.items c.in_err-cell.field-0.0
    c.loop-cell.invariant.scanned c.in_err-cell.ensures.passes)

pub returns-in_err-visit-clause-stopped : goal.returns-in_err-visit-clause-stopped
returns-in_err-visit-clause-stopped g c =
    let cs = g.S.Shelf.contents c.args.shelf.now in
    let query = c.args.query.now in
    let radius = c.args.radius in
    let cell = c.in-Some.cell in
    let left = g.S.Shelf.left c.loop-cell.shelf in
    let left' = g.S.Shelf.left c.next_bounded.new.shelf in
    let why = c.in_err-visit.field-0.0 in
    let p = err_from_is_err_and c.from_residual-in_err-visit.result c.from_residual-in_err-visit.ensures.1 in
    let stay : g.S.Shelf.contents c.next_bounded.new.shelf ≡ cs = c.in_ok-cell.ensures.contents ∙ c.loop-cell.invariant.stay in
    let gave : left ≡ cell_of cell ∷ left' = gave_some c.in_ok-cell.field-0 cell left left' c.in-Some.is c.in_ok-cell.ensures.gave in
    let stop : (reads : List (ℕ × ℕ)) → Stopped g.S.Shelf cs query (need_within (bounds_of cs query) (cell_of cell ∷ []) radius ++ reads) c.next_bounded.new.shelf c.visit.new.shelf why =
    subst (λ (x : Contents). (reads : List (ℕ × ℕ)) → Stopped g.S.Shelf x query (need_within (bounds_of x query) (cell_of cell ∷ []) radius ++ reads) c.next_bounded.new.shelf c.visit.new.shelf why) stay c.in_err-visit.ensures.stopped in
    rw (p.1, p.2) (scanned_stopped g.S.Shelf g.met.S.Shelf.passes_both cs query (within_after cs query radius) (within_reads cs query radius)
    (λ (taken : List (ℕ × ℕ)). g.S.Shelf.told → c.loop-cell.pairs.items ≡ found_within cs query radius taken) (cell_of cell) left left' c.args.shelf.now c.loop-cell.shelf c.next_bounded.new.shelf c.visit.new.shelf c.loop-cell.fetched.items why
    c.loop-cell.invariant.scanned gave c.in_ok-cell.ensures.passes stop c.in_err-visit.ensures.never_memory)
