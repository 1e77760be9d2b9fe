-- What a call of a cursor over the shelf of a store and its disk leaves of both.
use Rattle.std.proofs.Common.{◌≡◌, ◌↔◌, ℕ, ◌+◌, ◌<◌, List, [], ◌∷◌, ◌++◌, length, map, get_or, slice_get, eqb, Contains, ⊎_elim, Option, None, Some, Result, Ok, Err, IfOk, IfErr, refl, sym, ap, subst, ◌∙◌, arith}
use Rattle.std.proofs.lemmas.List.{append-nil, length-append, length-map, map-append}
use Rattle.std.proofs.lemmas.Option.{slice_get-get_or}
use Rattle.std.specs.List.{AllByRecursion, filter}
use Rattle.va_core.specs.declared.pair.Pair.{Pair}
use Rattle.va_core.specs.Approximations.{need_next, paired}
use Rattle.va_core.specs.Distance as distances
use Rattle.va_core.specs.Distance.{Query, distance}
use Rattle.va_core.specs.Places.{Item, live_items}
use Rattle.va_core.specs.Ranking.{ascending}
use Rattle.va_core.specs.Reads.{approximated}
use Rattle.va_core.specs.Shape.{Shape}
use Rattle.va_core.specs.Sorting.{placed_by}
use Rattle.va_core.proofs.Members.{contains_cases, contains_none}
use Rattle.va_core.proofs.Ranking.{length_ascending}
use Rattle.va_cursor.specs.Cursors as cursors
use Rattle.va_cursor.specs.Cursors.{Cursor, Stands, entries_of}
use Rattle.va_cursor.specs.Fetches.{Failed, Gave, Stopped, Took, cells_at, cells_next, given_then, places_of}
use Rattle.va_cursor.specs.Rankings.{Reads, ahead, cell_at, distance_at, is_wide, pairs_at, ranking, settled}
use Rattle.va_cursor.proofs.Filtering.{length_placed_by}
use Rattle.va_cursor.proofs.Mapping.{next_between, next_of_entries, pairs_of_entries}
use Rattle.va_cursor.proofs.Needing.{places_keep}
use Rattle.va_cursor.proofs.Remaining.{read_begins}
use Rattle.va_disk.specs.Frames.{DiskFailsAs}
use Rattle.va_disk.specs.declared.storage.Storage as disks
use Rattle.va_keep.specs.Queued as queued
use Rattle.va_keep.specs.declared.entry.Entry.{Entry}
use Rattle.va_layout.specs.Fields.{vector_in}
use Rattle.va_layout.specs.Stands as kepts
use Rattle.va_layout.specs.Stands.{Kept}
use Rattle.va_ports.specs.Faults.{CountsShelfFaults, IfMismatch}
use Rattle.va_ports.specs.Shelves.{Contents, IsOwn, place_of}
use Rattle.va_ports.specs.Searches.{bounds_of, clamped_distance, distance_of, pairs_of}
use Rattle.va_ports.specs.declared.search.SearchFault.{SearchFault}
use Rattle.va_ports.specs.declared.search.SearchFault.TheVariants as searches
use Rattle.va_ports.specs.declared.shelf.Shelf as shelves
use Rattle.va_ports.proofs.Own.{clamped_own, own_between, own_high, own_low}
use Rattle.va_search.specs.Cursors.{Advanced, FailsNext, FailsOpen, Gives, IsSameCursor, IsShelfOf, Opened, VectorsStand, Ranks, ReadsHeld, distance_in, due_of, ranking_of, read_for}
use Rattle.va_search.specs.Searched.{ReadsFirst, ReadsItems, WhereStands}
use Rattle.va_search.specs.Told.{told_as, told_fault}
use Rattle.va_search.specs.declared.fault.StoreSearchFault.{StoreSearchFault}
use Rattle.va_search.specs.declared.fault.StoreSearchFault.TheVariants as faults
use Rattle.va_search.proofs.Ending.{IsLent, all_first, all_placed, counts_on, leaves, vectors_read}
use Rattle.va_search.proofs.Lending.{IsOver, lent_by, seen}
use Rattle.va_search.proofs.Mapped.{AreMirrored, Mirrors, all_among, all_weaker, next_among, next_mapped}
use Rattle.va_search.proofs.Placed.{IsPlaced, place_is, places_placed}
use Rattle.va_search.proofs.Seeking.{pairs_items}
use Rattle.va_search.proofs.Telling.{Leaves, changed_at, told_cause}
use Rattle.va_store.specs.Known.{IsOf, Known}
use Rattle.va_store.specs.Shelved.{ShelvesItems, ShelvesOwnCells, cells_from, contents_of, item_of_cell}
use Rattle.va_store.specs.ShelfReads.{ReadsVectors}
use Rattle.va_store.specs.declared.shelf.StoreShelf.{StoreShelf}

abbrev Cells : Type 0
Cells = List (ℕ × ℕ)

-- The shelf of a store whose disk stands for what is kept is one over that.
pub shelf_of : (known : Known) (kept : Kept) (bytes : List ℕ) → IsOf known kept → kepts.Stands kept bytes → ShelvesItems known bytes → ShelvesOwnCells known bytes → IsShelfOf kept (contents_of known bytes)
shelf_of known kept bytes is stands items own = record {
  shape = is.shape;
  marks = is.marks;
  cells = ap (cells_from 0) is.ids;
  items = items kept is stands.opens;
  live = all_weaker (IsPlaced (item_of_cell (contents_of known bytes)) kept.places) (λ (cell : ℕ × ℕ). get_or kept.places (place_of cell) None ≡ Some (item_of_cell (contents_of known bytes) cell)) (contents_of known bytes).cells
      (λ cell placed. placed.live) (all_placed bytes is stands.opens items);
  differ = stands.opens.differ;
  own = own kept is stands;
}

-- what holds of each member holds of one
member_has : (P : ℕ → Type 0) (l : List ℕ) (n : ℕ) → AllByRecursion P l → Contains l n → P n
member_has P [] n all h = absurd (contains_none n h)
member_has P (m ∷ l) n all h = ⊎_elim (λ (same : m ≡ n). subst P same all.0) (λ (later : Contains l n). member_has P l n all.1 later) (contains_cases m n l h)

mapped_all : (P : ℕ → Type 0) (cells : Cells) → AllByRecursion (λ (cell : ℕ × ℕ). P (place_of cell)) cells → AllByRecursion P (map place_of cells)
mapped_all P [] all = tt
mapped_all P (cell ∷ cells) all = (all.0, mapped_all P cells all.1)

-- reads leave as many entries
reads_length : (d : ℕ × ℕ → ℕ) (read held held' : List Entry) → Reads d read held held' → length held' ≡ length held
reads_length d [] held held' h = ap length h
reads_length d (e ∷ read) held held' h =
    reads_length d read (placed_by queued.low_pair (settled (distance_at d e) e) h.0) held' h.4
    ∙ length_placed_by queued.low_pair (settled (distance_at d e) e) h.0
    ∙ sym (ap length h.1)

-- of no entries none is read
reads_none : (d : ℕ × ℕ → ℕ) (read held held' : List Entry) → length held ≡ 0 → Reads d read held held' → read ≡ []
reads_none d [] held held' none h = refl
reads_none d (e ∷ read) held held' none h = absurd (let some : length held ≡ length (e ∷ h.0) = ap length h.1 in omega (arith, some, none))

places_at : (read : List Entry) → places_of read ≡ map place_of (cells_at read)
places_at [] = refl
places_at (e ∷ read) = ap (λ (l : List ℕ). e.place ∷ l) (places_at read)

-- where a list has no element behind its first ones, these are all
none_left : (l a b : List Pair) (r : ℕ) → l ≡ a ++ b → length a ≡ r → slice_get l r ≡ None → length b ≡ 0
none_left l a [] r e count none = refl
none_left l a (p ∷ b) r e count none = absurd (
    let inside : r < length l = omega (arith, ap length e, length-append a (p ∷ b), count) in
    let some : slice_get l r ≡ Some (get_or l r p) = slice_get-get_or l r p inside in
    cc)

none_in : (l : List Entry) → length l ≡ 0 → l ≡ []
none_in [] e = refl
none_in (first ∷ l) e = absurd (omega (arith, e))

-- A shelf over what was kept, and the query of a cursor.
module _ {kept : Kept} {contents : Contents} (is : IsShelfOf kept contents) where
  placed_all : AllByRecursion (IsPlaced (item_of_cell contents) kept.places) contents.cells
  placed_all = all_weaker (λ (cell : ℕ × ℕ). get_or kept.places (place_of cell) None ≡ Some (item_of_cell contents cell)) (IsPlaced (item_of_cell contents) kept.places) contents.cells
      (λ cell live. record { live = live; own = place_is kept.places (place_of cell) (item_of_cell contents cell) is.differ live }) is.live

  module _ {held : Cursor} {since : List Entry} (stands : Stands contents since held) where
    ranked : ascending (pairs_of contents held.query) ≡ ranking_of held.query kept
    ranked = ap ascending (pairs_items contents held.query contents.cells ∙ ap (distances.pairs_of held.query) is.items)

    mirrored : AreMirrored (item_of_cell contents) (bounds_of contents held.query) (approximated contents.marks held.query) (distance_of contents held.query) (λ (item : Item). distance held.query item.vector) contents.cells
    mirrored = record {
      each = all_weaker (IsOwn contents) (Mirrors (item_of_cell contents) (bounds_of contents held.query) (approximated contents.marks held.query) (distance_of contents held.query) (λ (item : Item). distance held.query item.vector)) contents.cells
          (λ cell own. record { name = refl; low = own_low contents stands.sound held.query cell own; high = own_high contents stands.sound held.query cell own; dist = refl }) is.own;
    }

    due_cells : (r : ℕ) → due_of held.query kept r ≡ map (item_of_cell contents) (cells_next contents held.query r)
    due_cells r =
        sym (ap (λ (m : List (List ℕ)). need_next (approximated m held.query) (live_items kept.places) (λ (item : Item). distance held.query item.vector) r) is.marks)
        ∙ sym (ap (λ (l : List Item). need_next (approximated contents.marks held.query) l (λ (item : Item). distance held.query item.vector) r) is.items)
        ∙ next_mapped contents.cells r mirrored

    -- the vectors now are those of the snapshot
    keeps_now : (known : Known) (bytes : List ℕ) → held.shape ≡ known.shape → VectorsStand kept bytes → cursors.KeepsVectors contents (contents_of known bytes) held
    keeps_now known bytes same keeps = places_keep contents (contents_of known bytes) since held stands
        (λ place member. member_has (λ (p : ℕ). vector_in known.shape p bytes ≡ contents.vector p) (map place_of contents.cells) place
        (mapped_all (λ (p : ℕ). vector_in known.shape p bytes ≡ contents.vector p) contents.cells
        (all_weaker (λ (cell : ℕ × ℕ). get_or kept.places (place_of cell) None ≡ Some (item_of_cell contents cell)) (λ (cell : ℕ × ℕ). vector_in known.shape (place_of cell) bytes ≡ contents.vector (place_of cell)) contents.cells
        (λ cell live. ap (λ (shape : Shape). vector_in shape (place_of cell) bytes) (sym same ∙ stands.shape ∙ is.shape) ∙ keeps (place_of cell) (item_of_cell contents cell) live) is.live))
        (subst (λ (l : List ℕ). Contains l place) stands.places member))

    ranking_same : ranking (clamped_distance contents held.query) (entries_of contents held.query) ≡ ranking_of held.query kept
    ranking_same =
        ap ascending (pairs_of_entries contents held.query (clamped_distance contents held.query) ∙ clamped_own contents held.query contents.cells (own_between contents stands.sound held.query contents.cells is.own))
        ∙ ranked

    -- at the end of the pairs nothing was read
    idle_at_end : slice_get (ranking_of held.query kept) held.given ≡ None → since ≡ []
    idle_at_end none = stands.remains.idle (none_in held.held
        (sym (length_ascending (pairs_at (clamped_distance contents held.query) held.held) ∙ length-map held.held (λ (e : Entry). paired (distance_at (clamped_distance contents held.query) e) e.id))
        ∙ none_left (ranking_of held.query kept) stands.remains.given (ranking (clamped_distance contents held.query) held.held) held.given (sym ranking_same ∙ stands.remains.ranks) stands.remains.count none))

-- what the opening of a cursor over a shelf says
pub record OpenSays {S : Type 0} (h : shelves.Ghosts S) (query : Query) (lent end : S) (result : Result Cursor SearchFault) : Type 0 where
  pub stands : IfOk result (λ cursor. h.told → Stands (h.contents lent) [] cursor)
  pub places : IfOk result (λ cursor. cursor.places ≡ map place_of (h.contents lent).cells)
  pub shape : IfOk result (λ cursor. cursor.shape ≡ (h.contents lent).shape)
  pub query_is : IfOk result (λ cursor. cursor.query ≡ query)
  pub given : IfOk result (λ cursor. cursor.given ≡ 0)
  pub no_mismatch : IfErr result (λ why. IfMismatch why (λ _ _ _ _. ⊥))
  pub passes : h.passes lent [] end
  pub cause : CountsShelfFaults (h.faults lent) (h.faults end) result

module _ {S D : Type 0} {h : shelves.Ghosts S} {g : disks.Ghosts D} {known known' : Known} {lent end : S} {old new : D} (lends : IsLent h g lent end known known' old new) where
  open_ranks : (cursor : Cursor) → (h.told → Stands (h.contents lent) [] cursor) → WhereStands g known old (λ kept. Ranks kept cursor)
  open_ranks cursor stands told kept is image_stands = record {
    contents = contents_of known (g.image old);
    is = shelf_of known kept (g.image old) is image_stands lends.items (lends.own told);
    stands = subst (λ (c : Contents). Stands c [] cursor) lends.contents (stands (lends.tells told));
  }

  -- no cursor was opened
  open_fails : {query : Query} {why : StoreSearchFault} → FailsOpen g known' why → h.passes lent [] end → DiskFailsAs {T = Cursor} g faults.Disk old new (Err why)
      → Opened g query known known' old new (Err why)
  open_fails failed passed cause =
      let left = leaves lends ([], passed) in
      record {
        ranks = tt;
        begins = tt;
        reads = vectors_read lends [] passed;
        unchanged = tt;
        failed = failed;
        keeps = left.keeps;
        none_told = left.none_told;
        same = left.same;
        fits = left.fits;
        cause = cause;
      }

  opened_at : {query : Query} (changed : Option ℕ) (answer : Result Cursor SearchFault) → known'.changed ≡ changed → OpenSays h query lent end answer
      → DiskFailsAs g faults.Disk old new (told_as changed answer) → Opened g query known known' old new (told_as changed answer)
  opened_at None (Ok cursor) is says cause =
      let left = leaves lends ([], says.passes) in
      record {
        ranks = open_ranks cursor says.stands;
        begins = record {
          shape = says.shape ∙ ap (λ (c : Contents). c.shape) lends.contents;
          query_is = says.query_is;
          places = says.places ∙ ap (λ (c : Contents). map place_of c.cells) lends.contents;
          given = says.given;
        };
        reads = vectors_read lends [] says.passes;
        unchanged = is;
        failed = tt;
        keeps = left.keeps;
        none_told = left.none_told;
        same = left.same;
        fits = left.fits;
        cause = cause;
      }
  opened_at (Some place) (Ok cursor) is says cause = open_fails (changed_at (leaves lends ([], says.passes)) is) says.passes cause
  opened_at None (Err searches.Memory) is says cause = open_fails is says.passes cause
  opened_at (Some place) (Err searches.Memory) is says cause = open_fails (changed_at (leaves lends ([], says.passes)) is) says.passes cause
  opened_at changed (Err (searches.Shelf fault)) is says cause = open_fails tt says.passes cause
  opened_at changed (Err (searches.Mismatch place dist low high)) is says cause = absurd says.no_mismatch

-- what is told of the opening of a cursor
pub opened : {D : Type 0} {g : disks.Ghosts D} {shelf end : StoreShelf D g} {known known' : Known} {old new : D} {query : Query}
    (answer : Result Cursor SearchFault) {told : Result Cursor StoreSearchFault} → OpenSays (seen g) query shelf end answer → IsOver shelf end known known' old new → told ≡ told_as known'.changed answer → Opened g query known known' old new told
opened {g = g} {known = known} {known'} {old} {new} {query} answer says over is =
    let lends = lent_by over in
    subst (λ (told : Result Cursor StoreSearchFault). Opened g query known known' old new told) (sym is)
    (opened_at lends known'.changed answer refl says (told_cause known'.changed answer (counts_on lends says.cause)))

-- this holds of each snapshot that the cursor ranks, where the shelf tells and has the vectors that it had
abbrev pub WhileSame : {S : Type 0} → shelves.Ghosts S → Cursor → S → (Contents → List Entry → Type 0) → Type 0
WhileSame h before lent P = h.told → (snapshot : Contents) (since : List Entry) → Stands snapshot since before → cursors.KeepsVectors snapshot (h.contents lent) before → P snapshot since

-- what a cursor over a shelf says of its next pair
pub record NextSays {S : Type 0} (h : shelves.Ghosts S) (before after : Cursor) (lent end : S) (result : Result (Option Pair) SearchFault) : Type 0 where
  pub gave : IfOk result (λ next. WhileSame h before lent (λ snapshot since. Gave h snapshot since before after lent end next))
  pub failed : IfErr result (λ why. WhileSame h before lent (λ snapshot since. Failed h snapshot since before after lent end why))
  pub took : IfOk result (Took h before after lent end)
  pub stopped : IfErr result (Stopped h before after lent end)
  pub end_is : IfOk result (λ next. (next ≡ None) ↔ (before.given ≡ length before.places))
  pub given : IfOk result (λ next. after.given ≡ given_then next before.given)
  pub given_err : IfErr result (λ why. after.given ≡ before.given)
  pub same : IsSameCursor before after
  pub goes_on : (places : List ℕ) × h.passes lent places end
  pub cause : CountsShelfFaults (h.faults lent) (h.faults end) result

module _ {S D : Type 0} {h : shelves.Ghosts S} {g : disks.Ghosts D} {known known' : Known} {lent end : S} {old new : D} (lends : IsLent h g lent end known known' old new) where
  module _ (before after : Cursor) (same : before.shape ≡ known.shape) where
    shape_read : (places : List ℕ) → h.passes lent places end → ReadsVectors g before.shape old places new
    shape_read places passed = subst (λ (s : Shape). ReadsVectors g s old places new) (sym same) (vectors_read lends places passed)

    reads_now : (read held held' : List Entry) → Reads (distance_of (h.contents lent) before.query) read held held' → Reads (distance_in before.query before.shape (g.image old)) read held held'
    reads_now read held held' reads =
        subst (λ (s : Shape). Reads (distance_in before.query s (g.image old)) read held held') (sym same)
        (subst (λ (c : Contents). Reads (distance_of c before.query) read held held') lends.contents reads)

    module _ {kept : Kept} (ranks : Ranks kept before) where
      shape_kept : before.shape ≡ kept.shape
      shape_kept = ranks.stands.shape ∙ ranks.is.shape

      kept_read : (places : List ℕ) → h.passes lent places end → ReadsVectors g kept.shape old places new
      kept_read places passed = subst (λ (s : Shape). ReadsVectors g s old places new) shape_kept (shape_read places passed)

      -- the vectors of some cells, as items of what was kept
      cells_read : (cells : Cells) → AllByRecursion (IsPlaced (item_of_cell ranks.contents) kept.places) cells → h.passes lent (map place_of cells) end → ReadsItems g kept old (map (item_of_cell ranks.contents) cells) new
      cells_read cells here passed = subst (λ (places : List ℕ). ReadsVectors g kept.shape old places new) (sym (places_placed (item_of_cell ranks.contents) kept cells here)) (kept_read (map place_of cells) passed)

      next_placed : AllByRecursion (IsPlaced (item_of_cell ranks.contents) kept.places) (cells_next ranks.contents before.query before.given)
      next_placed = all_among (IsPlaced (item_of_cell ranks.contents) kept.places) ranks.contents.cells (cells_next ranks.contents before.query before.given) (placed_all ranks.is)
          (next_among (bounds_of ranks.contents before.query) ranks.contents.cells (distance_of ranks.contents before.query) before.given)

      keeps_lent : VectorsStand kept (g.image old) → cursors.KeepsVectors ranks.contents (h.contents lent) before
      keeps_lent keeps = subst (λ (c : Contents). cursors.KeepsVectors ranks.contents c before) (sym lends.contents) (keeps_now ranks.is ranks.stands known (g.image old) same keeps)

      read_due : {next : Option Pair} → Gave h ranks.contents [] before after lent end next → ReadsItems g kept old (due_of before.query kept before.given) new
      read_due gave = subst (λ (items : List Item). ReadsItems g kept old items new) (sym (due_cells ranks.is ranks.stands before.given))
          (cells_read (cells_next ranks.contents before.query before.given) next_placed
          (subst (λ (places : List ℕ). h.passes lent places end) (places_at gave.read ∙ ap (map place_of) (gave.fetched ranks.is.own)) gave.passed))

      count_due : {next : Option Pair} → Gave h ranks.contents [] before after lent end next → after.read_last ≡ length (due_of before.query kept before.given)
      count_due gave =
          gave.counted
          ∙ sym (length-map gave.read cell_at)
          ∙ ap length (gave.fetched ranks.is.own)
          ∙ sym (length-map (cells_next ranks.contents before.query before.given) (item_of_cell ranks.contents))
          ∙ ap length (sym (due_cells ranks.is ranks.stands before.given))

      gives_at : (next : Option Pair) → g.told → Gave h ranks.contents [] before after lent end next → Took h before after lent end next → Gives g kept before after old new next
      gives_at (Some pair) told gave took = record {
        pair = gave.pair ranks.is.own ∙ ap (λ (l : List Pair). slice_get l before.given) (ranked ranks.is ranks.stands);
        reads = read_due gave;
        count = count_due gave;
        ranks = record { contents = ranks.contents; is = ranks.is; stands = gave.stands };
      }
      gives_at None told gave took =
          let reads = took.visits.reads (lends.tells told) in
          let none : length before.held ≡ 0 = sym (reads_length (distance_of (h.contents lent) before.query) took.visits.read before.held took.known reads) ∙ ap length took.gives.0 in
          let nothing : took.visits.read ≡ [] = reads_none (distance_of (h.contents lent) before.query) took.visits.read before.held took.known none reads in
          let counted : after.read_last ≡ 0 + length took.visits.read = took.visits.counted in
          let short : length took.visits.read ≡ 0 = ap length nothing in
          record {
            pair = gave.pair ranks.is.own ∙ ap (λ (l : List Pair). slice_get l before.given) (ranked ranks.is ranks.stands);
            reads = kept_read [] (subst (λ (read : List Entry). h.passes lent (places_of read) end) nothing took.visits.passed);
            count = omega (arith, counted, short);
            ranks = record { contents = ranks.contents; is = ranks.is; stands = gave.stands };
          }

      -- where a call of the disk failed, the first of what is due was read
      module _ (is_same : IsSameCursor before after) (as_given : after.given ≡ before.given) {fault : _} (lost : Failed h ranks.contents [] before after lent end (searches.Shelf fault)) where
        ends_so : lost.last ≡ []
        ends_so = lost.ends

        passed_read : h.passes lent (places_of lost.read) end
        passed_read = subst (λ (l : List Entry). h.passes lent (places_of l) end) (ap (λ (last : List Entry). lost.read ++ last) ends_so ∙ append-nil lost.read) lost.passed

        abbrev d : ℕ × ℕ → ℕ
        d = clamped_distance ranks.contents after.query

        abbrev waiting : List Entry
        waiting = filter (λ e. eqb (ahead d (entries_of ranks.contents after.query) e) after.given) (filter is_wide after.held)

        begins : cells_next ranks.contents before.query before.given ≡ cells_at lost.read ++ cells_at waiting
        begins =
            ap (λ (n : ℕ). cells_next ranks.contents before.query n) (sym as_given)
            ∙ ap (λ (q : Query). cells_next ranks.contents q after.given) (sym is_same.query)
            ∙ sym (next_between ranks.contents after.query after.given (own_between ranks.contents lost.stands.sound after.query ranks.contents.cells ranks.is.own))
            ∙ sym (next_of_entries ranks.contents after.query d after.given)
            ∙ ap (map cell_at) (read_begins lost.stands.remains)
            ∙ map-append cell_at lost.read waiting

        first_read : (o : Option Pair) → slice_get (ranking_of before.query kept) before.given ≡ o → ReadsFirst g kept old (read_for before.query kept before.given o) new
        first_read None none =
            let nothing : lost.read ≡ [] = idle_at_end ranks.is lost.stands (ap (λ (n : ℕ). slice_get (ranking_of after.query kept) n) as_given ∙ ap (λ (q : Query). slice_get (ranking_of q kept) before.given) is_same.query ∙ none) in
            record { first = []; rest = []; are = refl; reads = kept_read [] (subst (λ (l : List Entry). h.passes lent (places_of l) end) nothing passed_read) }
        first_read (Some pair) some = record {
          first = map (item_of_cell ranks.contents) (cells_at lost.read);
          rest = map (item_of_cell ranks.contents) (cells_at waiting);
          are = sym (map-append (item_of_cell ranks.contents) (cells_at lost.read) (cells_at waiting))
              ∙ ap (map (item_of_cell ranks.contents)) (sym begins)
              ∙ sym (due_cells ranks.is ranks.stands before.given);
          reads = cells_read (cells_at lost.read)
              (all_first (IsPlaced (item_of_cell ranks.contents) kept.places) (cells_at lost.read) (cells_at waiting) (subst (λ (cells : Cells). AllByRecursion (IsPlaced (item_of_cell ranks.contents) kept.places) cells) begins next_placed))
              (subst (λ (places : List ℕ). h.passes lent places end) (places_at lost.read) passed_read);
        }

    visits_held : (held : List Entry) (read : List Entry) → h.passes lent (places_of read) end → (h.told → Reads (distance_of (h.contents lent) before.query) read before.held held) → ReadsHeld g before held old new
    visits_held held read passed reads = record {
      read = read;
      vectors = shape_read (places_of read) passed;
      between = λ told. reads_now read before.held held (reads (lends.tells told));
    }

    fails_next : (why : SearchFault) → IsSameCursor before after → after.given ≡ before.given
        → WhileSame h before lent (λ snapshot since. Failed h snapshot since before after lent end why) → Stopped h before after lent end why → FailsNext g known' before after old new (told_fault None why)
    fails_next searches.Memory is_same as_given failed stopped = absurd stopped.ends
    fails_next (searches.Shelf fault) is_same as_given failed stopped = (
      λ told kept ranks keeps. first_read ranks is_same as_given (failed (lends.tells told) ranks.contents [] ranks.stands (keeps_lent ranks keeps)) (slice_get (ranking_of before.query kept) before.given) refl,
      visits_held after.held stopped.read
          (subst (λ (l : List Entry). h.passes lent (places_of l) end) (ap (λ (last : List Entry). stopped.read ++ last) stopped.ends ∙ append-nil stopped.read) stopped.passed)
          stopped.reads,
    )
    fails_next (searches.Mismatch place dist low high) is_same as_given failed stopped =
        let ends = stopped.ends in (
          ends.outside,
          λ told kept ranks keeps. (failed (lends.tells told) ranks.contents [] ranks.stands (keeps_lent ranks keeps)).own ranks.is.own,
          record {
            read = stopped.read;
            entry = ends.entry;
            rest = ends.rest;
            vectors = shape_read (places_of (stopped.read ++ ends.entry ∷ [])) (subst (λ (last : List Entry). h.passes lent (places_of (stopped.read ++ last)) end) ends.is_last stopped.passed);
            between = λ told. reads_now stopped.read before.held (ends.entry ∷ ends.rest)
                (subst (λ (l : List Entry). Reads (distance_of (h.contents lent) before.query) stopped.read before.held l) ends.first (stopped.reads (lends.tells told)));
            place_is = ends.place_is;
            low_is = ends.low_is;
            high_is = ends.high_is;
            dist_is = λ told.
                (ends.dist_is (lends.tells told)
                ∙ ap (λ (c : Contents). distance_of c before.query (cell_at ends.entry)) lends.contents
                ∙ ap (λ (s : Shape). distance_in before.query s (g.image old) (cell_at ends.entry)) (sym same));
          },
        )

    -- there is no next pair
    next_fails : {why : StoreSearchFault} → FailsNext g known' before after old new why → IsSameCursor before after → Leaves g known known' old new
        → DiskFailsAs {T = Option Pair} g faults.Disk old new (Err why) → Advanced g before after known known' old new (Err why)
    next_fails failed is_same left cause = record {
      gives = tt;
      held = tt;
      end = tt;
      given = tt;
      cursor = is_same;
      unchanged = tt;
      failed = failed;
      keeps = left.keeps;
      none_told = left.none_told;
      same = left.same;
      fits = left.fits;
      frame = left.frame;
      cause = cause;
    }

    advanced_at : (changed : Option ℕ) (answer : Result (Option Pair) SearchFault) → known'.changed ≡ changed → NextSays h before after lent end answer
        → DiskFailsAs g faults.Disk old new (told_as changed answer) → Advanced g before after known known' old new (told_as changed answer)
    advanced_at None (Ok next) is says cause =
        let left = leaves lends says.goes_on in
        record {
          gives = λ told kept ranks keeps. gives_at ranks next told (says.gave (lends.tells told) ranks.contents [] ranks.stands (keeps_lent ranks keeps)) says.took;
          held = record { known = says.took.known; reads = visits_held says.took.known says.took.visits.read says.took.visits.passed says.took.visits.reads; first = says.took.gives };
          end = says.end_is;
          given = says.given;
          cursor = says.same;
          unchanged = is;
          failed = tt;
          keeps = left.keeps;
          none_told = left.none_told;
          same = left.same;
          fits = left.fits;
          frame = left.frame;
          cause = cause;
        }
    advanced_at (Some place) (Ok next) is says cause = next_fails (changed_at (leaves lends says.goes_on) is) says.same (leaves lends says.goes_on) cause
    advanced_at changed (Err searches.Memory) is says cause = absurd says.stopped.ends
    advanced_at changed (Err (searches.Shelf fault)) is says cause = next_fails (fails_next (searches.Shelf fault) says.same says.given_err says.failed says.stopped) says.same (leaves lends says.goes_on) cause
    advanced_at changed (Err (searches.Mismatch place dist low high)) is says cause =
        next_fails (fails_next (searches.Mismatch place dist low high) says.same says.given_err says.failed says.stopped) says.same (leaves lends says.goes_on) cause

-- what is told of the next pair of a cursor
pub advanced : {D : Type 0} {g : disks.Ghosts D} {shelf end : StoreShelf D g} {known known' : Known} {old new : D} {before after : Cursor}
    (answer : Result (Option Pair) SearchFault) {told : Result (Option Pair) StoreSearchFault} → NextSays (seen g) before after shelf end answer → before.shape ≡ known.shape → IsOver shelf end known known' old new → told ≡ told_as known'.changed answer → Advanced g before after known known' old new told
advanced {g = g} {known = known} {known'} {old} {new} {before} {after} answer says same over is =
    let lends = lent_by over in
    subst (λ (told : Result (Option Pair) StoreSearchFault). Advanced g before after known known' old new told) (sym is)
    (advanced_at lends before after same known'.changed answer refl says (told_cause known'.changed answer (counts_on lends says.cause)))
