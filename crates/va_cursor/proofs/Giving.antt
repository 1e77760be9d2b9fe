-- What a call of `next` gives where it is known where the cursor stands.
use Rattle.std.proofs.Common.{◌≡◌, ℕ, ◌+◌, ◌<◌, ◌≤◌, true, false, List, [], ◌∷◌, ◌++◌, length, map, ltb, Option, None, Some, slice_get, ◌⊎◌, inl, inr, refl, ap, sym, ◌∙◌, subst, arith}
use Rattle.std.specs.List.{AllByRecursion}
use Rattle.std.proofs.lemmas.Bool.Decides.{nat_tests}
use Rattle.std.specs.Prelude.{Result, IfErr}
use Rattle.std.specs.Result.{IsErrAnd}
use Rattle.va_core.specs.declared.pair.Pair.{Pair}
use Rattle.va_core.specs.Approximations.{need_next}
use Rattle.va_core.specs.Distance.{Query}
use Rattle.va_core.specs.Ranking.{ascending}
use Rattle.va_core.specs.Sorting.{placed_by}
use Rattle.va_core.proofs.Sorting.{all_placed_by}
use Rattle.va_keep.specs.Queued.{entry_bounds, low_pair}
use Rattle.va_keep.specs.declared.entry.Entry.{Entry}
use Rattle.va_ports.specs.Faults.{IfMismatch}
use Rattle.va_ports.specs.Shelves.{AreOwnCells, Contents}
use Rattle.va_ports.specs.Searches.{LieBetween, clamped_distance, distance_of}
use Rattle.va_ports.specs.declared.search.SearchFault.{SearchFault}
use Rattle.va_ports.specs.declared.search.SearchFault.TheVariants.{Memory, Shelf, Mismatch}
use Rattle.va_ports.specs.declared.shelf.Shelf.{Ghosts}
use Rattle.va_ports.proofs.Own.{clamped_own, own_between}
use Rattle.va_bounded.proofs.Giving.{err_is}
use Rattle.va_cursor.specs.Cursors.{Cursor, KeepsVectors, Stands, entries_of}
use Rattle.va_cursor.specs.Fetches.{EndsAt, Failed, Gave, GivesFirst, Halts, IsFirstOutside, IsKnown, Took, given_then}
use Rattle.va_cursor.specs.Rankings.{IsOf, LiesBetween, Reads, Remains, distance_at, cell_at, is_wide, ranking, settled}
use Rattle.va_cursor.proofs.Mapping.{next_between, next_of_entries, own_distance, pairs_of_entries, same_distance}
use Rattle.va_cursor.proofs.Remaining.{given_is_next, none_at_end, read_at_end, read_at_pair, remains_given, remains_reads}

-- what reads keep
pub reads_keep : (P : Entry → Type 0) → ((n : ℕ) (e : Entry) → P e → P (settled n e)) → (d : ℕ × ℕ → ℕ) (read held held' : List Entry) → AllByRecursion P held → Reads d read held held' → AllByRecursion P held'
reads_keep P keeps d [] held held' all h = subst (AllByRecursion P) (sym h) all
reads_keep P keeps d (e ∷ read) held held' all h =
    let here : AllByRecursion P (e ∷ h.0) = subst (AllByRecursion P) h.1 all in
    reads_keep P keeps d read (placed_by low_pair (settled (distance_at d e) e) h.0) held' (all_placed_by P low_pair (settled (distance_at d e) e) h.0 (keeps (distance_at d e) e here.0) here.1) h.4

-- a distance that is read is that of before
abbrev Agrees : (ℕ × ℕ → ℕ) → (ℕ × ℕ → ℕ) → Entry → Type 0
Agrees now d e = is_wide e ≡ true → LiesBetween now e → distance_at now e ≡ distance_at d e

settled_agrees : (now d : ℕ × ℕ → ℕ) (n : ℕ) (e : Entry) → Agrees now d (settled n e)
settled_agrees now d n e wide = absurd (narrow n wide)
  where
    narrow : (n : ℕ) → ltb n n ≡ true → ⊥
    narrow n w = grind (arith, nat_tests, w)

reads_same : (now d : ℕ × ℕ → ℕ) (read held held' : List Entry) → AllByRecursion (Agrees now d) held → Reads now read held held' → Reads d read held held'
reads_same now d [] held held' all h = h
reads_same now d (e ∷ read) held held' all h =
    let here : AllByRecursion (Agrees now d) (e ∷ h.0) = subst (AllByRecursion (Agrees now d)) h.1 all in
    let same : distance_at now e ≡ distance_at d e = here.0 h.2 h.3 in
    let later : Reads d read (placed_by low_pair (settled (distance_at now e) e) h.0) held' =
    reads_same now d read (placed_by low_pair (settled (distance_at now e) e) h.0) held' (all_placed_by (Agrees now d) low_pair (settled (distance_at now e) e) h.0 (settled_agrees now d (distance_at now e) e) here.1) h.4 in
    (h.0, h.1, h.2, subst (λ (n : ℕ). (e.low ≤ n) × (n ≤ e.high)) same h.3, subst (λ (n : ℕ). Reads d read (placed_by low_pair (settled n e) h.0) held') same later)

agree_all : (snapshot contents : Contents) (query : Query) (held : List Entry) → AllByRecursion (IsOf (entries_of snapshot query)) held → AllByRecursion (λ (e : Entry). contents.vector e.place ≡ snapshot.vector e.place) held →
    AllByRecursion (Agrees (distance_of contents query) (clamped_distance snapshot query)) held
agree_all snapshot contents query [] of same = tt
agree_all snapshot contents query (e ∷ held) of same = (same_distance snapshot query contents e of.0 same.0, agree_all snapshot contents query held of.1 same.1)

-- what the cursor keeps of itself
pub record Keeps (before after : Cursor) : Type 0 where
  pub shape : after.shape ≡ before.shape
  pub query : after.query ≡ before.query
  pub places : after.places ≡ before.places

module _ {snapshot : Contents} {since : List Entry} {before : Cursor} (s : Stands snapshot since before) where
  read_on : (contents : Contents) (read held' : List Entry) → KeepsVectors snapshot contents before → Reads (distance_of contents before.query) read before.held held' →
      Remains (clamped_distance snapshot before.query) (entries_of snapshot before.query) before.given (since ++ read) held'
  read_on contents read held' kept reads =
      remains_reads since read before.held held' s.remains
      (reads_same (distance_of contents before.query) (clamped_distance snapshot before.query) read before.held held' (agree_all snapshot contents before.query before.held s.remains.of kept) reads)

  stands_on : {after : Cursor} {since' : List Entry} (given : ℕ) → Keeps before after → after.given ≡ given → Remains (clamped_distance snapshot before.query) (entries_of snapshot before.query) given since' after.held → Stands snapshot since' after
  stands_on {after} {since'} given keeps count remains = record {
    sound = s.sound;
    shape = keeps.shape ∙ s.shape;
    places = keeps.places ∙ s.places;
    remains = subst (λ q. Remains (clamped_distance snapshot q) (entries_of snapshot q) after.given since' after.held) (sym keeps.query)
        (subst (λ n. Remains (clamped_distance snapshot before.query) (entries_of snapshot before.query) n since' after.held) (sym count) remains);
  }

  own_lies : AreOwnCells snapshot → LieBetween snapshot before.query snapshot.cells
  own_lies own = own_between snapshot s.sound before.query snapshot.cells own

  -- the next pair and the list for it, by entries
  record IsGiven (read : List Entry) (after : Cursor) (next : Option Pair) : Type 0 where
    stands : Stands snapshot [] after
    pair : next ≡ slice_get (ranking (clamped_distance snapshot before.query) (entries_of snapshot before.query)) before.given
    took : need_next entry_bounds (entries_of snapshot before.query) (distance_at (clamped_distance snapshot before.query)) before.given ≡ since ++ read

  is_given : (next : Option Pair) (read known : List Entry) {after : Cursor} → Keeps before after → after.given ≡ given_then next before.given → Remains (clamped_distance snapshot before.query) (entries_of snapshot before.query) before.given (since ++ read) known →
      IsKnown known → GivesFirst next known after.held → IsGiven read after next
  is_given None read known {after} keeps count remains is_known gives =
      let end : Remains (clamped_distance snapshot before.query) (entries_of snapshot before.query) before.given (since ++ read) [] = subst (Remains (clamped_distance snapshot before.query) (entries_of snapshot before.query) before.given (since ++ read)) gives.0 remains in
      let none : since ++ read ≡ [] = end.idle refl in
      record {
        stands = stands_on before.given keeps count (subst (λ l. Remains (clamped_distance snapshot before.query) (entries_of snapshot before.query) before.given [] l) (sym gives.1)
            (subst (λ l. Remains (clamped_distance snapshot before.query) (entries_of snapshot before.query) before.given l []) none end));
        pair = sym (none_at_end end);
        took = read_at_end end;
      }
  is_given (Some pair) read known {after} keeps count remains is_known gives =
      let first : Remains (clamped_distance snapshot before.query) (entries_of snapshot before.query) before.given (since ++ read) (gives.0 ∷ after.held) = subst (Remains (clamped_distance snapshot before.query) (entries_of snapshot before.query) before.given (since ++ read)) gives.1 remains in
      let narrow : is_wide gives.0 ≡ false = subst IsKnown gives.1 is_known in
      record {
        stands = stands_on (before.given + 1) keeps count (remains_given first narrow);
        pair = ap Some gives.2 ∙ sym (given_is_next first narrow);
        took = read_at_pair first narrow;
      }

  pub took_gave : {S : Type 0} (g : Ghosts S) {after : Cursor} {old new : S} {next : Option Pair} → Took g before after old new next → Keeps before after → after.given ≡ given_then next before.given → g.told →
      KeepsVectors snapshot (g.contents old) before → Gave g snapshot since before after old new next
  took_gave g {after} {old} {new} {next} took keeps count told kept =
      let counted : after.read_last ≡ 0 + length took.visits.read = took.visits.counted in
      let given : IsGiven took.visits.read after next = is_given next took.visits.read took.known keeps count (read_on (g.contents old) took.visits.read took.known kept (took.visits.reads told)) took.is_known took.gives in
      let known = given.pair ∙ ap (λ ps. slice_get (ascending ps) before.given) (pairs_of_entries snapshot before.query (clamped_distance snapshot before.query)) in
      let fetched = sym (ap (map cell_at) given.took) ∙ next_of_entries snapshot before.query (clamped_distance snapshot before.query) before.given in
      record {
        read = took.visits.read;
        passed = took.visits.passed;
        counted = omega (arith, counted);
        stands = given.stands;
        pair = λ own. known ∙ ap (λ ps. slice_get (ascending ps) before.given) (clamped_own snapshot before.query snapshot.cells (own_lies own));
        fetched = λ own. fetched ∙ next_between snapshot before.query before.given (own_lies own);
        known = known;
        took = fetched;
      }

  -- no distance that lies between its bounds is a mismatch
  inside_bounds : {S : Type 0} {g : Ghosts S} {contents : Contents} {held last : List Entry} {place dist low high : ℕ} (out : IsFirstOutside g contents before.query held last place dist low high) → dist ≡ distance_at (distance_of contents before.query) out.entry →
      LiesBetween (distance_of contents before.query) out.entry → (dist < low) ⊎ (high < dist) → ⊥
  inside_bounds out same between (inl below) = let a = between.0 in omega (arith, a, same, out.low_is, below)
  inside_bounds out same between (inr above) = let b = between.1 in omega (arith, b, same, out.high_is, above)

  -- an entry that is held, and that has the vector of the snapshot
  abbrev IsHeld : Contents → Entry → Type 0
  IsHeld contents e = IsOf (entries_of snapshot before.query) e × (contents.vector e.place ≡ snapshot.vector e.place)

  no_mismatch : {S : Type 0} (g : Ghosts S) (contents : Contents) (held last : List Entry) (why : SearchFault) → g.told → AllByRecursion (IsHeld contents) held → EndsAt g contents before.query held last why →
      AreOwnCells snapshot → IfMismatch why (λ _ _ _ _. ⊥)
  no_mismatch g contents held last Memory told all ends = λ _. tt
  no_mismatch g contents held last (Shelf fault) told all ends = λ _. tt
  no_mismatch g contents held last (Mismatch place dist low high) told all ends = λ own.
      let here : AllByRecursion (IsHeld contents) (ends.entry ∷ ends.rest) = subst (AllByRecursion (IsHeld contents)) ends.first all in
      inside_bounds ends (ends.dist_is told) (own_distance snapshot before.query contents ends.entry here.0.0 here.0.1 ends.wide (own_lies own)) ends.outside

  all_held : (contents : Contents) (held : List Entry) → AllByRecursion (IsOf (entries_of snapshot before.query)) held → AllByRecursion (λ (e : Entry). contents.vector e.place ≡ snapshot.vector e.place) held → AllByRecursion (IsHeld contents) held
  all_held contents [] of kept = tt
  all_held contents (e ∷ held) of kept = ((of.0, kept.0), all_held contents held of.1 kept.1)

  pub halts_failed : {S : Type 0} (g : Ghosts S) {after : Cursor} {old new : S} {why : SearchFault} → Halts g before.query before.held after.held old new 0 after.read_last why → Keeps before after → after.given ≡ before.given → g.told →
      KeepsVectors snapshot (g.contents old) before → Failed g snapshot since before after old new why
  halts_failed g {after} {old} {new} {why} halts keeps count told kept =
      let counted : after.read_last ≡ 0 + length (halts.read ++ halts.last) = halts.counted in
      let remains = read_on (g.contents old) halts.read after.held kept (halts.reads told) in
      record {
        read = halts.read;
        last = halts.last;
        passed = halts.passed;
        counted = omega (arith, counted);
        stands = stands_on before.given keeps count remains;
        ends = halts.ends;
        own = no_mismatch g (g.contents old) after.held halts.last why told (all_held (g.contents old) after.held remains.of
            (reads_keep (λ (e : Entry). (g.contents old).vector e.place ≡ snapshot.vector e.place) (λ n e h. h) (distance_of (g.contents old) before.query) halts.read before.held after.held kept (halts.reads told)))
            halts.ends;
      }

-- the same of what a result has
pub result_failed : {S T : Type 0} (g : Ghosts S) {before after : Cursor} {old new : S} (result : Result T SearchFault) (why : SearchFault) → IsErrAnd result (λ e. e ≡ why) → Halts g before.query before.held after.held old new 0 after.read_last why → Keeps before after → after.given ≡ before.given →
    IfErr result (λ why. g.told → (snapshot : Contents) (since : List Entry) → Stands snapshot since before → KeepsVectors snapshot (g.contents old) before → Failed g snapshot since before after old new why)
result_failed g {before} {after} {old} {new} result why is halts keeps count =
    err_is result why (λ why. g.told → (snapshot : Contents) (since : List Entry) → Stands snapshot since before → KeepsVectors snapshot (g.contents old) before → Failed g snapshot since before after old new why) is
    (λ told snapshot since s kept. halts_failed s g halts keeps count told kept)
