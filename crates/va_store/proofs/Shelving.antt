-- The scan of a shelf goes on.
use Rattle.std.proofs.Common.{◌≡◌, ◌⊎◌, inl, inr, ⊎_elim, ℕ, zero, suc, ◌+◌, ◌*◌, ◌-◌, ◌<◌, ◌≤◌, ◌&&◌, ltb, min, Bool, true, false, List, [], ◌∷◌, ◌++◌, length, get_or, drop, drop-cons, add-one, zero-mul, Option, None, Some, IfSome, refl, sym, ap, subst, ◌∙◌, arith}
use Rattle.std.proofs.lemmas.Bool.{cases_lt, le-ltb, lt-ltb}
use Rattle.std.proofs.lemmas.List.{append-nil}
use Rattle.va_cells.specs.Reads.{ArePieces}
use Rattle.va_cells.specs.Scans.{ReadsPieces, Scan, codes_per_piece}
use Rattle.va_cells.specs.Slices.{is_cell_code, slices_of}
use Rattle.va_cells.proofs.CellCodes.{test_of_named}
use Rattle.va_cells.proofs.Named.{named_of_cell}
use Rattle.va_cells.proofs.Pieces.{range_both}
use Rattle.va_core.specs.Marks.{HasShape}
use Rattle.va_core.specs.Shape.{Shape, IsShape, code_bytes}
use Rattle.va_disk.specs.Frames.{OnlyReads}
use Rattle.va_disk.specs.declared.storage.Storage.{Ghosts}
use Rattle.va_disk.proofs.Frames.{reads_both}
use Rattle.va_layout.specs.declared.region.Region.{Region}
use Rattle.va_layout.specs.Fields.{NamesCell, code_in}
use Rattle.va_layout.specs.Layout.{code_at, vector_at}
use Rattle.va_layout.specs.Parts.{part}
use Rattle.va_layout.proofs.Regions.{region_ends}
use Rattle.va_layout.proofs.Sizes.{region_is}
use Rattle.va_ports.specs.Shelves.{id_of, place_of}
use Rattle.va_store.specs.Ids.{LivesAt, live_count}
use Rattle.va_store.specs.Index.{IsIndex, Lists}
use Rattle.va_store.specs.declared.index.LiveId.{LiveId}
use Rattle.va_store.specs.Known.{Fits, FitsDisk, IsOver, Known}
use Rattle.va_store.specs.Shelved.{AreCells, IsMet, IsOrderly, IsSameStore, IsShelved, KeepsChanged, Passes, ScansOn, cells_from, changed_after, left_of, noted, started}
use Rattle.va_store.specs.ShelfLaws.{same_both}
use Rattle.va_store.specs.ShelfReads.{reaches_vectors, read_of, vector_reads}
use Rattle.va_core.proofs.Tests.{both_and}

opened : (ids : List (Option ℕ)) (p : ℕ) (o : Option ℕ) → p < length ids → get_or ids p None ≡ o → drop p ids ≡ o ∷ drop (p + 1) ids
opened ids p o l e = drop-cons ids p None l ∙ ap (λ (x : Option ℕ). x ∷ drop (suc p) ids) e ∙ ap (λ (n : ℕ). o ∷ drop n ids) (sym (add-one p))

pub cells_none : (ids : List (Option ℕ)) (p : ℕ) → p < length ids → get_or ids p None ≡ None → cells_from p (drop p ids) ≡ cells_from (p + 1) (drop (p + 1) ids)
cells_none ids p l e = ap (cells_from p) (opened ids p None l e)

pub cells_some : (ids : List (Option ℕ)) (p id : ℕ) → p < length ids → get_or ids p None ≡ Some id → cells_from p (drop p ids) ≡ (p, id) ∷ cells_from (p + 1) (drop (p + 1) ids)
cells_some ids p id l e = ap (cells_from p) (opened ids p (Some id) l e)

drop_past : (ids : List (Option ℕ)) (p : ℕ) → length ids ≤ p → drop p ids ≡ []
drop_past [] zero l = refl
drop_past [] (suc p) l = refl
drop_past (x ∷ ids) zero l = absurd (omega arith)
drop_past (x ∷ ids) (suc p) l = drop_past ids p (omega arith)

pub cells_end : (ids : List (Option ℕ)) (p : ℕ) → length ids ≤ p → cells_from p (drop p ids) ≡ []
cells_end ids p l = ap (cells_from p) (drop_past ids p l)

pub count_from : (place : ℕ) (ids : List (Option ℕ)) → live_count ids ≡ length (cells_from place ids)
count_from place [] = refl
count_from place (None ∷ ids) = count_from (place + 1) ids
count_from place (Some id ∷ ids) = let h : live_count ids ≡ length (cells_from (place + 1) ids) = count_from (place + 1) ids in omega (arith, h)

-- what is left once the scan stands at a place
pub left_at : (old new : Known) (p : ℕ) → IsSameStore old new → new.scan.place ≡ p → left_of new ≡ cells_from p (drop p old.ids)
left_at old new p same at = ap (λ (n : ℕ). cells_from n (drop n new.ids)) at ∙ ap (λ (known : Known). cells_from p (drop p known.ids)) same

-- an id that lives in two places has one entry for both
pub once_of : (ids : List (Option ℕ)) (entries : List LiveId) → IsIndex ids entries → (id p q : ℕ) → LivesAt id p ids → LivesAt id q ids → p ≡ q
once_of ids entries index id p q at at' =
    let a : Lists id p entries = index.all id p at in
    let b : Lists id q entries = index.all id q at' in
    let d : LiveId = record { id = 0; place = 0 } in
    ⊎_elim
    (λ (lt : a.at < b.at). absurd (above a b lt d))
    (λ (le : b.at ≤ a.at). ⊎_elim
    (λ (lt : b.at < a.at). absurd (above b a lt d))
    (λ (ge : a.at ≤ b.at).
    let same : a.at ≡ b.at = omega arith in
    ap (λ (e : LiveId). e.place) (sym (a.is d) ∙ ap (λ (n : ℕ). get_or entries n d) same ∙ b.is d))
    (cases_lt b.at a.at))
    (cases_lt a.at b.at)
  where
    above : {p q : ℕ} (a : Lists id p entries) (b : Lists id q entries) → a.at < b.at → LiveId → ⊥
    above a b lt d =
        let h : (get_or entries a.at d).id < (get_or entries b.at d).id = index.ascending a.at b.at d lt b.inside in
        let x : (get_or entries a.at d).id ≡ id = ap (λ (e : LiveId). e.id) (a.is d) in
        let y : (get_or entries b.at d).id ≡ id = ap (λ (e : LiveId). e.id) (b.is d) in
        omega (arith, h, x, y)

-- pieces of the region that a scan goes over, in the store's words
pub pieces_over : {D : Type 0} (g : Ghosts D) (shape : Shape) (region : Region) (scan : Scan) (to : ℕ) (before after : D) → IsOver shape region scan → ReadsPieces g scan.shape scan.region scan.end to before after → ReadsPieces g shape region scan.end to before after
pieces_over g shape region scan to before after over pieces =
    subst (λ (s : Shape). ReadsPieces g s region scan.end to before after) over.same_shape
    (subst (λ (r : Region). ReadsPieces g scan.shape r scan.end to before after) over.same_region pieces)

pub code_over : (shape : Shape) (region : Region) (scan : Scan) (place : ℕ) (image code : List ℕ) → IsOver shape region scan → code ≡ code_in scan.shape scan.region place image → code ≡ code_in shape region place image
code_over shape region scan place image code over is = rw (over.same_shape, over.same_region) at is

-- a scan goes on twice
pub scans_both : {D : Type 0} (g : Ghosts D) (old mid new : Known) (before between after : D) → ScansOn g old before mid between → ScansOn g mid between new after → ScansOn g old before new after
scans_both g old mid new before between after a b = record {
  same = same_both old mid new a.same b.same;
  agrees = λ told agrees. b.agrees told (a.agrees told agrees);
  pieces = range_both a.pieces (subst (λ (known : Known). ReadsPieces g known.shape known.region mid.scan.end new.scan.end between after) a.same b.pieces);
  frame = reads_both a.frame b.frame;
}

module _ {D : Type 0} (g : Ghosts D) (old new : Known) (before after : D) (shelved : IsShelved g.told old (g.size before) (g.image before)) (scan : ScansOn g old before new after) where
  -- what a shelf needs holds after a step of its scan
  pub shelved_after : IsShelved g.told new (g.size after) (g.image after)
  shelved_after = record {
    orderly = subst IsOrderly (sym scan.same) (record { shape = shelved.orderly.shape; all = shelved.orderly.all; once = shelved.orderly.once; fit = shelved.orderly.fit; valid = shelved.orderly.valid });
    long = rw (ap (λ (known : Known). known.shape) scan.same, scan.frame.size) shelved.long;
    agrees = λ told. scan.agrees told (shelved.agrees told);
    cells = λ told whole. subst (λ (image : List ℕ). AreCells new image) (sym scan.frame.image)
        (subst (λ (known : Known). AreCells known (g.image before)) (sym scan.same) (shelved.cells told (sym (ap (λ (known : Known). known.broken) scan.same) ∙ whole)));
  }

neither : (a b : Bool) → b ≡ false → (a && b) ≡ false
neither true b e = e
neither false b e = refl

-- pieces that end before the vectors
ranges_apart : (shape : Shape) (most end from to : ℕ) (reads : List (ℕ × ℕ)) → end ≤ vector_at shape 0 → ArePieces most end from to reads → vector_reads shape reads ≡ []
ranges_apart shape most end from to [] before are = refl
ranges_apart shape most end from to (read ∷ reads) before are =
    let at : read.0 ≡ from = ap (λ (r : ℕ × ℕ). r.0) are.1 in
    let len : read.1 ≡ min most (end - from) = ap (λ (r : ℕ × ℕ). r.1) are.1 in
    let le : read.0 + read.1 ≤ vector_at shape 0 = omega (arith, at, len, are.0, before) in
    let test : reaches_vectors shape read ≡ false = neither (ltb 0 read.1) (ltb (vector_at shape 0) (read.0 + read.1)) (le-ltb (vector_at shape 0) (read.0 + read.1) le) in
    rw test (ranges_apart shape most end (from + read.1) to reads before are.2)

-- the codes lie before the vectors
codes_before : (shape : Shape) (region : Region) → code_at shape region shape.capacity ≤ vector_at shape 0
codes_before shape region = omega (arith, region_is shape, region_ends shape region)

-- a step of the scan passes no vector
pub passes_scanned : {D : Type 0} (g : Ghosts D) (old new : Known) (before after : D) → ScansOn g old before new after → KeepsChanged old new → (g.told → old.broken ≡ false → new.changed ≡ old.changed) → Passes g old before [] new after
passes_scanned g old new before after scan keeps unchanged = record {
  same = scan.same;
  changed = keeps;
  unchanged = unchanged;
  reads = record {
    added = scan.pieces.pieces;
    is = scan.pieces.added;
    vectors = ranges_apart old.shape (codes_per_piece old.shape * code_bytes old.shape) (code_at old.shape old.region old.shape.capacity) (code_at old.shape old.region old.scan.end) (code_at old.shape old.region new.scan.end) scan.pieces.pieces (codes_before old.shape old.region) scan.pieces.are;
    frame = scan.frame;
  };
}

-- the read of a vector reaches into the vectors
vector_past : (shape : Shape) (place : ℕ) → IsShape shape → reaches_vectors shape (read_of shape place) ≡ true
vector_past shape place is = both_and (ltb 0 shape.dims) (ltb (vector_at shape 0) (vector_at shape place + shape.dims))
    (lt-ltb 0 shape.dims (omega (arith, is.some_dims))) (lt-ltb (vector_at shape 0) (vector_at shape place + shape.dims) (omega (arith, is.some_dims)))

-- a vector was fetched
pub passes_fetched : {D : Type 0} (g : Ghosts D) (known : Known) (place : ℕ) (before after : D) → IsShape known.shape → (g.told → g.reads after ≡ g.reads before ++ (vector_at known.shape place, known.shape.dims) ∷ []) → OnlyReads g before after → Passes g known before (place ∷ []) known after
passes_fetched g known place before after is reads frame = record {
  same = refl;
  changed = inl refl;
  unchanged = λ told whole. refl;
  reads = record {
    added = read_of known.shape place ∷ [];
    is = reads;
    vectors = let test = vector_past known.shape place is in rw test refl;
    frame = frame;
  };
}

-- a fetch failed
pub passes_failed : {D : Type 0} (g : Ghosts D) (known : Known) (before after : D) → g.reads after ≡ g.reads before → OnlyReads g before after → Passes g known before [] known after
passes_failed g known before after reads frame = record {
  same = refl;
  changed = inl refl;
  unchanged = λ told whole. refl;
  reads = record { added = []; is = λ told. reads ∙ sym (append-nil (g.reads before)); vectors = refl; frame = frame };
}

-- what a shelf needs holds after a fetch
pub shelved_fetched : {D : Type 0} (g : Ghosts D) (known : Known) (before after : D) → IsShelved g.told known (g.size before) (g.image before) → OnlyReads g before after → IsShelved g.told known (g.size after) (g.image after)
shelved_fetched g known before after shelved frame = rw (frame.size, frame.image) shelved

-- what a shelf needs holds of a store and the disk that it fits, once the scan stands at the beginning
named_here : (shape : Shape) (marks : List (List ℕ)) (code : List ℕ) → IsShape shape → HasShape shape marks → NamesCell shape marks code → is_cell_code shape marks code ≡ true
named_here shape marks code is has names = test_of_named shape marks code (named_of_cell shape marks code is has names)

nothing_held : (shape : Shape) (region : Region) (image : List ℕ) → part (code_at shape region 0) (0 * code_bytes shape) image ≡ []
nothing_held shape region image = ap (λ (n : ℕ). part (code_at shape region 0) n image) (zero-mul (code_bytes shape))

pub shelved_started : {D : Type 0} (g : Ghosts D) (known : Known) (disk : D) → IsOrderly known → Fits g known disk → IsShelved g.told (started known) (g.size disk) (g.image disk)
shelved_started g known disk is fits = record {
  orderly = record { shape = is.shape; all = is.all; once = is.once; fit = is.fit; valid = is.valid };
  long = fits.long;
  agrees = λ told. sym (nothing_held known.shape known.region (g.image disk));
  cells = λ told whole id p inside lives. named_here known.shape known.marks _ is.shape is.fit ((fits.known_in told whole).named.codes p id inside lives);
}

-- the code of a live place was met
kept_or_found : (test : Bool) (was now : Option ℕ) (place : ℕ) → now ≡ noted test was place → (now ≡ was) ⊎ ((was ≡ None) × (now ≡ Some place))
kept_or_found true was now place is = inl is
kept_or_found false None now place is = inr (refl, is)
kept_or_found false (Some p) now place is = inl is

pub keeps_met : (old new : Known) (place id : ℕ) (code : List ℕ) → LivesAt id place old.ids → new.changed ≡ changed_after old place code → KeepsChanged old new
keeps_met old new place id code lives is = ⊎_elim
    (λ kept. inl kept)
    (λ found. inr (record { place = place; id = id; lives = lives; none = found.0; now = found.1 }))
    (kept_or_found (is_cell_code old.shape old.marks code) old.changed new.changed place is)

module _ {D : Type 0} (g : Ghosts D) (old new : Known) (before : D) (slices : List ℕ) (cell : ℕ × ℕ) (shelved : IsShelved g.told old (g.size before) (g.image before)) (met : IsMet g old before new slices cell) where
  -- the slices that were given are those of the contents
  pub gives_code : g.told → slices ≡ slices_of old.shape old.marks (code_in old.shape old.region (place_of cell) (g.image before))
  gives_code told = met.gives ∙ ap (slices_of old.shape old.marks) (met.stood told (shelved.agrees told))

  -- no place is noted where the disk tells its bytes
  pub not_changed : g.told → old.broken ≡ false → new.changed ≡ old.changed
  not_changed told whole =
      let named = shelved.cells told whole (id_of cell) (place_of cell) met.inside met.lives in
      let code = met.stood told (shelved.agrees told) in
      met.noted ∙ ap (λ (test : Bool). noted test old.changed (place_of cell)) (ap (is_cell_code old.shape old.marks) code ∙ named)

  pub keeps_changed : KeepsChanged old new
  keeps_changed = keeps_met old new (place_of cell) (id_of cell) met.code met.lives met.noted

-- a step of the scan that met a code, or came to the end
module _ {D : Type 0} (g : Ghosts D) (old new : Known) (before : D) (slices : List ℕ) (shelved : IsShelved g.told old (g.size before) (g.image before)) where
  pub unchanged_next : (next : Option (ℕ × ℕ)) → IfSome next (IsMet g old before new slices) → (next ≡ None → new.changed ≡ old.changed) → g.told → old.broken ≡ false → new.changed ≡ old.changed
  unchanged_next None met end told whole = end refl
  unchanged_next (Some cell) met end told whole = not_changed g old new before slices cell shelved met told whole

-- it fits the store too once its scan stands at the beginning
pub fits_started : {D : Type 0} (g : Ghosts D) (known : Known) (disk : D) → Fits g known disk → Fits g (started known) disk
fits_started g known disk fits = record {
  long = fits.long;
  known_in = λ told whole. (let here = fits.known_in told whole in record { head = here.head; count = here.count; once = here.once; slots = here.slots; selected = here.selected; named = here.named; built = here.built });
}

-- the disk still fits the store when the shelf has ended
pub fits_passed : {D : Type 0} (g : Ghosts D) (old new : Known) (before after : D) (places : List ℕ) → Fits g old before → Passes g old before places new after → Fits g new after
fits_passed g old new before after places fits passes =
    let frame = passes.reads.frame in
    let now : FitsDisk g.told (record old { scan = new.scan; changed = new.changed }) (g.size before) (g.image before) = record {
      long = fits.long;
      known_in = λ told whole. (let here = fits.known_in told whole in record { head = here.head; count = here.count; once = here.once; slots = here.slots; selected = here.selected; named = here.named; built = here.built });
    } in
    subst (λ (known : Known). FitsDisk g.told known (g.size after) (g.image after)) (sym passes.same) (rw (frame.size, frame.image) now)
