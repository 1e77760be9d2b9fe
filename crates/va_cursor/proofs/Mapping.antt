-- The entries of the cells of a snapshot: what is said of them is said of the cells.
use Rattle.std.proofs.Common.{◌≡◌, ◌≢◌, ℕ, ◌≤◌, Bool, true, false, ◌&&◌, List, [], ◌∷◌, filter, map, eqb, Contains, if◌then◌else◌, refl, ap, sym, ◌∙◌, subst}
use Rattle.std.specs.List.{AllByRecursion}
use Rattle.va_core.specs.declared.pair.Pair.{Pair}
use Rattle.va_core.specs.Approximations.{NamesDiffer, is_next, need_next, pairs}
use Rattle.va_core.specs.Approximations as core
use Rattle.va_core.specs.Distance.{Query, distance}
use Rattle.va_core.specs.Ranking.{is_less, lesser}
use Rattle.va_core.specs.Sorting.{ascending_by, placed_by}
use Rattle.va_keep.specs.Queued.{entry_bounds, low_pair}
use Rattle.va_keep.specs.declared.entry.Entry.{Entry}
use Rattle.va_ports.specs.Shelves.{Contents, id_of}
use Rattle.va_ports.specs.Searches.{IsBetween, LieBetween, bounds_of, clamped_distance, distance_of}
use Rattle.va_ports.proofs.Own.{clamped_own, clamped_same}
use Rattle.va_noa.specs.Entries.{entry_of}
use Rattle.va_noa.proofs.Lists.{IsImage, at_member, image_of}
use Rattle.va_cursor.specs.Cursors.{entries_of}
use Rattle.va_cursor.specs.Fetches.{cells_next, clamped_next}
use Rattle.va_cursor.specs.Rankings.{IsOf, LiesBetween, distance_at, cell_at, id_at, is_wide, pairs_at}

placed_mapped : {X Y : Type 0} (f : X → Y) (key : Y → Pair) (x : X) (l : List X) → placed_by key (f x) (map f l) ≡ map f (placed_by (λ y. key (f y)) x l)
placed_mapped f key x [] = refl
placed_mapped f key x (y ∷ l) = elim (is_less (key (f y)) (key (f x))) as (λ c. (if c then f y ∷ placed_by key (f x) (map f l) else f x ∷ (f y ∷ map f l)) ≡ map f (if c then y ∷ placed_by (λ z. key (f z)) x l else x ∷ (y ∷ l))) [
  | true ↦ ap (λ ys. f y ∷ ys) (placed_mapped f key x l)
  | false ↦ refl
]

ascending_mapped : {X Y : Type 0} (f : X → Y) (key : Y → Pair) (l : List X) → ascending_by key (map f l) ≡ map f (ascending_by (λ y. key (f y)) l)
ascending_mapped f key [] = refl
ascending_mapped f key (x ∷ l) = ap (placed_by key (f x)) (ascending_mapped f key l) ∙ placed_mapped f key x (ascending_by (λ y. key (f y)) l)

filter_mapped : {X Y : Type 0} (f : X → Y) (test : Y → Bool) (l : List X) → filter test (map f l) ≡ map f (filter (λ x. test (f x)) l)
filter_mapped f test [] = refl
filter_mapped f test (x ∷ l) = let rest : filter test (map f l) ≡ map f (filter (λ y. test (f y)) l) = filter_mapped f test l in
    elim (test (f x)) as (λ c. (if c then f x ∷ filter test (map f l) else filter test (map f l)) ≡ map f (if c then x ∷ filter (λ y. test (f y)) l else filter (λ y. test (f y)) l)) [
      | true ↦ ap (λ ys. f x ∷ ys) rest
      | false ↦ rest
    ]

module _ (snapshot : Contents) (query : Query) where
  pairs_mapped : (d : ℕ × ℕ → ℕ) (cells : List (ℕ × ℕ)) → pairs_at d (map (entry_of snapshot query) cells) ≡ pairs id_of d cells
  pairs_mapped d [] = refl
  pairs_mapped d (cell ∷ cells) = ap (λ ps. core.paired (d cell) (id_of cell) ∷ ps) (pairs_mapped d cells)

  pub pairs_of_entries : (d : ℕ × ℕ → ℕ) → pairs_at d (entries_of snapshot query) ≡ pairs id_of d snapshot.cells
  pairs_of_entries d = pairs_mapped d snapshot.cells

  pub cells_mapped : (cells : List (ℕ × ℕ)) → map cell_at (map (entry_of snapshot query) cells) ≡ cells
  cells_mapped [] = refl
  cells_mapped (cell ∷ cells) = ap (λ l. cell ∷ l) (cells_mapped cells)

  next_mapped : (d : ℕ × ℕ → ℕ) (r : ℕ) → need_next entry_bounds (entries_of snapshot query) (distance_at d) r ≡ map (entry_of snapshot query) (need_next (bounds_of snapshot query) snapshot.cells d r)
  next_mapped d r =
      ap (λ (ps : List Pair). ascending_by low_pair (filter (λ e. is_wide e && eqb (lesser ps (low_pair e)) r) (entries_of snapshot query))) (pairs_of_entries d)
      ∙ ap (ascending_by low_pair) (filter_mapped (entry_of snapshot query) (λ e. is_wide e && eqb (lesser (pairs id_of d snapshot.cells) (low_pair e)) r) snapshot.cells)
      ∙ ascending_mapped (entry_of snapshot query) low_pair (filter (is_next (bounds_of snapshot query) snapshot.cells d r) snapshot.cells)

  -- what is next of the entries is next of the cells
  pub next_of_entries : (d : ℕ × ℕ → ℕ) (r : ℕ) → map cell_at (need_next entry_bounds (entries_of snapshot query) (distance_at d) r) ≡ need_next (bounds_of snapshot query) snapshot.cells d r
  next_of_entries d r = ap (map cell_at) (next_mapped d r) ∙ cells_mapped (need_next (bounds_of snapshot query) snapshot.cells d r)

  -- where each distance lies between its bounds, clamping changes nothing
  pub next_between : (r : ℕ) → LieBetween snapshot query snapshot.cells → clamped_next snapshot query r ≡ cells_next snapshot query r
  next_between r all =
      ap (λ (ps : List Pair). ascending_by (core.low_pair (bounds_of snapshot query)) (filter (λ c. core.is_wide (bounds_of snapshot query) c && eqb (lesser ps (core.low_pair (bounds_of snapshot query) c)) r) snapshot.cells))
      (clamped_own snapshot query snapshot.cells all)

  differ_mapped : (cells : List (ℕ × ℕ)) → NamesDiffer id_of cells → NamesDiffer id_at (map (entry_of snapshot query) cells)
  differ_mapped [] h = tt
  differ_mapped (cell ∷ cells) h = (others (id_of cell) cells h.0, differ_mapped cells h.1)
    where
      others : (id : ℕ) (cells : List (ℕ × ℕ)) → AllByRecursion (λ c. id_of c ≢ id) cells → AllByRecursion (λ e. id_at e ≢ id) (map (entry_of snapshot query) cells)
      others id [] h = tt
      others id (cell ∷ cells) h = (h.0, others id cells h.1)

  -- the bounds of a wide entry are those of its cell, which is one of the snapshot's
  pub record IsWideCell (e : Entry) : Type 0 where
    pub low : e.low ≡ (bounds_of snapshot query).low (cell_at e)
    pub high : e.high ≡ (bounds_of snapshot query).high (cell_at e)
    pub member : Contains snapshot.cells (cell_at e)

  wide_image : (e : Entry) → IsImage (entry_of snapshot query) snapshot.cells e → IsWideCell e
  wide_image e image =
      let cell : image.of ≡ cell_at e = ap cell_at image.is in
      record {
        low = sym (ap (λ (f : Entry). f.low) image.is) ∙ ap (λ c. (bounds_of snapshot query).low c) cell;
        high = sym (ap (λ (f : Entry). f.high) image.is) ∙ ap (λ c. (bounds_of snapshot query).high c) cell;
        member = subst (λ c. Contains snapshot.cells c) cell image.member;
      }

  pub wide_cell : (e : Entry) → IsOf (entries_of snapshot query) e → is_wide e ≡ true → IsWideCell e
  wide_cell e of wide = subst IsWideCell (of.wide wide) (wide_image of.origin (image_of (entry_of snapshot query) snapshot.cells of.origin of.member))

  -- where the vector is the snapshot's, and its distance lies between the bounds, that is the clamped one
  pub same_distance : (contents : Contents) (e : Entry) → IsOf (entries_of snapshot query) e → contents.vector e.place ≡ snapshot.vector e.place → is_wide e ≡ true → LiesBetween (distance_of contents query) e →
      distance_at (distance_of contents query) e ≡ distance_at (clamped_distance snapshot query) e
  same_distance contents e of same wide between =
      let is = wide_cell e of wide in
      let now : distance_at (distance_of contents query) e ≡ distance_at (distance_of snapshot query) e = ap (distance query) same in
      let low : (bounds_of snapshot query).low (cell_at e) ≤ distance_at (distance_of snapshot query) e = subst (λ n. n ≤ distance_at (distance_of snapshot query) e) is.low (subst (λ n. e.low ≤ n) now between.0) in
      let high : distance_at (distance_of snapshot query) e ≤ (bounds_of snapshot query).high (cell_at e) = subst (λ n. distance_at (distance_of snapshot query) e ≤ n) is.high (subst (λ n. n ≤ e.high) now between.1) in
      now ∙ sym (clamped_same (bounds_of snapshot query) (distance_of snapshot query) (cell_at e) (low, high))

  -- where each distance of the snapshot lies between its bounds, so does that of a wide entry
  pub own_distance : (contents : Contents) (e : Entry) → IsOf (entries_of snapshot query) e → contents.vector e.place ≡ snapshot.vector e.place → is_wide e ≡ true → LieBetween snapshot query snapshot.cells →
      LiesBetween (distance_of contents query) e
  own_distance contents e of same wide all =
      let is = wide_cell e of wide in
      let now : distance_at (distance_of contents query) e ≡ distance_at (distance_of snapshot query) e = ap (distance query) same in
      let here : IsBetween (bounds_of snapshot query) (distance_of snapshot query) (cell_at e) = at_member (IsBetween (bounds_of snapshot query) (distance_of snapshot query)) snapshot.cells (cell_at e) all is.member in (
        subst (λ n. n ≤ distance_at (distance_of contents query) e) (sym is.low) (subst (λ n. (bounds_of snapshot query).low (cell_at e) ≤ n) (sym now) here.0),
        subst (λ n. distance_at (distance_of contents query) e ≤ n) (sym is.high) (subst (λ n. n ≤ (bounds_of snapshot query).high (cell_at e)) (sym now) here.1),
      )
