-- What is read until a pair is what a search for as many needs, and what the places of a snapshot keep.
use Rattle.std.proofs.Common.{◌≡◌, ℕ, zero, suc, Bool, true, false, ◌&&◌, ltb, List, [], ◌∷◌, ◌++◌, map, Contains, ◌⊎◌, inl, inr, refl, ap, sym, ◌∙◌, subst, arith}
use Rattle.std.proofs.lemmas.Bool.Decides.{nat_tests}
use Rattle.va_core.specs.Approximations.{is_wide, low_pair, pairs}
use Rattle.va_core.specs.Distance.{Query}
use Rattle.va_core.specs.Ranking.{lesser}
use Rattle.va_core.specs.Sorting.{ascending_by}
use Rattle.va_core.proofs.Growing.{need_grows}
use Rattle.va_core.proofs.Members.{contains_cases, contains_first, contains_later, contains_none}
use Rattle.va_keep.specs.declared.entry.Entry.{Entry}
use Rattle.va_ports.specs.Shelves.{AreOwnCells, Contents, IsSound, id_of, place_of}
use Rattle.va_ports.specs.Searches.{bounds_of, distance_of}
use Rattle.va_noa.specs.Entries.{entry_of}
use Rattle.va_noa.specs.NearestReads.{LeastNearest, cells_needed}
use Rattle.va_noa.proofs.LeastRead.{nearest_is_least}
use Rattle.va_noa.proofs.Lists.{image_of}
use Rattle.va_cursor.specs.Cursors.{Cursor, KeepsVectors, Stands, entries_of}
use Rattle.va_cursor.specs.Fetches.{cells_next}
use Rattle.va_cursor.specs.Laws.{cells_until}
use Rattle.va_cursor.specs.Rankings.{IsOf, cell_at}
use Rattle.va_cursor.proofs.Filtering.{all_of, all_weaker, filter_none}

none_below : (wide : Bool) (n : ℕ) → (wide && ltb n 0) ≡ false
none_below true n = grind (arith, nat_tests)
none_below false n = refl

-- no pair needs nothing
needed_none : (snapshot : Contents) (query : Query) → [] ≡ cells_needed snapshot query 0
needed_none snapshot query =
    ap (ascending_by (low_pair (bounds_of snapshot query))) (sym (filter_none (λ c. is_wide (bounds_of snapshot query) c && ltb (lesser (pairs id_of (distance_of snapshot query) snapshot.cells) (low_pair (bounds_of snapshot query) c)) 0) snapshot.cells
    (all_of (λ c. (is_wide (bounds_of snapshot query) c && ltb (lesser (pairs id_of (distance_of snapshot query) snapshot.cells) (low_pair (bounds_of snapshot query) c)) 0) ≡ false)
    (λ c. none_below (is_wide (bounds_of snapshot query) c) (lesser (pairs id_of (distance_of snapshot query) snapshot.cells) (low_pair (bounds_of snapshot query) c))) snapshot.cells)))

pub reads_needed : (snapshot : Contents) (query : Query) (r : ℕ) → cells_until snapshot query r ≡ cells_needed snapshot query r
reads_needed snapshot query zero = needed_none snapshot query
reads_needed snapshot query (suc r) =
    ap (λ l. l ++ cells_next snapshot query r) (reads_needed snapshot query r)
    ∙ sym (need_grows (bounds_of snapshot query) snapshot.cells (distance_of snapshot query) r)

pub reads_least : (snapshot : Contents) (query : Query) (r : ℕ) → IsSound snapshot → AreOwnCells snapshot → LeastNearest snapshot query r (map id_of (cells_until snapshot query r))
reads_least snapshot query r sound own = nearest_is_least snapshot sound query r (map id_of (cells_until snapshot query r)) own (ap (map id_of) (reads_needed snapshot query r))

-- the image of a member is a member of the images
image_case : {X Y : Type 0} (f : X → Y) (x y : X) (l : List X) → (Contains l y → Contains (map f l) (f y)) → (x ≡ y) ⊎ Contains l y → Contains (map f (x ∷ l)) (f y)
image_case f x y l rest (inl same) = subst (λ z. Contains (f x ∷ map f l) (f z)) same (contains_first (f x) (map f l))
image_case f x y l rest (inr h) = contains_later (f x) (f y) (map f l) (rest h)

image_member : {X Y : Type 0} (f : X → Y) (l : List X) (y : X) → Contains l y → Contains (map f l) (f y)
image_member f [] y h = absurd (contains_none y h)
image_member f (x ∷ l) y h = image_case f x y l (image_member f l y) (contains_cases x y l h)

-- each entry that is held has a place of the snapshot
place_member : (snapshot : Contents) (query : Query) (e : Entry) → IsOf (entries_of snapshot query) e → Contains (map place_of snapshot.cells) e.place
place_member snapshot query e of =
    let image = image_of (entry_of snapshot query) snapshot.cells of.origin of.member in
    let cell : image.of ≡ cell_at e = ap cell_at image.is ∙ of.cell in
    subst (λ n. Contains (map place_of snapshot.cells) n) (ap place_of cell) (image_member place_of snapshot.cells image.of image.member)

pub places_keep : (snapshot contents : Contents) (since : List Entry) (cursor : Cursor) → Stands snapshot since cursor → ((place : ℕ) → Contains cursor.places place → contents.vector place ≡ snapshot.vector place) → KeepsVectors snapshot contents cursor
places_keep snapshot contents since cursor s kept =
    all_weaker (IsOf (entries_of snapshot cursor.query)) (λ (e : Entry). contents.vector e.place ≡ snapshot.vector e.place)
    (λ e of. kept e.place (subst (λ l. Contains l e.place) (sym s.places) (place_member snapshot cursor.query e of))) cursor.held s.remains.of
