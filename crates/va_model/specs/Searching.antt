-- The commands that search, and the one that gives a certificate of a search.
use Rattle.std.specs.Prelude.{ℕ, ◌==◌, ◌&&◌, nat_lt, not, List, [], ◌∷◌, ◌++◌, length, map, Option, None, Some, Bool, true, replicate}
use Rattle.va_cert.specs.Made.{cert}
use Rattle.va_cert.specs.Text.{text_of}
use Rattle.va_cert.specs.declared.certificate.Certificate.{Certificate}
use Rattle.va_core.specs.declared.pair.Pair.{Pair}
use Rattle.va_core.specs.Distance as distances
use Rattle.va_core.specs.Places.{Item, live_items, place_of}
use Rattle.va_core.specs.Ranking.{answer, within}
use Rattle.va_core.specs.Reads.{nearest_candidates, nearest_reads, scan_reads, within_reads}
use Rattle.va_core.specs.Shape.{is_within}
use Rattle.va_lang.specs.Command.{Query}
use Rattle.va_lang.specs.Reply as replies
use Rattle.va_lang.specs.Reply.{Reply}
use Rattle.va_lang.specs.declared.reply.Why.{Why}
use Rattle.va_lang.specs.declared.reply.Why.TheVariants.{Length, K, Limit}
use Rattle.va_layout.specs.Stands.{Kept}
use Rattle.va_model.specs.Rows.{Row, Want, at_once, between}
use Rattle.va_model.specs.State.{Store, holding}

-- each of these vectors has so many numbers
abbrev pub have_length : ℕ → List (List ℕ) → Bool
have_length dims [] = true
have_length dims (vector ∷ vectors) = (length vector == dims) && have_length dims vectors

abbrev pub weights_fit : ℕ → Option (List ℕ) → Bool
weights_fit dims None = true
weights_fit dims (Some weights) = length weights == dims

-- a query has 1 to 16 objects, as each line that asks one; they and the weights have so many numbers
abbrev pub query_fits : ℕ → Query → Bool
query_fits dims query = is_within 1 16 (length query.objects) && have_length dims query.objects && weights_fit dims query.weights

-- the weights that were written, or 1 for each dimension
abbrev pub weights_of : ℕ → Option (List ℕ) → List ℕ
weights_of dims None = replicate dims 1
weights_of dims (Some weights) = weights

abbrev pub query_in : Kept → Query → distances.Query
query_in kept query = record { objects = query.objects; weights = weights_of kept.shape.dims query.weights }

-- A search: it is refused where an object or the weights don't have the shape's dimensions, and then for further reasons.
-- The vectors of some items are read, in this order, and the state stays.
abbrev pub search_row : Query → List (Bool × Why) → Want → List Item → Reply → Store → Row
search_row query further want reads reply store = record {
  reasons = (not (query_fits store.kept.shape.dims query), Length) ∷ further;
  want = want;
  outcome = record {
    state = holding store;
    reply = reply;
    places = map (λ (item : Item). place_of item.id store.kept.places) reads;
  };
}

-- the number of pairs that are asked for is out of range
abbrev pub number_reason : ℕ → List (Bool × Why)
number_reason k = (not (is_within 1 4096 k), K) ∷ []

abbrev pub items_of : Store → List Item
items_of store = live_items store.kept.places

-- the k nearest of the live vectors
abbrev pub nearest_to : ℕ → Query → Store → List Pair
nearest_to k query store = answer (distances.pairs_of (query_in store.kept query) (items_of store)) k

-- what is read for them at least, what comes into question, and what a scan in the order of the places reads
abbrev pub read_for_nearest : ℕ → Query → Store → List Item
read_for_nearest k query store = nearest_reads store.kept.marks (query_in store.kept query) (items_of store) k

abbrev pub candidates_for : ℕ → Query → Store → List Item
candidates_for k query store = nearest_candidates store.kept.marks (query_in store.kept query) (items_of store) k

abbrev pub read_in_scan : ℕ → Query → Store → List Item
read_in_scan k query store = scan_reads store.kept.marks (query_in store.kept query) (items_of store) k

-- the live vectors within a radius, and what is read for them at least
abbrev pub within_radius : ℕ → Query → Store → List Pair
within_radius radius query store = within (distances.pairs_of (query_in store.kept query) (items_of store)) radius

abbrev pub read_within : ℕ → Query → Store → List Item
read_within radius query store = within_reads store.kept.marks (query_in store.kept query) (items_of store) radius

abbrev pub knn_row : ℕ → Query → Store → Row
knn_row k query store = search_row query (number_reason k) at_once (read_for_nearest k query store)
    (replies.near (nearest_to k query store) (length (read_for_nearest k query store)) (length (candidates_for k query store)) (length (items_of store))) store

abbrev pub ssa_row : ℕ → Query → Store → Row
ssa_row k query store = search_row query (number_reason k) at_once (read_in_scan k query store)
    (replies.scanned (nearest_to k query store) (length (read_in_scan k query store)) (length (items_of store))) store

abbrev pub range_row : ℕ → Query → Store → Row
range_row radius query store = search_row query [] at_once (read_within radius query store)
    (replies.within (within_radius radius query store) (length (read_within radius query store)) (length (items_of store))) store

-- more vectors are live than a certificate has boxes for
abbrev pub too_many : Store → Bool
too_many store = nat_lt 4096 (length (items_of store))

-- the certificate of the k nearest of the live vectors
abbrev pub certificate_of : ℕ → Query → Store → Certificate
certificate_of k query store = cert (items_of store) store.kept.marks (query_in store.kept query) k

-- It reads what the search for the k nearest reads. Memory may be refused after some of it.
abbrev pub cert_row : ℕ → Query → Store → Row
cert_row k query store = search_row query (number_reason k ++ (too_many store, Limit) ∷ []) between (read_for_nearest k query store)
    (replies.cert (text_of (certificate_of k query store))) store
