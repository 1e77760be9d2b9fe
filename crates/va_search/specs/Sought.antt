-- What searches over what a store keeps are to find.
use Rattle.std.specs.Prelude.{◌≡◌, ℕ, List, length, map}
use Rattle.va_cert.specs.Made.{cert}
use Rattle.va_cert.specs.declared.certificate.Certificate.{Certificate}
use Rattle.va_core.specs.declared.pair.Pair.{Pair}
use Rattle.va_core.specs.Distance.{Query, pairs_of}
use Rattle.va_core.specs.Places.{Item, live_items, place_of}
use Rattle.va_core.specs.Ranking.{answer, within}
use Rattle.va_core.specs.Reads.{nearest_candidates, nearest_reads, scan_reads, within_reads}
use Rattle.va_layout.specs.Stands.{Kept}
use Rattle.va_ports.specs.declared.search.Found.{Found}

-- what an answer is to be, and the items whose vectors are read for it, in this order
pub record Sought (A : Type 0) : Type 1 where
  pub finds : A → Type 0
  pub reads : List Item

-- the pairs that are asked for, the items whose vectors are read, and how many items come into question
pub record SoughtPairs : Type 0 where
  pub pairs : List Pair
  pub reads : List Item
  pub candidates : ℕ

-- what was found is what was sought
pub record IsFound (sought : SoughtPairs) (found : Found) : Type 0 where
  pub pairs : found.pairs ≡ sought.pairs
  pub fetched : found.fetched ≡ map (λ (item : Item). item.id) sought.reads
  pub candidates : found.candidates ≡ sought.candidates

abbrev pub found_as : SoughtPairs → Sought Found
found_as sought = record { finds = IsFound sought; reads = sought.reads }

-- the k nearest, by the least set of vectors that determines them
abbrev pub nearest_pairs : Query → ℕ → Kept → SoughtPairs
nearest_pairs query k kept = record {
  pairs = answer (pairs_of query (live_items kept.places)) k;
  reads = nearest_reads kept.marks query (live_items kept.places) k;
  candidates = length (nearest_candidates kept.marks query (live_items kept.places) k);
}

-- the k nearest, by a scan in the order of the places; as many come into question as are read
abbrev pub scan_pairs : Query → ℕ → Kept → SoughtPairs
scan_pairs query k kept = record {
  pairs = answer (pairs_of query (live_items kept.places)) k;
  reads = scan_reads kept.marks query (live_items kept.places) k;
  candidates = length (scan_reads kept.marks query (live_items kept.places) k);
}

-- what lies within a radius, by the least set of vectors that determines it
abbrev pub within_pairs : Query → ℕ → Kept → SoughtPairs
within_pairs query radius kept = record {
  pairs = within (pairs_of query (live_items kept.places)) radius;
  reads = within_reads kept.marks query (live_items kept.places) radius;
  candidates = length (within_reads kept.marks query (live_items kept.places) radius);
}

abbrev pub nearest_sought : Query → ℕ → Kept → Sought Found
nearest_sought query k kept = found_as (nearest_pairs query k kept)

abbrev pub scan_sought : Query → ℕ → Kept → Sought Found
scan_sought query k kept = found_as (scan_pairs query k kept)

abbrev pub within_sought : Query → ℕ → Kept → Sought Found
within_sought query radius kept = found_as (within_pairs query radius kept)

-- the certificate of the k nearest, by the same reads
abbrev pub certificate_sought : Query → ℕ → Kept → Sought Certificate
certificate_sought query k kept = record {
  finds = λ made. made ≡ cert (live_items kept.places) kept.marks query k;
  reads = nearest_reads kept.marks query (live_items kept.places) k;
}

-- the places of some items, in their order
abbrev pub places_of : Kept → List Item → List ℕ
places_of kept items = map (λ (item : Item). place_of item.id kept.places) items
