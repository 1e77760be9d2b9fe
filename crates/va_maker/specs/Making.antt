-- The certificate of a search over a shelf.
use Rattle.std.specs.Prelude.{◌≡◌, ℕ, List, [], ◌∷◌, ◌++◌, map}
use Rattle.va_cert.specs.Made.{cert}
use Rattle.va_cert.specs.declared.certificate.Certificate.{Certificate}
use Rattle.va_core.specs.Distance.{Query}
use Rattle.va_core.specs.Places.{Item}
use Rattle.va_core.specs.Ranking.{answer}
use Rattle.va_bounded.specs.Keeps.{clamped_pairs}
use Rattle.va_noa.specs.NearestReads.{TookNeeded, clamped_needed}
use Rattle.va_ports.specs.Shelves.{Contents, id_of, place_of}
use Rattle.va_ports.specs.Searches.{IsMismatch, LieBetween, vector_of}
use Rattle.va_ports.specs.declared.search.SearchFault.{SearchFault}
use Rattle.va_ports.specs.declared.search.SearchFault.TheVariants.{Memory, Shelf, Mismatch}
use Rattle.va_ports.specs.declared.shelf.Shelf.{Ghosts}
use Rattle.va_maker.specs.Coded.{coded_of}
use Rattle.va_maker.specs.Keeps.{kept_at}
use Rattle.va_maker.specs.Rows.{coded_cert}

-- the ids of a shelf with their vectors
abbrev pub item_of : Contents → ℕ × ℕ → Item
item_of contents at = record { id = id_of at; vector = vector_of contents at }

abbrev pub items_of : Contents → List Item
items_of contents = map (item_of contents) contents.cells

-- the certificate of the answer to k
abbrev pub cert_of : Contents → Query → ℕ → Certificate
cert_of contents query k = cert (items_of contents) contents.marks query k

-- what a search keeps
abbrev pub kept_needed : Contents → Query → ℕ → List (ℕ × List ℕ)
kept_needed contents query k = map (kept_at contents) (map place_of (clamped_needed contents query k))

-- the same wherever the vectors lie, with the boxes of the codes, by the distance or the bound that it lies beyond
abbrev pub clamped_cert : Contents → Query → ℕ → Certificate
clamped_cert contents query k = coded_cert contents.marks query k (coded_of contents) (answer (clamped_pairs contents query contents.cells) k) (kept_needed contents query k)

-- what a search reads was read
abbrev pub ReadNeeded : {S : Type 0} → Ghosts S → Query → ℕ → S → S → Type 0
ReadNeeded g query k old new = (ids : List ℕ) × TookNeeded g query k old new ids

-- How a fault ends the reads: want of memory and a fault of the shelf come after those that succeeded, and a mismatch at the
-- last one.
abbrev pub EndsMaking : {S : Type 0} → Ghosts S → Contents → Query → List (ℕ × ℕ) → SearchFault → Type 0
EndsMaking g contents query last Memory = last ≡ []
EndsMaking g contents query last (Shelf fault) = last ≡ []
EndsMaking g contents query last (Mismatch place dist low high) = (at : ℕ × ℕ) × (last ≡ at ∷ []) × IsMismatch g contents query at place dist low high

-- Where no certificate is made, some cells were read, and where that fails at a mismatch the last of them has it. Where the
-- shelf tells, they are the first of those that a search reads, and all but the mismatch lie between their bounds.
pub record StoppedMaking {S : Type 0} (g : Ghosts S) (query : Query) (k : ℕ) (old new : S) (why : SearchFault) : Type 0 where
  pub before : List (ℕ × ℕ)
  pub last : List (ℕ × ℕ)
  pub after : List (ℕ × ℕ)
  pub passed : g.passes old (map place_of (before ++ last)) new
  pub exact : g.told → clamped_needed (g.contents old) query k ≡ before ++ (last ++ after)
  pub between : g.told → LieBetween (g.contents old) query before
  pub ends : EndsMaking g (g.contents old) query last why
