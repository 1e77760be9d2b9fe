-- The searches over a shelf that was lent, and the making of a certificate.
use Rattle.std.proofs.Common.{◌≡◌, ℕ, List, [], ◌∷◌, false, length, map, Result, Ok, Err, OnOk, IfOk, IfErr, refl, sym, ap, subst, ◌∙◌}
use Rattle.std.proofs.lemmas.List.{length-map}
use Rattle.va_cert.specs.Made.{cert}
use Rattle.va_cert.specs.declared.certificate.Certificate.{Certificate}
use Rattle.va_core.specs.Distance.{Query}
use Rattle.va_core.specs.Places.{Item, live_items}
use Rattle.va_disk.specs.declared.storage.Storage as disks
use Rattle.va_layout.specs.Stands.{Kept}
use Rattle.va_maker.specs.Making.{StoppedMaking, cert_of}
use Rattle.va_noa.specs.NearestReads.{clamped_needed}
use Rattle.va_ports.specs.Faults.{CountsShelfFaults}
use Rattle.va_ports.specs.Shelves.{AreOwnCells, Contents, IsSound, id_of}
use Rattle.va_ports.specs.Searches.{GoesOn, Stopped, Took}
use Rattle.va_ports.specs.declared.search.Found.{Found}
use Rattle.va_ports.specs.declared.search.SearchFault.{SearchFault}
use Rattle.va_ports.specs.declared.shelf.Shelf as shelves
use Rattle.va_search.specs.Ready.{IsReady}
use Rattle.va_search.specs.Searched.{Searched, at_any_time, before_reads}
use Rattle.va_search.specs.Sought.{SoughtPairs, certificate_sought, found_as, nearest_pairs}
use Rattle.va_search.specs.Told.{told_as}
use Rattle.va_search.specs.declared.fault.StoreSearchFault.{StoreSearchFault}
use Rattle.va_search.proofs.Ending.{Answered, IsLent, StoppedAs, TookCells, searched}
use Rattle.va_search.proofs.Seeking.{Cells, Finds, ReadsSought, Seeks, Serves, nearest_seeks, nearest_serves}
use Rattle.va_store.specs.Known.{Known}
use Rattle.va_store.specs.ShelfLaws.{is_sound}
use Rattle.va_store.specs.Shelved.{Passes, ShelvesItems, ShelvesOwnCells, contents_of, item_of_cell, left_of, started}
use Rattle.va_store.specs.declared.shelf.StoreShelf.{StoreShelf}

-- what contracts see of a shelf over a store and its disk
abbrev pub seen : {D : Type 0} (g : disks.Ghosts D) → shelves.Ghosts (StoreShelf D g)
seen g = record {
  told = g.told;
  contents = λ shelf. contents_of shelf.store.now (g.image shelf.disk.now);
  left = λ shelf. left_of shelf.store.now;
  passes = λ shelf places end. (end.store.ghost_name ≡ shelf.store.ghost_name) × (end.disk.ghost_name ≡ shelf.disk.ghost_name) × Passes g shelf.store.now shelf.disk.now places end.store.now end.disk.now;
  faults = λ shelf. g.faults shelf.disk.now;
}

-- The shelf is over a store and a disk that are ready, and they are at its end as it leaves them.
pub record IsOver {D : Type 0} {g : disks.Ghosts D} (shelf end : StoreShelf D g) (known known' : Known) (old new : D) : Type 0 where
  pub ready : IsReady g known old
  pub store : shelf.store.now ≡ started known
  pub disk : shelf.disk.now ≡ old
  pub store_end : end.store.now ≡ known'
  pub disk_end : end.disk.now ≡ new
  pub contents : contents_of shelf.store.now (g.image shelf.disk.now) ≡ contents_of known (g.image old)
  pub items : ShelvesItems known (g.image old)
  pub own : g.told → known.broken ≡ false → ShelvesOwnCells known (g.image old)

-- so it lends them
pub lent_by : {D : Type 0} {g : disks.Ghosts D} {shelf end : StoreShelf D g} {known known' : Known} {old new : D} → IsOver shelf end known known' old new → IsLent (seen g) g shelf end known known' old new
lent_by {D} {g} {shelf} {end} {known} {known'} {old} {new} over = record {
  ready = over.ready;
  tells = λ told. told;
  passes = λ places passed.
      subst (λ (now : Known). Passes g (started known) old places now new) over.store_end
      (subst (λ (disk : D). Passes g (started known) old places end.store.now disk) over.disk_end
      (subst (λ (disk : D). Passes g (started known) disk places end.store.now end.disk.now) over.disk
      (subst (λ (start : Known). Passes g start shelf.disk.now places end.store.now end.disk.now) over.store passed.2)));
  before = ap g.faults over.disk;
  after = ap g.faults over.disk_end;
  contents = over.contents;
  sound = subst (λ (held : Contents). IsSound held) over.contents (is_sound shelf.store.now (g.image shelf.disk.now) shelf.shelved.orderly);
  items = over.items;
  own = λ told. over.own told over.ready.whole;
}

ids_mapped : (contents : Contents) (cells : Cells) → map (λ (item : Item). item.id) (map (item_of_cell contents) cells) ≡ map id_of cells
ids_mapped contents [] = refl
ids_mapped contents (cell ∷ cells) = ap (λ (l : List ℕ). id_of cell ∷ l) (ids_mapped contents cells)

module _ {S : Type 0} {h : shelves.Ghosts S} {contents : Contents} {query : Query} {cells : Cells} {old new : S} where
  took_cells : {ids : List ℕ} → Took h contents query cells old new [] ids → TookCells h contents query cells old new
  took_cells took = record { read = took.read; passed = took.passed; exact = took.exact; between = took.between }

  stopped_before : {why : SearchFault} → Stopped h contents query cells old new why → StoppedAs h contents query before_reads cells old new why
  stopped_before stopped = record {
    before = stopped.before;
    last = stopped.last;
    after = stopped.after;
    passed = stopped.passed;
    exact = stopped.exact;
    between = stopped.between;
    ends = stopped.ends;
  }

-- what a search for pairs says, over a shelf with these contents
pub record SaysPairs {S : Type 0} (h : shelves.Ghosts S) (query : Query) (seeks : Seeks) (contents : Contents) (old new : S) (result : Result Found SearchFault) : Type 0 where
  pub pairs : IfOk result (λ found. h.told → AreOwnCells contents → found.pairs ≡ seeks.pairs contents)
  pub took : IfOk result (λ found. Took h contents query (seeks.reads contents) old new [] found.fetched)
  pub stopped : IfErr result (Stopped h contents query (seeks.reads contents) old new)
  pub on : GoesOn h old new
  pub counts : CountsShelfFaults (h.faults old) (h.faults new) result

reads_pairs : {seeks : Seeks} {contents : Contents} {sought : Kept → SoughtPairs} → Serves seeks contents sought → ReadsSought (seeks.reads contents) contents (λ kept. found_as (sought kept))
reads_pairs serves = record { among = serves.among; is = λ kept are own. (serves.is kept are own).reads_are }

module _ {S : Type 0} {h : shelves.Ghosts S} {query : Query} {seeks : Seeks} {contents : Contents} {sought : Kept → SoughtPairs} {old new : S} (serves : Serves seeks contents sought) where
  finds_pairs : (found : Found) → h.told → Took h contents query (seeks.reads contents) old new [] found.fetched → (h.told → AreOwnCells contents → found.pairs ≡ seeks.pairs contents)
      → (h.told → found.candidates ≡ seeks.count contents) → Finds contents (λ kept. found_as (sought kept)) found
  finds_pairs found told took pairs counted own kept are =
      let is = serves.is kept are own in
      record {
        pairs = pairs told own ∙ is.pairs_are;
        fetched = took.listed ∙ ap (map id_of) (took.exact told) ∙ sym (ids_mapped contents (seeks.reads contents)) ∙ sym (ap (map (λ (item : Item). item.id)) is.reads_are);
        candidates = counted told ∙ is.count_is;
      }

  answered_pairs : (answer : Result Found SearchFault) → SaysPairs h query seeks contents old new answer → IfOk answer (λ found. h.told → found.candidates ≡ seeks.count contents)
      → Answered h query before_reads (seeks.reads contents) contents (λ kept. found_as (sought kept)) old new answer
  answered_pairs (Ok found) says counted = record {
    finds = λ told. finds_pairs found told says.took says.pairs counted;
    took = took_cells says.took;
    stopped = tt;
    on = says.on;
    counts = says.counts;
  }
  answered_pairs (Err why) says counted = record { finds = tt; took = tt; stopped = stopped_before says.stopped; on = says.on; counts = says.counts }

-- where as many come into question as are read, what was fetched has as many
fetched_count : {S : Type 0} {h : shelves.Ghosts S} {query : Query} {seeks : Seeks} {contents : Contents} {old new : S} (answer : Result Found SearchFault) → SaysPairs h query seeks contents old new answer
    → seeks.count contents ≡ length (seeks.reads contents) → IfOk answer (λ found. found.candidates ≡ length found.fetched) → IfOk answer (λ found. h.told → found.candidates ≡ seeks.count contents)
fetched_count (Ok found) says same counted = λ told. counted ∙ ap length says.took.listed ∙ length-map says.took.read id_of ∙ ap length (says.took.exact told) ∙ sym same
fetched_count (Err why) says same counted = tt

-- what is told of a search for pairs over a shelf that was lent
module _ {D : Type 0} {g : disks.Ghosts D} {shelf end : StoreShelf D g} {known known' : Known} {old new : D} {query : Query} {seeks : Seeks} {sought : Kept → SoughtPairs} where
  pub pairs_told : (answer : Result Found SearchFault) {told : Result Found StoreSearchFault} → SaysPairs (seen g) query seeks ((seen g).contents shelf) shelf end answer
      → IfOk answer (λ found. g.told → found.candidates ≡ seeks.count ((seen g).contents shelf))
      → (IsSound (contents_of known (g.image old)) → Serves seeks (contents_of known (g.image old)) sought) → IsOver shelf end known known' old new
      → told ≡ told_as known'.changed answer → Searched g before_reads query (λ kept. found_as (sought kept)) known known' old new told
  pairs_told answer says counted serves over =
      let lends = lent_by over in
      searched lends (reads_pairs (serves lends.sound)) answer
      (answered_pairs (serves lends.sound) answer (subst (λ (held : Contents). SaysPairs (seen g) query seeks held shelf end answer) lends.contents says)
      (subst (λ (held : Contents). IfOk answer (λ found. g.told → found.candidates ≡ seeks.count held)) lends.contents counted))

  -- where as many come into question as are read
  pub scan_told : (answer : Result Found SearchFault) {told : Result Found StoreSearchFault} → SaysPairs (seen g) query seeks ((seen g).contents shelf) shelf end answer
      → IfOk answer (λ found. found.candidates ≡ length found.fetched)
      → (IsSound (contents_of known (g.image old)) → Serves seeks (contents_of known (g.image old)) sought)
      → seeks.count ((seen g).contents shelf) ≡ length (seeks.reads ((seen g).contents shelf)) → IsOver shelf end known known' old new
      → told ≡ told_as known'.changed answer → Searched g before_reads query (λ kept. found_as (sought kept)) known known' old new told
  scan_told answer says counted serves same = pairs_told answer says (fetched_count answer says same counted) serves

-- what the making of a certificate says
pub record SaysCertificate {S : Type 0} (h : shelves.Ghosts S) (query : Query) (k : ℕ) (old new : S) (result : Result Certificate SearchFault) : Type 0 where
  pub made : IfOk result (λ made. h.told → AreOwnCells (h.contents old) → made ≡ cert_of (h.contents old) query k)
  pub took : OnOk result ((ids : List ℕ) × Took h (h.contents old) query (clamped_needed (h.contents old) query k) old new [] ids)
  pub stopped : IfErr result (StoppedMaking h query k old new)
  pub on : GoesOn h old new
  pub counts : CountsShelfFaults (h.faults old) (h.faults new) result

stopped_making : {S : Type 0} {h : shelves.Ghosts S} {query : Query} {k : ℕ} {old new : S} {why : SearchFault} → StoppedMaking h query k old new why → StoppedAs h (h.contents old) query at_any_time (clamped_needed (h.contents old) query k) old new why
stopped_making stopped = record {
  before = stopped.before;
  last = stopped.last;
  after = stopped.after;
  passed = stopped.passed;
  exact = stopped.exact;
  between = stopped.between;
  ends = stopped.ends;
}

-- the certificate of the cells is that of what is kept
finds_certificate : (contents : Contents) (query : Query) (k : ℕ) (made : Certificate) → (AreOwnCells contents → made ≡ cert_of contents query k) → Finds contents (certificate_sought query k) made
finds_certificate contents query k made is own kept are =
    is own
    ∙ ap (λ (items : List Item). cert items contents.marks query k) are.items_are
    ∙ ap (λ (marks : List (List ℕ)). cert (live_items kept.places) marks query k) are.marks_are

answered_certificate : {S : Type 0} {h : shelves.Ghosts S} {query : Query} {k : ℕ} {old new : S} (answer : Result Certificate SearchFault) → SaysCertificate h query k old new answer
    → Answered h query at_any_time (clamped_needed (h.contents old) query k) (h.contents old) (certificate_sought query k) old new answer
answered_certificate {h = h} {query} {k} {old} (Ok made) says = record {
  finds = λ told. finds_certificate (h.contents old) query k made (says.made told);
  took = took_cells says.took.1;
  stopped = tt;
  on = says.on;
  counts = says.counts;
}
answered_certificate (Err why) says = record { finds = tt; took = tt; stopped = stopped_making says.stopped; on = says.on; counts = says.counts }

-- it reads what a search for the k nearest reads
reads_certificate : {contents : Contents} {query : Query} {k : ℕ} → Serves (nearest_seeks query k) contents (nearest_pairs query k) → ReadsSought (clamped_needed contents query k) contents (certificate_sought query k)
reads_certificate serves = record { among = serves.among; is = λ kept are own. (serves.is kept are own).reads_are }

-- what is told of the making of a certificate over a shelf that was lent
pub certificate_told : {D : Type 0} {g : disks.Ghosts D} {shelf end : StoreShelf D g} {known known' : Known} {old new : D} {query : Query} {k : ℕ} (answer : Result Certificate SearchFault) {told : Result Certificate StoreSearchFault}
    → SaysCertificate (seen g) query k shelf end answer → IsOver shelf end known known' old new → told ≡ told_as known'.changed answer → Searched g at_any_time query (certificate_sought query k) known known' old new told
certificate_told {g = g} {shelf} {end} {query = query} {k} answer says over =
    let lends = lent_by over in
    searched lends (reads_certificate (nearest_serves lends.sound query k)) answer
    (subst (λ (held : Contents). Answered (seen g) query at_any_time (clamped_needed held query k) held (certificate_sought query k) shelf end answer) lends.contents (answered_certificate answer says))
