-- One entry was read, and reads follow one another.
use Rattle.std.proofs.Common.{◌≡◌, ℕ, ◌+◌, ◌<◌, ◌≤◌, true, false, List, [], ◌∷◌, ◌++◌, filter, length, ltb, append_assoc, refl, ap, sym, ◌∙◌, subst, arith}
use Rattle.std.specs.List.{AllByRecursion}
use Rattle.std.proofs.lemmas.Bool.Decides.{nat_tests}
use Rattle.std.proofs.lemmas.List.{length-append, map-append}
use Rattle.va_core.specs.Approximations.{NamesDiffer}
use Rattle.va_core.specs.Distance.{Query}
use Rattle.va_core.specs.Sorting.{placed_by}
use Rattle.va_core.proofs.Sorting.{all_placed_by}
use Rattle.va_keep.specs.Queued.{Queued, low_pair}
use Rattle.va_keep.specs.declared.entry.Entry.{Entry}
use Rattle.va_ports.specs.Shelves.{Contents}
use Rattle.va_ports.specs.Searches.{distance_of}
use Rattle.va_ports.specs.declared.search.SearchFault.{SearchFault}
use Rattle.va_ports.specs.declared.shelf.Shelf.{Ghosts}
use Rattle.va_ports.proofs.Searching.{PassesBoth}
use Rattle.va_cursor.specs.Rankings.{Reads, distance_at, id_at, is_wide, settled}
use Rattle.va_cursor.specs.Cursors.{AreInside, IsWaiting, in_order}
use Rattle.va_cursor.specs.Fetches.{EndsAt, Halts, Visits, places_of}
use Rattle.va_cursor.proofs.Filtering.{differ_placed, filter_without, length_placed_by}

-- the first entry was put back with its distance
pub record IsSettled (held held' : List Entry) (e : Entry) (rest : List Entry) (dist : ℕ) : Type 0 where
  pub first : held ≡ e ∷ rest
  pub next : held' ≡ placed_by low_pair (settled dist e) rest
  pub wide : is_wide e ≡ true
  pub low : e.low ≤ dist
  pub high : dist ≤ e.high

settled_narrow : (n : ℕ) → ltb n n ≡ false
settled_narrow n = grind (arith, nat_tests)

module _ {held held' rest : List Entry} {e : Entry} {dist : ℕ} (s : IsSettled held held' e rest dist) where
  pub reads_one : (d : ℕ × ℕ → ℕ) → dist ≡ distance_at d e → Reads d (e ∷ []) held held'
  reads_one d same = (rest, s.first, s.wide, (subst (λ (n : ℕ). e.low ≤ n) same s.low, subst (λ (n : ℕ). n ≤ e.high) same s.high), s.next ∙ ap (λ (n : ℕ). placed_by low_pair (settled n e) rest) same)

  pub fewer_wide : length (filter is_wide held') + 1 ≡ length (filter is_wide held)
  fewer_wide =
      let after : filter is_wide held' ≡ filter is_wide rest = ap (filter is_wide) s.next ∙ filter_without low_pair is_wide (settled dist e) rest (settled_narrow dist) in
      let first : filter is_wide (e ∷ rest) ≡ e ∷ filter is_wide rest = rw s.wide refl in
      let before : filter is_wide held ≡ e ∷ filter is_wide rest = ap (filter is_wide) s.first ∙ first in
      rw (after, before) (omega arith)

  pub as_many : length held' ≡ length held
  as_many = ap length s.next ∙ length_placed_by low_pair (settled dist e) rest ∙ sym (ap length s.first)

  pub settled_all : (P : Entry → Type 0) → ((n : ℕ) (f : Entry) → P f → P (settled n f)) → AllByRecursion P held → AllByRecursion P held'
  settled_all P keeps all =
      let here : AllByRecursion P (e ∷ rest) = subst (AllByRecursion P) s.first all in
      subst (AllByRecursion P) (sym s.next) (all_placed_by P low_pair (settled dist e) rest (keeps dist e here.0) here.1)

  pub settled_differ : NamesDiffer id_at held → NamesDiffer id_at held'
  settled_differ differ =
      let here : NamesDiffer id_at (e ∷ rest) = subst (NamesDiffer id_at) s.first differ in
      subst (NamesDiffer id_at) (sym s.next) (differ_placed id_at low_pair (settled dist e) rest here.0 here.1)

-- there is a wide one, so one more can be counted
pub wide_some : {held rest : List Entry} {e : Entry} → held ≡ e ∷ rest → is_wide e ≡ true → 1 ≤ length (filter is_wide held)
wide_some {held} {rest} {e} first wide =
    let now : filter is_wide (e ∷ rest) ≡ e ∷ filter is_wide rest = rw wide refl in
    rw (first, now) (omega arith)

-- what puts the first entry of a queue back with its distance
pub put_back : (l l' : List Entry) {e : Entry} {dist : ℕ} → (rest : List Entry) × (in_order l ≡ e ∷ rest) → ((entry : Entry) (rest : List Entry) → in_order l ≡ entry ∷ rest → in_order l' ≡ placed_by low_pair (settled dist entry) rest) →
    is_wide e ≡ true → e.low ≤ dist → dist ≤ e.high → (rest : List Entry) × IsSettled (in_order l) (in_order l') e rest dist
put_back l l' {e} {dist} split settles wide low high = (split.0, record { first = split.1; next = settles e split.0 split.1; wide = wide; low = low; high = high })

pub waiting_settled : {capacity dist : ℕ} {queue queue' : Queued} {e : Entry} {rest : List Entry} → IsSettled (in_order queue.entries) (in_order queue'.entries) e rest dist → length queue'.entries ≡ length queue.entries → queue'.room ≡ queue.room →
    IsWaiting capacity queue → IsWaiting capacity queue'
waiting_settled {capacity} s count room waiting = record {
  differ = settled_differ s waiting.differ;
  inside = settled_all s (λ (f : Entry). f.place < capacity) (λ n f h. h) waiting.inside;
  room = rw (count, room) waiting.room;
}

pub reads_both : (d : ℕ × ℕ → ℕ) (a b held mid held' : List Entry) → Reads d a held mid → Reads d b mid held' → Reads d (a ++ b) held held'
reads_both d [] b held mid held' h g = subst (λ l. Reads d b l held') h g
reads_both d (e ∷ a) b held mid held' h g = (h.0, h.1, h.2, h.3, reads_both d a b (placed_by low_pair (settled (distance_at d e) e) h.0) mid held' h.4 g)

module _ {S : Type 0} (g : Ghosts S) (query : Query) where
  pub visits_none : (held : List Entry) (old new : S) (count : ℕ) → g.passes old [] new → Visits g query held held old new count count
  visits_none held old new count passed = record { read = []; passed = passed; counted = omega arith; reads = λ _. refl }

  pub visits_one : {held held' rest : List Entry} {e : Entry} {dist : ℕ} (old new : S) (count : ℕ) → IsSettled held held' e rest dist → (g.told → dist ≡ distance_at (distance_of (g.contents old) query) e) → g.passes old (e.place ∷ []) new →
      Visits g query held held' old new count (count + 1)
  visits_one {e = e} old new count s same passed = record {
    read = e ∷ [];
    passed = passed;
    counted = refl;
    reads = λ t. reads_one s (distance_of (g.contents old) query) (same t);
  }

  module _ (both : PassesBoth g) {held mid held' : List Entry} {old between new : S} {a b c : ℕ} (stay : g.contents between ≡ g.contents old) (first : Visits g query held mid old between a b) where
    pub visits_both : Visits g query mid held' between new b c → Visits g query held held' old new a c
    visits_both second = record {
      read = first.read ++ second.read;
      passed = subst (λ l. g.passes old l new) (sym (map-append (λ (e : Entry). e.place) first.read second.read)) (both old between new (places_of first.read) (places_of second.read) first.passed second.passed);
      counted = let x : b ≡ a + length first.read = first.counted in let y : c ≡ b + length second.read = second.counted in
          let z : length (first.read ++ second.read) ≡ length first.read + length second.read = length-append first.read second.read in omega (arith, x, y, z);
      reads = λ t. reads_both (distance_of (g.contents old) query) first.read second.read held mid held' (first.reads t)
          (subst (λ (x : Contents). Reads (distance_of x query) second.read mid held') stay (second.reads t));
    }

    pub halts_both : {why : SearchFault} → Halts g query mid held' between new b c why → Halts g query held held' old new a c why
    halts_both {why} second = record {
      read = first.read ++ second.read;
      last = second.last;
      passed = subst (λ l. g.passes old l new) (sym (ap places_of (append_assoc first.read second.read second.last) ∙ map-append (λ (e : Entry). e.place) first.read (second.read ++ second.last)))
          (both old between new (places_of first.read) (places_of (second.read ++ second.last)) first.passed second.passed);
      counted = let x : b ≡ a + length first.read = first.counted in let y : c ≡ b + length (second.read ++ second.last) = second.counted in
          let z : length ((first.read ++ second.read) ++ second.last) ≡ length first.read + length (second.read ++ second.last) = ap length (append_assoc first.read second.read second.last) ∙ length-append first.read (second.read ++ second.last) in omega (arith, x, y, z);
      reads = λ t. reads_both (distance_of (g.contents old) query) first.read second.read held mid held' (first.reads t)
          (subst (λ (x : Contents). Reads (distance_of x query) second.read mid held') stay (second.reads t));
      ends = subst (λ (x : Contents). EndsAt g x query held' second.last why) stay second.ends;
    }

-- the first entry was taken out
pub waiting_popped : {capacity : ℕ} {queue queue' : Queued} {e : Entry} → in_order queue.entries ≡ e ∷ in_order queue'.entries → length queue'.entries < queue'.room → IsWaiting capacity queue → IsWaiting capacity queue'
waiting_popped {capacity} first room waiting = record {
  differ = (subst (NamesDiffer id_at) first waiting.differ).1;
  inside = (subst (AreInside capacity) first waiting.inside).1;
  room = omega (arith, room);
}
