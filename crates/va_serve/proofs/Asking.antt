-- The commands that search, by the row of each: when they are refused, and what they read and reply.
use Rattle.std.proofs.Common.{◌≡◌, ℕ, ◌≤◌, not, Bool, true, false, List, [], ◌∷◌, length, if◌then◌else◌, Ok, Option, None, Some, refl, sym, ap, ◌∙◌, arith}
use Rattle.std.proofs.lemmas.List.{length-map}
use Rattle.std.proofs.lemmas.Bool.Decides.{nat_tests}
use Rattle.std.specs.Prelude.{◌++◌, nat_lt}
use Rattle.std.proofs.lemmas.List.Sorted.{length_permutation}
use Rattle.std.specs.List.{filter}
use Rattle.va_core.specs.declared.pair.Pair.{Pair}
use Rattle.va_core.specs.Distance as distances
use Rattle.va_core.specs.Places.{Item}
use Rattle.va_core.specs.Ranking.{answer, within}
use Rattle.va_core.specs.Approximations.{low_pair}
use Rattle.va_core.specs.Reads.{approximated, nearest_candidates, nearest_reads, scan_reads, within_reads}
use Rattle.va_core.specs.Shape.{Shape, is_within}
use Rattle.va_core.specs.Sorting.{ascending_by}
use Rattle.va_core.proofs.Sorting.{ascending_by_permutes}
use Rattle.va_disk.specs.declared.storage.Storage.{Ghosts}
use Rattle.va_lang.specs.Command.{Query, cert, knn, range, ssa}
use Rattle.va_cert.specs.Made as certificates
use Rattle.va_cert.specs.Text.{text_of}
use Rattle.va_cert.specs.declared.certificate.Certificate.{Certificate}
use Rattle.va_lang.specs.Reply as replies
use Rattle.va_lang.specs.Reply.{Reply}
use Rattle.va_lang.specs.declared.reply.Why.{Why}
use Rattle.va_lang.specs.declared.reply.Why.TheVariants.{K, Length, Limit}
use Rattle.va_layout.specs.Stands.{Kept}
use Rattle.va_model.specs.Rows.{Outcome, first_reason}
use Rattle.va_model.specs.Searching.{items_of, number_reason, query_fits, query_in, too_many, weights_of}
use Rattle.va_model.specs.State.{Store, holding}
use Rattle.va_ports.specs.declared.search.Found.{Found}
use Rattle.va_search.specs.Searched.{Searched, at_any_time, before_reads}
use Rattle.va_search.specs.Sought.{certificate_sought, nearest_sought, places_of, scan_sought, within_sought}
use Rattle.va_serve.specs.Refusals.{IsAskedAs, unasked_for}
use Rattle.va_serve.proofs.Places.{count_live}
use Rattle.va_serve.proofs.Queries.{weights_are}
use Rattle.va_serve.proofs.Seeking.{IsSearch}
use Rattle.va_store.specs.Ids.{live_count}
use Rattle.va_store.specs.Shelved.{IsSameStore}
use Rattle.va_store.specs.Known.{IsOf, Known}
use Rattle.va_core.proofs.Members.{filter_few}

-- the replies to the searches, by the query that is asked of the store
abbrev nearest_reply : distances.Query → ℕ → Store → Reply
nearest_reply asked k store = replies.near (answer (distances.pairs_of asked (items_of store)) k) (length (nearest_reads store.kept.marks asked (items_of store) k)) (length (nearest_candidates store.kept.marks asked (items_of store) k)) (length (items_of store))

abbrev scan_reply : distances.Query → ℕ → Store → Reply
scan_reply asked k store = replies.scanned (answer (distances.pairs_of asked (items_of store)) k) (length (scan_reads store.kept.marks asked (items_of store) k)) (length (items_of store))

abbrev within_reply : distances.Query → ℕ → Store → Reply
within_reply asked radius store = replies.within (within (distances.pairs_of asked (items_of store)) radius) (length (within_reads store.kept.marks asked (items_of store) radius)) (length (items_of store))

abbrev pub cert_reply : distances.Query → ℕ → Store → Reply
cert_reply asked k store = replies.cert (text_of (certificates.cert (items_of store) store.kept.marks asked k))

-- what a certificate comes to
abbrev cert_outcome : distances.Query → ℕ → Store → Outcome
cert_outcome asked k store = record { state = holding store; reply = cert_reply asked k store; places = places_of store.kept (nearest_reads store.kept.marks asked (items_of store) k) }

-- why a query isn't asked, by the further reasons of its command's row
unasked_so : (fits : Bool) (further : List (Bool × Why)) → first_reason ((not fits, Length) ∷ further) ≡ (if fits then first_reason further else Some Length)
unasked_so true further = refl
unasked_so false further = refl

-- a query that is asked fits, and there is no further reason
asked_fits : (fits : Bool) (further : Option Why) → (if fits then further else Some Length) ≡ None → fits ≡ true
asked_fits true further none = refl
asked_fits false further none = cc

none_further : (fits : Bool) (further : Option Why) → (if fits then further else Some Length) ≡ None → further ≡ None
none_further true further none = none
none_further false further none = cc

within_if : (within : Bool) → first_reason ((not within, K) ∷ []) ≡ None → within ≡ true
within_if true none = refl
within_if false none = cc

within_and_few : (within many : Bool) → first_reason ((not within, K) ∷ (many, Limit) ∷ []) ≡ None → (within ≡ true) × (many ≡ false)
within_and_few true true none = cc
within_and_few true false none = (refl, refl)
within_and_few false many none = cc

-- the query by the shape of the store is that by the shape of what is kept
pub query_there : {held : Known} (query : Query) (kept : Kept) → IsOf held kept → ◌≡◌ {A = distances.Query} (record { objects = query.objects; weights = weights_of held.shape.dims query.weights }) (query_in kept query)
query_there query kept is = ap (λ (s : Shape). record { objects = query.objects; weights = weights_of s.dims query.weights }) is.shape

some_pairs : (k : ℕ) → is_within 1 4096 k ≡ true → 1 ≤ k
some_pairs k within = grind (arith, nat_tests, within)

few_live : (live : ℕ) → nat_lt 4096 live ≡ false → live ≤ 4096
few_live live few = grind (arith, nat_tests, few)

module _ (held : Known) (query : Query) where
  -- the reason is that of the row, whose further reasons come to this one
  pub reason_there : {further : Option Why} (reasons : List (Bool × Why)) → further ≡ first_reason reasons → (kept : Kept) → IsOf held kept → first_reason ((not (query_fits kept.shape.dims query), Length) ∷ reasons) ≡ unasked_for held query further
  reason_there reasons says kept is =
      unasked_so (query_fits kept.shape.dims query) reasons
      ∙ ap (λ (s : Shape). if query_fits s.dims query then first_reason reasons else Some Length) (sym is.shape)
      ∙ ap (λ (r : Option Why). unasked_for held query r) (sym says)

  -- more vectors are live than a certificate has boxes for
  many_there : (store : Store) → IsOf held store.kept → nat_lt 4096 (live_count held.ids) ≡ too_many store
  many_there store is = ap (λ (n : ℕ). nat_lt 4096 n) (ap live_count is.ids ∙ count_live store.kept.places)

  module _ {asked : distances.Query} (same : asked ≡ record { objects = query.objects; weights = weights_of held.shape.dims query.weights }) where
    asked_there : (kept : Kept) → IsOf held kept → asked ≡ query_in kept query
    asked_there kept is = same ∙ query_there query kept is

    pub knn_searches : (k : ℕ) {further : Option Why} → further ≡ first_reason (number_reason k) → IsSearch (knn k query) held (unasked_for held query further) before_reads asked (nearest_sought asked k) (nearest_reply asked k)
    knn_searches k says = record {
      refused = λ store is. reason_there (number_reason k) says store.kept is;
      wants = λ store. refl;
      does = λ store is. rw (asked_there store.kept is) refl;
      asks = λ kept is. ap (λ (q : distances.Query). Some q) (sym (asked_there kept is));
      searches = λ kept. (query_in kept query, refl);
      scans = refl;
    }

    pub ssa_searches : (k : ℕ) {further : Option Why} → further ≡ first_reason (number_reason k) → IsSearch (ssa k query) held (unasked_for held query further) before_reads asked (scan_sought asked k) (scan_reply asked k)
    ssa_searches k says = record {
      refused = λ store is. reason_there (number_reason k) says store.kept is;
      wants = λ store. refl;
      does = λ store is. rw (asked_there store.kept is) refl;
      asks = λ kept is. ap (λ (q : distances.Query). Some q) (sym (asked_there kept is));
      searches = λ kept. (query_in kept query, refl);
      scans = refl;
    }

    pub range_searches : (radius : ℕ) {further : Option Why} → further ≡ None → IsSearch (range radius query) held (unasked_for held query further) before_reads asked (within_sought asked radius) (within_reply asked radius)
    range_searches radius says = record {
      refused = λ store is. reason_there [] says store.kept is;
      wants = λ store. refl;
      does = λ store is. rw (asked_there store.kept is) refl;
      asks = λ kept is. ap (λ (q : distances.Query). Some q) (sym (asked_there kept is));
      searches = λ kept. (query_in kept query, refl);
      scans = refl;
    }

    pub cert_searches : (k : ℕ) {live : ℕ} {further : Option Why} → live ≡ live_count held.ids → further ≡ first_reason (number_reason k ++ (nat_lt 4096 live, Limit) ∷ []) → IsSearch (cert k query) held (unasked_for held query further) at_any_time asked (certificate_sought asked k) (cert_reply asked k)
    cert_searches k count says = record {
      refused = λ store is. reason_there (number_reason k ++ (too_many store, Limit) ∷ [])
          (says ∙ ap (λ (b : Bool). first_reason (number_reason k ++ (b, Limit) ∷ [])) (ap (λ (n : ℕ). nat_lt 4096 n) count ∙ many_there store is)) store.kept is;
      wants = λ store. refl;
      does = λ store is. ap (λ (q : distances.Query). cert_outcome q k store) (sym (asked_there store.kept is));
      asks = λ kept is. ap (λ (q : distances.Query). Some q) (sym (asked_there kept is));
      searches = λ kept. (query_in kept query, refl);
      scans = refl;
    }

-- What a search needs of a query that is asked: a weight for each dimension, and a number of pairs in its range.
module _ {held : Known} {query : Query} {further : Option Why} {asked : distances.Query} (is : IsAskedAs held query further asked) where
  pub further_none : further ≡ None
  further_none = none_further (query_fits held.shape.dims query) further is.free

  pub weights_asked : length asked.weights ≡ held.shape.dims
  weights_asked = ap (λ (q : distances.Query). length q.weights) is.same ∙ weights_are held.shape.dims query (asked_fits (query_fits held.shape.dims query) further is.free)

  pub number_asked : (k : ℕ) → further ≡ first_reason (number_reason k) → 1 ≤ k
  number_asked k says = some_pairs k (within_if (is_within 1 4096 k) (sym says ∙ further_none))

  pub certificate_asked : (k live : ℕ) → further ≡ first_reason (number_reason k ++ (nat_lt 4096 live, Limit) ∷ []) → (1 ≤ k) × (live ≤ 4096)
  certificate_asked k live says =
      let ranges = within_and_few (is_within 1 4096 k) (nat_lt 4096 live) (sym says ∙ further_none) in
      (some_pairs k ranges.0, few_live live ranges.1)

-- as many vectors are live as items are kept
pub live_there : {held held' : Known} (store : Store) → IsOf held store.kept → IsSameStore held held' → {live : ℕ} → live ≡ live_count held'.ids → live ≡ length (items_of store)
live_there store is same live_is = live_is ∙ ap (λ (k : Known). live_count k.ids) same ∙ ap live_count is.ids ∙ count_live store.kept.places

-- fewer vectors are read than are live
need_few : {X : Type 0} (key : X → Pair) (test : X → Bool) (members : List X) → length (ascending_by key (filter test members)) ≤ length members
need_few key test members = omega (arith, length_permutation _ _ (ascending_by_permutes key (filter test members)), filter_few test members)

-- the replies to searches that were carried out
module _ {D : Type 0} {g : Ghosts D} {asked : distances.Query} {held held' : Known} {old new : D} {found : Found} where
  pub near_says : (k : ℕ) → Searched g before_reads asked (nearest_sought asked k) held held' old new (Ok found) → {fetched live : ℕ} → (length found.fetched ≤ 4294967295 → fetched ≡ length found.fetched) → live ≡ live_count held'.ids → live ≤ 4294967295
      → (store : Store) → IsOf held store.kept → (nearest_sought asked k store.kept).finds found → replies.near found.pairs fetched found.candidates live ≡ nearest_reply asked k store
  near_says k did {fetched} {live} count live_is small store is has =
      let reads = nearest_reads store.kept.marks asked (items_of store) k in
      let all : live ≡ length (items_of store) = live_there store is did.same live_is in
      let some : length found.fetched ≡ length reads = ap length has.fetched ∙ length-map reads (λ (item : Item). item.id) in
      let few : length reads ≤ length (items_of store) = need_few (low_pair (approximated store.kept.marks asked)) _ (items_of store) in
      let many : fetched ≡ length reads = count (omega (arith, all, some, few, small)) ∙ some in
      rw (has.pairs, many, has.candidates, all) refl

  pub scanned_says : (k : ℕ) → Searched g before_reads asked (scan_sought asked k) held held' old new (Ok found) → {live : ℕ} → live ≡ live_count held'.ids
      → (store : Store) → IsOf held store.kept → (scan_sought asked k store.kept).finds found → replies.scanned found.pairs found.candidates live ≡ scan_reply asked k store
  scanned_says k did live_is store is has = rw (has.pairs, has.candidates, live_there store is did.same live_is) refl

  pub within_says : (radius : ℕ) → Searched g before_reads asked (within_sought asked radius) held held' old new (Ok found) → {live : ℕ} → live ≡ live_count held'.ids
      → (store : Store) → IsOf held store.kept → (within_sought asked radius store.kept).finds found → replies.within found.pairs found.candidates live ≡ within_reply asked radius store
  within_says radius did live_is store is has = rw (has.pairs, has.candidates, live_there store is did.same live_is) refl

-- the certificate that was made is the one that is replied
pub cert_says : (asked : distances.Query) (k : ℕ) (store : Store) (made : Certificate) → (certificate_sought asked k store.kept).finds made → replies.cert (text_of made) ≡ cert_reply asked k store
cert_says asked k store made is = ap (λ (c : Certificate). replies.cert (text_of c)) is
