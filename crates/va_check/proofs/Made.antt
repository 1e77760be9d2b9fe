-- The reply with the certificate of a search is judged accepted.
use Rattle.std.proofs.Common.{◌≡◌, ℕ, suc, ◌^◌, ◌<◌, ◌≤◌, Bool, true, false, ltb, if◌then◌else◌, List, [], ◌∷◌, length, map, filter, ◌⊎◌, inl, inr, refl, arith}
use Rattle.std.proofs.lemmas.List.{length-map}
use Rattle.std.proofs.lemmas.List.Sorted.{length_permutation}
use Rattle.std.specs.List.{AllByRecursion}
use Rattle.va_core.specs.declared.pair.Pair.{Pair}
use Rattle.va_core.specs.Approximations.{low_pair, paired}
use Rattle.va_core.specs.Boxes.{Lies, Span}
use Rattle.va_core.specs.Cells.{box_of}
use Rattle.va_core.specs.Distance.{Query, distance, pairs_of, pair_of}
use Rattle.va_core.specs.Marks.{AreValid, cell}
use Rattle.va_core.specs.Places.{Item}
use Rattle.va_core.specs.Ranking.{answer, lesser}
use Rattle.va_core.specs.ReadLaws.{AreApproximated}
use Rattle.va_core.specs.Reads.{approximated, nearest_reads}
use Rattle.va_core.specs.Vectors.{AreBytes, IsVector}
use Rattle.va_core.proofs.Boxes.{substitute_found}
use Rattle.va_core.proofs.Cells.{lies_in_own, names_own, vector_of_lying}
use Rattle.va_core.proofs.Members.{IsAmong, all_at, all_from, filter_few, all_mapped}
use Rattle.va_core.proofs.Ranking.{all_ascending, length_ascending}
use Rattle.va_core.proofs.Sorting.{all_ascending_by, all_filter, ascending_by_permutes}
use Rattle.va_cert.specs.declared.certificate.BoxRow.{BoxRow}
use Rattle.va_cert.specs.declared.certificate.Taken.{Taken}
use Rattle.va_cert.specs.Forms.{IsFormed}
use Rattle.va_cert.specs.Made.{AreOfShape, by_id, cert, row_for, taken_for}
use Rattle.va_cert.specs.Reasons.{Accepts}
use Rattle.va_cert.specs.Text.{Fits}
use Rattle.va_cert.proofs.Acceptance.{made_is_accepted, needs}
use Rattle.va_cert.proofs.Soundness.{accepted_is_sound}
use Rattle.va_cert.proofs.Telling.{approximated_of, read_each}
use Rattle.va_cert.proofs.WellFormed.{formed}
use Rattle.va_check.specs.Judging.{IsVerdict, Judges, MadeIsJudged, limit, reply_of}
use Rattle.va_check.specs.declared.judged.Judged.{Judged}
use Rattle.va_check.specs.declared.judged.Judged.TheVariants.{Accepted, Refused, Unread, ReadFault, TooLong, Memory}
use Rattle.va_cert.proofs.Distances.{distance_fits, objects_bytes}
use Rattle.va_check.proofs.Replied.{accepted_is_judged}
use Rattle.va_check.proofs.Sizes.{reply_size}

-- the ends of a box that isn't empty lie in it
span_rises : (low v high : ℕ) → low ≤ v → v ≤ high → low ≤ high
span_rises low v high h g = omega (arith, h, g)

same_most : (n : ℕ) → n ≤ n
same_most n = omega arith

low_lies : (box : List Span) (x : List ℕ) → Lies box x → Lies box (map (λ (s : Span). s.low) box)
low_lies [] x lies = tt
low_lies (s ∷ box) [] lies = absurd lies
low_lies (s ∷ box) (v ∷ x) lies = (same_most s.low, span_rises s.low v s.high lies.0 lies.1, low_lies box x lies.2)

high_lies : (box : List Span) (x : List ℕ) → Lies box x → Lies box (map (λ (s : Span). s.high) box)
high_lies [] x lies = tt
high_lies (s ∷ box) [] lies = absurd lies
high_lies (s ∷ box) (v ∷ x) lies = (span_rises s.low v s.high lies.0 lies.1, same_most s.high, high_lies box x lies.2)

-- numbers of a row
abbrev IsRowFit : BoxRow → Type 0
IsRowFit row = (row.id < 2 ^ 32) × AreBytes row.low × AreBytes row.high

row_fits : (marks : List (List ℕ)) (item : Item) → AreValid marks → IsVector (length marks) item.vector → item.id < 2 ^ 32 → IsRowFit (row_for marks item)
row_fits marks item valid vector small =
    let names = names_own marks item.vector valid vector in
    let lies : Lies (box_of marks item.vector) item.vector = lies_in_own marks item.vector valid vector in
    let low : IsVector (length marks) (row_for marks item).low = vector_of_lying marks (cell marks item.vector) (row_for marks item).low valid names (low_lies (box_of marks item.vector) item.vector lies) in
    let high : IsVector (length marks) (row_for marks item).high = vector_of_lying marks (cell marks item.vector) (row_for marks item).high valid names (high_lies (box_of marks item.vector) item.vector lies) in
    (small, low.bytes, high.bytes)

module _ (dims : ℕ) (items : List Item) (marks : List (List ℕ)) (query : Query) (k : ℕ) (shaped : AreOfShape dims items marks query k) (small : AllByRecursion (λ (item : Item). item.id < 2 ^ 32) items) where
  approximates : AreApproximated marks items
  approximates = approximated_of dims items marks query k shaped

  vector_at : (item : Item) → IsAmong item items → IsVector (length marks) item.vector
  vector_at item among = all_at (λ (i : Item). IsVector (length marks) i.vector) items item approximates.vectors among

  small_at : (item : Item) → IsAmong item items → item.id < 2 ^ 32
  small_at item among = all_at (λ (i : Item). i.id < 2 ^ 32) items item small among

  abbrev IsPairFit : Pair → Type 0
  IsPairFit p = (p.id < 2 ^ 32) × (p.dist < 2 ^ 64)

  pairs_fit : AllByRecursion IsPairFit (pairs_of query items)
  pairs_fit = all_mapped (λ item. IsPairFit (pair_of query item)) IsPairFit (pair_of query) items (λ item fit. fit) (all_from (λ (item : Item). IsPairFit (pair_of query item)) items (λ item among.
      (small_at item among, distance_fits dims query item.vector shaped.most_dims shaped.fits (vector_at item among).bytes)))

  answer_fits : AllByRecursion IsPairFit (answer (pairs_of query items) k)
  answer_fits =
      let test : Pair → Bool = λ p. ltb (lesser (pairs_of query items) p) k in
      all_ascending IsPairFit (filter test (pairs_of query items)) (all_filter IsPairFit test (pairs_of query items) pairs_fit)

  boxes_fit : AllByRecursion IsRowFit (map (row_for marks) (by_id items))
  boxes_fit =
      let P : Item → Type 0 = λ item. IsRowFit (row_for marks item) in
      all_mapped (λ item. IsRowFit (row_for marks item)) IsRowFit (row_for marks) (by_id items) (λ item fit. fit) (all_ascending_by P (λ (item : Item). paired 0 item.id) items
      (all_from P items (λ item among. row_fits marks item shaped.valid (vector_at item among) (small_at item among))))

  abbrev IsTakenFit : Taken → Type 0
  IsTakenFit taken = (taken.id < 2 ^ 32) × AreBytes taken.vector × AreBytes taken.other

  taken_fits : (item : Item) → IsAmong item items → IsTakenFit (taken_for marks query item)
  taken_fits item among =
      let vector : IsVector (length marks) item.vector = vector_at item among in
      let names = names_own marks item.vector shaped.valid vector in
      let lies : Lies (box_of marks item.vector) (taken_for marks query item).other = (substitute_found (distance query) (box_of marks item.vector) item.vector (lies_in_own marks item.vector shaped.valid vector)).0 in
      let other : IsVector (length marks) (taken_for marks query item).other = vector_of_lying marks (cell marks item.vector) (taken_for marks query item).other shaped.valid names lies in
      (small_at item among, vector.bytes, other.bytes)

  fetched_fits : AllByRecursion IsTakenFit (map (taken_for marks query) (by_id (nearest_reads marks query items k)))
  fetched_fits = all_mapped (λ item. IsTakenFit (taken_for marks query item)) IsTakenFit (taken_for marks query) (by_id (nearest_reads marks query items k)) (λ item fit. fit)
      (read_each items marks query k (λ item. IsTakenFit (taken_for marks query item)) (λ item among needed. taken_fits item among))

  fits : Fits (cert items marks query k)
  fits = record {
    answer = answer_fits;
    boxes = boxes_fit;
    fetched = fetched_fits;
    k = omega (arith, shaped.most_k);
    objects = objects_bytes dims query.objects shaped.fits.objects;
    weights = shaped.fits.weights;
  }

  accepts : Accepts (cert items marks query k)
  accepts = made_is_accepted dims items marks query k shaped

  answer_few : length (answer (pairs_of query items) k) ≤ 4096
  answer_few =
      let test : Pair → Bool = λ p. ltb (lesser (pairs_of query items) p) k in
      let most : length items ≤ 4096 = shaped.few in
      let all : length (pairs_of query items) ≡ length items = length-map items (pair_of query) in
      let part : length (filter test (pairs_of query items)) ≤ length (pairs_of query items) = filter_few test (pairs_of query items) in
      let sorted : length (answer (pairs_of query items) k) ≡ length (filter test (pairs_of query items)) = length_ascending (filter test (pairs_of query items)) in
      omega (arith, most, all, part, sorted)

  fetched_few : length (map (taken_for marks query) (by_id (nearest_reads marks query items k))) ≤ 4096
  fetched_few =
      let test : Item → Bool = needs items marks query k in
      let most : length items ≤ 4096 = shaped.few in
      let part : length (filter test items) ≤ length items = filter_few test items in
      let sorted : length (nearest_reads marks query items k) ≡ length (filter test items) = length_permutation (filter test items) (nearest_reads marks query items k) (ascending_by_permutes (low_pair (approximated marks query)) (filter test items)) in
      let named : length (by_id (nearest_reads marks query items k)) ≡ length (nearest_reads marks query items k) = length_permutation (nearest_reads marks query items k) (by_id (nearest_reads marks query items k)) (ascending_by_permutes (λ (item : Item). paired 0 item.id) (nearest_reads marks query items k)) in
      let mapped : length (map (taken_for marks query) (by_id (nearest_reads marks query items k))) ≡ length (by_id (nearest_reads marks query items k)) = length-map (by_id (nearest_reads marks query items k)) (taken_for marks query) in
      omega (arith, most, part, sorted, named, mapped)

  well_formed : IsFormed (cert items marks query k)
  well_formed = formed (cert items marks query k) (accepted_is_sound (cert items marks query k) accepts).well_formed

  short : length (reply_of (cert items marks query k)) ≤ limit
  short = reply_size (cert items marks query k) fits well_formed answer_few fetched_few

  judged_so : (v : Judged) → IsVerdict v (reply_of (cert items marks query k)) → (v ≡ Accepted) ⊎ (v ≡ Memory)
  judged_so v verdict = accepted_is_judged (cert items marks query k) fits accepts v verdict

-- the verdict on a source is one on its bytes
or_failed : (v : Judged) → (v ≡ Accepted) ⊎ (v ≡ Memory) → (v ≡ Accepted) ⊎ (v ≡ Memory) ⊎ (v ≡ ReadFault)
or_failed v (inl accepted) = inl accepted
or_failed v (inr memory) = inr (inl memory)

source_judged : (bytes : List ℕ) → length bytes ≤ limit → ((v : Judged) → IsVerdict v bytes → (v ≡ Accepted) ⊎ (v ≡ Memory)) → (v : Judged) (new : List ℕ) → Judges v bytes new → (v ≡ Accepted) ⊎ (v ≡ Memory) ⊎ (v ≡ ReadFault)
source_judged bytes short verdicts Accepted new judges = inl refl
source_judged bytes short verdicts (Refused refusal) new judges = or_failed (Refused refusal) (verdicts (Refused refusal) judges.2)
source_judged bytes short verdicts (Unread fault) new judges = or_failed (Unread fault) (verdicts (Unread fault) judges.2)
source_judged bytes short verdicts ReadFault new judges = inr (inr refl)
source_judged bytes short verdicts TooLong new judges = absurd (omega (arith, short, judges))
source_judged bytes short verdicts Memory new judges = inr (inl refl)

pub made_is_judged : MadeIsJudged
made_is_judged dims items marks query k shaped small =
    record {
      short = short dims items marks query k shaped small;
      bytes = judged_so dims items marks query k shaped small;
      source = source_judged (reply_of (cert items marks query k)) (short dims items marks query k shaped small) (judged_so dims items marks query k shaped small);
    }
