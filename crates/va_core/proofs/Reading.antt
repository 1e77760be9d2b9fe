-- The laws of the lists of reads, over items under marks.
use Rattle.std.proofs.Common.{◌≡◌, ◌≢◌, ◌≤◌, true}
use Rattle.va_core.specs.Places.{Item}
use Rattle.va_core.specs.Distance.{distance}
use Rattle.va_core.specs.Boxes.{Lies, substitute}
use Rattle.va_core.specs.Cells.{box_of}
use Rattle.va_core.specs.Approximations.{is_needed}
use Rattle.va_core.specs.Determining.{own_boxes, nearest_of, replaced}
use Rattle.va_core.specs.Reads.{approximated}
use Rattle.va_core.specs.BoundLaws.{BoundsSurround, BoundsAreAttained, OwnBoxHolds, BoxHasOneCell}
use Rattle.va_core.specs.ReadLaws.{NearestReadsAreLeast, WithinReadsAreLeast, SubstitutesTell, ReadsGrow, NeededAtMost, CandidateIsExact, id_of, vector_of}
use Rattle.va_core.proofs.Boxes.{low_least, high_greatest, lowest_found, highest_found}
use Rattle.va_core.proofs.Members.{all_from, all_at}
use Rattle.va_core.proofs.Cells.{lies_in_own, names_own, cell_of_lying, vector_of_lying}
use Rattle.va_core.proofs.Items.{names_of_ids}
use Rattle.va_core.proofs.Least.{substitute_tells}
use Rattle.va_core.proofs.LeastUnder.{own_lie, need_least_under, need_within_least_under}
use Rattle.va_core.proofs.Growing.{need_grows}
use Rattle.va_core.proofs.Candidates.{needed_at_most, candidate_is}

pub surround : BoundsSurround
surround f box vector lies = (low_least f box vector lies, high_greatest f box vector lies)

pub attained : BoundsAreAttained
attained f box vector lies =
    let low = lowest_found f box vector lies in
    let high = highest_found f box vector lies in
    record { lowest_lies = low.0; at_low = low.1; highest_lies = high.0; at_high = high.1 }

pub own_box_holds : OwnBoxHolds
own_box_holds marks vector valid is = (names_own marks vector valid is, lies_in_own marks vector valid is)

pub box_has_one_cell : BoxHasOneCell
box_has_one_cell marks slices vector valid names lies = (vector_of_lying marks slices vector valid names lies, cell_of_lying marks slices vector valid names lies)

pub nearest_reads_least : NearestReadsAreLeast
nearest_reads_least marks query items k are = need_least_under id_of (distance query) marks items k vector_of are.valid (names_of_ids items are.differ) are.vectors

pub within_reads_least : WithinReadsAreLeast
within_reads_least marks query items radius are = need_within_least_under id_of (distance query) marks items radius vector_of are.valid (names_of_ids items are.differ) are.vectors

pub substitutes_tell : SubstitutesTell
substitutes_tell marks query items k are = all_from (λ (item : Item). is_needed (approximated marks query) items (λ other. distance query other.vector) k item ≡ true →
    nearest_of id_of (distance query) items k (replaced id_of vector_of item (substitute (distance query) (box_of marks item.vector) item.vector))
    ≢ nearest_of id_of (distance query) items k vector_of) items
    (λ item in'. substitute_tells id_of (distance query) (own_boxes marks vector_of) items k vector_of (names_of_ids items are.differ) (own_lie marks items vector_of are.valid are.vectors) item in')

pub reads_grow : ReadsGrow
reads_grow marks query items k = need_grows (approximated marks query) items (λ item. distance query item.vector) k

pub needed_most : NeededAtMost
needed_most marks query items k are = needed_at_most (approximated marks query) items (λ item. distance query item.vector) k
    (all_from (λ (item : Item). distance query item.vector ≤ (approximated marks query).high item) items
    (λ item in'. high_greatest (distance query) (box_of marks item.vector) item.vector (all_at (λ (other : Item). Lies (box_of marks other.vector) other.vector) items item (own_lie marks items vector_of are.valid are.vectors) in')))

pub candidate_exact : CandidateIsExact
candidate_exact marks query items k item some = candidate_is (approximated marks query) items k item some
