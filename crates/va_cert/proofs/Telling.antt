-- The substitutes of the certificate of a search tell.
use Rattle.std.proofs.Common.{◌≡◌, ◌≢◌, ℕ, true, List, [], ◌∷◌, map, filter, length, Contains, inl, inr, refl, sym, subst}
use Rattle.std.specs.List.{AllByRecursion}
use Rattle.va_core.specs.Approximations.{low_pair, paired}
use Rattle.va_core.specs.Boxes.{Lies, substitute}
use Rattle.va_core.specs.Cells.{NamesSlices, box_of}
use Rattle.va_core.specs.Determining.{nearest_of, replaced}
use Rattle.va_core.specs.Distance.{Query, distance}
use Rattle.va_core.specs.Marks.{cell}
use Rattle.va_core.specs.Places.{Item}
use Rattle.va_core.specs.ReadLaws as laws
use Rattle.va_core.specs.Reads.{approximated, nearest_reads}
use Rattle.va_core.specs.Vectors.{IsVector}
use Rattle.va_core.proofs.Boxes.{substitute_found}
use Rattle.va_core.proofs.Cells.{cell_of_lying, lies_in_own, names_own, vector_of_lying}
use Rattle.va_core.proofs.Members.{IsAmong, all_at, contains_first, contains_later, all_mapped}
use Rattle.va_core.proofs.Reading.{substitutes_tell}
use Rattle.va_core.proofs.Sorting.{all_ascending_by}
use Rattle.va_cert.specs.Made.{AreOfShape, by_id, cert, taken_for}
use Rattle.va_cert.specs.Telling.{AreTelling, IsTelling, MadeTells}
use Rattle.va_cert.proofs.Acceptance.{needs, of_needed}

among_contains : {X : Type 0} (x : X) (l : List X) → IsAmong x l → Contains l x
among_contains x [] among = absurd among
among_contains x (y ∷ l) (inl e) = subst (λ z. Contains (z ∷ l) x) e (contains_first x l)
among_contains x (y ∷ l) (inr later) = contains_later y x l (among_contains x l later)

module _ (items : List Item) (marks : List (List ℕ)) (query : Query) (k : ℕ) where
  -- what holds of each item that is needed holds of each that is read
  pub read_each : (P : Item → Type 0) → ((item : Item) → IsAmong item items → needs items marks query k item ≡ true → P item) →
      AllByRecursion P (by_id (nearest_reads marks query items k))
  read_each P each =
      all_ascending_by P (λ (item : Item). paired 0 item.id) (nearest_reads marks query items k)
      (all_ascending_by P (low_pair (approximated marks query)) (filter (needs items marks query k) items)
      (of_needed P (needs items marks query k) items each))

  telling : laws.AreApproximated marks items → (item : Item) → IsAmong item items → needs items marks query k item ≡ true → IsTelling marks query k items (taken_for marks query item)
  telling are item among needed =
      let vector : IsVector (length marks) item.vector = all_at (λ (i : Item). IsVector (length marks) i.vector) items item are.vectors among in
      let names : NamesSlices marks (cell marks item.vector) = names_own marks item.vector are.valid vector in
      let lies : Lies (box_of marks item.vector) (substitute (distance query) (box_of marks item.vector) item.vector) = (substitute_found (distance query) (box_of marks item.vector) item.vector (lies_in_own marks item.vector are.valid vector)).0 in
      record {
        item = item;
        among = among_contains item items among;
        id = refl;
        own = refl;
        is_vector = vector_of_lying marks (cell marks item.vector) (substitute (distance query) (box_of marks item.vector) item.vector) are.valid names lies;
        same_cell = cell_of_lying marks (cell marks item.vector) (substitute (distance query) (box_of marks item.vector) item.vector) are.valid names lies;
        tells = all_at (λ (i : Item). needs items marks query k i ≡ true → nearest_of laws.id_of (distance query) items k (replaced laws.id_of laws.vector_of i (substitute (distance query) (box_of marks i.vector) i.vector)) ≢ nearest_of laws.id_of (distance query) items k laws.vector_of)
            items item (substitutes_tell marks query items k are) among needed;
      }

  -- however many the items are, and whatever k is
  pub are_telling : laws.AreApproximated marks items → AreTelling items marks query k (cert items marks query k).fetched
  are_telling are = all_mapped (λ item. IsTelling marks query k items (taken_for marks query item)) (IsTelling marks query k items) (taken_for marks query) (by_id (nearest_reads marks query items k)) (λ item telling. telling) (read_each (λ item. IsTelling marks query k items (taken_for marks query item)) (telling are))

pub approximated_of : (dims : ℕ) (items : List Item) (marks : List (List ℕ)) (query : Query) (k : ℕ) → AreOfShape dims items marks query k → laws.AreApproximated marks items
approximated_of dims items marks query k shaped = record {
  valid = shaped.valid;
  vectors = subst (λ (n : ℕ). AllByRecursion (λ (item : Item). IsVector n item.vector) items) (sym shaped.one_each) shaped.vectors;
  differ = shaped.differ;
}

pub made_tells : MadeTells
made_tells dims items marks query k shaped = are_telling items marks query k (approximated_of dims items marks query k shaped)
