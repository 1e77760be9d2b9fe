-- The certificate of a shelf is accepted, and its substitutes tell.
use Rattle.std.proofs.Common.{◌≡◌, ℕ, ◌≤◌, length, sym, subst, arith}
use Rattle.std.proofs.lemmas.List.{length-map}
use Rattle.std.specs.List.{AllByRecursion}
use Rattle.va_core.specs.Distance.{IsQuery, Query}
use Rattle.va_core.specs.Places.{Item}
use Rattle.va_core.specs.ReadLaws.{AreApproximated}
use Rattle.va_core.specs.Vectors.{IsVector}
use Rattle.va_cert.specs.Made.{AreOfShape}
use Rattle.va_cert.specs.Reasons.{Accepts}
use Rattle.va_cert.specs.Telling.{AreTelling}
use Rattle.va_cert.proofs.Acceptance.{made_is_accepted}
use Rattle.va_cert.proofs.Telling as telling
use Rattle.va_ports.specs.Shelves.{AreOwnCells, Contents, IsSound}
use Rattle.va_maker.specs.Making.{cert_of, item_of, items_of}
use Rattle.va_maker.proofs.ItemCells.{items_differ, items_vectors}

module _ (contents : Contents) (sound : IsSound contents) (own : AreOwnCells contents) (query : Query) (k : ℕ) where
  -- the items under the marks
  approximated : AreApproximated contents.marks (items_of contents)
  approximated = record {
    valid = sound.valid;
    vectors = subst (λ (n : ℕ). AllByRecursion (λ (item : Item). IsVector n item.vector) (items_of contents)) (sym sound.has_shape.one_each) (items_vectors contents contents.cells own);
    differ = items_differ contents contents.cells sound.ids;
  }

  -- whatever k is
  pub are_telling : AreTelling (items_of contents) contents.marks query k (cert_of contents query k).fetched
  are_telling = telling.are_telling (items_of contents) contents.marks query k approximated

  pub cert_accepted : IsQuery contents.shape.dims query → length contents.cells ≤ 4096 → 1 ≤ k → k ≤ 4096 → Accepts (cert_of contents query k)
  cert_accepted fits few some most =
      let count : length (items_of contents) ≡ length contents.cells = length-map contents.cells (item_of contents) in
      let shaped : AreOfShape contents.shape.dims (items_of contents) contents.marks query k = record {
        some_dims = sound.shape.some_dims;
        most_dims = sound.shape.most_dims;
        one_each = sound.has_shape.one_each;
        valid = sound.valid;
        differ = items_differ contents contents.cells sound.ids;
        few = omega (arith, count, few);
        vectors = items_vectors contents contents.cells own;
        fits = fits;
        some_k = some;
        most_k = most;
      } in
      made_is_accepted contents.shape.dims (items_of contents) contents.marks query k shaped
