-- What is read for the pairs within a radius is a least set.
use Rattle.std.proofs.Common.{◌≡◌, ℕ, List, [], ◌∷◌, length, map, refl, sym, ap, subst, ◌∙◌}
use Rattle.std.specs.List.{AllByRecursion}
use Rattle.va_core.specs.Approximations.{is_needed_within, need_within}
use Rattle.va_core.specs.Determining.{IsLeastUnder, bounded, is_listed, own_boxes, within_of}
use Rattle.va_core.specs.Distance.{Query, distance}
use Rattle.va_core.proofs.LeastUnder.{need_within_least_under}
use Rattle.va_core.proofs.Members.{filter_same}
use Rattle.va_ports.specs.Shelves.{AreOwnCells, Contents, IsOwn, IsSound, id_of}
use Rattle.va_ports.specs.Searches.{bounds_of, vector_of}
use Rattle.va_ports.proofs.Own.{own_high, own_low, own_vectors}
use Rattle.va_ssa.specs.Within.{LeastWithin, cells_within}

module _ (contents : Contents) (sound : IsSound contents) (query : Query) (radius : ℕ) where
  same_tests : (cells : List (ℕ × ℕ)) → AllByRecursion (IsOwn contents) cells →
      AllByRecursion (λ at. is_needed_within (bounded id_of (distance query) (own_boxes contents.marks (vector_of contents))) radius at ≡ is_needed_within (bounds_of contents query) radius at) cells
  same_tests [] all = tt
  same_tests (at ∷ cells) all = (rw (own_low contents sound query at all.0, own_high contents sound query at all.0) refl, same_tests cells all.1)

  pub within_least : (ids : List ℕ) → AreOwnCells contents → ids ≡ map id_of (cells_within contents query radius) → LeastWithin contents query radius ids
  within_least ids own are =
      let marks = contents.marks in
      let old = vector_of contents in
      let same : need_within (bounded id_of (distance query) (own_boxes marks old)) contents.cells radius ≡ cells_within contents query radius = filter_same (is_needed_within (bounded id_of (distance query) (own_boxes marks old)) radius) (is_needed_within (bounds_of contents query) radius) contents.cells (same_tests contents.cells own) in
      let least : IsLeastUnder (within_of id_of (distance query) contents.cells radius) (length marks) marks contents.cells (is_listed id_of (map id_of (need_within (bounded id_of (distance query) (own_boxes marks old)) contents.cells radius))) old =
      need_within_least_under id_of (distance query) marks contents.cells radius old sound.valid sound.ids (own_vectors contents sound contents.cells own) in
      subst (λ (n : ℕ). IsLeastUnder (within_of id_of (distance query) contents.cells radius) n marks contents.cells (is_listed id_of ids) old) sound.has_shape.one_each
      (subst (λ (l : List ℕ). IsLeastUnder (within_of id_of (distance query) contents.cells radius) (length marks) marks contents.cells (is_listed id_of l) old) (ap (map id_of) same ∙ sym are) least)
