-- The items of what an image stands for.
use Rattle.std.proofs.Common.{◌≡◌, ℕ, suc, ◌<◌, ◌≤◌, ◌^◌, true, List, [], ◌∷◌, length, get_or, Option, None, Some, refl}
use Rattle.std.specs.List.{AllByRecursion}
use Rattle.va_core.specs.Places.{Item, live_items}
use Rattle.va_core.specs.Shape.{is_within}
use Rattle.va_core.specs.Vectors.{IsVector}
use Rattle.va_layout.specs.Stands.{Kept, Stands}
use Rattle.va_layout.proofs.Headers.{head_of}
use Rattle.va_model.proofs.Reading.{first_right}
use Rattle.va_core.proofs.Tests.{at_least, at_most}

-- what holds of the item in each place holds of the live items
items_all : (P : Item → Type 0) (places : List (Option Item)) → ((p : ℕ) (item : Item) → get_or places p None ≡ Some item → P item) → AllByRecursion P (live_items places)
items_all P [] each = tt
items_all P (None ∷ places) each = items_all P places (λ p. each (suc p))
items_all P (Some x ∷ places) each = (each 0 x refl, items_all P places (λ p. each (suc p)))

module _ {kept : Kept} {image : List ℕ} (stands : Stands kept image) where
  pub one_each : length kept.marks ≡ kept.shape.dims
  one_each = stands.opens.named.fit.one_each

  pub are_vectors : AllByRecursion (λ (item : Item). IsVector kept.shape.dims item.vector) (live_items kept.places)
  are_vectors = items_all (λ item. IsVector kept.shape.dims item.vector) kept.places (λ p item at. (stands.items p item at).vector)

  pub small_ids : AllByRecursion (λ (item : Item). item.id < 2 ^ 32) (live_items kept.places)
  small_ids = items_all (λ item. item.id < 2 ^ 32) kept.places (λ p item at. (stands.items p item at).small)

  dims_within : is_within 1 256 kept.shape.dims ≡ true
  dims_within = first_right (is_within 1 256 kept.shape.dims) _ (head_of kept.shape image stands.opens.head).valid

  pub some_dims : 1 ≤ kept.shape.dims
  some_dims = at_least 1 256 kept.shape.dims dims_within

  pub most_dims : kept.shape.dims ≤ 256
  most_dims = at_most 1 256 kept.shape.dims dims_within
