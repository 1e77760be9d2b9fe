-- What the certificate of a search shows.
use Rattle.std.specs.Prelude.{ℕ, ◌<◌, ◌^◌}
use Rattle.std.specs.List.{AllByRecursion}
use Rattle.va_cert.specs.Made.{AreOfShape}
use Rattle.va_cert.specs.Reasons.{Accepts}
use Rattle.va_cert.specs.Telling.{AreTelling}
use Rattle.va_core.specs.Places.{Item}
use Rattle.va_lang.specs.Command.{Query}
use Rattle.va_model.specs.Searching.{certificate_of, items_of, query_in}
use Rattle.va_model.specs.State.{Store}

-- It is that of a map, marks, a query and k that fit together, with ids of 32 bits. The checker accepts it, and so it is sound.
-- Each vector that it lists has a substitute in its own cell, with which in its place the answer is another one.
pub record Convinces (k : ℕ) (query : Query) (store : Store) : Type 0 where
  pub shape : AreOfShape store.kept.shape.dims (items_of store) store.kept.marks (query_in store.kept query) k
  pub ids : AllByRecursion (λ (item : Item). item.id < 2 ^ 32) (items_of store)
  pub accepted : Accepts (certificate_of k query store)
  pub telling : AreTelling (items_of store) store.kept.marks (query_in store.kept query) k (certificate_of k query store).fetched
