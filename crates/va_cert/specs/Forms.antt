-- What is used of a certificate that is well formed.
use Rattle.std.specs.Prelude.{◌≡◌, ℕ, ◌<◌, ◌≤◌, true, List, [], ◌∷◌, length}
use Rattle.std.specs.List.{AllByRecursion}
use Rattle.va_cert.specs.declared.certificate.BoxRow.{BoxRow}
use Rattle.va_cert.specs.declared.certificate.Taken.{Taken}
use Rattle.va_cert.specs.declared.certificate.Certificate.{Certificate}
use Rattle.va_cert.specs.Known.{has_box}
use Rattle.va_cert.specs.Reasons.{rises}
use Rattle.va_core.specs.Approximations.{NamesDiffer}

-- the query of a certificate has a shape
pub record HasShape (c : Certificate) : Type 0 where
  pub most_dims : length c.weights ≤ 256
  pub few : length c.objects ≤ 16
  pub lengths : AllByRecursion (λ o. length o ≡ length c.weights) c.objects

-- each box has so many dimensions, and no end below its beginning
abbrev pub IsLevel : ℕ → List BoxRow → Type 0
IsLevel dims boxes = AllByRecursion (λ (row : BoxRow). (length row.low ≡ dims) × (length row.high ≡ dims) × (rises row.low row.high ≡ true)) boxes

abbrev pub AreEntries : ℕ → List Taken → Type 0
AreEntries dims fetched = AllByRecursion (λ (taken : Taken). (length taken.vector ≡ dims) × (length taken.other ≡ dims)) fetched

-- each id is below those after it
abbrev pub IdsAscend : {X : Type 0} → (X → ℕ) → List X → Type 0
IdsAscend id [] = Unit {0}
IdsAscend id (x ∷ rows) = AllByRecursion (λ y. id x < id y) rows × IdsAscend id rows

pub record IsFormed (c : Certificate) : Type 0 where
  pub query : HasShape c
  pub some : 1 ≤ c.k
  pub boxes : IsLevel (length c.weights) c.boxes
  pub few : length c.boxes ≤ 4096
  pub ascend : IdsAscend (λ (row : BoxRow). row.id) c.boxes
  pub differ : NamesDiffer (λ (row : BoxRow). row.id) c.boxes
  pub entries : AreEntries (length c.weights) c.fetched
  pub boxed : AllByRecursion (λ (taken : Taken). has_box c.boxes taken.id ≡ true) c.fetched
  pub rise : IdsAscend (λ (taken : Taken). taken.id) c.fetched
  pub apart : NamesDiffer (λ (taken : Taken). taken.id) c.fetched
