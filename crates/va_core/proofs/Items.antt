-- Ids that differ: once a place has changed, and in the pairs of their items.
use Rattle.std.proofs.Common.{◌≡◌, ◌≢◌, ℕ, zero, suc, Bool, true, false, ◌||◌, List, [], ◌∷◌, Option, Some, None, set, replicate, eqb, refl, sym, ap, arith}
use Rattle.std.proofs.lemmas.Bool.Decides.{nat_tests}
use Rattle.std.specs.List.{AllByRecursion, list_any}
use Rattle.va_core.specs.Approximations.{NamesDiffer}
use Rattle.va_core.specs.Distance.{Query, pair_of, pairs_of}
use Rattle.va_core.specs.Places.{Item, live_items, IdAbsent, IdsDiffer}
use Rattle.va_core.specs.Ranking as ranking
use Rattle.va_core.specs.declared.pair.Pair.{Pair}

absent_with : (places : List (Option Item)) (p : ℕ) (item : Item) (id : ℕ) → (id ≡ item.id → ⊥) → IdAbsent id (live_items places) → IdAbsent id (live_items (set places p (Some item)))
absent_with [] p item id ne absent = tt
absent_with (None ∷ places) zero item id ne absent = (ne, absent)
absent_with (Some x ∷ places) zero item id ne absent = (ne, absent.1)
absent_with (None ∷ places) (suc p) item id ne absent = absent_with places p item id ne absent
absent_with (Some x ∷ places) (suc p) item id ne absent = (absent.0, absent_with places p item id ne absent.1)

-- an item with a new id comes in
pub ids_with : (places : List (Option Item)) (p : ℕ) (item : Item) → IdAbsent item.id (live_items places) → IdsDiffer (live_items places) → IdsDiffer (live_items (set places p (Some item)))
ids_with [] p item absent differ = tt
ids_with (None ∷ places) zero item absent differ = (absent, differ)
ids_with (Some x ∷ places) zero item absent differ = (absent.1, differ.1)
ids_with (None ∷ places) (suc p) item absent differ = ids_with places p item absent differ
ids_with (Some x ∷ places) (suc p) item absent differ = (absent_with places p item x.id (λ same. absent.0 (sym same)) differ.0, ids_with places p item absent.1 differ.1)

absent_without : (places : List (Option Item)) (p id : ℕ) → IdAbsent id (live_items places) → IdAbsent id (live_items (set places p None))
absent_without [] p id absent = tt
absent_without (None ∷ places) zero id absent = absent
absent_without (Some x ∷ places) zero id absent = absent.1
absent_without (None ∷ places) (suc p) id absent = absent_without places p id absent
absent_without (Some x ∷ places) (suc p) id absent = (absent.0, absent_without places p id absent.1)

-- an item goes
pub ids_without : (places : List (Option Item)) (p : ℕ) → IdsDiffer (live_items places) → IdsDiffer (live_items (set places p None))
ids_without [] p differ = tt
ids_without (None ∷ places) zero differ = differ
ids_without (Some x ∷ places) zero differ = differ.1
ids_without (None ∷ places) (suc p) differ = ids_without places p differ
ids_without (Some x ∷ places) (suc p) differ = (absent_without places p x.id differ.0, ids_without places p differ.1)

-- no id is that of any item, where all places are empty
pub none_differ : (capacity : ℕ) → IdsDiffer (live_items (replicate capacity None))
none_differ zero = tt
none_differ (suc capacity) = none_differ capacity

-- the test whether an id is live
absent_first : (id : ℕ) (item : Item) (items : List Item) (same : Bool) → eqb item.id id ≡ same → same || list_any (λ (x : Item). eqb x.id id) items ≡ false →
    (id ≡ item.id → ⊥) × (list_any (λ (x : Item). eqb x.id id) items ≡ false)
absent_first id item items true test none = cc
absent_first id item items false test none = (λ same. grind (arith, nat_tests, same), none)

pub absent_from_test : (id : ℕ) (items : List Item) → list_any (λ (x : Item). eqb x.id id) items ≡ false → IdAbsent id items
absent_from_test id [] none = tt
absent_from_test id (item ∷ items) none =
    let both = absent_first id item items (eqb item.id id) refl none in (both.0, absent_from_test id items both.1)

-- pairs of items whose ids differ
absent_pair : (query : Query) (item : Item) (items : List Item) → IdAbsent item.id items → ranking.IsAbsent (pair_of query item) (pairs_of query items)
absent_pair query item [] absent = tt
absent_pair query item (x ∷ items) absent = (λ same. absent.0 (ap (λ (p : Pair). p.id) same), absent_pair query item items absent.1)

pub pairs_differ : (query : Query) (items : List Item) → IdsDiffer items → ranking.AllDiffer (pairs_of query items)
pairs_differ query [] differ = tt
pairs_differ query (item ∷ items) differ = (absent_pair query item items differ.0, pairs_differ query items differ.1)

-- items whose ids differ have names that do
names_apart : (id : ℕ) (items : List Item) → IdAbsent id items → AllByRecursion (λ (item : Item). item.id ≢ id) items
names_apart id [] absent = tt
names_apart id (item ∷ items) absent = (λ same. absent.0 (sym same), names_apart id items absent.1)

pub names_of_ids : (items : List Item) → IdsDiffer items → NamesDiffer (λ (item : Item). item.id) items
names_of_ids [] differ = tt
names_of_ids (item ∷ items) differ = (names_apart item.id items differ.0, names_of_ids items differ.1)
