-- The places of a store, and those of what is kept.
use Rattle.std.proofs.Common.{◌≡◌, ℕ, ◌<◌, List, [], ◌∷◌, length, map, get_or, Option, None, Some, refl, sym, ap, ◌∙◌, arith}
use Rattle.std.proofs.lemmas.List.{get_or-map}
use Rattle.va_core.specs.Places.{Item, live_items, id_of}
use Rattle.va_layout.specs.Stands.{Kept}
use Rattle.va_store.specs.Ids.{live_count}
use Rattle.va_store.specs.Known.{Known, IsOf}

-- an id by place is that of the item there
no_item : (item : Option Item) → id_of item ≡ None → item ≡ None
no_item None is = refl
no_item (Some item) is = cc

pub empty_there : (held : Known) (kept : Kept) (place : ℕ) → IsOf held kept → place < length kept.places → get_or held.ids place None ≡ None → get_or kept.places place None ≡ None
empty_there held kept place is inside none = no_item (get_or kept.places place None)
    (sym (get_or-map id_of kept.places place None None inside) ∙ ap (λ (l : List (Option ℕ)). get_or l place None) (sym is.ids) ∙ none)

pub count_live : (places : List (Option Item)) → live_count (map id_of places) ≡ length (live_items places)
count_live [] = refl
count_live (None ∷ places) = count_live places
count_live (Some item ∷ places) = omega (arith, count_live places)
