-- One cell more in the queue, and the queue once all cells were taken.
use Rattle.std.proofs.Common.{◌≡◌, ℕ, ◌≤◌, List, [], ◌∷◌, ◌++◌, map, append_assoc, refl, ap, sym, ◌∙◌}
use Rattle.std.specs.List.Sorted.{IsPermutation}
use Rattle.std.proofs.lemmas.List.{map-append}
use Rattle.std.proofs.lemmas.List.Sorted.{IsPermutation-push_more, IsPermutation-refl}
use Rattle.va_core.specs.Distance.{Query}
use Rattle.va_core.proofs.Members.{all_append}
use Rattle.va_keep.specs.declared.entry.Entry.{Entry}
use Rattle.va_ports.specs.Shelves.{Contents, place_of}
use Rattle.va_ports.specs.Searches.{bounds_of}
use Rattle.va_bounded.specs.BoundedCells.{HasBounds, cell_of}
use Rattle.va_bounded.specs.declared.cell.BoundedCell.{BoundedCell}
use Rattle.va_noa.specs.Entries.{entry_at, entry_of}
use Rattle.va_cursor.specs.Filling.{Fills}
use Rattle.va_cursor.specs.Rankings.{cell_at}

entry_is : (contents : Contents) (query : Query) (cell : BoundedCell) → HasBounds contents query cell → entry_at cell ≡ entry_of contents query (cell_of cell)
entry_is contents query cell bounds =
    ap (λ (n : ℕ). record { low = n; id = cell.id; high = cell.high; place = cell.place }) bounds.low
    ∙ ap (λ (n : ℕ). record { low = (bounds_of contents query).low (cell_of cell); id = cell.id; high = n; place = cell.place }) bounds.high

module _ {told : Type 0} {contents : Contents} {query : Query} where
  pub fills_none : {left : List (ℕ × ℕ)} {entries : List Entry} {places : List ℕ} → left ≡ contents.cells → entries ≡ [] → places ≡ [] → Fills told contents query left entries places
  fills_none all none no_places = record {
    taken = [];
    cells = sym all;
    held = rw none (IsPermutation-refl []);
    places_are = no_places;
    bounds = λ _. refl;
    order = tt;
  }

  pub fills_more : {cell : BoundedCell} {left left' : List (ℕ × ℕ)} {entries entries' : List Entry} {places places' : List ℕ} → (told → HasBounds contents query cell) → cell.low ≤ cell.high → left ≡ cell_of cell ∷ left' →
      Fills told contents query left entries places → IsPermutation (entry_at cell ∷ entries) entries' → places' ≡ places ++ cell.place ∷ [] → Fills told contents query left' entries' places'
  fills_more {cell} {left} {left'} {entries} {entries'} {places} {places'} bounds order gave fills pushed listed =
      let cells : map cell_at (fills.taken ++ entry_at cell ∷ []) ≡ map cell_at fills.taken ++ cell_of cell ∷ [] = map-append cell_at fills.taken (entry_at cell ∷ []) in
      record {
        taken = fills.taken ++ entry_at cell ∷ [];
        cells = fills.cells ∙ ap (λ l. map cell_at fills.taken ++ l) gave ∙ sym (append_assoc (map cell_at fills.taken) (cell_of cell ∷ []) left') ∙ ap (λ l. l ++ left') (sym cells);
        held = IsPermutation-push_more fills.taken entries entries' (entry_at cell) fills.held pushed;
        places_are = listed ∙ ap (λ l. l ++ cell.place ∷ []) fills.places_are ∙ sym (map-append place_of (map cell_at fills.taken) (cell_of cell ∷ [])) ∙ ap (map place_of) (sym cells);
        bounds = λ t. ap (λ l. l ++ entry_at cell ∷ []) (fills.bounds t)
            ∙ ap (λ e. map (entry_of contents query) (map cell_at fills.taken) ++ e ∷ []) (entry_is contents query cell (bounds t))
            ∙ sym (map-append (entry_of contents query) (map cell_at fills.taken) (cell_of cell ∷ []))
            ∙ ap (map (entry_of contents query)) (sym cells);
        order = all_append (λ (e : Entry). e.low ≤ e.high) fills.taken (entry_at cell ∷ []) fills.order (order, tt);
      }
