-- What a scan gave, and a fault that is handed on.
use Rattle.std.proofs.Common.{◌≡◌, ℕ, List, [], ◌∷◌, Option, None, Some, refl, sym, subst}
use Rattle.std.specs.Prelude.{Result, Ok, Err, IfErr}
use Rattle.std.specs.Result.{IsErrAnd}
use Rattle.va_core.specs.Distance.{Query}
use Rattle.va_ports.specs.Shelves.{Gave, AreInside, Contents}
use Rattle.va_ports.specs.Searches.{Stopped}
use Rattle.va_ports.specs.declared.search.SearchFault.{SearchFault}
use Rattle.va_ports.specs.declared.search.SearchFault.TheVariants.{Memory}
use Rattle.va_ports.specs.declared.shelf.Shelf.{Ghosts}
use Rattle.va_ports.proofs.Searching.{PassesNone, stopped_memory}
use Rattle.va_bounded.specs.BoundedCells.{cell_in, cell_of}
use Rattle.va_bounded.specs.declared.cell.BoundedCell.{BoundedCell}

pub gave_some : (next : Option BoundedCell) (cell : BoundedCell) (old new : List (ℕ × ℕ)) → next ≡ Some cell → Gave (cell_in next) old new → old ≡ cell_of cell ∷ new
gave_some next cell old new is gave = subst (λ (n : Option BoundedCell). Gave (cell_in n) old new) is gave

pub gave_none : (next : Option BoundedCell) (old new : List (ℕ × ℕ)) → ((cell : BoundedCell) → next ≡ Some cell → ⊥) → Gave (cell_in next) old new → old ≡ []
gave_none None old new never gave = gave.0
gave_none (Some cell) old new never gave = absurd (never cell refl)

pub inside_rest : (capacity : ℕ) (cell : ℕ × ℕ) (old new : List (ℕ × ℕ)) → old ≡ cell ∷ new → AreInside capacity old → AreInside capacity new
inside_rest capacity cell old new gave all = (subst (AreInside capacity) gave all).1

-- what holds of the error that a result has
pub err_is : {T E : Type 0} (result : Result T E) (error : E) (P : E → Type 0) → IsErrAnd result (λ e. e ≡ error) → P error → IfErr result P
err_is (Ok value) error P is holds = tt
err_is (Err e) error P is holds = subst P (sym is) holds

-- memory was wanting before anything was read
pub want_stops : {S T : Type 0} (g : Ghosts S) (contents : Contents) (query : Query) → PassesNone g → (reads : List (ℕ × ℕ)) (x : S) (result : Result T SearchFault) → IsErrAnd result (λ e. e ≡ Memory) → IfErr result (Stopped g contents query reads x x)
want_stops g contents query none reads x result is = err_is result Memory (Stopped g contents query reads x x) is (stopped_memory g contents query none reads x)
