-- A scan that has given some cells.
use Rattle.std.proofs.Common.{◌≡◌, ℕ, List, [], ◌∷◌, ◌++◌, map, Option, None, Some, refl, sym, ap, ◌∙◌, subst, append_assoc}
use Rattle.std.specs.Prelude.{IfSome}
use Rattle.std.proofs.lemmas.List.{append-nil, map-append}
use Rattle.va_core.specs.Cells.{NamesSlices}
use Rattle.va_core.proofs.Members.{all_append}
use Rattle.va_ports.specs.Shelves.{Contents, Gave}
use Rattle.va_maker.specs.Coded.{NameSlices, cell_in, cell_of, coded_at}
use Rattle.va_maker.specs.declared.coded.CodedCell.{CodedCell}

-- these were given and put into the list, and those are left
pub record HasGiven (told : Type 0) (contents : Contents) (left : List (ℕ × ℕ)) (cells : List CodedCell) : Type 0 where
  pub given : List (ℕ × ℕ)
  pub split : contents.cells ≡ given ++ left
  pub names : NameSlices contents.marks cells
  pub all : told → cells ≡ map (coded_at contents) given

pub given_none : (told : Type 0) (contents : Contents) (left : List (ℕ × ℕ)) (cells : List CodedCell) → left ≡ contents.cells → cells ≡ [] → HasGiven told contents left cells
given_none told contents left cells is none = record { given = []; split = sym is; names = subst (NameSlices contents.marks) (sym none) tt; all = λ _. none }

pub given_more : {told : Type 0} {contents : Contents} {left left' : List (ℕ × ℕ)} {cells cells' : List CodedCell} (cell : CodedCell) → left ≡ cell_of cell ∷ left' → cells' ≡ cells ++ cell ∷ [] →
    NamesSlices contents.marks cell.code → (told → cell ≡ coded_at contents (cell_of cell)) → HasGiven told contents left cells → HasGiven told contents left' cells'
given_more {told} {contents} {left} {left'} {cells} {cells'} cell gave more names is has = record {
  given = has.given ++ cell_of cell ∷ [];
  split = has.split ∙ ap (λ (l : List (ℕ × ℕ)). has.given ++ l) gave ∙ sym (append_assoc has.given (cell_of cell ∷ []) left');
  names = subst (NameSlices contents.marks) (sym more) (all_append (λ (c : CodedCell). NamesSlices contents.marks c.code) cells (cell ∷ []) has.names (names, tt));
  all = λ t. more ∙ ap (λ (l : List CodedCell). l ++ cell ∷ []) (has.all t) ∙ ap (λ (c : CodedCell). map (coded_at contents) has.given ++ c ∷ []) (is t) ∙ sym (map-append (coded_at contents) has.given (cell_of cell ∷ []));
}

pub given_all : {told : Type 0} {contents : Contents} {left : List (ℕ × ℕ)} {cells : List CodedCell} → left ≡ [] → HasGiven told contents left cells → told → cells ≡ map (coded_at contents) contents.cells
given_all {told} {contents} none has t = has.all t ∙ ap (map (coded_at contents)) (sym (has.split ∙ ap (λ (l : List (ℕ × ℕ)). has.given ++ l) none ∙ append-nil has.given))

pub gave_some : (next : Option CodedCell) (cell : CodedCell) (old new : List (ℕ × ℕ)) → next ≡ Some cell → Gave (cell_in next) old new → old ≡ cell_of cell ∷ new
gave_some next cell old new is gave = subst (λ (n : Option CodedCell). Gave (cell_in n) old new) is gave

pub gave_none : (next : Option CodedCell) (old new : List (ℕ × ℕ)) → ((cell : CodedCell) → next ≡ Some cell → ⊥) → Gave (cell_in next) old new → old ≡ []
gave_none None old new never gave = gave.0
gave_none (Some cell) old new never gave = absurd (never cell refl)

pub some_is : (next : Option CodedCell) (cell : CodedCell) (P : CodedCell → Type 0) → next ≡ Some cell → IfSome next P → P cell
some_is next cell P is holds = subst (λ (n : Option CodedCell). IfSome n P) is holds
