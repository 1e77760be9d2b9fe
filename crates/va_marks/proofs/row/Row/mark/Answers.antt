use Rattle.std.proofs.Common.{◌≡◌, ℕ, List, ◌<◌, ◌≤◌, length, get_or, arith, subst, sym}
use Rattle.std.proofs.lemmas.List.{get_or_read}
use Rattle.va_core.specs.Marks.{IsRow}
use Rattle.va_core.proofs.Slices.{mark_at_most}
use Rattle.va_marks.proofs.row.Row.mark.Goals as goal

-- what is read of valid marks is at most 256
read_at_most : (row seen : List ℕ) → row ≡ seen → IsRow row → (t mark : ℕ) → t < length seen → mark ≡ get_or row t mark → mark ≤ 256
read_at_most row seen same valid t mark l e =
    let inside : t < length row = let P : List ℕ → Type 0 = λ xs. t < length xs in subst P (sym same) l in
    let most : get_or row t 0 ≤ 256 = mark_at_most row valid t inside in
    let read : mark ≡ get_or row t 0 = get_or_read row t mark inside e 0 in
    omega arith

pub returns-clause-most : goal.returns-clause-most
returns-clause-most c = read_at_most c.self.inside.marks.items c.args.self.now c.self.view_is c.self.invariant.valid c.from.result c.index.result.now (omega arith) c.index.ensures
