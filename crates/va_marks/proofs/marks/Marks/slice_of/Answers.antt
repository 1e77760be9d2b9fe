use Rattle.std.proofs.Common.{◌≡◌, ◌∙◌, [], ℕ, List, length, ap, subst, arith}
use Rattle.std.proofs.lemmas.List.{get_or_read}
use Rattle.va_core.specs.Marks.{IsRow, row_at, slice_of}
use Rattle.va_core.proofs.Slices.{interval_holds}
use Rattle.va_marks.proofs.marks.Marks.slice_of.Goals as goal

pub returns-clause-full : goal.returns-clause-full
returns-clause-full c =
    let same : length c.self.inside.rows.items ≡ length c.args.self.now = ap length c.self.view_is in
    let row : c.index.result.now ≡ row_at c.args.self.now c.args.dim =
    get_or_read c.self.inside.rows.items c.from.result c.index.result.now (omega (arith, same, c.from.ensures, c.requires)) c.index.ensures [] ∙ (ap (row_at c.self.inside.rows.items) c.from.ensures ∙ ap (λ (rows : List (List ℕ)). row_at rows c.args.dim) c.self.view_is) in
    let at : c.slice_of.result ≡ slice_of (row_at c.args.self.now c.args.dim) c.args.value = c.slice_of.ensures.slice ∙ ap (λ (r : List ℕ). slice_of r c.args.value) row in
    rw at (interval_holds (row_at c.args.self.now c.args.dim) c.args.value (subst IsRow row c.slice_of.ensures.valid) (omega arith)).1

pub returns-clause-holds : goal.returns-clause-holds
returns-clause-holds c =
    let same : length c.self.inside.rows.items ≡ length c.args.self.now = ap length c.self.view_is in
    let row : c.index.result.now ≡ row_at c.args.self.now c.args.dim =
    get_or_read c.self.inside.rows.items c.from.result c.index.result.now (omega (arith, same, c.from.ensures, c.requires)) c.index.ensures [] ∙ (ap (row_at c.self.inside.rows.items) c.from.ensures ∙ ap (λ (rows : List (List ℕ)). row_at rows c.args.dim) c.self.view_is) in
    let at : c.slice_of.result ≡ slice_of (row_at c.args.self.now c.args.dim) c.args.value = c.slice_of.ensures.slice ∙ ap (λ (r : List ℕ). slice_of r c.args.value) row in
    rw at (interval_holds (row_at c.args.self.now c.args.dim) c.args.value (subst IsRow row c.slice_of.ensures.valid) (omega arith)).2
