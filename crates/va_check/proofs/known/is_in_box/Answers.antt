use Rattle.std.proofs.Common.{◌≡◌, ◌∙◌, ap, sym, rules, ℕ, List, [], length, Option}
use Rattle.va_core.specs.Boxes.{Span, box_between}
use Rattle.va_cert.specs.declared.certificate.BoxRow.{BoxRow}
use Rattle.va_cert.specs.Known.{box_at, box_of}
use Rattle.va_cert.specs.Reasons as reasons
use Rattle.va_check.proofs.Looking.{box_at_found, box_in, found_has}
use Rattle.va_check.proofs.known.is_in_box.Goals as goal

pub lies-requires-clause-low : goal.lies-requires-clause-low
lies-requires-clause-low c =
    let level = found_has _ (λ (row : BoxRow). row.id) c.args.id c.args.boxes.now c.in-Some.row.now c.requires.level c.in-Some.ensures in
    ap (λ (l : List ℕ). length l) c.as_slice.ensures ∙ level.0

pub lies-requires-clause-high : goal.lies-requires-clause-high
lies-requires-clause-high c =
    let level = found_has _ (λ (row : BoxRow). row.id) c.args.id c.args.boxes.now c.in-Some.row.now c.requires.level c.in-Some.ensures in
    ap (λ (l : List ℕ). length l) c.as_slice-in-Some.ensures ∙ level.1

pub returns-in-Some : goal.returns-in-Some
returns-in-Some c =
    let row = c.in-Some.row.now in
    let vector = c.args.vector.now in
    let box_is : box_at c.args.boxes.now c.args.id ≡ box_of row = box_at_found c.args.boxes.now c.args.id ∙ ap (λ (r : Option BoxRow). box_in r) (sym c.in-Some.ensures) in
    c.lies.ensures ∙ ap (λ (l : List ℕ). reasons.lies (box_between l c.as_slice-in-Some.result.now) vector) c.as_slice.ensures
    ∙ ap (λ (h : List ℕ). reasons.lies (box_between row.low h) vector) c.as_slice-in-Some.ensures ∙ ap (λ (box : List Span). reasons.lies box vector) (sym box_is)

pub returns-in-None : goal.returns-in-None
returns-in-None c =
    let none : box_at c.args.boxes.now c.args.id ≡ [] = box_at_found c.args.boxes.now c.args.id ∙ ap (λ (r : Option BoxRow). box_in r) (sym c.in-None.ensures) in
    rw none (search rules)
