use Rattle.std.proofs.Common.{◌≡◌, ◌+◌, ◌∷◌, sym, ◌∙◌}
use Rattle.std.specs.Int.{w32, to_be_bytes}
use Rattle.va_layout.specs.Parts.{part, KeepsRest}
use Rattle.va_layout.specs.Fields.{laid_ranges}
use Rattle.va_layout.proofs.Parts.{rest_more, rest_then}
use Rattle.va_layout.specs.Layout.{slot_at}
use Rattle.va_layout.proofs.Apart.{gate_stays}
use Rattle.va_layout.proofs.Writes.{on_ok}
use Rattle.va_rows.proofs.Laying.{laid}
use Rattle.va_rows.proofs.writing.lay.Goals as goal

pub returns-clause-laid : goal.returns-clause-laid
returns-clause-laid g c = on_ok c.write_part-2.result c.write_part-2.ensures.written (λ written told.
    let D = g.D.Storage in
    let first : part (slot_at c.args.place + 1) 7 (D.image c.write_part.new.disk) ≡ 0 ∷ 0 ∷ 0 ∷ to_be_bytes w32 c.args.id =
    rw (c.slot_at.ensures, c.behind_gate.ensures) at (c.in_ok-write_part.ensures.written told) in
    laid c.args.layout.now c.args.place c.args.id c.args.vector.now (D.image c.args.disk.now) (D.image c.write_part.new.disk) (D.image c.write_part-2.new.disk)
    c.ranges.id.fits c.requires.place c.requires.length first
    (rw c.vector_at.ensures at (c.write_part-2.ensures.rest told))
    (rw c.vector_at.ensures at (written told)))

pub returns-in_err-write_part-clause-closed : goal.returns-in_err-write_part-clause-closed
returns-in_err-write_part-clause-closed g c = λ told is_open.
    let D = g.D.Storage in
    let shape = c.args.layout.now in
    let rest : KeepsRest (laid_ranges shape c.args.place) (D.image c.args.disk.now) (D.image c.write_part.new.disk) =
    rest_more _ _ _ _ (rw (c.slot_at.ensures, c.behind_gate.ensures) at (c.write_part.ensures.rest told)) in
    c.requires.closed told (sym (gate_stays shape c.requires.place (rest_more _ _ _ _ rest)) ∙ is_open)

pub returns-clause-closed : goal.returns-clause-closed
returns-clause-closed g c = λ told is_open.
    let D = g.D.Storage in
    let shape = c.args.layout.now in
    let rest : KeepsRest (laid_ranges shape c.args.place) (D.image c.args.disk.now) (D.image c.write_part-2.new.disk) =
    rest_then _ _ _ _ _ (rw (c.slot_at.ensures, c.behind_gate.ensures) at (c.write_part.ensures.rest told))
    (rw (c.vector_at.ensures, c.requires.length) at (c.write_part-2.ensures.rest told)) in
    c.requires.closed told (sym (gate_stays shape c.requires.place (rest_more _ _ _ _ rest)) ∙ is_open)
