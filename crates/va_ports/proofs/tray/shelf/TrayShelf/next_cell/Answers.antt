use Rattle.std.proofs.Common.{◌≡◌, List, ℕ, subst, sym, ap, ◌∙◌, arith}
use Rattle.va_core.specs.Cells.{NamesSlices}
use Rattle.va_core.specs.Marks.{cell}
use Rattle.va_ports.specs.TrayCells.{vector_at}
use Rattle.va_ports.specs.declared.tray.Tray.{Tray}
use Rattle.va_ports.proofs.TrayCells.{gave_next, vector_next}
use Rattle.va_ports.proofs.tray.shelf.TrayShelf.next_cell.Goals as goal

pub returns-clause-gave : goal.returns-clause-gave
returns-clause-gave c =
    let t = c.args.self.now in
    let n = c.fails_next.new.self in
    gave_next t.cells.items n.cells.items t.at n.at c.index-cell.result.now (ap (λ (x : Tray). x.cells.items) c.fails_next.ensures.number) (ap (λ (x : Tray). x.at) c.fails_next.ensures.number) (omega arith) c.index-cell.ensures

pub returns-clause-code : goal.returns-clause-code
returns-clause-code c _ =
    let t = c.args.self.now in
    let n = c.fails_next.new.self in
    let marks : n.marks ≡ t.marks = ap (λ (x : Tray). x.marks) c.fails_next.ensures.number in
    let vector : vector_at t.shape.dims t.cells.items c.index-cell.result.now.place ≡ c.index-cell.result.now.vector =
    vector_next t.shape.dims t.shape.capacity t.cells.items n.cells.items n.at c.index-cell.result.now (ap (λ (x : Tray). x.cells.items) c.fails_next.ensures.number) (omega arith) c.index-cell.ensures t.places in
    c.write_cell.ensures.cell ∙ ap (λ (m : List (List ℕ)). cell m c.as_slice.result.now) marks ∙ ap (cell t.marks) (c.as_slice.ensures ∙ sym vector)

pub returns-clause-names : goal.returns-clause-names
returns-clause-names c =
    let marks : c.fails_next.new.self.marks ≡ c.args.self.now.marks = ap (λ (x : Tray). x.marks) c.fails_next.ensures.number in
    subst (λ (m : List (List ℕ)). NamesSlices m c.write_cell.new.code) marks c.write_cell.ensures.names
