use Rattle.std.proofs.Common.{rules, ◌≡◌, ap, ◌∙◌, Bool, ℕ, List}
use Rattle.va_cells.specs.Slices.{is_cell_code, slices_of}
use Rattle.va_cells.proofs.CellCodes.{slices_given, tested}
use Rattle.va_core.specs.Shape.{Shape}
use Rattle.va_store.specs.Known.{Known}
use Rattle.va_store.specs.Shelved.{noted}
use Rattle.va_store.proofs.store.Store.take_code.Goals as goal

pub returns-clause-changed : goal.returns-clause-changed
returns-clause-changed c =
    let known = c.args.self.now in
    let marks = c.self.inside.marks in
    let code = c.args.code.now in
    let shape : c.shape-shape.result ≡ known.shape = search rules in
    let same : marks ≡ known.marks = search rules in
    let test = tested c.shape-shape.result marks code c.unpack_cell-named.result (search rules) c.unpack_cell-named.ensures.named in
    ap (λ (k : Known). k.changed) c.note.ensures
    ∙ ap (λ (b : Bool). noted b known.changed c.args.place)
    (test ∙ ap (λ (s : Shape). is_cell_code s marks code) shape ∙ ap (λ (m : List (List ℕ)). is_cell_code known.shape m code) same)

pub returns-clause-slices : goal.returns-clause-slices
returns-clause-slices c =
    let known = c.args.self.now in
    let marks = c.self.inside.marks in
    let code = c.args.code.now in
    let shape : c.shape-shape.result ≡ known.shape = search rules in
    let same : marks ≡ known.marks = search rules in
    let unpack = c.unpack_cell-named in
    let test = tested c.shape-shape.result marks code unpack.result (search rules) unpack.ensures.named in
    slices_given c.shape-shape.result marks code unpack.result unpack.new.slices test unpack.ensures.slices unpack.ensures.zeros
    ∙ ap (λ (s : Shape). slices_of s marks code) shape ∙ ap (λ (m : List (List ℕ)). slices_of known.shape m code) same
