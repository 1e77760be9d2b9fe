use Rattle.va_disk.proofs.Frames.{writes_both}
use Rattle.va_layout.proofs.Parts.{rest_twice}
use Rattle.va_layout.proofs.Writes.{on_ok}
use Rattle.va_store.specs.Empty.{behind_gate}
use Rattle.va_store.proofs.Filled.{laid_bare, marks_behind}
use Rattle.va_store.proofs.creating.lay_behind_gate.Goals as goal

pub returns-clause-laid : goal.returns-clause-laid
returns-clause-laid g c = on_ok c.put_marks.result c.put_marks.ensures.marks (λ there told.
    laid_bare c.args.layout.now (c.in_ok-lay_header.ensures.laid told) (c.put_marks.ensures.rest told) (there told) c.requires.equal)

pub returns-clause-rest : goal.returns-clause-rest
returns-clause-rest g c = λ told. rest_twice (behind_gate c.args.layout.now) _ _ _ (c.lay_header.ensures.rest told) (marks_behind c.args.layout.now (c.put_marks.ensures.rest told))

pub returns-clause-frame : goal.returns-clause-frame
returns-clause-frame g c = writes_both c.lay_header.ensures.frame c.put_marks.ensures.frame
    (λ honest x has. has)
    (λ honest x has. (let start = c.lay_header.ensures.crash honest has.0 has.1 in
    (start.0, start.1, rest_twice (behind_gate c.args.layout.now) _ _ _ start.2 (marks_behind c.args.layout.now has.2))))
