use Rattle.std.proofs.Common.{◌≤◌, length, refl, arith}
use Rattle.va_disk.proofs.Frames.{writes_both, writes_weaker}
use Rattle.va_layout.proofs.Writes.{on_ok, rest_of_torn}
use Rattle.va_layout.specs.Layout.{layout_len}
use Rattle.va_store.proofs.Blanks.{first_inside, laid_behind, made_blank, made_laid, made_opened, opened_behind}
use Rattle.va_store.proofs.Filled.{IsFresh, fresh_marks, gate_set, stands_created}
use Rattle.va_store.proofs.creating.write_empty.Goals as goal

pub returns-in_err-shut_gate-clause-frame : goal.returns-in_err-shut_gate-clause-frame
returns-in_err-shut_gate-clause-frame g c = writes_weaker c.shut_gate.ensures.frame (λ honest x stays told. made_blank c.args.layout.now (stays told))

pub returns-in_err-shut_gate-clause-rest : goal.returns-in_err-shut_gate-clause-rest
returns-in_err-shut_gate-clause-rest g c = λ told. first_inside c.args.layout.now (c.shut_gate.ensures.rest told)

pub returns-in_err-lay_behind_gate-clause-frame : goal.returns-in_err-lay_behind_gate-clause-frame
returns-in_err-lay_behind_gate-clause-frame g c = writes_both c.shut_gate.ensures.frame c.lay_behind_gate.ensures.frame
    (λ honest x stays told. made_blank c.args.layout.now (stays told))
    (λ honest x has told. made_laid c.args.layout.now (c.shut_gate.ensures.rest told) (c.in_ok-shut_gate.ensures.shut told) (c.in_ok-shut_gate.ensures.durable honest told has.0 has.1) has.2)

pub returns-in_err-lay_behind_gate-clause-rest : goal.returns-in_err-lay_behind_gate-clause-rest
returns-in_err-lay_behind_gate-clause-rest g c = λ told. laid_behind c.args.layout.now (c.shut_gate.ensures.rest told) (c.lay_behind_gate.ensures.rest told)

pub returns-clause-stands : goal.returns-clause-stands
returns-clause-stands g c = on_ok c.commit.result c.commit.ensures.written (λ written told.
    let D = g.D.Storage in
    let shape = c.args.layout.now in
    let laid = c.lay_behind_gate.new.disk in
    let fresh : IsFresh shape = fresh_marks shape c.args.marks.now c.requires.equal c.requires.fit c.requires.valid (rw c.new_header-header.ensures.bytes at c.new_header-header.ensures.read) in
    let long : layout_len shape ≤ length (D.image laid) = omega (arith, g.met.D.Disk.length_told laid told, c.in_ok-lay_behind_gate.ensures.size) in
    let some : 1 ≤ length (D.image laid) = omega (arith, long) in
    (stands_created fresh (c.in_ok-lay_behind_gate.ensures.laid told) long (rest_of_torn 0 1 _ _ (c.commit.ensures.torn told))
    (gate_set _ (D.image laid) (D.image c.commit.new.disk) some (rw c.new_header-header.ensures.bytes refl) (written told))).0)

pub returns-clause-selected : goal.returns-clause-selected
returns-clause-selected g c = on_ok c.commit.result c.commit.ensures.written (λ written told.
    let D = g.D.Storage in
    let shape = c.args.layout.now in
    let laid = c.lay_behind_gate.new.disk in
    let fresh : IsFresh shape = fresh_marks shape c.args.marks.now c.requires.equal c.requires.fit c.requires.valid (rw c.new_header-header.ensures.bytes at c.new_header-header.ensures.read) in
    let long : layout_len shape ≤ length (D.image laid) = omega (arith, g.met.D.Disk.length_told laid told, c.in_ok-lay_behind_gate.ensures.size) in
    let some : 1 ≤ length (D.image laid) = omega (arith, long) in
    (stands_created fresh (c.in_ok-lay_behind_gate.ensures.laid told) long (rest_of_torn 0 1 _ _ (c.commit.ensures.torn told))
    (gate_set _ (D.image laid) (D.image c.commit.new.disk) some (rw c.new_header-header.ensures.bytes refl) (written told))).1)

pub returns-clause-frame : goal.returns-clause-frame
returns-clause-frame g c =
    let D = g.D.Storage in
    let shape = c.args.layout.now in
    let laid = c.lay_behind_gate.new.disk in
    let fresh : IsFresh shape = fresh_marks shape c.args.marks.now c.requires.equal c.requires.fit c.requires.valid (rw c.new_header-header.ensures.bytes at c.new_header-header.ensures.read) in
    writes_both
    (writes_both c.shut_gate.ensures.frame c.lay_behind_gate.ensures.frame
    (λ honest x stays told. made_blank shape (stays told))
    (λ honest x has told. made_laid shape (c.shut_gate.ensures.rest told) (c.in_ok-shut_gate.ensures.shut told) (c.in_ok-shut_gate.ensures.durable honest told has.0 has.1) has.2))
    c.commit.ensures.frame
    (λ honest x made. made)
    (λ honest x torn told. (
    let long : layout_len shape ≤ length (D.image laid) = omega (arith, g.met.D.Disk.length_told laid told, c.in_ok-lay_behind_gate.ensures.size) in
    made_opened shape (c.shut_gate.ensures.rest told) (c.lay_behind_gate.ensures.rest told) (torn told) fresh (c.in_ok-lay_behind_gate.ensures.laid told) long))

pub returns-clause-rest : goal.returns-clause-rest
returns-clause-rest g c = λ told. opened_behind c.args.layout.now (c.shut_gate.ensures.rest told) (c.lay_behind_gate.ensures.rest told) (c.commit.ensures.torn told)
