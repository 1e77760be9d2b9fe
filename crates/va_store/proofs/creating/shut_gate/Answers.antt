use Rattle.std.proofs.Common.{◌≤◌, length, arith}
use Rattle.va_disk.proofs.Frames.{writes_both, writes_nothing}
use Rattle.va_layout.proofs.Headers.{gate_of_blank}
use Rattle.va_layout.proofs.Parts.{rest_same}
use Rattle.va_store.proofs.creating.shut_gate.Goals as goal

pub returns-in_err-sync-clause-frame : goal.returns-in_err-sync-clause-frame
returns-in_err-sync-clause-frame g c = writes_nothing c.sync.ensures.reads c.sync.ensures.frame

pub returns-in_err-sync-clause-rest : goal.returns-in_err-sync-clause-rest
returns-in_err-sync-clause-rest g c = λ told. rw c.sync.ensures.frame.image (rest_same _ _)

pub returns-then-len-lt-HEADER-clause-frame : goal.returns-then-len-lt-HEADER-clause-frame
returns-then-len-lt-HEADER-clause-frame g c =
    writes_both (writes_nothing c.sync.ensures.reads c.sync.ensures.frame) c.clear_gate.ensures.frame (λ honest x none. none)
    (λ honest x stays told. rw c.sync.ensures.frame.image at (stays told))

pub returns-then-len-lt-HEADER-clause-rest : goal.returns-then-len-lt-HEADER-clause-rest
returns-then-len-lt-HEADER-clause-rest g c = λ told. rw c.sync.ensures.frame.image at (c.clear_gate.ensures.rest told)

pub returns-clause-frame : goal.returns-clause-frame
returns-clause-frame g c = writes_nothing c.sync.ensures.reads c.sync.ensures.frame

pub returns-clause-rest : goal.returns-clause-rest
returns-clause-rest g c = λ told. rw c.sync.ensures.frame.image (rest_same _ _)

pub returns-clause-shut : goal.returns-clause-shut
returns-clause-shut g c = λ told.
    let D = g.D.Storage in
    let disk = c.args.disk.now in
    let long : 32 ≤ length (D.image disk) = omega (arith, g.met.D.Disk.length_told disk told, c.sync.ensures.frame.size, c.len.ensures, c.if-len-lt-HEADER.false) in
    rw c.sync.ensures.frame.image (gate_of_blank (D.image disk) (c.requires.blank told) long)
