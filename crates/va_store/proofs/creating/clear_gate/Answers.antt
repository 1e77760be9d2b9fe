use Rattle.std.proofs.Common.{◌<◌, [], ◌∷◌, length, arith}
use Rattle.va_disk.specs.Crashes.{Torn}
use Rattle.va_disk.specs.TornLaws.{torn_of_holds}
use Rattle.va_disk.proofs.Frames.{writes_both, writes_nothing, writes_weaker}
use Rattle.va_layout.proofs.Writes.{rest_of_torn}
use Rattle.va_store.proofs.Blanks.{cleared}
use Rattle.va_store.proofs.creating.clear_gate.Goals as goal

pub returns-in_err-write-clause-frame : goal.returns-in_err-write-clause-frame
returns-in_err-write-clause-frame g c = writes_weaker c.write.ensures.frame (λ honest x left told.
    (let D = g.D.Storage in
    let disk = c.args.disk.now in
    let short : length (D.image disk) < 32 = omega (arith, g.met.D.Disk.length_told disk told, c.requires.short) in
    let from = c.write.ensures.crash honest x left in
    cleared short (c.requires.stable honest told from.0 from.1) from.2))

pub returns-in_err-write-clause-rest : goal.returns-in_err-write-clause-rest
returns-in_err-write-clause-rest g c = λ told. rest_of_torn 0 1 _ _ (c.in_err-write.ensures.torn told)

pub returns-clause-frame : goal.returns-clause-frame
returns-clause-frame g c =
    writes_both c.write.ensures.frame (writes_nothing c.sync.ensures.reads c.sync.ensures.frame)
    (λ honest x left told.
    (let D = g.D.Storage in
    let disk = c.args.disk.now in
    let short : length (D.image disk) < 32 = omega (arith, g.met.D.Disk.length_told disk told, c.requires.short) in
    let from = c.write.ensures.crash honest x left in
    cleared short (c.requires.stable honest told from.0 from.1) from.2))
    (λ honest x same. same)

pub returns-clause-rest : goal.returns-clause-rest
returns-clause-rest g c = λ told.
    let D = g.D.Storage in
    let torn : Torn 0 1 (D.image c.args.disk.now) (D.image c.write.new.self) = torn_of_holds 0 (D.image c.args.disk.now) (0 ∷ []) (omega arith) _ (c.in_ok-write.ensures.written told) in
    rw c.sync.ensures.frame.image (rest_of_torn 0 1 _ _ torn)
