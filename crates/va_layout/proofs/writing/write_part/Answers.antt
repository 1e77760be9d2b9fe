use Rattle.std.proofs.Common.{◌≤◌, length, arith}
use Rattle.va_layout.proofs.Writes.{rest_of_torn, torn_either, follows_rest}
use Rattle.va_layout.proofs.writing.write_part.Goals as goal

pub returns-clause-rest : goal.returns-clause-rest
returns-clause-rest g c = λ told.
    let D = g.D.Storage in
    let inside : c.args.at ≤ length (D.image c.args.disk.now) = omega (arith, g.met.D.Disk.length_told c.args.disk.now told, c.requires) in
    rest_of_torn _ _ _ _ (torn_either c.write.result c.args.at _ c.args.bytes.now _ D.told inside c.write.ensures.written c.write.ensures.torn told)

pub returns-clause-crash : goal.returns-clause-crash
returns-clause-crash g c = λ honest. follows_rest _ _ _ _ (c.write.ensures.crash honest)
