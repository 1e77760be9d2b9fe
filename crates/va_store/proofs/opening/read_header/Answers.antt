use Rattle.std.proofs.Common.{◌<◌, inr, length, arith}
use Rattle.va_layout.proofs.Headers.{blank_short}
use Rattle.va_layout.specs.declared.header.HeadFault.TheVariants as heads
use Rattle.va_store.proofs.Found.{fault_head}
use Rattle.va_store.proofs.opening.read_header.Goals as goal

pub returns-then-len-lt-HEADER-clause-refused : goal.returns-then-len-lt-HEADER-clause-refused
returns-then-len-lt-HEADER-clause-refused g c = inr (λ told.
    let D = g.D.Storage in
    let image = D.image c.args.disk.now in
    let short : length image < 32 = omega (arith, g.met.D.Disk.length_told c.args.disk.now told, c.len.ensures, c.if-len-lt-HEADER.true) in
    fault_head image heads.Blank (blank_short image short))
