use Rattle.std.proofs.Common.{◌≤◌, List, ℕ, length, subst, arith}
use Rattle.va_layout.specs.Layout.{layout_len}
use Rattle.va_store.specs.Image.{IsRegionFault}
use Rattle.va_store.specs.Openings.{known_of}
use Rattle.va_store.specs.declared.faults.OpenFault.{OpenFault}
use Rattle.va_store.proofs.Answering.{answers_region, read_known, refuses_more}
use Rattle.va_store.proofs.Fronts.{front_least, reads_front, reads_later}
use Rattle.va_store.proofs.Handing.{if_err, if_oks}
use Rattle.va_store.proofs.opening.read_parts.Goals as goal

pub returns-in_err-head-clause-reads : goal.returns-in_err-head-clause-reads
returns-in_err-head-clause-reads g c = λ told. reads_later 32 _ _ _ (front_least (g.D.Storage.image c.args.disk.now)) (c.read_layout.ensures.reads told)

pub returns-clause-reads : goal.returns-clause-reads
returns-clause-reads g c = λ told.
    reads_front (g.D.Storage.image c.args.disk.now) c.in_ok-head.head.layout _ _ _ (c.in_ok-head.ensures.shape told) (c.read_layout.ensures.reads told) (c.read_behind.ensures.reads told)

pub returns-clause-opened : goal.returns-clause-opened
returns-clause-opened g c =
    let D = g.D.Storage in
    let behind = c.read_behind.ensures in
    if_oks c.read_behind.result behind.head behind.whole behind.marks behind.places (λ opened head whole marks places told.
    (let long : layout_len c.in_ok-head.head.layout ≤ length (D.image c.args.disk.now) = omega (arith, g.met.D.Disk.length_told c.args.disk.now told, c.in_ok-head.ensures.fits, c.read_layout.ensures.frame.size) in
    read_known (known_of opened) (c.in_ok-head.ensures.shape told) long (c.in_ok-head.ensures.region told) c.read_layout.ensures.frame.image head (marks told) (whole.fit, whole.valid) (places told)))

pub returns-clause-refused : goal.returns-clause-refused
returns-clause-refused g c = λ told.
    let D = g.D.Storage in
    let shape = c.in_ok-head.head.layout in
    let region = c.in_ok-head.head.region in
    let image : List ℕ = D.image c.args.disk.now in
    let mid : List ℕ = D.image c.read_layout.new.disk in
    let long : layout_len shape ≤ length image = omega (arith, g.met.D.Disk.length_told c.args.disk.now told, c.in_ok-head.ensures.fits, c.read_layout.ensures.frame.size) in
    if_err c.read_behind.result c.read_behind.ensures.refused (λ why has.
    answers_region image shape region (c.in_ok-head.ensures.shape told) (c.in_ok-head.ensures.region told) long
    (refuses_more (λ (other : OpenFault). D.told → IsRegionFault shape region mid other) (λ (other : OpenFault). IsRegionFault shape region image other) why
    (λ fault. subst (λ (im : List ℕ). IsRegionFault shape region im why) c.read_layout.ensures.frame.image (fault told)) has))
