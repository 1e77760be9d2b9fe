use Rattle.std.proofs.Common.{◌≡◌, ◌<◌, ℕ, inr, Some, length, sym, ◌∙◌, ap, arith}
use Rattle.va_layout.specs.Layout.{layout_len}
use Rattle.va_store.specs.declared.faults.OpenFault.TheVariants as faults
use Rattle.va_store.proofs.Found.{fault_length}
use Rattle.va_store.proofs.opening.read_layout.Goals as goal

pub returns-then-have-need-clause-refused : goal.returns-then-have-need-clause-refused
returns-then-have-need-clause-refused g c = inr (λ told.
    let D = g.D.Storage in
    let image = D.image c.args.disk.now in
    let header = c.in_ok-header.header in
    let have : c.len-have.result ≡ length image = c.len-have.ensures ∙ c.read_header.ensures.frame.size ∙ sym (g.met.D.Disk.length_told c.args.disk.now told) in
    let need : c.len-need.result ≡ layout_len header.shape = c.len-need.ensures.len ∙ ap layout_len c.of-layout.ensures in
    let short : length image < layout_len header.shape = omega (arith, have, need, c.if-have-need.true) in
    fault_length image header (c.in_ok-header.ensures.header told) short
    ∙ ap (λ (n : ℕ). Some (faults.Length n (length image))) (sym need)
    ∙ ap (λ (n : ℕ). Some (faults.Length c.len-need.result n)) (sym have))
