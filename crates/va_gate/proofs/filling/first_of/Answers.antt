use Rattle.std.proofs.Common.{List, ℕ, ◌≤◌, take, length, ap, ◌∙◌, arith}
use Rattle.std.proofs.lemmas.List.{take-replicate, length-replicate}
use Rattle.va_gate.proofs.filling.first_of.Goals as goal

pub returns-clause-same : goal.returns-clause-same
returns-clause-same c = λ byte is.
    let short : c.args.len ≤ 4096 = omega (arith, ap length is, length-replicate 4096 byte, c.requires) in
    ap (λ (l : List ℕ). take c.args.len l) is ∙ take-replicate c.args.len 4096 byte short
