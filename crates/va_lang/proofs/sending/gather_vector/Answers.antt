use Rattle.std.proofs.lemmas.List.{take_rest}
use Rattle.va_lang.proofs.VectorText.{list_behind}
use Rattle.va_lang.proofs.sending.gather_vector.Goals as goal

pub returns-clause-given : goal.returns-clause-given
returns-clause-given g c =
    let same = list_behind c.args.line.now _ c.args.vector.now _ c.push_number.ensures.text c.from.ensures c.in-len1-up.len_at_least in
    rw (← same) (rw (take_rest c.args.vector.now 1) at c.gather_each.ensures.given)

pub returns-clause-part : goal.returns-clause-part
returns-clause-part g c =
    let same = list_behind c.args.line.now _ c.args.vector.now _ c.push_number.ensures.text c.from.ensures c.in-len1-up.len_at_least in
    rw (← same) (rw (take_rest c.args.vector.now 1) at c.gather_each.ensures.part)

pub returns-clause-frame : goal.returns-clause-frame
returns-clause-frame g c =
    let same = list_behind c.args.line.now _ c.args.vector.now _ c.push_number.ensures.text c.from.ensures c.in-len1-up.len_at_least in
    rw (← same) (rw (take_rest c.args.vector.now 1) at c.gather_each.ensures.frame)
