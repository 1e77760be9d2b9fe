use Rattle.std.proofs.Common.{◌∙◌, ◌+◌, ◌-◌, ap, arith}
use Rattle.va_script.specs.Script.{state_after}
use Rattle.va_script.proofs.Lines.{always, at_create, at_insert, at_search, behind_inserts, in_create, in_fixed, in_insert, in_search, on_none, on_one}
use Rattle.va_script.proofs.script.line_behind.Goals as goal

pub returns-then-given-eq0-clause-line : goal.returns-then-given-eq0-clause-line
returns-then-given-eq0-clause-line c =
    let zero = c.if-given-eq0.true in rw (zero, ← at_create c.args.n) c.create.ensures

pub returns-then-given-eq0-clause-state : goal.returns-then-given-eq0-clause-state
returns-then-given-eq0-clause-state c =
    always c.create.result (c.requires.begun ∙ on_none c.args.n c.args.given (rw (c.if-given-eq0.true) (in_create c.args.n)))

pub returns-then-given-n-clause-line : goal.returns-then-given-n-clause-line
returns-then-given-n-clause-line c =
    rw (← at_insert c.args.n c.args.given (omega (arith, c.if-given-eq0.false)) (omega (arith, c.if-given-n.true)), ← c.requires.begun, ← c.vector-vector.ensures.bytes) c.insert.ensures

pub returns-then-given-n-clause-state : goal.returns-then-given-n-clause-state
returns-then-given-n-clause-state c =
    always c.insert.result (c.vector-vector.ensures.state ∙ ap (state_after 8) c.requires.begun
    ∙ on_one c.args.n c.args.given (in_insert c.args.n c.args.given (omega (arith, c.if-given-eq0.false)) (omega (arith, c.if-given-n.true))))

pub returns-then-given-n-2-clause-line : goal.returns-then-given-n-2-clause-line
returns-then-given-n-2-clause-line c =
    rw (← behind_inserts c.args.n c.args.given 0 (omega (arith, c.if-given-n-2.true))) c.fixed.ensures

pub returns-then-given-n-2-clause-state : goal.returns-then-given-n-2-clause-state
returns-then-given-n-2-clause-state c =
    always c.fixed.result (c.requires.begun ∙ on_none c.args.n c.args.given
    (in_fixed c.args.n c.args.given (omega (arith, c.if-given-n-2.true)) (omega (arith, c.if-given-n-2.true))))

pub returns-then-given-n-3-clause-line : goal.returns-then-given-n-3-clause-line
returns-then-given-n-3-clause-line c =
    rw (← behind_inserts c.args.n c.args.given 1 (omega (arith, c.if-given-n-3.true))) c.fixed-then-given-n-3.ensures

pub returns-then-given-n-3-clause-state : goal.returns-then-given-n-3-clause-state
returns-then-given-n-3-clause-state c =
    always c.fixed-then-given-n-3.result (c.requires.begun ∙ on_none c.args.n c.args.given
    (in_fixed c.args.n c.args.given (omega (arith, c.if-given-n-3.true)) (omega (arith, c.if-given-n-3.true))))

pub returns-clause-line : goal.returns-clause-line
returns-clause-line c =
    rw (
      ← at_search c.args.n c.args.given (c.args.given - (c.args.n + 3))
          (omega (arith, c.if-given-n.false, c.if-given-n-2.false, c.if-given-n-3.false)) (omega (arith, c.requires.some)),
      ← c.requires.begun,
      ← c.vector-vector-2.ensures.bytes,
    ) c.search.ensures

pub returns-clause-state : goal.returns-clause-state
returns-clause-state c =
    always c.search.result (c.vector-vector-2.ensures.state ∙ ap (state_after 8) c.requires.begun
    ∙ on_one c.args.n c.args.given (in_search c.args.n c.args.given
    (omega (arith, c.if-given-n.false, c.if-given-n-2.false, c.if-given-n-3.false))))
