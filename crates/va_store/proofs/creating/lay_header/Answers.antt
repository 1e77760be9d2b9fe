use Rattle.std.proofs.Common.{◌-◌, ◌≤◌, [], ◌∷◌, length, replicate, arith}
use Rattle.va_disk.proofs.Frames.{writes_both, writes_weaker}
use Rattle.va_disk.specs.Crashes.{Follows, Holds}
use Rattle.va_layout.proofs.Writes.{follows_rest, on_ok, rest_of_torn}
use Rattle.va_layout.specs.Layout.{layout_len}
use Rattle.va_layout.specs.Parts.{KeepsRest}
use Rattle.va_store.specs.Empty.{behind_gate}
use Rattle.va_store.proofs.Filled.{has_header}
use Rattle.va_layout.proofs.Parts.{rest_around, rest_twice}
use Rattle.va_store.proofs.creating.lay_header.Goals as goal

pub returns-in_err-fill-clause-rest : goal.returns-in_err-fill-clause-rest
returns-in_err-fill-clause-rest g c = λ told. rw c.len.ensures.len at (rest_of_torn 1 (c.len.result - 1) _ _ (c.fill.ensures.torn told))

pub returns-in_err-fill-clause-crash : goal.returns-in_err-fill-clause-crash
returns-in_err-fill-clause-crash g c = λ honest. rw c.len.ensures.len at (follows_rest 1 (c.len.result - 1) _ _ (c.fill.ensures.crash honest))

pub returns-in_err-fill-clause-frame : goal.returns-in_err-fill-clause-frame
returns-in_err-fill-clause-frame g c = writes_weaker c.fill.ensures.frame (λ honest x has. (has.0, has.1, rw c.len.ensures.len at (rest_of_torn 1 (c.len.result - 1) _ _ has.2)))

pub returns-clause-laid : goal.returns-clause-laid
returns-clause-laid g c = on_ok c.write_part.result c.write_part.ensures.written (λ written told.
    let D = g.D.Storage in
    let shape = c.args.layout.now in
    let some : 1 ≤ length (D.image c.args.disk.now) = omega (arith, g.met.D.Disk.length_told c.args.disk.now told, c.requires.some) in
    let filled : Holds (D.image c.args.disk.now) 1 (replicate (layout_len shape - 1) 0) (D.image c.fill.new.disk) = rw c.len.ensures.len at (c.in_ok-fill.ensures.written told) in
    has_header shape c.args.header.now (D.image c.args.disk.now) (D.image c.fill.new.disk) (D.image c.write_part.new.disk) c.requires.header some filled
    (rw c.requires.header (rw c.requires.header at (written told)))
    (rw c.requires.header at (c.write_part.ensures.rest told)))

pub returns-clause-rest : goal.returns-clause-rest
returns-clause-rest g c = λ told.
    let D = g.D.Storage in
    let shape = c.args.layout.now in
    let header : KeepsRest ((1, 31) ∷ []) (D.image c.fill.new.disk) (D.image c.write_part.new.disk) = rw c.requires.header at (c.write_part.ensures.rest told) in
    rest_twice (behind_gate shape) (D.image c.args.disk.now) (D.image c.fill.new.disk) (D.image c.write_part.new.disk)
    (rw c.len.ensures.len at (rest_of_torn 1 (c.len.result - 1) _ _ (c.fill.ensures.torn told)))
    (rest_around 1 31 1 (layout_len shape - 1) _ _ (omega arith) (omega arith) header)

pub returns-clause-crash : goal.returns-clause-crash
returns-clause-crash g c = λ honest x left.
    let D = g.D.Storage in
    let shape = c.args.layout.now in
    let header : Follows (KeepsRest ((1, 31) ∷ [])) (D.may_leave c.fill.new.disk) (D.may_leave c.write_part.new.disk) = rw c.requires.header at (c.write_part.ensures.crash honest) in
    let mid = header x left in
    let start = c.fill.ensures.crash honest mid.0 mid.1 in (
      start.0,
      start.1,
      rest_twice (behind_gate shape) start.0 mid.0 x
          (rw c.len.ensures.len at (rest_of_torn 1 (c.len.result - 1) _ _ start.2))
          (rest_around 1 31 1 (layout_len shape - 1) _ _ (omega arith) (omega arith) mid.2),
    )

pub returns-clause-frame : goal.returns-clause-frame
returns-clause-frame g c =
    writes_both c.fill.ensures.frame c.write_part.ensures.frame
    (λ honest x has. (has.0, has.1, rw c.len.ensures.len at (rest_of_torn 1 (c.len.result - 1) _ _ has.2)))
    (λ honest x left. returns-clause-crash g c honest x left)
