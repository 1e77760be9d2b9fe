use Rattle.std.proofs.Common.{◌++◌, List, ℕ, map, ◌∙◌, ap, subst, arith}
use Rattle.std.proofs.lemmas.List.{take_all}
use Rattle.std.proofs.lemmas.Result.{err_from_is_err_and, on_err_weaker, on_ok_weaker}
use Rattle.va_disk.specs.Frames.{CountsFaults}
use Rattle.va_layout.specs.Fields.{selection_range}
use Rattle.va_layout.proofs.Parts.{rest_more, rest_then}
use Rattle.va_requant.specs.Refitting.{other_range, waiting}
use Rattle.va_requant.proofs.Advancing.{broken_of, reads_failed}
use Rattle.va_requant.proofs.Ending.{all_converted, frame_same, frame_switched, reads_these, stands_switched_to, switched_same}
use Rattle.va_store.specs.Refits.{ReadsFirst, refitted}
use Rattle.va_requant.proofs.converting.convert_rest.Goals as goal
use Rattle.va_store.specs.ShelfReads.{read_of_id}

pub switch-requires-clause-all : goal.switch-requires-clause-all
switch-requires-clause-all g c = all_converted c.args.store.now c.convert_next.new.store c.args.count c.requires.waiting c.in_ok-convert_next.ensures.left

pub returns-clause-ok : goal.returns-clause-ok
returns-clause-ok g c = on_ok_weaker c.switch.result (λ now. now ∙ switched_same c.args.store.now c.in_ok-convert_next.ensures.same c.in_ok-convert_next.ensures.marks) c.switch.ensures.ok

pub returns-clause-err : goal.returns-clause-err
returns-clause-err g c = on_err_weaker c.switch.result (λ now. broken_of c.args.store.now c.in_ok-convert_next.ensures.same now) c.switch.ensures.err

pub returns-clause-stands : goal.returns-clause-stands
returns-clause-stands g c = on_ok_weaker c.switch.result (λ now. stands_switched_to c.args.store.now c.in_ok-convert_next.ensures.same c.in_ok-convert_next.ensures.marks g.D.Storage c.args.disk.now
    c.convert_next.new.disk c.switch.new.disk c.convert_next.ensures.stands now) c.switch.ensures.stands

pub returns-clause-frame : goal.returns-clause-frame
returns-clause-frame g c = frame_switched c.args.store.now c.in_ok-convert_next.ensures.same c.in_ok-convert_next.ensures.marks c.convert_next.ensures.frame c.convert_next.ensures.outcomes c.switch.ensures.frame

pub returns-clause-reads : goal.returns-clause-reads
returns-clause-reads g c = reads_these (map (read_of_id c.args.store.now) (waiting c.args.store.now)) c.switch.result (λ told. c.switch.ensures.frame.reads ∙ c.in_ok-convert_next.ensures.reads.ok told
    ∙ ap (λ (l : List ℕ). g.D.Storage.reads c.args.disk.now ++ map (read_of_id c.args.store.now) l) (take_all c.args.count (waiting c.args.store.now) (omega (arith, c.requires.waiting))))

pub returns-clause-rest : goal.returns-clause-rest
returns-clause-rest g c = λ told. rest_then (other_range c.args.store.now) selection_range _ _ _ (c.convert_next.ensures.rest told) (c.switch.ensures.rest told)

pub returns-clause-cause : goal.returns-clause-cause
returns-clause-cause g c = subst (λ (n : ℕ). CountsFaults n (g.D.Storage.faults c.switch.new.disk) c.switch.result) c.in_ok-convert_next.ensures.cause.stayed c.switch.ensures.cause

pub returns-in_err-convert_next-clause-frame : goal.returns-in_err-convert_next-clause-frame
returns-in_err-convert_next-clause-frame g c = frame_same (refitted c.args.store.now) c.convert_next.ensures.frame

pub returns-in_err-convert_next-clause-rest : goal.returns-in_err-convert_next-clause-rest
returns-in_err-convert_next-clause-rest g c = λ told. rest_more (other_range c.args.store.now) selection_range _ _ (c.convert_next.ensures.rest told)

pub returns-in_err-convert_next-clause-reads : goal.returns-in_err-convert_next-clause-reads
returns-in_err-convert_next-clause-reads g c =
    reads_failed (map (read_of_id c.args.store.now) (waiting c.args.store.now)) (err_from_is_err_and c.from_residual.result c.from_residual.ensures.1).1
    (subst (λ (l : List ℕ). ReadsFirst g.D.Storage (map (read_of_id c.args.store.now) l) c.args.disk.now c.convert_next.new.disk) (take_all c.args.count (waiting c.args.store.now) (omega (arith, c.requires.waiting)))
    c.in_err-convert_next.ensures.reads.err)
