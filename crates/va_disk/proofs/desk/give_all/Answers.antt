use Rattle.std.proofs.Common.{◌≡◌, ◌+◌, ◌<◌, ◌++◌, List, ℕ, length, take, drop, ◌∙◌, sym, subst, arith, length-take, length-drop}
use Rattle.std.proofs.lemmas.Grind.{common_steps}
use Rattle.std.proofs.lemmas.List.{take_rest, take-append-drop}
use Rattle.std.proofs.lemmas.Result.{err_from_is_err_and}
use Rattle.std.proofs.Math.Seq.{take-add}
use Rattle.va_disk.specs.Told.{Gives, GivesPart}
use Rattle.va_disk.proofs.Frames.{gives_on}
use Rattle.va_disk.proofs.Giving.{gives_both}
use Rattle.va_disk.proofs.desk.give_all.Goals as goal

pub loop-done-preserved : goal.loop-done-preserved
loop-done-preserved g c =
    let before = c.loop-done.invariant in
    let now = c.in_ok-done.ensures in
    let D = g.D.Storage in
    let bytes = c.args.bytes.now in
    let d = c.loop-done.done in
    let n = c.in_ok-done.field-0 in
    let joined : take d bytes ++ take n (drop d bytes) ≡ take (d + n) bytes = sym (take-add d n bytes) in
    record {
      in_range = omega (arith, now.bound, length-take {A = ℕ}, length-drop {A = ℕ}, c.loop-done-test.true);
      given = subst (λ (text : List ℕ). Gives D.told (D.given c.args.desk.now) text (D.given c.give.new.self)) joined
          (gives_both D.told _ (D.given c.loop-done.desk) _ (take d bytes) _ before.given (rw (take_rest bytes d) at now.given));
      frame = gives_on _ (take-append-drop d bytes) before.frame before.given (rw (take_rest bytes d) at now.frame);
      stayed = now.cause.stayed ∙ before.stayed;
    }

pub returns-in_err-done-clause-frame : goal.returns-in_err-done-clause-frame
returns-in_err-done-clause-frame g c =
    let before = c.loop-done.invariant in
    let bytes = c.args.bytes.now in
    gives_on _ (take-append-drop c.loop-done.done bytes) before.frame before.given (rw (take_rest bytes c.loop-done.done) at c.in_err-done.ensures.frame)

part_of : (told : Type 0) (old mid new bytes : List ℕ) (d : ℕ) → d < length bytes → Gives told old (take d bytes) mid → new ≡ mid → GivesPart told old bytes new
part_of told old mid new bytes d short first same = record {
  part = take d bytes;
  begins = record { missing = drop d bytes; lacks = grind (arith, common_steps); is = take-append-drop d bytes };
  given = λ tells. same ∙ first tells;
}

pub returns-in_err-done-clause-part : goal.returns-in_err-done-clause-part
returns-in_err-done-clause-part g c =
    let p = err_from_is_err_and c.from_residual.result c.from_residual.ensures.1 in
    rw p.1 (part_of _ _ _ _ c.args.bytes.now c.loop-done.done (omega arith) c.loop-done.invariant.given c.in_err-done.ensures.nothing)
