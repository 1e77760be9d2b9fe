use Rattle.std.proofs.Common.{◌≡◌, ◌+◌, ◌≤◌, List, ℕ, length, replicate, ◌∙◌, subst, arith}
use Rattle.std.proofs.lemmas.List.{length-replicate, replicate-append-replicate}
use Rattle.va_disk.specs.Crashes.{Torn, Holds}
use Rattle.va_disk.proofs.Frames.{writes_both}
use Rattle.va_disk.specs.TornLaws.{torn_more, torn_beside, torn_of_holds, holds_beside}
use Rattle.va_gate.proofs.filling.fill.Goals as goal

pub returns-in_err-fill_piece-clause-torn : goal.returns-in_err-fill_piece-clause-torn
returns-in_err-fill_piece-clause-torn g c = λ told.
    let before = c.loop-done.invariant in
    let D = g.D.Storage in
    let inside : c.args.at ≤ length (D.image c.args.disk.now) = omega (arith, g.met.D.Disk.length_told c.args.disk.now told, c.requires.inside) in
    let first = subst (λ (n : ℕ). Torn c.args.at n (D.image c.args.disk.now) (D.image c.loop-done.disk)) (length-replicate c.loop-done.done c.args.byte) (torn_of_holds c.args.at _ _ inside _ (before.written told)) in
    torn_more c.args.at (c.loop-done.done + c.min-count.result) c.args.len _ _ (omega arith)
    (torn_beside c.args.at c.loop-done.done c.min-count.result _ _ _ first (c.in_err-fill_piece.ensures.torn told))

pub returns-in_err-fill_piece-clause-crash : goal.returns-in_err-fill_piece-clause-crash
returns-in_err-fill_piece-clause-crash g c = λ honest x left.
    let before = c.loop-done.invariant in
    let mid = c.in_err-fill_piece.ensures.crash honest x left in
    let first = before.crash honest mid.0 mid.1 in
    (first.0, first.1, torn_more c.args.at (c.loop-done.done + c.min-count.result) c.args.len _ _ (omega arith) (torn_beside c.args.at c.loop-done.done c.min-count.result _ _ _ first.2 mid.2))

pub returns-in_err-fill_piece-clause-frame : goal.returns-in_err-fill_piece-clause-frame
returns-in_err-fill_piece-clause-frame g c =
    let before = c.loop-done.invariant in
    writes_both before.frame c.in_err-fill_piece.ensures.frame
    (λ honest x has. (has.0, has.1, torn_more c.args.at c.loop-done.done c.args.len _ _ before.in_range has.2))
    (λ honest x left. returns-in_err-fill_piece-clause-crash g c honest x left)

pub loop-done-preserved : goal.loop-done-preserved
loop-done-preserved g c =
    let before = c.loop-done.invariant in
    let now = c.in_ok-fill_piece.ensures in
    let D = g.D.Storage in
    let n = c.loop-done.done + c.min-count.result in
    let crash : D.honest → (x : List ℕ) → D.may_leave c.fill_piece.new.disk x → (d : List ℕ) × D.may_leave c.args.disk.now d × Torn c.args.at n d x = λ honest x left.
    (let mid = now.crash honest x left in
    let first = before.crash honest mid.0 mid.1 in
    (first.0, first.1, torn_beside c.args.at c.loop-done.done c.min-count.result _ _ _ first.2 mid.2)) in
    record {
      in_range = omega arith;
      written = λ told.
          (let inside : c.args.at ≤ length (D.image c.args.disk.now) = omega (arith, g.met.D.Disk.length_told c.args.disk.now told, c.requires.inside) in
          let size : c.args.at + c.loop-done.done ≡ c.args.at + length (replicate c.loop-done.done c.args.byte) = omega (arith, length-replicate c.loop-done.done c.args.byte) in
          let second = subst (λ (k : ℕ). Holds (D.image c.loop-done.disk) k (replicate c.min-count.result c.args.byte) (D.image c.fill_piece.new.disk)) size (now.written told) in
          let both = holds_beside c.args.at (D.image c.args.disk.now) (replicate c.loop-done.done c.args.byte) inside (replicate c.min-count.result c.args.byte) _ _ (before.written told) second in
          subst (λ (xs : List ℕ). Holds (D.image c.args.disk.now) c.args.at xs (D.image c.fill_piece.new.disk)) (replicate-append-replicate c.loop-done.done c.min-count.result c.args.byte) both);
      size = omega (arith, now.size, before.size);
      crash = crash;
      stayed = now.cause.stayed ∙ before.stayed;
      frame = writes_both before.frame now.frame
          (λ honest x has. (has.0, has.1, torn_more c.args.at c.loop-done.done n _ _ (omega arith) has.2))
          (λ honest x left. crash honest x left);
    }
