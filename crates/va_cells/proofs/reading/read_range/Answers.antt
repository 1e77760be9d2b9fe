use Rattle.std.proofs.Common.{◌≡◌, ◌+◌, ◌-◌, ◌≤◌, ◌<◌, List, ℕ, length, min, take, drop, ◌∙◌, ap, arith}
use Rattle.va_disk.proofs.Frames.{reads_both}
use Rattle.va_layout.specs.Parts.{part}
use Rattle.va_cells.proofs.Pieces.{filled_more, piece_length, range_both, range_one}
use Rattle.va_cells.proofs.reading.read_range.Goals as goal

pub loop-done-preserved : goal.loop-done-preserved
loop-done-preserved g c =
    let before = c.loop-done.invariant in
    let now = c.in_ok-read.ensures in
    let D = g.D.Storage in
    let done = c.loop-done.done in
    let n = c.min-count.result in
    let fits : done + n ≤ length c.loop-done.out = omega (arith, c.min-count.ensures, before.in_range) in
    let piece : length (take (done + n - done) (drop done c.loop-done.out)) ≡ n = piece_length done n c.loop-done.out fits in
    let some : c.args.at + done < c.args.at + length c.args.out.now = omega (arith, c.loop-done-test.true, c.loop-done.auto.out) in
    let is : n ≡ min 4096 (c.args.at + length c.args.out.now - (c.args.at + done)) = omega (arith, c.min-count.ensures, c.loop-done.auto.out) in
    let next : c.args.at + done + n ≡ c.args.at + (done + n) = omega arith in
    record {
      in_range = omega (arith, fits, c.read.auto.out);
      filled = λ told. filled_more c.args.at done n _ (D.image c.args.disk.now) c.loop-done.out c.read.new.out (before.filled told) fits (c.read.auto.out ∙ piece)
          (rw piece at (now.filled told) ∙ ap (λ (image : List ℕ). part (c.args.at + done) n image) before.frame.image);
      reads = range_both before.reads (range_one n some is next (λ told. rw piece at (now.reads.ok told)));
      stayed = now.cause.stayed ∙ before.stayed;
      frame = reads_both before.frame now.frame;
    }
