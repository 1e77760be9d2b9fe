use Rattle.std.proofs.Common.{◌≡◌, ◌+◌, ◌-◌, ◌≤◌, List, ℕ, length, take, drop, ◌∙◌, ap, arith}
use Rattle.va_disk.proofs.Frames.{reads_both}
use Rattle.va_core.specs.Shape.{Shape}
use Rattle.va_rows.specs.Slots.{slot_of}
use Rattle.va_rows.proofs.Slots.{holds_more, reads_more, piece_length}
use Rattle.va_rows.proofs.reading.read_slots.Goals as goal

pub loop-done-preserved : goal.loop-done-preserved
loop-done-preserved g c =
    let before = c.loop-done.invariant in
    let now = c.in_ok-read_piece.ensures in
    let D = g.D.Storage in
    let done = c.loop-done.done in
    let n = c.min-count.result in
    let capacity : c.capacity-capacity.result ≡ c.args.layout.now.capacity = c.capacity-capacity.ensures.capacity ∙ ap (λ (s : Shape). s.capacity) c.shape.ensures in
    let fits : done + n ≤ length c.loop-done.out = omega (arith, c.loop-done.auto.out, c.requires.all, capacity, c.min-count.ensures, before.in_range) in
    let piece : length (take (done + n - done) (drop done c.loop-done.out)) ≡ n = piece_length done n c.loop-done.out fits in
    record {
      in_range = omega arith;
      slots = λ told. holds_more done n _ (D.image c.args.disk.now) c.loop-done.out c.read_piece.new.out (before.slots told) fits (c.read_piece.auto.out ∙ piece)
          (λ k other less. now.slots told k other (omega (arith, less, piece)) ∙ ap (λ (image : List ℕ). slot_of (done + k) image) before.frame.image);
      reads = λ told. reads_more _ done n _ _ _ (before.reads told) (rw piece at (now.reads.ok told)) (omega (arith, capacity, c.min-count.ensures, before.in_range)) (omega (arith, c.min-count.ensures));
      stayed = now.cause.stayed ∙ before.stayed;
      frame = reads_both before.frame now.frame;
    }
