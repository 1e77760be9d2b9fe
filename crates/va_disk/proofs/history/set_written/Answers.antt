use Rattle.std.proofs.Common.{◌≡◌, ◌+◌, ◌++◌, [], ◌∷◌, List, ℕ, get_or, length, take, subst, sym, arith}
use Rattle.std.proofs.lemmas.List.{take_more}
use Rattle.va_disk.specs.DiskModel.{SetsWritten}
use Rattle.va_disk.proofs.Ranges.{sets_more, within_at}
use Rattle.va_disk.proofs.history.set_written.Goals as goal

pub set_range-requires : goal.set_range-requires
set_range-requires c =
    let inside = within_at (length c.args.bytes.now) c.args.ranges.now c.loop-range.range-index c.requires c.loop-range-test.true in
    omega (arith, inside, c.loop-range.invariant.size)

pub loop-range-preserved : goal.loop-range-preserved
loop-range-preserved c =
    let i = c.loop-range.range-index in
    let ranges = c.args.ranges.now in
    let range : ℕ × ℕ = get_or ranges i (0, 0) in
    let inside = within_at (length c.args.bytes.now) ranges i c.requires c.loop-range-test.true in
    let more : take (i + 1) ranges ≡ take i ranges ++ range ∷ [] = take_more ranges i (0, 0) c.loop-range-test.true in
    subst (λ (l : List (ℕ × ℕ)). SetsWritten c.args.bytes.now l c.args.byte c.set_range.new.bytes) (sym more)
    (sets_more c.args.bytes.now c.loop-range.bytes c.set_range.new.bytes (take i ranges) range c.args.byte inside c.loop-range.invariant c.set_range.ensures)
