use Rattle.std.proofs.Common.{ℕ, ◌∙◌, ap, take}
use Rattle.va_check.proofs.Sorted.{cut_is}
use Rattle.va_check.proofs.rows.cut.Goals as goal

pub returns : goal.returns
returns c = c.truncate.ensures.items ∙ (ap (λ (n : ℕ). take n c.sort_unstable.new.self.items) c.from.ensures ∙ cut_is c.args.k c.args.known.items c.sort_unstable.new.self.items c.sort_unstable.ensures.permutation c.sort_unstable.ensures.sorted)
