use Rattle.std.proofs.Common.{◌≡◌, ◌+◌, ◌*◌, ◌/◌, ◌^◌, arith, ap, sym, ◌∙◌, map}
use Rattle.std.specs.List.{range_with_len}
use Rattle.std.proofs.lemmas.Nat.{pow_pos}
use Rattle.va_marks.specs.Rule.{mark_by, row_by}
use Rattle.va_marks.proofs.Pushes.{pushed_by}
use Rattle.va_marks.proofs.Quantiles.{mark_first_over, mark_last, rank_more}
use Rattle.va_marks.proofs.rule.quantiles.Goals as goal

pub loop-t-preserved : goal.loop-t-preserved
loop-t-preserved c =
    let rank_is : c.from.result * c.from-in-loop-t.result / 2 ^ c.args.bits ≡ c.loop-t.t * c.args.added / 2 ^ c.args.bits = cc in
    record {
      a_value = c.first_over.ensures.first.a_value;
      found = c.first_over.ensures.found;
      below = λ v l. rank_more c.loop-t.t c.args.added (2 ^ c.args.bits) _ _ (pow_pos c.args.bits) rank_is (c.first_over.ensures.first.first v l);
      so_far = pushed_by (mark_by c.args.bits c.args.added c.args.counts.now) c.loop-t.marks.items c.push-in-loop-t.new.self.items c.loop-t.t c.first_over.result.0 c.in_ok-push-2.ensures.items c.loop-t.invariant.so_far
          (mark_first_over c.args.bits c.args.added c.args.counts.now c.loop-t.t _ c.first_over.result.0 (omega arith) (omega arith) (omega arith) rank_is c.first_over.ensures.first);
    }

pub returns : goal.returns
unfolding row_by
returns c = let e : c.loop-t.t ≡ 2 ^ c.args.bits = omega arith in
    pushed_by (mark_by c.args.bits c.args.added c.args.counts.now) c.loop-t.marks.items c.push-2.new.self.items c.loop-t.t 256 c.in_ok-push-3.ensures.items c.loop-t.invariant.so_far
    (sym (ap (mark_by c.args.bits c.args.added c.args.counts.now) e ∙ mark_last c.args.bits c.args.added c.args.counts.now))
    ∙ ap (λ n. map (mark_by c.args.bits c.args.added c.args.counts.now) (range_with_len 0 (n + 1))) e
