use Rattle.std.proofs.Common.{◌∷◌, ◌++◌, [], ℕ, List, take, ap, sym, ◌∙◌}
use Rattle.va_maker.proofs.CodedRows.{objects_next}
use Rattle.va_maker.proofs.copies.objects_of.Goals as goal

pub loop-i-preserved : goal.loop-i-preserved
loop-i-preserved c =
    c.in_ok-push.ensures.items
    ∙ ap (λ (l : List (List ℕ)). l ++ c.in_ok-object.object ∷ []) c.loop-i.invariant
    ∙ ap (λ (o : List ℕ). take c.loop-i.i c.args.query.now.objects ++ o ∷ []) c.in_ok-object.ensures
    ∙ sym (objects_next c.args.query.now.objects c.loop-i.i c.object.result.now c.object.ensures.object)
