use Rattle.std.proofs.Common.{◌≡◌, ◌+◌, ◌<◌, ◌∷◌, ◌++◌, [], ℕ, List, length, sym, ap, ◌∙◌, arith}
use Rattle.std.proofs.lemmas.List.{length-append}
use Rattle.va_core.specs.Distance as distances
use Rattle.va_core.specs.Vectors.{IsVector}
use Rattle.va_dist.specs.Objects.{objects_in}
use Rattle.va_dist.proofs.Faults.{right_length, wrong_length}
use Rattle.va_core.proofs.Members.{all_below}
use Rattle.va_dist.proofs.Objects.{objects_count, objects_more, query_more}
use Rattle.va_dist.proofs.query.Query.add.Goals as goal

pub returns-then-object-len-clause-err : goal.returns-then-object-len-clause-err
returns-then-object-len-clause-err c =
    let count : length c.args.self.now.objects ≡ c.self.inside.count = ap (λ (query : distances.Query). length query.objects) (sym c.self.view_is) ∙ objects_count (length c.self.inside.weights.items) c.self.inside.count c.self.inside.bytes.items in
    let dims : length c.self.inside.weights.items ≡ length c.args.self.now.weights = ap (λ (query : distances.Query). length query.weights) c.self.view_is in
    wrong_length c.args.self.now c.args.object.now c.self.inside.count count (λ e. c.if-from-eq-MOST_OBJECTS.false (c.from.ensures ∙ e)) (λ e. c.if-object-len.true (omega (arith, e, dims)))

pub invariant_of-self : goal.invariant_of-self
invariant_of-self c =
    let few : c.self.inside.count < 16 = omega (arith, c.self.invariant.few, c.if-from-eq-MOST_OBJECTS.false, c.from.ensures) in
    let dims : length c.args.object.now ≡ length c.self.inside.weights.items = omega arith in
    let fits : IsVector (length c.self.inside.weights.items) c.args.object.now = record { one_each = dims; bytes = all_below 256 c.args.object.now (λ i. omega (arith, c.type_inv.object i)) } in
    let bytes = c.append.ensures.items in
    rw (bytes, c.append.ensures.room) (record {
      query = query_more c.self.inside.count c.self.inside.bytes.items c.args.object.now c.self.inside.weights.items c.self.invariant.query few c.self.invariant.filled fits;
      few = omega (arith, few);
      some_dims = c.self.invariant.some_dims;
      most_dims = c.self.invariant.most_dims;
      filled = omega (arith, length-append c.self.inside.bytes.items c.args.object.now, c.self.invariant.filled, dims);
      room = c.self.invariant.room;
    })

pub returns-clause-added : goal.returns-clause-added
returns-clause-added c =
    let dims : length c.args.object.now ≡ length c.self.inside.weights.items = omega arith in
    let more : objects_in (length c.self.inside.weights.items) (c.self.inside.count + 1) c.append.new.bytes.items ≡ objects_in (length c.self.inside.weights.items) c.self.inside.count c.self.inside.bytes.items ++ c.args.object.now ∷ [] =
    ap (objects_in (length c.self.inside.weights.items) (c.self.inside.count + 1)) c.append.ensures.items ∙ objects_more (length c.self.inside.weights.items) c.self.inside.count c.self.inside.bytes.items c.args.object.now c.self.invariant.filled dims in
    let with_objects : List (List ℕ) → distances.Query = λ objects. record { objects = objects; weights = c.self.inside.weights.items } in
    let one_more : distances.Query → distances.Query = λ query. record { objects = query.objects ++ c.args.object.now ∷ []; weights = query.weights } in
    ap with_objects more ∙ ap one_more c.self.view_is

pub returns-clause-ok : goal.returns-clause-ok
returns-clause-ok c =
    let count : length c.args.self.now.objects ≡ c.self.inside.count = ap (λ (query : distances.Query). length query.objects) (sym c.self.view_is) ∙ objects_count (length c.self.inside.weights.items) c.self.inside.count c.self.inside.bytes.items in
    let dims : length c.self.inside.weights.items ≡ length c.args.self.now.weights = ap (λ (query : distances.Query). length query.weights) c.self.view_is in
    right_length c.args.self.now c.args.object.now c.self.inside.count count (λ e. c.if-from-eq-MOST_OBJECTS.false (c.from.ensures ∙ e)) (omega (arith, dims))
