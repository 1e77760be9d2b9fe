use Rattle.std.proofs.Common.{◌≡◌, ◌<◌, ◌∷◌, ◌++◌, [], length, sym, ap, ◌∙◌, arith}
use Rattle.va_maker.specs.Kept.{Kept}
use Rattle.va_maker.proofs.KeptBytes.{kept_count, kept_more, room_taken}
use Rattle.va_maker.proofs.kept.KeptVectors.push.Goals as goal

pub returns-then-len-self-clause-vectors : goal.returns-then-len-self-clause-vectors
returns-then-len-self-clause-vectors c few =
    let count : length c.args.self.now.vectors ≡ length c.self.inside.places.items = ap (λ (kept : Kept). length kept.vectors) (sym c.self.view_is) ∙ kept_count c.self.inside.dims c.self.inside.places.items c.self.inside.bytes.items in
    let most : c.self.inside.most ≡ c.args.self.now.most = ap (λ (kept : Kept). kept.most) c.self.view_is in
    absurd (omega (arith, count, most, few, c.if-len-self.true, c.len.ensures))

pub invariant_of-self : goal.invariant_of-self
invariant_of-self c =
    let dims : length c.args.vector.now ≡ c.self.inside.dims = c.requires ∙ sym (ap (λ (kept : Kept). kept.dims) c.self.view_is) in
    let few : length c.self.inside.places.items < c.self.inside.most = omega (arith, c.self.invariant.few, c.if-len-self.false, c.len.ensures) in
    rw (c.push_reserved.ensures.items, c.append.ensures.items, c.push_reserved.ensures.capacity, c.append.ensures.room)
    (room_taken c.args.place c.args.vector.now c.self.invariant few dims)

pub returns-clause-vectors : goal.returns-clause-vectors
returns-clause-vectors c few =
    let dims : length c.args.vector.now ≡ c.self.inside.dims = c.requires ∙ sym (ap (λ (kept : Kept). kept.dims) c.self.view_is) in
    rw (c.push_reserved.ensures.items, c.append.ensures.items)
    (kept_more c.self.inside.dims c.self.inside.places.items c.self.inside.bytes.items c.args.place c.args.vector.now c.self.invariant.filled dims
    ∙ ap (λ (kept : Kept). kept.vectors ++ (c.args.place, c.args.vector.now) ∷ []) c.self.view_is)
