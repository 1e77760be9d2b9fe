use Rattle.std.proofs.Common.{◌≡◌, None, Option, Some, sym, ◌∙◌}
use Rattle.std.proofs.lemmas.List.{take-replicate}
use Rattle.va_dist.specs.declared.fault.QueryFault.{QueryFault}
use Rattle.va_lang.specs.SaidCommand.{query_in}
use Rattle.va_serve.proofs.Queries.{further_fits, further_taken}
use Rattle.va_serve.proofs.query.query_of.Goals as goal

pub weights_in-weights-requires : goal.weights_in-weights-requires
weights_in-weights-requires c = rw c.from.ensures (take-replicate c.args.dims 256 1 c.requires.most_dims)

pub unreachable-requires : goal.unreachable-requires
unreachable-requires c =
    let none = further_fits c.args.dims c.loop-i.i (query_in c.args.room.now) c.loop-i.invariant c.object-in-loop-i.ensures c.requires.fits in
    let fault = c.in-Err.ensures.err in
    let both : ◌≡◌ {A = Option QueryFault} None (Some c.in-Err.field-0) = sym none ∙ fault in
    cc

pub loop-i-preserved : goal.loop-i-preserved
loop-i-preserved c = further_taken c.args.dims c.loop-i.i (query_in c.args.room.now) c.loop-i.invariant c.object-in-loop-i.ensures c.in-Ok-add.ensures.added
