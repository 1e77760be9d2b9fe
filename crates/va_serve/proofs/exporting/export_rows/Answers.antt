use Rattle.std.proofs.Common.{◌<◌, ℕ, Option, Some, None, length, subst, arith}
use Rattle.va_core.specs.Above.{live_above}
use Rattle.va_requant.proofs.Advancing.{next_there}
use Rattle.va_store.specs.Ids.{IsNextLive}
use Rattle.va_store.specs.Known.{Known}
use Rattle.va_store.proofs.Finding.{live_if}
use Rattle.va_serve.proofs.RowsOut.{TriesRow, all_frame, all_given, all_stop, gives_up_to_next, gives_up_to_none}
use Rattle.va_serve.proofs.exporting.export_rows.Goals as goal
use Rattle.va_store.proofs.Handing.{handed_on}

pub loop-init : goal.loop-init
loop-init g c = gives_up_to_none c.requires.fits c.requires.length

pub unwrap-id-requires : goal.unwrap-id-requires
unwrap-id-requires g c =
    let so_far = c.loop.invariant in
    let less : c.loop.counter < length (live_above None c.args.store.now.ids) = omega (arith, c.requires.live) in
    next_there c.loop.after c.args.store.now.ids c.next_live.result c.loop.counter (live_above None c.args.store.now.ids)
    (subst (λ (k : Known). IsNextLive c.loop.after k.ids c.next_live.result) so_far.same c.next_live.ensures) so_far.left less

pub export_row-requires-clause-live : goal.export_row-requires-clause-live
export_row-requires-clause-live g c =
    let next : IsNextLive c.loop.after c.loop.store.ids (Some c.unwrap-id.result) =
    subst (λ (r : Option ℕ). IsNextLive c.loop.after c.loop.store.ids r) c.unwrap-id.ensures c.next_live.ensures in
    live_if c.unwrap-id.result next.0.0 c.loop.store.ids next.0.1

pub loop-preserved : goal.loop-preserved
loop-preserved g c =
    let next : IsNextLive c.loop.after c.loop.store.ids (Some c.unwrap-id.result) =
    subst (λ (r : Option ℕ). IsNextLive c.loop.after c.loop.store.ids r) c.unwrap-id.ensures c.next_live.ensures in
    let tried : TriesRow g.D.Storage c.loop.store c.unwrap-id.result c.loop.desk c.export_row.new.desk = record { frame = c.export_row.ensures.frame; later = c.export_row.ensures.later } in
    gives_up_to_next c.requires.law c.loop.invariant next tried c.in_ok-export_row.ensures.rows c.in_ok-export_row.ensures.stayed c.export_row.ensures.store c.export_row.auto.vector

pub returns-in_err-export_row-clause-stopped : goal.returns-in_err-export_row-clause-stopped
returns-in_err-export_row-clause-stopped g c =
    let next : IsNextLive c.loop.after c.loop.store.ids (Some c.unwrap-id.result) =
    subst (λ (r : Option ℕ). IsNextLive c.loop.after c.loop.store.ids r) c.unwrap-id.ensures c.next_live.ensures in
    let tried : TriesRow g.D.Storage c.loop.store c.unwrap-id.result c.loop.desk c.export_row.new.desk = record { frame = c.export_row.ensures.frame; later = c.export_row.ensures.later } in
    handed_on c.from_residual.result _ _ c.from_residual.ensures.1 (all_stop c.requires.law c.loop.invariant next tried _ c.in_err-export_row.ensures.stopped)

pub returns-in_err-export_row-clause-frame : goal.returns-in_err-export_row-clause-frame
returns-in_err-export_row-clause-frame g c =
    let next : IsNextLive c.loop.after c.loop.store.ids (Some c.unwrap-id.result) =
    subst (λ (r : Option ℕ). IsNextLive c.loop.after c.loop.store.ids r) c.unwrap-id.ensures c.next_live.ensures in
    let tried : TriesRow g.D.Storage c.loop.store c.unwrap-id.result c.loop.desk c.export_row.new.desk = record { frame = c.export_row.ensures.frame; later = c.export_row.ensures.later } in
    all_frame c.requires.law c.loop.invariant next tried

pub returns-clause-frame : goal.returns-clause-frame
returns-clause-frame g c = all_given c.loop.invariant (omega (arith, c.loop-test.false, c.requires.live))
