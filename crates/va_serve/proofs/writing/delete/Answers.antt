use Rattle.std.proofs.Common.{◌≡◌, ◌∙◌, ℕ, None, Some, ap, refl, sym, subst}
use Rattle.va_lang.specs.declared.reply.Why.TheVariants as Why
use Rattle.va_lang.specs.Command.{delete}
use Rattle.va_serve.specs.Promises.{of_command}
use Rattle.va_serve.specs.Session.{with_store}
use Rattle.va_serve.proofs.Outcomes.{reads_none}
use Rattle.va_serve.proofs.Refusing.{delete_carries, the_reason}
use Rattle.va_store.specs.declared.faults.DeleteFault.TheVariants as faults
use Rattle.va_serve.proofs.Stored.{delete_puts, delete_stays, put_carries, put_stays, put_survives}
use Rattle.va_layout.specs.Stands.{with_place}
use Rattle.va_store.specs.Known.{Becomes, place_of_id}
use Rattle.va_store.specs.Refusals.{delete_refusal}
use Rattle.va_serve.proofs.writing.delete.Goals as goal

pub returns-in-Ok-clause-obeys : goal.returns-in-Ok-clause-obeys
returns-in-Ok-clause-obeys g c = λ lent cursors shapes.
    let D = g.D.Storage in
    let e = c.in-Ok.ensures in
    let held = c.args.store.now in
    let p = place_of_id c.args.id held.ids in
    put_carries (delete_puts cursors held c.args.id c.in-Ok.place e.ok.1 e.ok.0) D c.args.disk.now c.delete.new.disk c.delete.new.self
    e.ok.2 (λ told. (c.delete.ensures.fits.known_in told (ap (λ known. known.broken) e.ok.2 ∙ c.requires.fits.1)).selected) (subst (λ (place : ℕ). Becomes D held (with_place place None) c.args.disk.now c.delete.new.disk) (sym e.ok.1) e.stands)
    (delete_stays D cursors held c.args.id c.args.disk.now c.delete.new.disk shapes e.ok.0 e.rest) e.frame.reads (g.met.D.Disk.is_outcome c.args.disk.now) e.durable
    (put_survives (delete_refusal held c.args.id) (λ free. delete_puts cursors held c.args.id p refl free) D c.args.disk.now c.delete.new.disk (λ why is. (e.refused why is).2) e.frame)

pub returns-in-Err-Disk-clause-obeys : goal.returns-in-Err-Disk-clause-obeys
returns-in-Err-Disk-clause-obeys g c = λ lent cursors shapes.
    let D = g.D.Storage in
    let e = c.delete.ensures in
    let held = c.args.store.now in
    let p = place_of_id c.args.id held.ids in
    record {
      read = reads_none D c.args.disk.now c.delete.new.disk (of_command (delete c.args.id)) (with_store cursors held) e.frame.reads;
      stays = put_stays (delete_refusal held c.args.id) (λ free. delete_puts cursors held c.args.id p refl free) D c.args.disk.now c.delete.new.disk (λ why is. (e.refused why is).2);
      moments = put_survives (delete_refusal held c.args.id) (λ free. delete_puts cursors held c.args.id p refl free) D c.args.disk.now c.delete.new.disk (λ why is. (e.refused why is).2) e.frame;
    }

pub returns-in-Err-Unknown-clause-obeys : goal.returns-in-Err-Unknown-clause-obeys
returns-in-Err-Unknown-clause-obeys g c = λ lent cursors shapes.
    let e = c.in-Err-Unknown.ensures in
    let refused : delete_refusal c.args.store.now c.args.id ≡ Some faults.Unknown = the_reason _ _ (λ none. let r = (e.err none).0 in cc) (λ why some. let r = (e.refused why some).0 in cc) in
    let same = e.refused _ refused in
    delete_carries g.D.Storage _ _ same.2 cursors c.args.store.now _ c.args.id faults.Unknown Why.Unknown refl refused same.1
