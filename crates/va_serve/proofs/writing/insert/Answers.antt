use Rattle.std.proofs.Common.{◌≡◌, ◌∙◌, ℕ, Some, ap, refl, sym, subst}
use Rattle.va_lang.specs.declared.reply.Why.TheVariants as Why
use Rattle.va_lang.specs.Command.{insert}
use Rattle.va_serve.specs.Promises.{of_command}
use Rattle.va_serve.specs.Session.{with_store}
use Rattle.va_serve.proofs.Holding.{HoldBack}
use Rattle.va_serve.proofs.Outcomes.{reads_none}
use Rattle.va_serve.proofs.Refusing.{insert_carries, the_reason}
use Rattle.va_store.specs.declared.faults.InsertFault.TheVariants as faults
use Rattle.va_serve.proofs.Stored.{insert_puts, insert_stays, put_carries, put_stays, put_survives}
use Rattle.va_layout.specs.Stands.{with_place}
use Rattle.va_store.specs.Known.{Becomes, first_free}
use Rattle.va_store.specs.Refusals.{insert_refusal}
use Rattle.va_serve.proofs.writing.insert.Goals as goal

pub returns-in-Ok-clause-obeys : goal.returns-in-Ok-clause-obeys
returns-in-Ok-clause-obeys g c = λ lent cursors shapes counts.
    let back : HoldBack c.args.store.now.shape cursors c.args.held.now = record { shapes = shapes; numbered = c.requires.held; counts = counts } in
    let D = g.D.Storage in
    let e = c.in-Ok.ensures in
    let held = c.args.store.now in
    let vector = c.args.vector.now in
    let p = first_free held.ids c.args.held.now in
    let reason = insert_refusal held c.args.id vector c.args.held.now in
    put_carries (insert_puts held c.args.id vector c.in-Ok.place back e.ok.1 e.ok.0) D c.args.disk.now c.insert.new.disk c.insert.new.self
    e.ok.2 (λ told. (c.insert.ensures.fits.known_in told (ap (λ known. known.broken) e.ok.2 ∙ c.requires.fits.1)).selected) (subst (λ (place : ℕ). Becomes D held (with_place place (Some (record { id = c.args.id; vector = vector }))) c.args.disk.now c.insert.new.disk) (sym e.ok.1) e.stands)
    (insert_stays D held c.args.disk.now c.insert.new.disk back e.held) e.frame.reads (g.met.D.Disk.is_outcome c.args.disk.now) e.durable
    (put_survives reason (λ free. insert_puts held c.args.id vector p back refl free) D c.args.disk.now c.insert.new.disk (λ why is. (e.refused why is).2) e.frame)

pub returns-in-Err-Disk-clause-obeys : goal.returns-in-Err-Disk-clause-obeys
returns-in-Err-Disk-clause-obeys g c = λ lent cursors shapes counts.
    let back : HoldBack c.args.store.now.shape cursors c.args.held.now = record { shapes = shapes; numbered = c.requires.held; counts = counts } in
    let D = g.D.Storage in
    let e = c.insert.ensures in
    let held = c.args.store.now in
    let vector = c.args.vector.now in
    let p = first_free held.ids c.args.held.now in
    let reason = insert_refusal held c.args.id vector c.args.held.now in
    record {
      read = reads_none D c.args.disk.now c.insert.new.disk (of_command (insert c.args.id vector)) (with_store cursors held) e.frame.reads;
      stays = put_stays reason (λ free. insert_puts held c.args.id vector p back refl free) D c.args.disk.now c.insert.new.disk (λ why is. (e.refused why is).2);
      moments = put_survives reason (λ free. insert_puts held c.args.id vector p back refl free) D c.args.disk.now c.insert.new.disk (λ why is. (e.refused why is).2) e.frame;
    }

pub returns-in-Err-Length-clause-obeys : goal.returns-in-Err-Length-clause-obeys
returns-in-Err-Length-clause-obeys g c = λ lent cursors shapes counts.
    let back : HoldBack c.args.store.now.shape cursors c.args.held.now = record { shapes = shapes; numbered = c.requires.held; counts = counts } in
    let e = c.in-Err-Length.ensures in
    let refused : insert_refusal c.args.store.now c.args.id c.args.vector.now c.args.held.now ≡ Some faults.Length = the_reason _ _ (λ none. let r = (e.err none).0 in cc) (λ why some. let r = (e.refused why some).0 in cc) in
    let same = e.refused _ refused in
    insert_carries g.D.Storage _ _ same.2 c.args.store.now _ c.args.id c.args.vector.now faults.Length Why.Length refl back refused same.1

pub returns-in-Err-Duplicate-clause-obeys : goal.returns-in-Err-Duplicate-clause-obeys
returns-in-Err-Duplicate-clause-obeys g c = λ lent cursors shapes counts.
    let back : HoldBack c.args.store.now.shape cursors c.args.held.now = record { shapes = shapes; numbered = c.requires.held; counts = counts } in
    let e = c.in-Err-Duplicate.ensures in
    let refused : insert_refusal c.args.store.now c.args.id c.args.vector.now c.args.held.now ≡ Some (faults.Duplicate c.in-Err-Duplicate.field-0-0) = the_reason _ _ (λ none. let r = (e.err none).0 in cc) (λ why some. let r = (e.refused why some).0 in cc) in
    let same = e.refused _ refused in
    insert_carries g.D.Storage _ _ same.2 c.args.store.now _ c.args.id c.args.vector.now (faults.Duplicate c.in-Err-Duplicate.field-0-0) Why.Duplicate refl back refused same.1

pub returns-in-Err-Full-clause-obeys : goal.returns-in-Err-Full-clause-obeys
returns-in-Err-Full-clause-obeys g c = λ lent cursors shapes counts.
    let back : HoldBack c.args.store.now.shape cursors c.args.held.now = record { shapes = shapes; numbered = c.requires.held; counts = counts } in
    let e = c.in-Err-Full.ensures in
    let refused : insert_refusal c.args.store.now c.args.id c.args.vector.now c.args.held.now ≡ Some faults.Full = the_reason _ _ (λ none. let r = (e.err none).0 in cc) (λ why some. let r = (e.refused why some).0 in cc) in
    let same = e.refused _ refused in
    insert_carries g.D.Storage _ _ same.2 c.args.store.now _ c.args.id c.args.vector.now faults.Full Why.Full refl back refused same.1
