use Rattle.std.proofs.Common.{rules}
use Rattle.va_cert.specs.Reasons.{Accepts}
use Rattle.va_cert.proofs.Soundness.{accepted_is_sound}
use Rattle.va_cert.specs.Forms.{IsFormed}
use Rattle.va_check.proofs.Levels.{formed_by}
use Rattle.va_check.proofs.checking.check.Goals as goal

pub first_outside-requires : goal.first_outside-requires
first_outside-requires c = formed_by c.args.cert.now c.form_fault.result c.form_fault.ensures c.in_default.is

pub first_substitute_outside-requires : goal.first_substitute_outside-requires
first_substitute_outside-requires c = formed_by c.args.cert.now c.form_fault.result c.form_fault.ensures c.in_default.is

pub parts_of-requires : goal.parts_of-requires
parts_of-requires c = let f : IsFormed c.args.cert.now = formed_by c.args.cert.now c.form_fault.result c.form_fault.ensures c.in_default.is in f.query

pub gather-requires-clause-formed : goal.gather-requires-clause-formed
gather-requires-clause-formed c = formed_by c.args.cert.now c.form_fault.result c.form_fault.ensures c.in_default.is

pub first_needless-requires-clause-formed : goal.first_needless-requires-clause-formed
first_needless-requires-clause-formed c = formed_by c.args.cert.now c.form_fault.result c.form_fault.ensures c.in_default.is

pub returns-clause-sound : goal.returns-clause-sound
returns-clause-sound c = let a : Accepts c.args.cert.now = search rules in accepted_is_sound c.args.cert.now a
