-- The text of an accepted certificate is judged accepted.
use Rattle.std.proofs.Common.{◌≡◌, ◌≢◌, ◌++◌, codes, refl, sym, ◌∙◌, subst, inl, inr}
use Rattle.va_cert.specs.declared.certificate.Certificate.{Certificate}
use Rattle.va_cert.specs.declared.fault.FormFault.{FormFault}
use Rattle.va_cert.specs.declared.fault.FormFault.TheVariants as faults
use Rattle.va_cert.specs.Reads.{Reading, certificate, reading, IsFaultOf}
use Rattle.va_cert.specs.Reasons.{Accepts}
use Rattle.va_cert.specs.Text.{text_of, Fits}
use Rattle.va_cert.proofs.Meaning.{reads_back}
use Rattle.va_check.specs.Judging.{text_in, AcceptedIsJudged}
use Rattle.va_check.specs.Says.{IsReason}
use Rattle.va_check.specs.declared.judged.Judged.TheVariants.{Accepted, Refused, Unread, ReadFault, TooLong, Memory}
use Rattle.va_check.specs.declared.refusal.Refusal.{Refusal}
use Rattle.va_check.specs.declared.refusal.Refusal.TheVariants as refusals

line_read : (c : Certificate) → Fits c → reading (text_in (codes "cert " ++ text_of c)) ≡ certificate c
line_read c fits = reads_back c fits

same_certificate : (c d : Certificate) → certificate c ≡ certificate d → c ≡ d
same_certificate c d h = cc

no_reason : (refusal : Refusal) (c : Certificate) → Accepts c → IsReason refusal c → refusal ≢ refusals.Memory → ⊥
no_reason (refusals.Form part) c a r m = cc
no_reason (refusals.Outside id) c a r m = cc
no_reason (refusals.SubOutside id) c a r m = cc
no_reason (refusals.Answer position) c a r m = cc
no_reason (refusals.Undetermined id) c a r m = cc
no_reason (refusals.Needless id) c a r m = cc
no_reason refusals.Memory c a r m = m refl

no_fault : (fault : FormFault) (c : Certificate) (r : Reading) → r ≡ certificate c → IsFaultOf fault r → fault ≢ faults.Memory → ⊥
no_fault faults.Text c r is f m = cc
no_fault faults.Object c r is f m = cc
no_fault faults.Number c r is f m = cc
no_fault faults.Memory c r is f m = m refl

pub accepted_is_judged : AcceptedIsJudged
accepted_is_judged c fits a Accepted h = inl refl
accepted_is_judged c fits a (Refused refusal) h =
    let same : h.0 ≡ c = same_certificate h.0 c (sym h.1 ∙ line_read c fits) in
    absurd (no_reason refusal c a (subst (IsReason refusal) same h.2) h.3)
accepted_is_judged c fits a (Unread fault) h = absurd (no_fault fault c (reading (text_in (codes "cert " ++ text_of c))) (line_read c fits) h.0 h.1)
accepted_is_judged c fits a ReadFault h = absurd h
accepted_is_judged c fits a TooLong h = absurd h
accepted_is_judged c fits a Memory h = inr refl
