-- The bytes of a source, piece by piece, and what they are judged.
use Rattle.std.proofs.Common.{◌≡◌, ◌≢◌, ℕ, ◌+◌, ◌<◌, ◌≤◌, List, ◌++◌, length, take, append_assoc, append-nil, refl, ap, sym, ◌∙◌, subst, arith}
use Rattle.std.proofs.lemmas.List.{length-append}
use Rattle.va_disk.specs.Told.{Takes, IsAtEnd}
use Rattle.va_cert.specs.declared.certificate.Certificate.{Certificate}
use Rattle.va_cert.specs.declared.fault.FormFault.TheVariants as faults
use Rattle.va_cert.specs.Sound.{IsSound}
use Rattle.va_cert.proofs.Soundness.{accepted_is_sound}
use Rattle.va_check.specs.Collecting.{Collects}
use Rattle.va_check.specs.Judging.{limit, Says, IsVerdict, Judges}
use Rattle.va_check.specs.declared.judged.Judged.{Judged}
use Rattle.va_check.specs.declared.judged.Judged.TheVariants.{Accepted, Refused, Unread, ReadFault, TooLong, Memory}
use Rattle.va_check.specs.declared.refusal.Refusal.TheVariants as refusals

pub takes_more : (told : Type 0) (old bytes part mid new : List ℕ) → Takes told old bytes mid → Takes told mid part new → Takes told old (bytes ++ part) new
takes_more told old bytes part mid new f g t = f t ∙ (ap (λ (l : List ℕ). bytes ++ l) (g t) ∙ sym (append_assoc bytes part new))

pub takes_all : (told : Type 0) (old bytes piece mid new : List ℕ) (left : ℕ) → Takes told old bytes mid → Takes told mid (take 0 piece) new → IsAtEnd told new → left + length bytes ≡ 33554432 → told → Collects old bytes new
takes_all told old bytes piece mid new left f g e room t = record {
  all = f t ∙ (ap (λ (l : List ℕ). bytes ++ l) (g t ∙ e t) ∙ append-nil bytes);
  few = omega (arith, room);
  end = e t;
}

pub takes_too_many : (told : Type 0) (old bytes part mid new : List ℕ) (n : ℕ) → Takes told old bytes mid → Takes told mid part new → length part ≡ n → 0 < n → length bytes ≡ 33554432 → told → limit < length old
takes_too_many told old bytes part mid new n f g l some full t =
    let e : length old ≡ length bytes + (length part + length new) = ap (λ (xs : List ℕ). length xs) (f t ∙ ap (λ (xs : List ℕ). bytes ++ xs) (g t)) ∙ (length-append bytes (part ++ new) ∙ ap (λ (n : ℕ). length bytes + n) (length-append part new)) in
    omega (arith, e, l, some, full)

-- what the bytes are judged is what the source is judged
pub judges_whole : (v : Judged) (old bytes new : List ℕ) → Collects old bytes new → IsVerdict v bytes → Judges v old new
judges_whole Accepted old bytes new c h = (subst (λ (l : List ℕ). length l ≤ limit) (sym c.all) c.few, c.end, subst (IsVerdict Accepted) (sym c.all) h)
judges_whole (Refused refusal) old bytes new c h = (subst (λ (l : List ℕ). length l ≤ limit) (sym c.all) c.few, c.end, subst (IsVerdict (Refused refusal)) (sym c.all) h)
judges_whole (Unread fault) old bytes new c h = (subst (λ (l : List ℕ). length l ≤ limit) (sym c.all) c.few, c.end, subst (IsVerdict (Unread fault)) (sym c.all) h)
judges_whole ReadFault old bytes new c h = absurd h
judges_whole TooLong old bytes new c h = absurd h
judges_whole Memory old bytes new c h = tt

pub judges_soundly : (v : Judged) (old bytes new : List ℕ) → Collects old bytes new → IsVerdict v bytes → v ≡ Accepted → (c : Certificate) × Says old c × IsSound c
judges_soundly v old bytes new c h is =
    let a : IsVerdict Accepted old = subst (IsVerdict Accepted) (sym c.all) (subst (λ (w : Judged). IsVerdict w bytes) is h) in
    (a.0, a.1, accepted_is_sound a.0 a.2)

pub never_unread : (v : Judged) (bytes : List ℕ) → IsVerdict v bytes → v ≢ Unread faults.Memory
never_unread v bytes h is = let a : IsVerdict (Unread faults.Memory) bytes = subst (λ (w : Judged). IsVerdict w bytes) is h in a.1 refl

pub never_refused : (v : Judged) (bytes : List ℕ) → IsVerdict v bytes → v ≢ Refused refusals.Memory
never_refused v bytes h is = let a : IsVerdict (Refused refusals.Memory) bytes = subst (λ (w : Judged). IsVerdict w bytes) is h in a.3 refl

pub never_read_fault : (v : Judged) (bytes : List ℕ) → IsVerdict v bytes → v ≢ ReadFault
never_read_fault v bytes h is = let a : IsVerdict ReadFault bytes = subst (λ (w : Judged). IsVerdict w bytes) is h in a
