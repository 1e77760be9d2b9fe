-- Answers that are handed on.
use Rattle.std.proofs.Common.{◌≡◌, ℕ, Result, Ok, Err, IfOk, IfErr, IsErr, IsErrAnd, ◌∙◌, subst}
use Rattle.va_disk.specs.Causes.{Rose}
use Rattle.va_disk.specs.Frames.{DiskFailsAs}
use Rattle.va_disk.specs.declared.storage.Storage.{Ghosts}

-- the error that a call hands on
pub handed_on : {T E : Type 0} (r : Result T E) (why : E) (P : E → Type 0) → IsErrAnd r (λ other. other ≡ why) → P why → IfErr r P
handed_on (Ok x) why P is holds = tt
handed_on (Err other) why P is holds = rw is holds

pub if_ok : {T E : Type 0} (r : Result T E) {P Q : T → Type 0} → IfOk r P → ((x : T) → P x → Q x) → IfOk r Q
if_ok (Ok x) p f = f x p
if_ok (Err e) p f = tt

pub if_err : {T E : Type 0} (r : Result T E) {P Q : E → Type 0} → IfErr r P → ((why : E) → P why → Q why) → IfErr r Q
if_err (Ok x) p f = tt
if_err (Err e) p f = f e p

pub no_value : {T E : Type 0} (r : Result T E) (P : T → Type 0) → IsErr r → IfOk r P
no_value (Ok x) P is = cc
no_value (Err e) P is = tt

pub handed_and : {T E : Type 0} (r : Result T E) (why : E) (P : E → Type 0) → IsErrAnd r (λ other. other ≡ why) → P why → IsErrAnd r P
handed_and (Ok x) why P is holds = is
handed_and (Err other) why P is holds = rw is holds

-- what follows from four facts of a value
pub if_oks : {T E : Type 0} (r : Result T E) {P Q R S U : T → Type 0} → IfOk r P → IfOk r Q → IfOk r R → IfOk r S → ((x : T) → P x → Q x → R x → S x → U x) → IfOk r U
if_oks (Ok x) p q r s f = f x p q r s
if_oks (Err e) p q r s f = tt

-- the cause of an error that a call hands on, where no call of the disk failed before
pub cause_on : {D T U E : Type 0} (g : Ghosts D) (fault : E) {start old new : D} (handed : Result U E) (why : E) → IsErrAnd handed (λ other. other ≡ why) → g.faults old ≡ g.faults start
    → DiskFailsAs {T = T} g fault old new (Err why) → DiskFailsAs g fault start new handed
cause_on g fault (Ok x) why same stayed cause = absurd same
cause_on g fault {start} {old} {new} (Err other) why same stayed cause = record {
  rose = λ e. subst (λ (n : ℕ). Rose n (g.faults new)) stayed (cause.rose (cc));
  stayed = λ ne. cause.stayed (λ e. ne (cc)) ∙ stayed;
}
