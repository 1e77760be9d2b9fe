-- What a source is judged.
use Rattle.std.specs.Prelude.{◌≡◌, ◌≢◌, ◌⊎◌, ℕ, ◌^◌, ◌<◌, ◌≤◌, List, [], ◌++◌, length, take, drop, codes, bytes_eq, if◌then◌else◌}
use Rattle.std.specs.List.{AllByRecursion}
use Rattle.va_core.specs.Distance.{Query}
use Rattle.va_core.specs.Places.{Item}
use Rattle.va_cert.specs.declared.certificate.Certificate.{Certificate}
use Rattle.va_cert.specs.declared.fault.FormFault.TheVariants as faults
use Rattle.va_cert.specs.Made.{AreOfShape, cert}
use Rattle.va_cert.specs.Reads.{reading, certificate, IsFaultOf}
use Rattle.va_cert.specs.Reasons.{Accepts}
use Rattle.va_cert.specs.Text.{text_of, Fits}
use Rattle.va_check.specs.declared.judged.Judged.{Judged}
use Rattle.va_check.specs.declared.judged.Judged.TheVariants as judged
use Rattle.va_check.specs.declared.refusal.Refusal.TheVariants as refusals
use Rattle.va_check.specs.Says.{IsReason}

-- how many bytes are taken at most
abbrev pub limit : ℕ
limit = 33554432

-- the text behind `cert `, where these five bytes stand first
abbrev pub text_in : List ℕ → List ℕ
text_in bytes = if bytes_eq (take 5 bytes) (codes "cert ") then drop 5 bytes else bytes

-- the bytes are a certificate's text
abbrev pub Says : List ℕ → Certificate → Type 0
Says bytes c = reading (text_in bytes) ≡ certificate c

-- what bytes are judged; want of memory says nothing
abbrev pub IsVerdict : Judged → List ℕ → Type 0
IsVerdict judged.Accepted bytes = (c : Certificate) × Says bytes c × Accepts c
IsVerdict (judged.Refused refusal) bytes = (c : Certificate) × Says bytes c × IsReason refusal c × (refusal ≢ refusals.Memory)
IsVerdict (judged.Unread fault) bytes = IsFaultOf fault (reading (text_in bytes)) × (fault ≢ faults.Memory)
IsVerdict judged.ReadFault bytes = ⊥
IsVerdict judged.TooLong bytes = ⊥
IsVerdict judged.Memory bytes = Unit {0}

-- all bytes that were left were taken, and they are judged so
abbrev pub JudgesWhole : Judged → List ℕ → List ℕ → Type 0
JudgesWhole verdict old new = (length old ≤ limit) × (new ≡ []) × IsVerdict verdict old

-- what was left, and what is left now, where the source is judged so
abbrev pub Judges : Judged → List ℕ → List ℕ → Type 0
Judges judged.Accepted old new = JudgesWhole judged.Accepted old new
Judges (judged.Refused refusal) old new = JudgesWhole (judged.Refused refusal) old new
Judges (judged.Unread fault) old new = JudgesWhole (judged.Unread fault) old new
Judges judged.ReadFault old new = Unit {0}
Judges judged.TooLong old new = limit < length old
Judges judged.Memory old new = Unit {0}

-- the reply to `cert`
abbrev pub reply_of : Certificate → List ℕ
reply_of c = codes "cert " ++ text_of c

-- the text of an accepted certificate behind `cert ` is judged accepted, where memory is found
abbrev pub AcceptedIsJudged : Type 0
AcceptedIsJudged = (c : Certificate) → Fits c → Accepts c → (v : Judged) → IsVerdict v (reply_of c) →
    (v ≡ judged.Accepted) ⊎ (v ≡ judged.Memory)

-- The reply with this certificate isn't too long, and its bytes are judged accepted, where memory is found. So is a source
-- that has them left, where no call of it failed.
pub record IsJudgedAccepted (c : Certificate) : Type 0 where
  pub short : length (reply_of c) ≤ limit
  pub bytes : (v : Judged) → IsVerdict v (reply_of c) → (v ≡ judged.Accepted) ⊎ (v ≡ judged.Memory)
  pub source : (v : Judged) (new : List ℕ) → Judges v (reply_of c) new →
      (v ≡ judged.Accepted) ⊎ (v ≡ judged.Memory) ⊎ (v ≡ judged.ReadFault)

-- that is so of the certificate of a search over ids below 2^32
abbrev pub MadeIsJudged : Type 0
MadeIsJudged = (dims : ℕ) (items : List Item) (marks : List (List ℕ)) (query : Query) (k : ℕ) →
    AreOfShape dims items marks query k → AllByRecursion (λ (item : Item). item.id < 2 ^ 32) items →
    IsJudgedAccepted (cert items marks query k)
