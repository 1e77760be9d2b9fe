-- What a command's answer says, before it is given.
use Rattle.std.specs.Prelude.{◌≡◌, ◌⊎◌, slice_set, List, ℕ, Option, None, Some, Bool, true, false, Result, Ok, Err}
use Rattle.va_cert.specs.Text.{text_of}
use Rattle.va_cert.specs.declared.certificate.Certificate.{Certificate}
use Rattle.va_core.specs.declared.pair.Pair.{Pair}
use Rattle.va_cursor.specs.Cursors.{Cursor}
use Rattle.va_lang.specs.Command.{Command, create, insert, delete, get, stat, marks, knn, ssa, range, «open», next, close, requant, convert, cert}
use Rattle.va_lang.specs.Reply as replies
use Rattle.va_layout.specs.Stands.{progress_of}
use Rattle.va_lang.specs.Reply.{Reply}
use Rattle.va_lang.specs.declared.reply.Why.TheVariants as Why
use Rattle.va_lang.specs.declared.reply.Why.TheVariants.{Memory, NoStore}
use Rattle.va_search.specs.declared.fault.StoreSearchFault.{StoreSearchFault}
use Rattle.va_search.specs.declared.fault.StoreSearchFault.TheVariants as searching
use Rattle.va_serve.specs.Held.{count_open, is_open_at}
use Rattle.va_serve.specs.Session.{Lent}
use Rattle.va_store.specs.Known.{Known}
use Rattle.va_store.specs.Ids.{live_count}
use Rattle.va_serve.specs.declared.answer.Answer.{Answer}
use Rattle.va_serve.specs.declared.answer.Answer.TheVariants as answers
use Rattle.va_serve.specs.declared.answer.CommandFault.{CommandFault}
use Rattle.va_serve.specs.declared.answer.CommandFault.TheVariants as faults
use Rattle.va_serve.specs.declared.status.Status.{Status}
use Rattle.va_serve.specs.declared.status.Status.TheVariants as statuses

-- the marks of a store; there are none without one
abbrev pub marks_reply : Option (List (List ℕ)) → Reply
marks_reply None = replies.error NoStore
marks_reply (Some rows) = replies.marks rows

-- the reply that an answer stands for, with what it lends
abbrev pub said_answer : Answer → Lent → Reply
said_answer answers.Created lent = replies.created
said_answer (answers.Placed place) lent = replies.placed place
said_answer (answers.Deleted place) lent = replies.deleted place
said_answer answers.Vector lent = replies.vector lent.vector
said_answer (answers.Stat shape live cursors building) lent = replies.stat shape live cursors building
said_answer answers.Marks lent = marks_reply lent.marks
said_answer (answers.Near pairs fetched candidates live) lent = replies.near pairs fetched candidates live
said_answer (answers.Scanned pairs fetched live) lent = replies.scanned pairs fetched live
said_answer (answers.Within pairs fetched live) lent = replies.within pairs fetched live
said_answer (answers.Opened live) lent = replies.opened live
said_answer (answers.Next pair fetched) lent = replies.next_pair pair fetched
said_answer answers.End lent = replies.at_end
said_answer answers.Closed lent = replies.closed
said_answer (answers.Begun live) lent = replies.begun live
said_answer (answers.More done left) lent = replies.more_left done left
said_answer (answers.Switched done) lent = replies.switched done
said_answer (answers.Certificate text) lent = replies.cert text
said_answer (answers.Refused why) lent = replies.error why

-- the answer is the text of the certificate, or that there was no memory for it
abbrev pub IsTextOf : Certificate → Answer → Type 0
IsTextOf made answer = ((lent : Lent) → said_answer answer lent ≡ replies.cert (text_of made)) ⊎ (answer ≡ answers.Refused Memory)

-- what is answered where a search failed: want of memory is a refusal, and each other fault ends the run
abbrev pub fault_answer : StoreSearchFault → Result Answer CommandFault
fault_answer searching.Memory = Ok (answers.Refused Memory)
fault_answer searching.Disk = Err faults.Disk
fault_answer (searching.Mismatch place dist low high) = Err (faults.Mismatch place dist low high)
fault_answer (searching.Changed place) = Err (faults.Changed place)

-- what is answered to a line that asks a cursor for its next pair
abbrev pub next_answer : Result (Option Pair) StoreSearchFault → ℕ → Result Answer CommandFault
next_answer (Ok None) fetched = Ok answers.End
next_answer (Ok (Some pair)) fetched = Ok (answers.Next pair fetched)
next_answer (Err fault) fetched = fault_answer fault

-- the status of a run that a command ends
abbrev pub fault_status : CommandFault → Status
fault_status faults.Disk = statuses.DiskFault
fault_status (faults.Mismatch place dist low high) = statuses.Mismatch place dist low high
fault_status (faults.Changed place) = statuses.Changed place

-- the reply to a question what is there
abbrev pub stat_reply : Known → List (Option Cursor) → Reply
stat_reply held cursors = replies.stat held.shape (live_count held.ids) (count_open cursors) (progress_of held.building)

-- the reply to a line that closes a cursor, by whether it is open
abbrev pub closed_reply : Bool → Reply
closed_reply true = replies.closed
closed_reply false = replies.error Why.Cursor

-- The cursor of this name is gone, and that is answered, or that none was open.
pub record Closes (name : ℕ) (lent : Lent) (before after : List (Option Cursor)) (answer : Answer) : Type 0 where
  pub reply : said_answer answer lent ≡ closed_reply (is_open_at name before)
  pub gone : after ≡ slice_set before name None

abbrev pub is_create : Command → Bool
is_create (create dims bits capacity) = true
is_create (insert id vector) = false
is_create (delete id) = false
is_create (get id) = false
is_create stat = false
is_create marks = false
is_create (knn k query) = false
is_create (ssa k query) = false
is_create (range radius query) = false
is_create («open» name query) = false
is_create (next name) = false
is_create (close name) = false
is_create requant = false
is_create (convert n) = false
is_create (cert k query) = false
