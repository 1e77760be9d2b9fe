-- What comes of a certificate that was made: its text is replied, or there was no memory for it.
use Rattle.std.proofs.Common.{◌≡◌, inl, inr, ℕ, List, None, Option, Ok, refl, sym, ap, subst, ◌∙◌}
use Rattle.va_cert.specs.declared.certificate.Certificate.{Certificate}
use Rattle.va_core.specs.Distance.{Query}
use Rattle.va_cursor.specs.Cursors.{Cursor}
use Rattle.va_disk.specs.declared.storage.Storage.{Ghosts}
use Rattle.va_lang.specs.Command.{Command}
use Rattle.va_lang.specs.declared.reply.Why.{Why}
use Rattle.va_model.specs.Memory.{wants_memory}
use Rattle.va_search.specs.Searched.{Searched, at_any_time}
use Rattle.va_search.specs.Sought.{certificate_sought}
use Rattle.va_serve.specs.Answers.{IsTextOf, said_answer}
use Rattle.va_serve.specs.Promises.{Carries, of_command}
use Rattle.va_serve.specs.Session.{Lent, with_store}
use Rattle.va_serve.specs.declared.answer.Answer.{Answer}
use Rattle.va_serve.proofs.Asking.{cert_reply, cert_says}
use Rattle.va_serve.proofs.Seeking.{IsSearch, reply_lacks, search_carries}
use Rattle.va_store.specs.Known.{Known}

module _ {D : Type 0} {g : Ghosts D} {command : Command} {held held' : Known} {reason : Option Why} {query : Query} {k : ℕ} {old new : D} (cursors : List (Option Cursor))
    (search : IsSearch command held reason at_any_time query (certificate_sought query k) (cert_reply query k)) (free : reason ≡ None)
    {made : Certificate} (did : Searched g at_any_time query (certificate_sought query k) held held' old new (Ok made)) (lent : Lent) (answer : Answer) where
  pub certificate_carries : IsTextOf made answer → Carries g (of_command command) (with_store cursors held) (with_store cursors held') old new (said_answer answer lent)
  certificate_carries (inl says) = search_carries cursors search free did (said_answer answer lent) (ap wants_memory (says lent)) (λ store is finds. says lent ∙ cert_says query k store made finds)
  certificate_carries (inr none) = subst (λ (a : Answer). Carries g (of_command command) (with_store cursors held) (with_store cursors held') old new (said_answer a lent)) (sym none) (reply_lacks cursors search free did refl)
