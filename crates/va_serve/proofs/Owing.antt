-- What a command owes, by its kind: whether it writes, reads, searches or asks a cursor.
use Rattle.std.proofs.Common.{◌≡◌, ℕ, true, false, None, Some, Result, Ok, refl, sym, subst, ◌∙◌}
use Rattle.va_core.specs.Distance.{Query}
use Rattle.va_disk.proofs.Frames.{reads_nothing}
use Rattle.va_disk.specs.Frames.{OnlyReads}
use Rattle.va_disk.specs.declared.storage.Storage.{Ghosts}
use Rattle.va_lang.specs.Command.{Command, next}
use Rattle.va_layout.specs.Stands.{Kept}
use Rattle.va_model.specs.Step.{cursor_asked, is_writing, query_asked}
use Rattle.va_serve.proofs.Bounds.{bounds_nothing, bounds_unasked, held_nothing, held_unasked, no_more_asked, no_more_next, no_more_unread}
use Rattle.va_serve.specs.Bounds.{KeepsBounds, KeepsHeldBounds, ReadsNoMore, UnlessBroken}
use Rattle.va_serve.specs.Owing.{Owes}
use Rattle.va_serve.specs.Promises.{Asked, Obeys, ReadsUnless, asked_by}
use Rattle.va_serve.specs.Session.{Lent, Sitting}
use Rattle.va_serve.specs.declared.answer.Answer.{Answer}
use Rattle.va_serve.specs.declared.answer.CommandFault.{CommandFault}

-- it has no query, and asks no cursor
pub record AsksNothing (command : Command) : Type 0 where
  pub no_query : (kept : Kept) → query_asked command kept ≡ None
  pub no_cursor : cursor_asked command ≡ None

-- it has a query, whatever is kept, and asks no cursor
pub record Searches (command : Command) : Type 0 where
  pub query : (kept : Kept) → (q : Query) × (query_asked command kept ≡ Some q)
  pub no_cursor : cursor_asked command ≡ None

module _ {D : Type 0} (g : Ghosts D) where
  -- the same command in other words
  pub owes_as : {asked command : Command} {lent : Lent} {sitting sitting' : Sitting} {old new : D} {result : Result Answer CommandFault} → asked ≡ command
      → Owes g (asked_by command) lent sitting sitting' old new result → Owes g (asked_by asked) lent sitting sitting' old new result
  owes_as {asked} {command} {lent} {sitting} {sitting'} {old} {new} {result} is owes = subst (λ (c : Command). Owes g (asked_by c) lent sitting sitting' old new result) (sym is) owes

  module _ {lent : Lent} {sitting sitting' : Sitting} {old new : D} (result : Result Answer CommandFault) (command : Command) where
    pub owes_plain : AsksNothing command → Obeys g (asked_by command) lent sitting sitting' old new result → ReadsNoMore g (asked_by command) sitting old new → ReadsUnless g (is_writing command) old new
        → Owes g (asked_by command) lent sitting sitting' old new result
    owes_plain asks obeys others unwritten = record {
      obeys = obeys;
      bounds = bounds_unasked g result (query_asked command) sitting old new asks.no_query;
      held = held_unasked g result (cursor_asked command) sitting old new asks.no_cursor;
      others = others;
      unwritten = unwritten;
    }

    -- it writes, and reads no vector
    pub owes_unread : AsksNothing command → is_writing command ≡ true → Obeys g (asked_by command) lent sitting sitting' old new result → g.reads new ≡ g.reads old
        → Owes g (asked_by command) lent sitting sitting' old new result
    owes_unread asks writes obeys same = owes_plain asks obeys (no_more_unread g (asked_by command) sitting old new same) (λ reading. absurd (let wrong : true ≡ false = sym writes ∙ reading in cc))

    -- it writes, and reads some
    pub owes_writing : AsksNothing command → is_writing command ≡ true → Obeys g (asked_by command) lent sitting sitting' old new result → ReadsNoMore g (asked_by command) sitting old new
        → Owes g (asked_by command) lent sitting sitting' old new result
    owes_writing asks writes obeys others = owes_plain asks obeys others (λ reading. absurd (let wrong : true ≡ false = sym writes ∙ reading in cc))

    pub owes_search : Searches command → Obeys g (asked_by command) lent sitting sitting' old new result → UnlessBroken result (KeepsBounds g (query_asked command) sitting old new) → OnlyReads g old new
        → Owes g (asked_by command) lent sitting sitting' old new result
    owes_search searches obeys bounds frame = record {
      obeys = obeys;
      bounds = bounds;
      held = held_unasked g result (cursor_asked command) sitting old new searches.no_cursor;
      others = no_more_asked g (asked_by command) sitting old new searches.query;
      unwritten = λ reading. frame;
    }

  -- a cursor is asked for its next pair
  pub owes_next : {lent : Lent} {sitting sitting' : Sitting} {old new : D} (name : ℕ) (result : Result Answer CommandFault) → Obeys g (asked_by (next name)) lent sitting sitting' old new result
      → UnlessBroken result (KeepsHeldBounds g (Some name) sitting old new) → OnlyReads g old new → Owes g (asked_by (next name)) lent sitting sitting' old new result
  owes_next {lent} {sitting} {sitting'} {old} {new} name result obeys held frame = record {
    obeys = obeys;
    bounds = bounds_unasked g result (query_asked (next name)) sitting old new (λ kept. refl);
    held = held;
    others = no_more_next g (asked_by (next name)) sitting old new (name, refl);
    unwritten = λ reading. frame;
  }

  -- nothing was done on the disk
  pub owes_still : {asked : Asked} {lent : Lent} {sitting sitting' : Sitting} {disk : D} (answer : Answer) → Obeys g asked lent sitting sitting' disk disk (Ok answer)
      → Owes g asked lent sitting sitting' disk disk (Ok answer)
  owes_still {asked} {lent} {sitting} {sitting'} {disk} answer obeys = record {
    obeys = obeys;
    bounds = bounds_nothing g asked.query sitting disk;
    held = held_nothing g asked.cursor sitting disk;
    others = no_more_unread g asked sitting disk disk refl;
    unwritten = λ reading. reads_nothing;
  }
