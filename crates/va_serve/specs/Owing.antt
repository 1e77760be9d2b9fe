-- What a command, or a line, owes as a whole.
use Rattle.std.specs.Prelude.{Result}
use Rattle.va_disk.specs.declared.storage.Storage.{Ghosts}
use Rattle.va_serve.specs.Bounds.{KeepsBounds, KeepsHeldBounds, ReadsNoMore, UnlessBroken}
use Rattle.va_serve.specs.Promises.{Asked, Obeys, ReadsUnless}
use Rattle.va_serve.specs.Session.{Lent, Sitting}
use Rattle.va_serve.specs.declared.answer.Answer.{Answer}
use Rattle.va_serve.specs.declared.answer.CommandFault.{CommandFault}

pub record Owes {D : Type 0} (g : Ghosts D) (asked : Asked) (lent : Lent) (sitting sitting' : Sitting) (old new : D) (result : Result Answer CommandFault) : Type 0 where
  -- The reply stands for what was done, or the disk failed, or the store is at fault.
  pub obeys : Obeys g asked lent sitting sitting' old new result
  -- The vectors that are read for a search lie between the bounds of their stored cells,
  pub bounds : UnlessBroken result (KeepsBounds g asked.query sitting old new)
  -- and those for a cursor's next pair between the bounds that it holds.
  pub held : UnlessBroken result (KeepsHeldBounds g asked.cursor sitting old new)
  -- Without a query or a cursor no vectors are read but the first of its outcome's.
  pub others : ReadsNoMore g asked sitting old new
  -- What doesn't write only reads.
  pub unwritten : ReadsUnless g asked.writes old new
