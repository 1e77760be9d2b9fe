-- The command that the code's answer and its room stand for.
use Rattle.std.specs.Prelude.{ℕ, List, [], Option, None, Some, Result, Ok, Err}
use denote.Ref.{Bor}
use Rattle.va_lang.specs.Texts.{split_at}
use Rattle.va_lang.specs.Command as asked
use Rattle.va_lang.specs.Room.{Room}
use Rattle.va_lang.specs.declared.command.Command.{Command}
use Rattle.va_lang.specs.declared.command.Command.TheVariants as v
use Rattle.va_lang.specs.declared.command.Syntax.{Syntax}

abbrev pub query_in : Room → asked.Query
query_in room = record { objects = room.objects; weights = room.weights }

abbrev pub meant : Command → Room → asked.Command
meant (v.Create dims bits capacity) room = asked.create dims bits capacity
meant (v.Insert id) room = asked.insert id room.vector
meant (v.Delete id) room = asked.delete id
meant (v.Get id) room = asked.get id
meant v.Stat room = asked.stat
meant v.Marks room = asked.marks
meant (v.Knn k) room = asked.knn k (query_in room)
meant (v.Ssa k) room = asked.ssa k (query_in room)
meant (v.Range radius) room = asked.range radius (query_in room)
meant (v.Open name) room = asked.«open» name (query_in room)
meant (v.Next name) room = asked.next name
meant (v.Close name) room = asked.close name
meant v.Requant room = asked.requant
meant (v.Convert n) room = asked.convert n
meant (v.Cert k) room = asked.cert k (query_in room)

-- the command that was found, if one was
abbrev pub found : Option Command → Room → Option asked.Command
found None room = None
found (Some command) room = Some (meant command room)

abbrev pub said : Result Command Syntax → Room → Option asked.Command
said (Err syntax) room = None
said (Ok command) room = Some (meant command room)

-- the parts after the first, by what follows it
abbrev pub parts_after : ℕ → Option (Bor (List ℕ)) → List (List ℕ)
parts_after separator None = []
parts_after separator (Some rest) = split_at separator rest.now

-- a number's text that was found, with the query that was read into the room
abbrev pub asked_for : Option (Bor (List ℕ)) → Room → Option (List ℕ × asked.Query)
asked_for None room = None
asked_for (Some text) room = Some (text.now, query_in room)

-- a text that was found
abbrev pub text_in : Option (Bor (List ℕ)) → Option (List ℕ)
text_in None = None
text_in (Some text) = Some text.now
