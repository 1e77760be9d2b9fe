-- What a command owes, before its reply is given.
use Rattle.std.specs.Prelude.{◌≡◌, ◌≤◌, ◌⊎◌, List, ℕ, Option, None, Some, Bool, true, false, get_or, Result, Ok, Err}
use Rattle.va_core.specs.Distance.{Query}
use Rattle.va_cursor.specs.Cursors.{Cursor}
use Rattle.va_disk.specs.Crashes.{Leaves}
use Rattle.va_disk.specs.Frames.{OnlyReads}
use Rattle.va_disk.specs.declared.storage.Storage.{Ghosts}
use Rattle.va_lang.specs.Command.{Command}
use Rattle.va_lang.specs.Reply.{Reply}
use Rattle.va_layout.specs.Stands.{Kept, Opens}
use Rattle.va_model.specs.Lines.{Line}
use Rattle.va_model.specs.Memory.{wants_memory}
use Rattle.va_model.specs.State.{State, StandsFor}
use Rattle.va_model.specs.Rows.{Outcome}
use Rattle.va_model.specs.Step.{is_writing, query_asked, query_of_line, step, step_command, writes_in, cursor_asked, cursor_of_line, is_scanning, scans_in}
use Rattle.va_model.specs.VectorReads.{Adds, FrontOf, PieceOf}
use Rattle.va_search.specs.Cells.{IsOutside}
use Rattle.va_search.specs.Cursors.{ReadsOutsideHeld}
use Rattle.va_search.specs.Searched.{ReadsOutside}
use Rattle.va_serve.specs.Answers.{said_answer}
use Rattle.va_serve.specs.Session.{AreSecure, InEach, IsAt, IsChangedAt, IsKeptOf, Lent, Securely, Sitting}
use Rattle.va_serve.specs.declared.answer.Answer.{Answer}
use Rattle.va_serve.specs.declared.answer.CommandFault.{CommandFault}
use Rattle.va_serve.specs.declared.answer.CommandFault.TheVariants as faults

-- what comes of a command, or of a line, in a state, by whether memory is refused
abbrev pub of_command : Command → State → Bool → Outcome
of_command command state m = step_command (Some command) state m

abbrev pub of_line : Line → State → Bool → Outcome
of_line line state m = step state line m

-- What a command, or a line, asks: what comes of it in each state, by whether memory is refused, the query of a search, the name of
-- the cursor that is to give its next pair, whether it goes over the codes of all live vectors, and whether it writes.
pub record Asked : Type 0 where
  pub outcome : State → Bool → Outcome
  pub query : Kept → Option Query
  pub cursor : Option ℕ
  pub scans : Bool
  pub writes : Bool

abbrev pub asked_by : Command → Asked
asked_by command = record { outcome = of_command command; query = query_asked command; cursor = cursor_asked command; scans = is_scanning command; writes = is_writing command }

abbrev pub asked_in : Line → Asked
asked_in line = record { outcome = of_line line; query = query_of_line line; cursor = cursor_of_line line; scans = scans_in line; writes = writes_in line }

-- it is a search, whatever is kept
abbrev pub IsAsked : (Kept → Option Query) → Type 0
IsAsked query = (kept : Kept) → (q : Query) × (query kept ≡ Some q)

-- it asks a cursor for its next pair
abbrev pub AsksNext : Option ℕ → Type 0
AsksNext cursor = (name : ℕ) × (cursor ≡ Some name)

-- nothing is given
pub record IsSilent {D : Type 0} (g : Ghosts D) (old new : D) : Type 0 where
  pub given : g.given new ≡ g.given old
  pub sink : g.sink_faults new ≡ g.sink_faults old
  pub later : g.faults old ≤ g.faults new

-- a command, or a line, that doesn't write only reads
abbrev pub ReadsUnless : {D : Type 0} → Ghosts D → Bool → D → D → Type 0
ReadsUnless g writes old new = writes ≡ false → OnlyReads g old new

-- a crash leaves the state of before, or that of the outcome, with what had been given at the start
abbrev pub StateBeforeOrAfter : (Bool → Outcome) → State → List ℕ → List ℕ → List ℕ → Type 0
StateBeforeOrAfter outcome start old image given = (StandsFor start image ⊎ StandsFor (outcome false).state image) × (given ≡ old)

module _ {D : Type 0} (g : Ghosts D) where
  -- For this reply the outcome is there: what is held, the image and the reads of vectors are its own. Where it leaves
  -- the state, each byte stays.
  pub record Reached (outcome : Bool → Outcome) (start : State) (sitting : Sitting) (old new : D) (reply : Reply) : Type 0 where
    pub fits : reply ≡ (outcome (wants_memory reply)).reply
    pub at : IsAt (outcome (wants_memory reply)).state sitting (g.image new)
    pub stays : (outcome (wants_memory reply)).state ≡ start → g.image new ≡ g.image old
    pub read : Adds start (PieceOf start outcome reply) (g.reads old) (g.reads new)

  -- What is owed in every state that the session and the disk may be at: the outcome of the reply is reached;
  abbrev pub Reaches : (State → Bool → Outcome) → Sitting → Sitting → D → D → Reply → Type 0
  Reaches outcome sitting sitting' old new reply =
      InEach g sitting old (λ start. Reached (outcome start) start sitting' old new reply)

  -- where the command failed, the vectors that were read are the first of those of the outcome;
  abbrev pub ReadsAtMost : (State → Bool → Outcome) → Sitting → D → D → Type 0
  ReadsAtMost outcome sitting old new =
      InEach g sitting old (λ start. Adds start (FrontOf start (outcome start)) (g.reads old) (g.reads new))

  -- and where the outcome leaves the state, each byte stays;
  abbrev pub LeavesImage : (State → Bool → Outcome) → Sitting → D → D → Type 0
  LeavesImage outcome sitting old new =
      InEach g sitting old (λ start. (outcome start false).state ≡ start → g.image new ≡ g.image old)

  -- a crash inside leaves the state of before or after;
  abbrev pub Survives : (State → Bool → Outcome) → Sitting → D → D → Type 0
  Survives outcome sitting old new =
      Securely g sitting old (λ start. Leaves g.clock g.left_since old new (StateBeforeOrAfter (outcome start) start (g.given old)))

  -- and a crash at the end leaves that of the reply.
  abbrev pub Settles : (State → Bool → Outcome) → Sitting → Sitting → D → D → Reply → Type 0
  Settles outcome sitting sitting' old new reply =
      Securely g sitting old (λ start. AreSecure (outcome start (wants_memory reply)).state sitting' (g.may_leave new))

  -- All that is owed for a reply,
  pub record Carries (outcome : State → Bool → Outcome) (sitting sitting' : Sitting) (old new : D) (reply : Reply) : Type 0 where
    pub reached : Reaches outcome sitting sitting' old new reply
    pub moments : Survives outcome sitting old new
    pub settles : Settles outcome sitting sitting' old new reply

  -- and where the disk failed.
  pub record Loses (outcome : State → Bool → Outcome) (sitting : Sitting) (old new : D) : Type 0 where
    pub read : ReadsAtMost outcome sitting old new
    pub stays : LeavesImage outcome sitting old new
    pub moments : Survives outcome sitting old new

  -- The store isn't what it was when it was opened: this is never met where the session and the disk are at a state, and
  -- nothing was done but reading.
  pub record Breaks (sitting : Sitting) (old new : D) : Type 0 where
    pub never : InEach g sitting old (λ start. ⊥)
    pub frame : OnlyReads g old new

  -- In a search: on every image that opens these are the numbers of the vector that was read last, for the query that was
  -- asked, and those of the vectors before it lie between theirs.
  pub record FindsInSearch (query : Kept → Option Query) (sitting : Sitting) (old new : D) (place dist low high : ℕ) : Type 0 where
    pub searches : IsAsked query
    pub numbers : g.told → (kept : Kept) → IsKeptOf sitting.store kept → Opens kept (g.image old) → (q : Query) × (query kept ≡ Some q) × ReadsOutside g q kept old new place dist low high

  -- In a cursor: the bounds are those that it holds since it was opened.
  pub record FindsInCursor (name : Option ℕ) (sitting : Sitting) (old new : D) (place dist low high : ℕ) : Type 0 where
    pub asks : AsksNext name
    pub cursor : Cursor
    pub is_open : get_or sitting.cursors asks.0 None ≡ Some cursor
    pub numbers : ReadsOutsideHeld g cursor old new place dist low high

  -- The distance of the vector that was read last lies outside its bounds.
  pub record FindsOutside (asked : Asked) (sitting : Sitting) (old new : D) (place dist low high : ℕ) : Type 0 where
    pub breaks : Breaks sitting old new
    pub outside : IsOutside dist low high
    pub finds : FindsInSearch asked.query sitting old new place dist low high ⊎ FindsInCursor asked.cursor sitting old new place dist low high

  -- The scan of a search, or of a cursor, met a changed code, first in this place. It never does on a disk that tells its bytes.
  pub record MeetsChanged (asked : Asked) (sitting sitting' : Sitting) (old new : D) (place : ℕ) : Type 0 where
    pub breaks : Breaks sitting old new
    pub scans : (asked.scans ≡ true) ⊎ AsksNext asked.cursor
    pub untold : g.told → ⊥
    pub changed : IsChangedAt sitting'.store place

  -- What a command owes, with what its answer may lend.
  abbrev pub Obeys : Asked → Lent → Sitting → Sitting → D → D → Result Answer CommandFault → Type 0
  Obeys asked lent sitting sitting' old new (Ok answer) = Carries asked.outcome sitting sitting' old new (said_answer answer lent)
  Obeys asked lent sitting sitting' old new (Err faults.Disk) = Loses asked.outcome sitting old new
  Obeys asked lent sitting sitting' old new (Err (faults.Mismatch place dist low high)) = FindsOutside asked sitting old new place dist low high
  Obeys asked lent sitting sitting' old new (Err (faults.Changed place)) = MeetsChanged asked sitting sitting' old new place
