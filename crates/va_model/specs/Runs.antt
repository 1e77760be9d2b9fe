-- Runs: a list of lines and the list of their replies.
use Rattle.std.specs.Prelude.{◌≡◌, ℕ, List, [], ◌∷◌, ◌++◌, Bool, false}
use Rattle.std.specs.List.{flat_map}
use Rattle.va_disk.specs.Told.{IsProperPrefix}
use Rattle.va_disk.specs.declared.storage.Storage.{Ghosts}
use Rattle.va_lang.specs.Reply.{Reply, reply_line}
use Rattle.va_model.specs.Least.{EachReadsLeast, ReadsLeast}
use Rattle.va_model.specs.Lines.{Line}
use Rattle.va_model.specs.Memory.{wants_memory}
use Rattle.va_model.specs.State.{State, StandsFor}
use Rattle.va_model.specs.Step.{step}
use Rattle.va_model.specs.VectorReads.{Adds, Piece, PieceFront, ReadsFor}

-- the state after the first lines, one for each reply
abbrev pub after : State → List Line → List Reply → State
after state [] replies = state
after state (line ∷ lines) [] = state
after state (line ∷ lines) (reply ∷ replies) = after (step state line (wants_memory reply)).state lines replies

-- each reply is that of the step over its line, and there is one for each line
abbrev pub AreReplies : State → List Line → List Reply → Type 0
AreReplies state [] [] = Unit {0}
AreReplies state [] (reply ∷ replies) = ⊥
AreReplies state (line ∷ lines) [] = ⊥
AreReplies state (line ∷ lines) (reply ∷ replies) =
    (reply ≡ (step state line (wants_memory reply)).reply) × AreReplies (step state line (wants_memory reply)).state lines replies

-- These lines have these replies, and lead to this state, for which the image stands.
pub record Answered (start : State) (all : List Line) (replies : List Reply) (end : State) (image : List ℕ) : Type 0 where
  pub fits : AreReplies start all replies
  pub state : end ≡ after start all replies
  pub stands : StandsFor end image

-- each of these lines, with its reply, leaves the state as it was
abbrev pub LeaveState : State → List Line → List Reply → Type 0
LeaveState state [] replies = Unit {0}
LeaveState state (line ∷ lines) [] = Unit {0}
LeaveState state (line ∷ lines) (reply ∷ replies) =
    ((step state line (wants_memory reply)).state ≡ state) × LeaveState (step state line (wants_memory reply)).state lines replies

abbrev pub reply_lines : List Reply → List ℕ
reply_lines replies = flat_map reply_line replies

-- the replies were given, a line for each, and nothing else
abbrev pub GivesReplies : List Reply → List ℕ → List ℕ → Type 0
GivesReplies replies old new = new ≡ old ++ reply_lines replies

module _ {D : Type 0} (g : Ghosts D) where
  -- This is the reply to a line, and its whole text was given.
  pub record GaveReply (start : State) (line : Line) (reply : Reply) (old new : D) : Type 0 where
    pub fits : reply ≡ (step start line (wants_memory reply)).reply
    pub given : g.given new ≡ g.given old ++ reply_line reply

  -- A line was run: for this reply, the state and the image are those of its step. A line that leaves the state leaves
  -- the image, byte by byte.
  pub record Replied (start : State) (line : Line) (reply : Reply) (old new : D) (end : State) : Type 0 where
    pub gave : GaveReply start line reply old new
    pub state : end ≡ (step start line (wants_memory reply)).state
    pub stands : StandsFor end (g.image new)
    pub stays : end ≡ start → g.image new ≡ g.image old

  -- A line was run: for this reply, the reads of vectors are those of its step, and where it searches the least set.
  pub record ReadLine (start : State) (line : Line) (reply : Reply) (old new : D) : Type 0 where
    pub gave : GaveReply start line reply old new
    pub read : Adds start (Piece start line reply) (g.reads old) (g.reads new)
    pub least : ReadsLeast start line

  -- giving failed in the reply to a line: with memory refused or not, a proper prefix of it was given
  pub record Unsent (start : State) (line : Line) (old new : D) : Type 0 where
    pub refused : Bool
    pub part : List ℕ
    pub begins : IsProperPrefix part (reply_line (step start line refused).reply)
    pub given : g.given new ≡ g.given old ++ part
    pub stays : (step start line refused).state ≡ start → g.image new ≡ g.image old

  -- the disk failed in a line, and nothing of its reply was given
  pub record Unrun (start : State) (line : Line) (old new : D) : Type 0 where
    pub given : g.given new ≡ g.given old
    pub stays : (step start line false).state ≡ start → g.image new ≡ g.image old

  -- The reads of vectors for a line that wasn't run to its end are the first of those of its step. Of its reply a proper
  -- prefix was given.
  pub record UnreadLine (start : State) (line : Line) (old new : D) : Type 0 where
    pub refused : Bool
    pub part : List ℕ
    pub begins : IsProperPrefix part (reply_line (step start line refused).reply)
    pub given : g.given new ≡ g.given old ++ part
    pub read : Adds start (PieceFront start line) (g.reads old) (g.reads new)

  -- A run over these lines, to this state. What was replied, that it was given, and that the image stays where each line
  -- leaves the state are three facts over the same lines and replies.
  pub record Served (start : State) (all : List Line) (replies : List Reply) (old new : D) (end : State) : Type 0 where
    pub answered : Answered start all replies end (g.image new)
    pub given : GivesReplies replies (g.given old) (g.given new)
    pub stays : LeaveState start all replies → g.image new ≡ g.image old

  -- Which vectors were read in a run over these lines, by the replies that were given: for each search the least set that
  -- determines its answer, under the marks and the cells of the state at that line.
  pub record ReadLines (start : State) (all : List Line) (replies : List Reply) (old new : D) : Type 0 where
    pub fits : AreReplies start all replies
    pub given : GivesReplies replies (g.given old) (g.given new)
    pub read : ReadsFor start all replies (g.reads old) (g.reads new)
    pub least : EachReadsLeast start all replies

  -- the lines before one were served with these replies, and that line failed so
  pub record StoppedLines (Fails : State → Line → D → D → Type 0) (start : State) (all : List Line) (replies : List Reply) (old new : D) : Type 0 where
    pub before : List Line
    pub line : Line
    pub later : List Line
    pub are : all ≡ before ++ line ∷ later
    pub mid : D
    pub end : State
    pub served : Served start before replies old mid end
    pub fails : Fails end line mid new

  -- which vectors were read in a run that stopped so
  pub record StoppedReads (start : State) (all : List Line) (replies : List Reply) (old new : D) : Type 0 where
    pub before : List Line
    pub line : Line
    pub later : List Line
    pub are : all ≡ before ++ line ∷ later
    pub mid : D
    pub served : ReadLines start before replies old mid
    pub fails : UnreadLine (after start before replies) line mid new
