-- The crash sentence: what a crash may leave, with what had been given until then.
use Rattle.std.specs.Prelude.{◌≡◌, ◌⊎◌, ℕ, List, [], ◌∷◌, ◌++◌, Bool, false}
use Rattle.va_disk.specs.Told.{IsProperPrefix}
use Rattle.va_lang.specs.Reply.{Reply, reply_line}
use Rattle.va_model.specs.Lines.{Line}
use Rattle.va_model.specs.Memory.{wants_memory}
use Rattle.va_model.specs.Runs.{after, AreReplies, reply_lines}
use Rattle.va_model.specs.State.{State, StandsFor}
use Rattle.va_model.specs.Step.{step}

-- A crash in the step over a line: the image is that of before, or of after the step with memory not refused; of the
-- reply, with memory refused or not, a part was given; and once it was given whole, the image is that of its step.
pub record StepLeaves (state : State) (line : Line) (old image given : List ℕ) : Type 0 where
  pub refused : Bool
  pub part : List ℕ
  pub missing : List ℕ
  pub begins : part ++ missing ≡ reply_line (step state line refused).reply
  pub given_is : given ≡ old ++ part
  pub kept : StandsFor state image ⊎ StandsFor (step state line false).state image
  pub done : missing ≡ [] → (refused ≡ wants_memory (step state line refused).reply) × StandsFor (step state line refused).state image

-- Lines that are still to come: the image is that of the state before them, or after one more.
abbrev pub StandsNear : State → List Line → List ℕ → Type 0
StandsNear state [] image = StandsFor state image
StandsNear state (line ∷ later) image = StandsFor state image ⊎ StandsFor (step state line false).state image

-- a proper prefix of the reply to a line, with memory refused or not
pub record IsPartOf (state : State) (line : Line) (part : List ℕ) : Type 0 where
  pub refused : Bool
  pub begins : IsProperPrefix part (reply_line (step state line refused).reply)

-- what follows the whole replies in what was given: a part of the reply to a further line, or nothing where there is none
abbrev pub IsPartNear : State → List Line → List ℕ → Type 0
IsPartNear state [] part = part ≡ []
IsPartNear state (line ∷ later) part = IsPartOf state line part

-- What a crash in a run over these lines keeps: the image is that of the state after the first of them, with these
-- replies, or after one more.
pub record RunKeeps (start : State) (lines before later : List Line) (replies : List Reply) (image : List ℕ) : Type 0 where
  pub are : lines ≡ before ++ later
  pub fits : AreReplies start before replies
  pub stands : StandsNear (after start before replies) later image

-- A crash in a run over these lines: the whole replies that were given are those of the lines after which the image is
-- that of the state, or of the state after one more.
pub record RunLeaves (start : State) (old : List ℕ) (lines : List Line) (image given : List ℕ) : Type 0 where
  pub before : List Line
  pub later : List Line
  pub replies : List Reply
  pub keeps : RunKeeps start lines before later replies image
  pub part : List ℕ
  pub given_is : given ≡ old ++ reply_lines replies ++ part
  pub is_part : IsPartNear (after start before replies) later part
