-- Silent runs: lines whose replies aren't given, and what these replies add up to.
use Rattle.std.specs.Prelude.{◌≡◌, ◌⊎◌, ◌≤◌, ℕ, ◌+◌, ◌*◌, ◌^◌, Bool, Option, None, Some, if◌then◌else◌, List, [], ◌∷◌, ◌++◌, true, false}
use Rattle.std.specs.List.{AllByRecursion}
use Rattle.va_core.specs.declared.pair.Pair.{Pair}
use Rattle.va_disk.specs.declared.storage.Storage.{Ghosts}
use Rattle.va_lang.specs.Command as commands
use Rattle.va_lang.specs.Command.{Command}
use Rattle.va_lang.specs.Grammar.{command_of}
use Rattle.va_lang.specs.Reply.{Reply, created, placed, deleted, vector, stat, marks, near, scanned, within, opened, next_pair, at_end, closed, begun, more_left, switched, cert, work, error}
use Rattle.va_model.specs.Least.{EachReadsLeast}
use Rattle.va_model.specs.Lines as inputs
use Rattle.va_model.specs.Lines.{Line}
use Rattle.va_model.specs.Memory.{wants_memory}
use Rattle.va_model.specs.State.{State, StandsFor}
use Rattle.va_model.specs.Step.{reads_of, step}
use Rattle.va_model.specs.VectorReads.{Adds, AreFirst, PieceFront, ReadsFor}

-- the replies to these lines, where memory is refused for none of them
abbrev pub replies_to : State → List Line → List Reply
replies_to state [] = []
replies_to state (line ∷ lines) = (step state line false).reply ∷ replies_to (step state line false).state lines

-- the state that they lead to so
abbrev pub led_to : State → List Line → State
led_to state [] = state
led_to state (line ∷ lines) = led_to (step state line false).state lines

-- no reply says that memory was refused
abbrev pub NoneRefused : List Reply → Type 0
NoneRefused replies = AllByRecursion (λ reply. wants_memory reply ≡ false) replies

-- what searches read and what came into question for them, and the distances of the pairs that they found
pub record Sums : Type 0 where
  pub fetched : ℕ
  pub candidates : ℕ
  pub distances : ℕ

abbrev pub no_sums : Sums
no_sums = record { fetched = 0; candidates = 0; distances = 0 }

abbrev pub plus : Sums → Sums → Sums
plus a b = record { fetched = a.fetched + b.fetched; candidates = a.candidates + b.candidates; distances = a.distances + b.distances }

abbrev pub sum_of_distances : List Pair → ℕ
sum_of_distances [] = 0
sum_of_distances (pair ∷ pairs) = pair.dist + sum_of_distances pairs

-- what a reply tells of these: that to a search for the k nearest, and no other
abbrev pub told_by : Reply → Sums
told_by (near pairs fetched candidates live) = record { fetched = fetched; candidates = candidates; distances = sum_of_distances pairs }
told_by created = no_sums
told_by (placed place) = no_sums
told_by (deleted place) = no_sums
told_by (vector coordinates) = no_sums
told_by (stat shape live cursors building) = no_sums
told_by (marks rows) = no_sums
told_by (scanned pairs fetched live) = no_sums
told_by (within pairs fetched live) = no_sums
told_by (opened live) = no_sums
told_by (next_pair pair fetched) = no_sums
told_by at_end = no_sums
told_by closed = no_sums
told_by (begun live) = no_sums
told_by (more_left done left) = no_sums
told_by (switched done) = no_sums
told_by (cert text) = no_sums
told_by (work n fetched candidates sum) = no_sums
told_by (error why) = no_sums

abbrev pub sums_of : List Reply → Sums
sums_of [] = no_sums
sums_of (reply ∷ replies) = plus (told_by reply) (sums_of replies)

-- what so many searches tell at most: each finds at most 4,096 pairs among at most 2^20 vectors
pub record AreLittle (searches : ℕ) (sums : Sums) : Type 0 where
  pub fetched : sums.fetched ≤ searches * 1048576
  pub candidates : sums.candidates ≤ searches * 1048576
  pub distances : sums.distances ≤ searches * 2 ^ 56

-- the command searches for the k nearest
abbrev pub asks_nearest : Command → Bool
asks_nearest (commands.create dims bits capacity) = false
asks_nearest (commands.insert id coordinates) = false
asks_nearest (commands.delete id) = false
asks_nearest (commands.get id) = false
asks_nearest commands.stat = false
asks_nearest commands.marks = false
asks_nearest (commands.knn k query) = true
asks_nearest (commands.ssa k query) = false
asks_nearest (commands.range radius query) = false
asks_nearest (commands.«open» name query) = false
asks_nearest (commands.next name) = false
asks_nearest (commands.close name) = false
asks_nearest commands.requant = false
asks_nearest (commands.convert n) = false
asks_nearest (commands.cert k query) = false

abbrev pub asks_nearest_of : Option Command → Bool
asks_nearest_of None = false
asks_nearest_of (Some command) = asks_nearest command

abbrev pub asks_nearest_in : Line → Bool
asks_nearest_in inputs.long = false
asks_nearest_in (inputs.text bytes) = asks_nearest_of (command_of bytes)

-- how many of the lines do
abbrev pub nearest_lines : List Line → ℕ
nearest_lines [] = 0
nearest_lines (line ∷ lines) = (if asks_nearest_in line then 1 else 0) + nearest_lines lines

-- the reply that tells them
abbrev pub work_reply : ℕ → Sums → Reply
work_reply n sums = work n sums.fetched sums.candidates sums.distances

-- The image is that of the state before these lines, or after some of them.
abbrev pub StandsAlong : State → List Line → List ℕ → Type 0
StandsAlong state [] image = StandsFor state image
StandsAlong state (line ∷ lines) image = StandsFor state image ⊎ StandsAlong (step state line false).state lines image

-- What a crash in a silent run over these lines leaves: the image of the state after some of them, and nothing was given.
pub record SilentlyLeaves (start : State) (old : List ℕ) (lines : List Line) (image given : List ℕ) : Type 0 where
  pub stands : StandsAlong start lines image
  pub given_is : given ≡ old

-- with memory refused the reply to the line says so, and these are the first of the vectors that it then reads
abbrev pub ReadsWanting : State → Line → List (ℕ × ℕ) → Type 0
ReadsWanting state line vectors = (wants_memory (step state line true).reply ≡ true) × AreFirst vectors (reads_of state (step state line true).places)

module _ {D : Type 0} (g : Ghosts D) where
  -- These lines were run to this state, memory was refused for none, and nothing was given. The vectors that were read are
  -- those of the replies that aren't given.
  pub record RanSilently (start : State) (lines : List Line) (old new : D) (end : State) : Type 0 where
    pub none_refused : NoneRefused (replies_to start lines)
    pub state : end ≡ led_to start lines
    pub stands : StandsFor end (g.image new)
    pub given : g.given new ≡ g.given old
    pub read : ReadsFor start lines (replies_to start lines) (g.reads old) (g.reads new)
    pub least : EachReadsLeast start lines (replies_to start lines)

  -- the lines before one were run silently, and that line failed so
  pub record StoppedSilently (Fails : State → Line → D → D → Type 0) (start : State) (all : List Line) (old new : D) : Type 0 where
    pub before : List Line
    pub line : Line
    pub later : List Line
    pub are : all ≡ before ++ line ∷ later
    pub mid : D
    pub end : State
    pub ran : RanSilently start before old mid end
    pub fails : Fails end line mid new

  -- A call of the disk failed in a line. The vectors that were read are the first of those that it reads.
  pub record LosesLine (start : State) (line : Line) (old new : D) : Type 0 where
    pub given : g.given new ≡ g.given old
    pub stays : (step start line false).state ≡ start → g.image new ≡ g.image old
    pub read : Adds start (PieceFront start line) (g.reads old) (g.reads new)

  -- Memory was wanting for the text of a line, or in the line itself, as its reply would have said: it stays without effect, and no
  -- vectors were read but the first of those that this reply allows.
  pub record Starves (start : State) (line : Line) (old new : D) : Type 0 where
    pub given : g.given new ≡ g.given old
    pub stays : g.image new ≡ g.image old
    pub read : Adds start (λ vectors. (vectors ≡ []) ⊎ ReadsWanting start line vectors) (g.reads old) (g.reads new)
