-- What a run shows on every disk that tells its bytes, whether or not they stand for a state.
use Rattle.std.specs.Prelude.{◌≡◌, ◌⊎◌, ℕ, List, [], ◌∷◌, ◌++◌, Option, None, Some, false}
use Rattle.va_core.specs.Distance.{Query}
use Rattle.va_cursor.specs.Cursors.{Cursor}
use Rattle.va_disk.specs.Frames.{OnlyReads}
use Rattle.va_disk.specs.Told.{GivesPart}
use Rattle.va_disk.specs.declared.storage.Storage.{Ghosts}
use Rattle.va_layout.specs.Stands.{Building, IsBlank, Kept, Opens}
use Rattle.va_lang.specs.Reply.{LendsLine, Reply, reply_line}
use Rattle.va_model.specs.Ends.{AreTaken, Cut}
use Rattle.va_model.specs.Lines.{Line}
use Rattle.va_model.specs.Step.{cursor_of_line, query_of_line, writes_in}
use Rattle.va_search.specs.Cells.{IsOutside}
use Rattle.va_search.specs.Cursors.{ReadsOutsideHeld}
use Rattle.va_search.specs.Searched.{ReadsOutside}
use Rattle.va_serve.specs.Bounds.{AreWithinBounds, ReadsAsHeld, ReadsAtMostOfKept}
use Rattle.va_serve.specs.Promises.{of_line}
use Rattle.va_serve.specs.declared.status.Status.{Status}
use Rattle.va_serve.specs.declared.status.Status.TheVariants as statuses

-- the image is blank, or opens
abbrev pub BlankOrOpens : List ℕ → Type 0
BlankOrOpens image = IsBlank image ⊎ ((kept : Kept) × Opens kept image)

module _ {D : Type 0} (g : Ghosts D) where
  -- the whole line of some reply was given, which is one line
  abbrev pub GivesReply : D → D → Type 0
  GivesReply old new = g.told → (reply : Reply) × LendsLine reply × (g.given new ≡ g.given old ++ reply_line reply)

  -- What was given where a line ends a run: a proper prefix of some reply's line where giving failed, and else nothing.
  abbrev pub GivesAtEnd : Status → D → D → Type 0
  GivesAtEnd statuses.WriteFault old new = (reply : Reply) × LendsLine reply × GivesPart g.told (g.given old) (reply_line reply) (g.given new)
  GivesAtEnd statuses.DiskFault old new = g.given new ≡ g.given old
  GivesAtEnd (statuses.Mismatch place dist low high) old new = g.given new ≡ g.given old
  GivesAtEnd (statuses.Changed place) old new = g.given new ≡ g.given old
  GivesAtEnd statuses.Done old new = ⊥
  GivesAtEnd statuses.Usage old new = ⊥
  GivesAtEnd statuses.ReadFault old new = ⊥
  GivesAtEnd (statuses.Store why) old new = ⊥
  GivesAtEnd statuses.Memory old new = ⊥
  GivesAtEnd statuses.TooLong old new = ⊥

  -- A line was run: unless it writes each byte stays, and the distances of the vectors that a search read lie between the bounds
  -- of their stored cells. For the next pair of a cursor they lie between the bounds that it holds. No other vectors were read than
  -- those that a line without a query reads of what the image opens as, with what is being built.
  pub record ShowsLine (line : Line) (old new : D) : Type 0 where
    pub opens : BlankOrOpens (g.image old)
    pub stays : writes_in line ≡ false → g.image new ≡ g.image old
    pub within : (kept : Kept) → Opens kept (g.image old) → (query : Query) → query_of_line line kept ≡ Some query → AreWithinBounds query kept (g.image old) (g.reads old) (g.reads new)
    pub next : (name : ℕ) → cursor_of_line line ≡ Some name → (cursor : Option Cursor) × ReadsAsHeld g cursor old new
    pub others : (kept : Kept) → Opens kept (g.image old) → query_of_line line kept ≡ None → cursor_of_line line ≡ None
        → (building : Option Building) × ReadsAtMostOfKept (of_line line) building kept (g.reads old) (g.reads new)

  -- in a search of what is kept: these are the numbers of the vector that was read last, and those before it lie between theirs
  pub record MeetsInSearch (kept : Kept) (line : Line) (old new : D) (place dist low high : ℕ) : Type 0 where
    pub query : Query
    pub asked : query_of_line line kept ≡ Some query
    pub numbers : ReadsOutside g query kept old new place dist low high

  -- in a cursor: the bounds are those that it holds since it was opened
  pub record MeetsInCursor (line : Line) (old new : D) (place dist low high : ℕ) : Type 0 where
    pub name : ℕ
    pub asked : cursor_of_line line ≡ Some name
    pub cursor : Cursor
    pub numbers : ReadsOutsideHeld g cursor old new place dist low high

  -- A line met a distance outside its bounds, in a search or in a cursor. Nothing was done but reading.
  pub record MeetsOutside (line : Line) (old new : D) (place dist low high : ℕ) : Type 0 where
    pub kept : Kept
    pub opens : Opens kept (g.image old)
    pub outside : IsOutside dist low high
    pub meets : MeetsInSearch kept line old new place dist low high ⊎ MeetsInCursor line old new place dist low high
    pub frame : OnlyReads g old new

  -- the line that ended a run, by its status
  abbrev pub ShowsEnd : Status → Line → D → D → Type 0
  ShowsEnd statuses.WriteFault line old new = ShowsLine line old new × GivesAtEnd statuses.WriteFault old new
  ShowsEnd statuses.DiskFault line old new = ShowsLine line old new × GivesAtEnd statuses.DiskFault old new
  ShowsEnd (statuses.Mismatch place dist low high) line old new = MeetsOutside line old new place dist low high
  ShowsEnd (statuses.Changed place) line old new = ⊥
  ShowsEnd statuses.Done line old new = ⊥
  ShowsEnd statuses.Usage line old new = ⊥
  ShowsEnd statuses.ReadFault line old new = ⊥
  ShowsEnd (statuses.Store why) line old new = ⊥
  ShowsEnd statuses.Memory line old new = ⊥
  ShowsEnd statuses.TooLong line old new = ⊥

  -- lines were run one after another, and one reply given for each
  abbrev pub ShowsLines : List Line → D → D → Type 0
  ShowsLines [] old new = new ≡ old
  ShowsLines (line ∷ lines) old new = (mid : D) × ShowsLine line old mid × GivesReply old mid × ShowsLines lines mid new

  -- lines were run until one ended the run
  pub record ShowsUntil (status : Status) (all : List Line) (old new : D) : Type 0 where
    pub before : List Line
    pub line : Line
    pub later : List Line
    pub are : all ≡ before ++ line ∷ later
    pub mid : D
    pub shown : ShowsLines before old mid
    pub last : ShowsEnd status line mid new

  -- What a run shows over the lines of the bytes that were taken, by its status.
  abbrev pub ShowsRun : Cut → Type 0 → List ℕ → List ℕ → Status → D → D → Type 0
  ShowsRun cut source bytes left statuses.Done old new = ShowsLines (cut.whole bytes) old new
  ShowsRun cut source bytes left statuses.ReadFault old new = ShowsLines (cut.ended bytes) old new
  ShowsRun cut source bytes left statuses.TooLong old new = ShowsLines (cut.ended bytes) old new
  ShowsRun cut source bytes left statuses.WriteFault old new = (all : List Line) × AreTaken cut source bytes left all × ShowsUntil statuses.WriteFault all old new
  ShowsRun cut source bytes left statuses.DiskFault old new = (all : List Line) × AreTaken cut source bytes left all × ShowsUntil statuses.DiskFault all old new
  ShowsRun cut source bytes left (statuses.Mismatch place dist low high) old new =
      (all : List Line) × AreTaken cut source bytes left all × ShowsUntil (statuses.Mismatch place dist low high) all old new
  ShowsRun cut source bytes left (statuses.Changed place) old new = ⊥
  ShowsRun cut source bytes left statuses.Usage old new = ⊥
  ShowsRun cut source bytes left (statuses.Store why) old new = ⊥
  ShowsRun cut source bytes left statuses.Memory old new = ⊥
