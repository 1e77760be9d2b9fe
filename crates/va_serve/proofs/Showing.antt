-- Why lines show what they do on every disk that tells its bytes.
use Rattle.std.proofs.Common.{◌≡◌, ◌⊎◌, inl, inr, ℕ, List, [], ◌∷◌, ◌++◌, false, length, get_or, Option, None, Some, Result, Ok, Err, OnOk, IfErr, refl, ap, sym, ◌∙◌, subst, append_assoc, arith}
use Rattle.va_cursor.specs.Cursors.{Cursor}
use Rattle.va_disk.specs.Told.{GivesPart}
use Rattle.va_disk.specs.declared.storage.Storage.{Ghosts}
use Rattle.va_lang.specs.Reply.{LendsLine, Reply, reply_line}
use Rattle.va_layout.specs.Stands.{Kept, Opens}
use Rattle.va_model.specs.Lines.{Line}
use Rattle.va_model.specs.State.{blank}
use Rattle.va_model.specs.Step.{cursor_of_line, query_of_line, writes_in}
use Rattle.va_serve.specs.Answers.{fault_status}
use Rattle.va_serve.specs.Bounds.{KeepsBounds, KeepsHeldBounds, ReadsNoMore, UnlessAtFault}
use Rattle.va_serve.specs.Progress.{LineShows}
use Rattle.va_serve.specs.Promises.{FindsInCursor, FindsInSearch, FindsOutside, asked_in}
use Rattle.va_serve.specs.Session.{FitsSession, FitsStore, IsKeptOf, Sitting, building_of}
use Rattle.va_serve.specs.Showing.{BlankOrOpens, GivesAtEnd, GivesReply, MeetsInCursor, MeetsInSearch, MeetsOutside, ShowsEnd, ShowsLine, ShowsLines, ShowsUntil}
use Rattle.va_serve.specs.declared.answer.CommandFault.{CommandFault}
use Rattle.va_serve.specs.declared.answer.CommandFault.TheVariants as faults
use Rattle.va_serve.specs.declared.status.Status.{Status}
use Rattle.va_serve.specs.declared.status.Status.TheVariants as statuses
use Rattle.va_store.specs.Image.{kept_in}
use Rattle.va_store.specs.Known.{Known}
use Rattle.va_store.specs.Openings.{IsReadFrom}
use Rattle.va_store.proofs.Answering.{read_is_of, read_kept}
use Rattle.va_store.proofs.Fitting.{known_read}

-- what a store that fits knows is read from the image
read_from : {told : Type 0} {held : Known} {size : ℕ} {image : List ℕ} → FitsStore told (Some held) size image → told → length image ≡ size → IsReadFrom image held
read_from fits tells long = known_read (fits.0.known_in tells fits.1) (omega (arith, fits.0.long, long))

opens_of : {told : Type 0} {size : ℕ} {image : List ℕ} (store : Option Known) → FitsStore told store size image → told → length image ≡ size → BlankOrOpens image
opens_of None fits tells long = inl (fits tells)
opens_of {image = image} (Some held) fits tells long = inr (kept_in held.shape image, (read_from fits tells long).opens)

-- a store that fits is that of what the image opens as
pub kept_of : {told : Type 0} {size : ℕ} {image : List ℕ} (store : Option Known) → FitsStore told store size image → told → length image ≡ size → (kept : Kept) → Opens kept image → IsKeptOf store kept
kept_of None fits tells long kept opens = absurd (let both = sym (fits tells) ∙ opens.head in cc)
kept_of (Some held) fits tells long kept opens = read_kept kept (read_from fits tells long) opens

module _ {D : Type 0} (g : Ghosts D) where
  -- a reply was given behind a command that gives nothing, or a part of one
  pub gives_one : (reply : Reply) {old mid new : D} → LendsLine reply → (g.told → g.given new ≡ g.given mid ++ reply_line reply) → g.given mid ≡ g.given old → GivesReply g old new
  gives_one reply {old} {mid} {new} lends gave same told = (reply, lends, subst (λ (given : List ℕ). g.given new ≡ given ++ reply_line reply) same (gave told))

  pub gives_part : (reply : Reply) {old mid new : D} → LendsLine reply → GivesPart g.told (g.given mid) (reply_line reply) (g.given new) → g.given mid ≡ g.given old → GivesAtEnd g statuses.WriteFault old new
  gives_part reply {old} {mid} {new} lends gave same = (reply, lends, subst (λ (given : List ℕ). GivesPart g.told given (reply_line reply) (g.given new)) same gave)

  -- a command that failed gave nothing
  pub gives_nothing : (fault : CommandFault) {old new : D} → g.given new ≡ g.given old → GivesAtEnd g (fault_status fault) old new
  gives_nothing faults.Disk same = same
  gives_nothing (faults.Mismatch place dist low high) same = same
  gives_nothing (faults.Changed place) same = same

  pub shows_both : (first next : List Line) (old mid new : D) → ShowsLines g first old mid → ShowsLines g next mid new → ShowsLines g (first ++ next) old new
  shows_both [] next old mid new so_far rest = subst (λ (disk : D). ShowsLines g next disk new) so_far rest
  shows_both (line ∷ lines) next old mid new so_far rest = (so_far.0, so_far.1, so_far.2, shows_both lines next so_far.0 mid new so_far.3 rest)

  pub until_behind : {status : Status} (first next : List Line) (old mid : D) {new : D} → ShowsLines g first old mid → ShowsUntil g status next mid new → ShowsUntil g status (first ++ next) old new
  until_behind first next old mid so_far until = record {
    before = first ++ until.before;
    line = until.line;
    later = until.later;
    are = ap (λ (lines : List Line). first ++ lines) until.are ∙ sym (append_assoc first until.before (until.line ∷ until.later));
    mid = until.mid;
    shown = shows_both first until.before old mid until.mid so_far until.shown;
    last = until.last;
  }

  pub until_later : {status : Status} {first : List Line} (next : List Line) {old new : D} → ShowsUntil g status first old new → ShowsUntil g status (first ++ next) old new
  until_later next until = record {
    before = until.before;
    line = until.line;
    later = until.later ++ next;
    are = ap (λ (lines : List Line). lines ++ next) until.are ∙ append_assoc until.before (until.line ∷ until.later) next;
    mid = until.mid;
    shown = until.shown;
    last = until.last;
  }

  pub until_one : {status : Status} {line : Line} {old new : D} → ShowsEnd g status line old new → ShowsUntil g status (line ∷ []) old new
  until_one {line = line} {old} last = record { before = []; line = line; later = []; are = refl; mid = old; shown = refl; last = last }

  module _ (line : Line) (sitting : Sitting) (old new : D) (fits : FitsSession g sitting old) (long : g.told → length (g.image old) ≡ g.size old) (stays : writes_in line ≡ false → g.image new ≡ g.image old) (others : ReadsNoMore g (asked_in line) sitting old new) where
    shows_line : KeepsBounds g (query_of_line line) sitting old new → KeepsHeldBounds g (cursor_of_line line) sitting old new → g.told → ShowsLine g line old new
    shows_line bounds held told = record {
      opens = opens_of sitting.store fits told (long told);
      stays = stays;
      within = λ kept opens query asked. bounds told kept (kept_of sitting.store fits told (long told) kept opens) opens query asked;
      next = λ name asked. (get_or sitting.cursors name None, held name asked);
      others = λ kept opens none no_cursor. (building_of sitting.store, others told kept (kept_of sitting.store fits told (long told) kept opens) opens none no_cursor);
    }

    -- the store that met such a distance fits, and is that of what the image opens as
    meets_by : (store : Option Known) (cursors : List (Option Cursor)) (kept : Kept) → Opens kept (g.image old) → g.told → IsKeptOf store kept → {place dist low high : ℕ}
        → FindsInSearch g (query_of_line line) (record { store = store; cursors = cursors }) old new place dist low high ⊎ FindsInCursor g (cursor_of_line line) (record { store = store; cursors = cursors }) old new place dist low high
        → MeetsInSearch g kept line old new place dist low high ⊎ MeetsInCursor g line old new place dist low high
    meets_by store cursors kept opens told is (inl found) =
        let numbers = found.numbers told kept is opens in
        inl (record { query = numbers.0; asked = numbers.1; numbers = numbers.2 })
    meets_by store cursors kept opens told is (inr found) = inr (record { name = found.asks.0; asked = found.asks.1; cursor = found.cursor; numbers = found.numbers })

    meets_there : (store : Option Known) (cursors : List (Option Cursor)) → FitsStore g.told store (g.size old) (g.image old) → {place dist low high : ℕ} → FindsOutside g (asked_in line) (record { store = store; cursors = cursors }) old new place dist low high
        → g.told → MeetsOutside g line old new place dist low high
    meets_there None cursors fits finds told = absurd (finds.breaks.never told blank (record { is = tt; stands = fits told; vectors = tt }))
    meets_there (Some held) cursors fits finds told =
        let read = read_from fits told (long told) in
        record {
          kept = kept_in held.shape (g.image old);
          opens = read.opens;
          outside = finds.outside;
          meets = meets_by (Some held) cursors (kept_in held.shape (g.image old)) read.opens told (read_is_of read) finds.finds;
          frame = finds.breaks.frame;
        }

    shows_end : (status : Status) (sitting' : Sitting) → UnlessAtFault {T = Unit {0}} (Err status) (KeepsBounds g (query_of_line line) sitting old new) → UnlessAtFault {T = Unit {0}} (Err status) (KeepsHeldBounds g (cursor_of_line line) sitting old new)
        → LineShows g status line sitting sitting' old new → GivesAtEnd g status old new → g.told → ShowsEnd g status line old new
    shows_end statuses.WriteFault sitting' bounds held shows gives told = (shows_line bounds held told, gives)
    shows_end statuses.DiskFault sitting' bounds held shows gives told = (shows_line bounds held told, gives)
    shows_end (statuses.Mismatch place dist low high) sitting' bounds held shows gives told = meets_there sitting.store sitting.cursors fits shows told
    shows_end (statuses.Changed place) sitting' bounds held shows gives told = shows.untold told
    shows_end statuses.Done sitting' bounds held shows gives told = absurd gives
    shows_end statuses.Usage sitting' bounds held shows gives told = absurd gives
    shows_end statuses.ReadFault sitting' bounds held shows gives told = absurd gives
    shows_end (statuses.Store why) sitting' bounds held shows gives told = absurd gives
    shows_end statuses.Memory sitting' bounds held shows gives told = absurd gives
    shows_end statuses.TooLong sitting' bounds held shows gives told = absurd gives

    -- by the outcome of the step
    pub step_shows : (result : Result Unit Status) → UnlessAtFault result (KeepsBounds g (query_of_line line) sitting old new) → UnlessAtFault result (KeepsHeldBounds g (cursor_of_line line) sitting old new)
        → OnOk result (GivesReply g old new) → OnOk result (g.told → ShowsLine g line old new × GivesReply g old new)
    step_shows (Ok value) bounds held gives = λ told. (shows_line bounds held told, gives)
    step_shows (Err status) bounds held gives = tt

    pub step_ends : (result : Result Unit Status) (sitting' : Sitting) → UnlessAtFault result (KeepsBounds g (query_of_line line) sitting old new) → UnlessAtFault result (KeepsHeldBounds g (cursor_of_line line) sitting old new)
        → IfErr result (λ status. LineShows g status line sitting sitting' old new) → IfErr result (λ status. GivesAtEnd g status old new) → IfErr result (λ status. g.told → ShowsEnd g status line old new)
    step_ends (Ok value) sitting' bounds held shows gives = tt
    step_ends (Err status) sitting' bounds held shows gives = shows_end status sitting' bounds held shows gives
