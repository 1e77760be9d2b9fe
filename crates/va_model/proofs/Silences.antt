-- Silent runs: one list of lines after another, and what a crash in them leaves.
use Rattle.std.proofs.Common.{◌≡◌, ◌⊎◌, inl, inr, ℕ, Bool, false, List, [], ◌∷◌, ◌++◌, refl, sym, ap, ◌∙◌, subst, arith, append_assoc}
use Rattle.va_core.proofs.Members.{all_append}
use Rattle.va_disk.specs.Crashes.{Leaves}
use Rattle.va_disk.specs.declared.storage.Storage.{Ghosts}
use Rattle.va_disk.proofs.Moments.{then_leaves, weaker}
use Rattle.va_lang.specs.Reply.{Reply}
use Rattle.va_model.specs.Least.{EachReadsLeast, ReadsLeast}
use Rattle.va_model.specs.Lines.{Line}
use Rattle.va_model.specs.Memory.{wants_memory}
use Rattle.va_model.specs.Runs.{AreReplies, after}
use Rattle.va_model.specs.Silent.{NoneRefused, RanSilently, SilentlyLeaves, StandsAlong, StoppedSilently, Sums, led_to, no_sums, plus, replies_to, sums_of, told_by}
use Rattle.va_model.specs.State.{State, StandsFor}
use Rattle.va_model.specs.Step.{step}
use Rattle.va_model.specs.VectorReads.{Adds, Piece, ReadsFor}
use Rattle.va_model.proofs.Fitting.{least_append, reads_append}

pub replies_append : (start : State) (first next : List Line) → replies_to start (first ++ next) ≡ replies_to start first ++ replies_to (led_to start first) next
replies_append start [] next = refl
replies_append start (line ∷ first) next = ap (λ (replies : List Reply). (step start line false).reply ∷ replies) (replies_append (step start line false).state first next)

pub led_append : (start : State) (first next : List Line) → led_to start (first ++ next) ≡ led_to (led_to start first) next
led_append start [] next = refl
led_append start (line ∷ first) next = led_append (step start line false).state first next

-- a reply that isn't want of memory is that of the step where memory isn't refused, and the state is as well
module _ (start : State) (line : Line) (reply : Reply) (fits : reply ≡ (step start line (wants_memory reply)).reply) (granted : wants_memory reply ≡ false) where
  pub granted_reply : reply ≡ (step start line false).reply
  granted_reply = fits ∙ ap (λ (m : Bool). (step start line m).reply) granted

  pub granted_state : (step start line (wants_memory reply)).state ≡ (step start line false).state
  granted_state = ap (λ (m : Bool). (step start line m).state) granted

-- replies that fit, of which none is want of memory, are those of the lines
pub fits_are : (start : State) (lines : List Line) (replies : List Reply) → AreReplies start lines replies → NoneRefused replies → replies ≡ replies_to start lines
fits_are start [] [] fits none = refl
fits_are start [] (reply ∷ replies) fits none = absurd fits
fits_are start (line ∷ lines) [] fits none = absurd fits
fits_are start (line ∷ lines) (reply ∷ replies) fits none =
    let here : reply ≡ (step start line false).reply = granted_reply start line reply fits.0 none.0 in
    let rest : replies ≡ replies_to (step start line (wants_memory reply)).state lines = fits_are (step start line (wants_memory reply)).state lines replies fits.1 none.1 in
    ap (λ (r : Reply). r ∷ replies) here
    ∙ ap (λ (rs : List Reply). (step start line false).reply ∷ rs) (rest ∙ ap (λ (s : State). replies_to s lines) (granted_state start line reply fits.0 none.0))

pub fits_lead : (start : State) (lines : List Line) (replies : List Reply) → AreReplies start lines replies → NoneRefused replies → after start lines replies ≡ led_to start lines
fits_lead start [] [] fits none = refl
fits_lead start [] (reply ∷ replies) fits none = absurd fits
fits_lead start (line ∷ lines) [] fits none = absurd fits
fits_lead start (line ∷ lines) (reply ∷ replies) fits none =
    fits_lead (step start line (wants_memory reply)).state lines replies fits.1 none.1
    ∙ ap (λ (s : State). led_to s lines) (granted_state start line reply fits.0 none.0)

-- and the replies of the lines fit, where none is want of memory
pub silent_fits : (start : State) (lines : List Line) → NoneRefused (replies_to start lines) → AreReplies start lines (replies_to start lines)
silent_fits start [] none = tt
silent_fits start (line ∷ lines) none = (
  ap (λ (m : Bool). (step start line m).reply) (sym none.0),
  subst (λ (s : State). AreReplies s lines (replies_to (step start line false).state lines)) (ap (λ (m : Bool). (step start line m).state) (sym none.0))
      (silent_fits (step start line false).state lines none.1),
)

pub silent_after : (start : State) (lines : List Line) → NoneRefused (replies_to start lines) → after start lines (replies_to start lines) ≡ led_to start lines
silent_after start lines none = fits_lead start lines (replies_to start lines) (silent_fits start lines none) none

-- what replies tell, and one more of them
abbrev sums : ℕ → ℕ → ℕ → Sums
sums fetched candidates distances = record { fetched = fetched; candidates = candidates; distances = distances }

pub same_sums : (a b : Sums) → a.fetched ≡ b.fetched → a.candidates ≡ b.candidates → a.distances ≡ b.distances → a ≡ b
same_sums a b fetched candidates distances =
    ap (λ (n : ℕ). sums n a.candidates a.distances) fetched
    ∙ ap (λ (n : ℕ). sums b.fetched n a.distances) candidates
    ∙ ap (λ (n : ℕ). sums b.fetched b.candidates n) distances

pub nothing_plus : (more : Sums) → plus no_sums more ≡ more
nothing_plus more = same_sums (plus no_sums more) more (omega arith) (omega arith) (omega arith)

pub plus_nothing : (first : Sums) → plus first no_sums ≡ first
plus_nothing first = same_sums (plus first no_sums) first (omega arith) (omega arith) (omega arith)

plus_grouped : (a b c : Sums) → plus a (plus b c) ≡ plus (plus a b) c
plus_grouped a b c = same_sums (plus a (plus b c)) (plus (plus a b) c) (omega arith) (omega arith) (omega arith)

pub sums_append : (replies more : List Reply) → sums_of (replies ++ more) ≡ plus (sums_of replies) (sums_of more)
sums_append [] more = sym (nothing_plus (sums_of more))
sums_append (reply ∷ replies) more = ap (plus (told_by reply)) (sums_append replies more) ∙ plus_grouped (told_by reply) (sums_of replies) (sums_of more)

pub sums_more : (replies : List Reply) (reply : Reply) → sums_of (replies ++ reply ∷ []) ≡ plus (sums_of replies) (told_by reply)
sums_more replies reply = sums_append replies (reply ∷ []) ∙ ap (plus (sums_of replies)) (plus_nothing (told_by reply))

-- an image that stands along some lines
pub along_now : (state : State) (lines : List Line) (image : List ℕ) → StandsFor state image → StandsAlong state lines image
along_now state [] image stands = stands
along_now state (line ∷ lines) image stands = inl stands

pub along_end : (state : State) (lines : List Line) (image : List ℕ) → StandsFor (led_to state lines) image → StandsAlong state lines image
along_end state [] image stands = stands
along_end state (line ∷ lines) image stands = inr (along_end (step state line false).state lines image stands)

-- along lines behind others
pub along_behind : (state : State) (first next : List Line) (image : List ℕ) → StandsAlong (led_to state first) next image → StandsAlong state (first ++ next) image
along_behind state [] next image stands = stands
along_behind state (line ∷ first) next image stands = inr (along_behind (step state line false).state first next image stands)

-- along more lines
pub along_later : (state : State) (first next : List Line) (image : List ℕ) → StandsAlong state first image → StandsAlong state (first ++ next) image
along_later state [] next image stands = along_now state next image stands
along_later state (line ∷ first) next image (inl stands) = inl stands
along_later state (line ∷ first) next image (inr stands) = inr (along_later (step state line false).state first next image stands)

-- one line: before it, or after it
pub along_one : (state : State) (line : Line) (image : List ℕ) → StandsFor state image ⊎ StandsFor (step state line false).state image → StandsAlong state (line ∷ []) image
along_one state line image stands = stands

pub leaves_later : {start : State} {old image given : List ℕ} {first : List Line} (next : List Line) → SilentlyLeaves start old first image given → SilentlyLeaves start old (first ++ next) image given
leaves_later {start} {old} {image} {given} {first} next left = record { stands = along_later start first next image left.stands; given_is = left.given_is }

pub leaves_behind : {start : State} {old mid image given : List ℕ} {next : List Line} (first : List Line) → mid ≡ old → SilentlyLeaves (led_to start first) mid next image given → SilentlyLeaves start old (first ++ next) image given
leaves_behind {start} {old} {mid} {image} {given} {next} first same left = record { stands = along_behind start first next image left.stands; given_is = left.given_is ∙ same }

module _ {D : Type 0} {g : Ghosts D} where
  -- no line
  pub silent_nothing : {start : State} {desk : D} → StandsFor start (g.image desk) → RanSilently g start [] desk desk start
  silent_nothing {start} {desk} stands = record { none_refused = tt; state = refl; stands = stands; given = refl; read = refl; least = tt }

  -- one list of lines after another
  pub silent_more : {start mid_state end : State} {first next : List Line} {old mid new : D} → RanSilently g start first old mid mid_state → RanSilently g mid_state next mid new end → RanSilently g start (first ++ next) old new end
  silent_more {start} {mid_state} {end} {first} {next} {old} {mid} {new} ran rest =
      let none : NoneRefused (replies_to (led_to start first) next) = subst (λ (s : State). NoneRefused (replies_to s next)) ran.state rest.none_refused in
      let here : mid_state ≡ after start first (replies_to start first) = ran.state ∙ sym (silent_after start first ran.none_refused) in
      let same : replies_to mid_state next ≡ replies_to (led_to start first) next = ap (λ (s : State). replies_to s next) ran.state in
      let fits : AreReplies start first (replies_to start first) = silent_fits start first ran.none_refused in
      record {
        none_refused = subst NoneRefused (sym (replies_append start first next)) (all_append (λ reply. wants_memory reply ≡ false) (replies_to start first) (replies_to (led_to start first) next) ran.none_refused none);
        state = rest.state ∙ ap (λ (s : State). led_to s next) ran.state ∙ sym (led_append start first next);
        stands = rest.stands;
        given = rest.given ∙ ran.given;
        read = subst (λ (replies : List Reply). ReadsFor start (first ++ next) replies (g.reads old) (g.reads new)) (ap (λ (rs : List Reply). replies_to start first ++ rs) same ∙ sym (replies_append start first next))
            (reads_append start first next (replies_to start first) (replies_to mid_state next) (g.reads old) (g.reads mid) (g.reads new) ran.read
            (subst (λ (s : State). ReadsFor s next (replies_to mid_state next) (g.reads mid) (g.reads new)) here rest.read));
        least = subst (λ (replies : List Reply). EachReadsLeast start (first ++ next) replies) (ap (λ (rs : List Reply). replies_to start first ++ rs) same ∙ sym (replies_append start first next))
            (least_append start first next (replies_to start first) (replies_to mid_state next) fits ran.least
            (subst (λ (s : State). EachReadsLeast s next (replies_to mid_state next)) here rest.least));
      }

  pub stopped_behind : {Fails : State → Line → D → D → Type 0} {start mid_state : State} {first next : List Line} {old mid new : D} → RanSilently g start first old mid mid_state → StoppedSilently g Fails mid_state next mid new
      → StoppedSilently g Fails start (first ++ next) old new
  stopped_behind {Fails} {start} {mid_state} {first} {next} {old} {mid} {new} ran rest = record {
    before = first ++ rest.before;
    line = rest.line;
    later = rest.later;
    are = ap (λ (lines : List Line). first ++ lines) rest.are ∙ sym (append_assoc first rest.before (rest.line ∷ rest.later));
    mid = rest.mid;
    end = rest.end;
    ran = silent_more ran rest.ran;
    fails = rest.fails;
  }

  -- the only line failed
  pub stopped_alone : {Fails : State → Line → D → D → Type 0} {start : State} {line : Line} {old new : D} → StandsFor start (g.image old) → Fails start line old new → StoppedSilently g Fails start (line ∷ []) old new
  stopped_alone {Fails} {start} {line} {old} {new} stands fails = record { before = []; line = line; later = []; are = refl; mid = old; end = start; ran = silent_nothing stands; fails = fails }

  -- more lines behind those at which the run stopped
  pub stopped_before : {Fails : State → Line → D → D → Type 0} {start : State} {first : List Line} {old new : D} (next : List Line) → StoppedSilently g Fails start first old new → StoppedSilently g Fails start (first ++ next) old new
  stopped_before {Fails} {start} {first} {old} {new} next stopped = record {
    before = stopped.before;
    line = stopped.line;
    later = stopped.later ++ next;
    are = ap (λ (lines : List Line). lines ++ next) stopped.are ∙ append_assoc stopped.before (stopped.line ∷ stopped.later) next;
    mid = stopped.mid;
    end = stopped.end;
    ran = stopped.ran;
    fails = stopped.fails;
  }

  module _ {start : State} {line : Line} {reply : Reply} {old new : D} (fits : reply ≡ (step start line (wants_memory reply)).reply) (granted : wants_memory reply ≡ false) where
    -- one line, by its reply
    pub silent_one : {end : State} → end ≡ (step start line (wants_memory reply)).state → StandsFor end (g.image new) → g.given new ≡ g.given old → Adds start (Piece start line reply) (g.reads old) (g.reads new) → ReadsLeast start line
        → RanSilently g start (line ∷ []) old new end
    silent_one {end} state stands given read least =
        let same : reply ≡ (step start line false).reply = granted_reply start line reply fits granted in
        record {
          none_refused = (subst (λ (r : Reply). wants_memory r ≡ false) same granted, tt);
          state = state ∙ granted_state start line reply fits granted;
          stands = stands;
          given = given;
          read = (g.reads new, subst (λ (r : Reply). Adds start (Piece start line r) (g.reads old) (g.reads new)) same read, refl);
          least = (least, tt);
        }

  -- no line was run yet, or one more list of them
  pub leaves_more : {start mid_state : State} {first next : List Line} {old mid new : D} → RanSilently g start first old mid mid_state → Leaves g.clock g.left_since old mid (SilentlyLeaves start (g.given old) first)
      → Leaves g.clock g.left_since mid new (SilentlyLeaves mid_state (g.given mid) next) → Leaves g.clock g.left_since old new (SilentlyLeaves start (g.given old) (first ++ next))
  leaves_more {start} {mid_state} {first} {next} {old} {mid} {new} ran before behind = then_leaves g.clock g.left_since old mid new _
      (weaker g.clock g.left_since old mid _ _ (λ image given left. leaves_later next left) before)
      (weaker g.clock g.left_since mid new _ _ (λ image given left. leaves_behind first ran.given (subst (λ (s : State). SilentlyLeaves s (g.given mid) next image given) ran.state left)) behind)
