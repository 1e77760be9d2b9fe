-- Runs of lines whose replies aren't given: one line after another, and what they add up to.
use Rattle.std.proofs.Common.{◌≡◌, ◌⊎◌, inl, inr, Bool, IfSome, None, Option, Some, ℕ, ◌+◌, ◌<◌, true, false, List, [], ◌∷◌, ◌++◌, Result, Ok, Err, OnOk, IfOk, IfErr, ◌≢◌, map, refl, sym, ap, subst, ◌∙◌, arith, length, take, get_or, append-nil, append_assoc}
use Rattle.std.proofs.lemmas.List.{take_more}
use Rattle.va_core.specs.declared.pair.Pair.{Pair}
use Rattle.va_disk.specs.Frames.{DiskFailsAs}
use Rattle.va_disk.specs.declared.storage.Storage.{Ghosts}
use Rattle.va_disk.proofs.Moments.{nothing_leaves, weaker}
use Rattle.va_lang.specs.Reply.{Reply}
use Rattle.va_model.specs.Lines.{Line, line_of}
use Rattle.va_model.specs.Memory.{wants_memory}
use Rattle.va_model.specs.Silent.{AreLittle, ReadsWanting, SilentlyLeaves, Sums, led_to, nearest_lines, no_sums, plus, replies_to, sum_of_distances, sums_of, told_by}
use Rattle.va_model.specs.State.{State}
use Rattle.va_model.specs.Step.{step}
use Rattle.va_model.specs.Step.{reads_of}
use Rattle.va_model.specs.VectorReads.{Adds, AreReads}
use Rattle.va_model.proofs.Granting.{refused_stays}
use Rattle.va_model.proofs.Sums.{line_little, little_both, nearest_append}
use Rattle.va_model.proofs.Reading.{adds_nothing}
use Rattle.va_model.proofs.Silences.{along_one, granted_reply, leaves_later, leaves_more, plus_nothing, replies_append, same_sums, silent_more, silent_nothing, silent_one, stopped_alone, stopped_before, stopped_behind, sums_append}
use Rattle.va_serve.specs.Promises.{Carries, Obeys, Survives, asked_in, of_line}
use Rattle.va_serve.specs.Session.{Lent, Sitting}
use Rattle.va_serve.specs.Working.{AddsUp, Hinders, LastsSilently, RunsSilently, StopsSilently, adding, capped_number}
use Rattle.va_serve.specs.Answers.{fault_status, said_answer}
use Rattle.va_serve.specs.declared.answer.Answer.{Answer}
use Rattle.va_serve.specs.declared.answer.CommandFault.{CommandFault}
use Rattle.va_serve.specs.declared.answer.CommandFault.TheVariants as faults
use Rattle.va_serve.specs.declared.status.Status.{Status}
use Rattle.va_serve.specs.declared.status.Status.TheVariants as statuses
use Rattle.va_model.proofs.Least.{reads_least}
use Rattle.va_serve.proofs.Holding.{stood_at}
use Rattle.va_serve.proofs.Outcomes.{survives_reading}
use Rattle.va_serve.proofs.Stepping.{failed_rises}

-- the distances of the first pairs
sum_both : (pairs more : List Pair) → sum_of_distances (pairs ++ more) ≡ sum_of_distances pairs + sum_of_distances more
sum_both [] more = omega arith
sum_both (pair ∷ pairs) more = omega (arith, sum_both pairs more)

pub sum_more : (pairs : List Pair) (i : ℕ) (pair d : Pair) → i < length pairs → pair ≡ get_or pairs i d → sum_of_distances (take (i + 1) pairs) ≡ sum_of_distances (take i pairs) + pair.dist
sum_more pairs i pair d within is =
    ap sum_of_distances (take_more pairs i d within)
    ∙ sum_both (take i pairs) (get_or pairs i d ∷ [])
    ∙ ap (λ (p : Pair). sum_of_distances (take i pairs) + sum_of_distances (p ∷ [])) (sym is)
    ∙ omega arith

-- sums that stay at the most, one after another
capped_once : (a b c : ℕ) → capped_number (capped_number (a + b) + c) ≡ capped_number (a + (b + c))
capped_once a b c = omega arith

adding_both : (a b c : Sums) → adding (adding a b) c ≡ adding a (plus b c)
adding_both a b c = same_sums (adding (adding a b) c) (adding a (plus b c))
    (capped_once a.fetched b.fetched c.fetched)
    (capped_once a.candidates b.candidates c.candidates)
    (capped_once a.distances b.distances c.distances)

-- the vectors that were read for a reply that says that memory was refused
read_wanting : (start : State) (line : Line) (m : Bool) → m ≡ true → wants_memory (step start line m).reply ≡ true → {old new : List (ℕ × ℕ)} → Adds start (λ vectors. AreReads m vectors (reads_of start (step start line m).places)) old new
    → Adds start (λ vectors. (vectors ≡ []) ⊎ ReadsWanting start line vectors) old new
read_wanting start line false is wants read = cc
read_wanting start line true is wants read = record { added = read.added; is = read.is; vectors = inr (wants, read.vectors) }

-- one line, by what it was answered
module _ {D : Type 0} {g : Ghosts D} {line : Line} {sitting : Sitting} {old new : D} where
  survives_lasts : Survives g (of_line line) sitting old new → LastsSilently g (line ∷ []) sitting old new
  survives_lasts survives = record {
    from = λ keeps told start at secure.
        weaker g.clock g.left_since old new _ _ (λ image given left. record { stands = along_one start line image left.0; given_is = left.1 }) (survives keeps told start at secure);
  }

  module _ {sitting' : Sitting} {reply : Reply} (carries : Carries g (of_line line) sitting sitting' old new reply) where
    pub heard_lasts : LastsSilently g (line ∷ []) sitting old new
    heard_lasts = survives_lasts carries.moments

    pub heard_runs : wants_memory reply ≡ false → g.given new ≡ g.given old → RunsSilently g (line ∷ []) sitting sitting' old new
    heard_runs granted same = record {
      from = λ told start at.
          (let reached = carries.reached told start at in
          record {
            end = (of_line line start (wants_memory reply)).state;
            ran = silent_one reached.fits granted refl reached.at.stands same reached.read (reads_least start (g.image old) at.stands (stood_at start sitting (g.image old) at) line);
            secures = λ honest secure. carries.settles honest told start at secure;
            at = reached.at;
          });
    }

    pub heard_adds : {before after : Sums} → wants_memory reply ≡ false → after ≡ adding before (told_by reply) → AddsUp g (line ∷ []) sitting old before after
    heard_adds {before} {after} granted is = record {
      from = λ told start at.
          is ∙ ap (λ (r : Reply). adding before (told_by r)) (granted_reply start line reply (carries.reached told start at).fits granted)
          ∙ ap (λ (more : Sums). adding before more) (sym (plus_nothing (told_by (step start line false).reply)));
      few = λ told start at. line_little start (g.image old) at.stands line;
    }

    -- memory was wanting
    pub heard_lacks : wants_memory reply ≡ true → g.given new ≡ g.given old → StopsSilently g statuses.Memory (line ∷ []) sitting old new
    heard_lacks wants same = record {
      from = λ told start at.
          (let reached = carries.reached told start at in
          stopped_alone at.stands (record {
            given = same;
            stays = reached.stays (refused_stays start line (wants_memory reply) (ap wants_memory (sym reached.fits) ∙ wants));
            read = read_wanting start line (wants_memory reply) wants (ap wants_memory (sym reached.fits) ∙ wants) reached.read;
          }));
    }

  -- the disk failed, or the store isn't what it was, which is met in no state
  module _ (lent : Lent) (sitting' : Sitting) where
    pub fault_stops : (fault : CommandFault) → Obeys g (asked_in line) lent sitting sitting' old new (Err fault) → g.given new ≡ g.given old → StopsSilently g (fault_status fault) (line ∷ []) sitting old new
    fault_stops faults.Disk owes same = record {
      from = λ told start at. stopped_alone at.stands (record { given = same; stays = owes.stays told start at; read = owes.read told start at });
    }
    fault_stops (faults.Mismatch place dist low high) owes same = record { from = λ told start at. absurd (owes.breaks.never told start at) }
    fault_stops (faults.Changed place) owes same = record { from = λ told start at. absurd (owes.breaks.never told start at) }

    pub fault_lasts : (fault : CommandFault) → Obeys g (asked_in line) lent sitting sitting' old new (Err fault) → LastsSilently g (line ∷ []) sitting old new
    fault_lasts faults.Disk owes = survives_lasts owes.moments
    fault_lasts (faults.Mismatch place dist low high) owes = survives_lasts (survives_reading (of_line line) sitting owes.breaks.frame)
    fault_lasts (faults.Changed place) owes = survives_lasts (survives_reading (of_line line) sitting owes.breaks.frame)

module _ {D : Type 0} (g : Ghosts D) (line : Line) (lent : Lent) (sitting sitting' : Sitting) {old new : D} where
  pub fault_hinders : {result : Result Answer CommandFault} (fault : CommandFault) → g.sink_faults new ≡ g.sink_faults old → result ≡ Err fault → Obeys g (asked_in line) lent sitting sitting' old new (Err fault) → DiskFailsAs g faults.Disk old new result
      → Hinders g (fault_status fault) old new
  fault_hinders faults.Disk sink is owes cause = failed_rises g line lent sitting sitting' sink faults.Disk is owes cause
  fault_hinders (faults.Mismatch place dist low high) sink is owes cause = failed_rises g line lent sitting sitting' sink (faults.Mismatch place dist low high) is owes cause
  fault_hinders (faults.Changed place) sink is owes cause = failed_rises g line lent sitting sitting' sink (faults.Changed place) is owes cause

-- one line, by what is told of its answer
module _ {D : Type 0} {g : Ghosts D} (line : Line) {sitting sitting' : Sitting} {old new : D} (answer : Answer) (lent : Lent) (carries : Carries g (of_line line) sitting sitting' old new (said_answer answer lent)) (same : g.given new ≡ g.given old) where
  pub runs_if : (result : Result Sums Status) → OnOk result ((l : Lent) → wants_memory (said_answer answer l) ≡ false) → OnOk result (RunsSilently g (line ∷ []) sitting sitting' old new)
  runs_if (Ok after) granted = heard_runs carries (granted lent) same
  runs_if (Err status) granted = tt

  pub adds_if : (before : Sums) (result : Result Sums Status) → OnOk result ((l : Lent) → wants_memory (said_answer answer l) ≡ false) → IfOk result (λ after. (l : Lent) → after ≡ adding before (told_by (said_answer answer l)))
      → IfOk result (λ after. AddsUp g (line ∷ []) sitting old before after)
  adds_if before (Ok after) granted adds = heard_adds carries (granted lent) (adds lent)
  adds_if before (Err status) granted adds = tt

  pub stops_if : (result : Result Sums Status) → IfErr result (λ status. (status ≡ statuses.Memory) × ((l : Lent) → wants_memory (said_answer answer l) ≡ true)) → IfErr result (λ status. StopsSilently g status (line ∷ []) sitting old new)
  stops_if (Ok after) refused = tt
  stops_if (Err status) refused = subst (λ (st : Status). StopsSilently g st (line ∷ []) sitting old new) (sym refused.0) (heard_lacks carries (refused.1 lent) same)

-- one list of lines after another
module _ {D : Type 0} {g : Ghosts D} where
  pub runs_none : {sitting : Sitting} {old : D} → RunsSilently g [] sitting sitting old old
  runs_none = record { from = λ told start at. record { end = start; ran = silent_nothing at.stands; secures = λ honest secure. secure; at = at } }

  pub adds_none : {sitting : Sitting} {old : D} → AddsUp g [] sitting old no_sums no_sums
  adds_none = record { from = λ told start at. refl; few = λ told start at. record { fetched = omega arith; candidates = omega arith; distances = omega arith } }

  pub lasts_none : {sitting : Sitting} {old : D} → LastsSilently g [] sitting old old
  lasts_none {sitting} {old} = record { from = λ keeps told start at secure. nothing_leaves g.clock g.left_since old (SilentlyLeaves start (g.given old) []) }

  module _ {first next : List Line} {sitting mid_sitting : Sitting} {old mid : D} (runs : RunsSilently g first sitting mid_sitting old mid) where
    runs_more : {sitting' : Sitting} {new : D} → RunsSilently g next mid_sitting sitting' mid new → RunsSilently g (first ++ next) sitting sitting' old new
    runs_more rest = record {
      from = λ told start at.
          (let before = runs.from told start at in
          let behind = rest.from told before.end before.at in
          record {
            end = behind.end;
            ran = silent_more before.ran behind.ran;
            secures = λ honest secure. behind.secures honest (before.secures honest secure);
            at = behind.at;
          });
    }

    adds_more : {none so_far all : Sums} → AddsUp g first sitting old none so_far → AddsUp g next mid_sitting mid so_far all → AddsUp g (first ++ next) sitting old none all
    adds_more {none} {so_far} {all} adds rest = record {
      from = λ told start at.
          (let before = runs.from told start at in
          rest.from told before.end before.at
          ∙ ap (λ (sums : Sums). adding sums (sums_of (replies_to before.end next))) (adds.from told start at)
          ∙ adding_both none (sums_of (replies_to start first)) (sums_of (replies_to before.end next))
          ∙ ap (λ (s : State). adding none (plus (sums_of (replies_to start first)) (sums_of (replies_to s next)))) before.ran.state
          ∙ ap (λ (sums : Sums). adding none sums)
          (both_sums start));
      few = λ told start at.
          (let before = runs.from told start at in
          let behind : AreLittle (nearest_lines next) (sums_of (replies_to (led_to start first) next)) =
          subst (λ (s : State). AreLittle (nearest_lines next) (sums_of (replies_to s next))) before.ran.state (rest.few told before.end before.at) in
          subst (λ (n : ℕ). AreLittle n (sums_of (replies_to start (first ++ next)))) (sym (nearest_append first next))
          (subst (λ (sums : Sums). AreLittle (nearest_lines first + nearest_lines next) sums) (both_sums start)
          (little_both (nearest_lines first) (nearest_lines next) (adds.few told start at) behind)));
    }
      where
        both_sums : (start : State) → plus (sums_of (replies_to start first)) (sums_of (replies_to (led_to start first) next)) ≡ sums_of (replies_to start (first ++ next))
        both_sums start = sym (sums_append (replies_to start first) (replies_to (led_to start first) next)) ∙ ap sums_of (sym (replies_append start first next))

    stops_more : {status : Status} {new : D} → StopsSilently g status next mid_sitting mid new → StopsSilently g status (first ++ next) sitting old new
    stops_more rest = record {
      from = λ told start at. (let before = runs.from told start at in stopped_behind before.ran (rest.from told before.end before.at));
    }

    lasts_more : {new : D} → LastsSilently g first sitting old mid → LastsSilently g next mid_sitting mid new → LastsSilently g (first ++ next) sitting old new
    lasts_more lasts rest = record {
      from = λ keeps told start at secure.
          (let before = runs.from told start at in
          leaves_more before.ran (lasts.from keeps told start at secure) (rest.from keeps told before.end before.at (before.secures keeps secure)));
    }

  stops_before : {status : Status} {first : List Line} {sitting : Sitting} {old new : D} (next : List Line) → StopsSilently g status first sitting old new → StopsSilently g status (first ++ next) sitting old new
  stops_before next stops = record { from = λ told start at. stopped_before next (stops.from told start at) }

  lasts_before : {first : List Line} {sitting : Sitting} {old new : D} (next : List Line) → LastsSilently g first sitting old new → LastsSilently g (first ++ next) sitting old new
  lasts_before {first} {sitting} {old} {new} next lasts = record {
    from = λ keeps told start at secure. weaker g.clock g.left_since old new _ _ (λ image given left. leaves_later next left) (lasts.from keeps told start at secure);
  }

-- Of these lines some were run, and these are still to come.
pub record SoFar {D : Type 0} (g : Ghosts D) (all coming : List Line) (sitting sitting' : Sitting) (old new : D) (totals : Sums) : Type 0 where
  pub first : List Line
  pub are : all ≡ first ++ coming
  pub runs : RunsSilently g first sitting sitting' old new
  pub adds : AddsUp g first sitting old no_sums totals
  pub lasts : LastsSilently g first sitting old new

module _ {D : Type 0} {g : Ghosts D} {all : List Line} {sitting : Sitting} where
  pub far_none : {old : D} → SoFar g all all sitting sitting old old no_sums
  far_none = record { first = []; are = refl; runs = runs_none; adds = adds_none; lasts = lasts_none }

  -- all were run
  module _ {coming : List Line} {sitting' : Sitting} {old new : D} {totals : Sums} (far : SoFar g all coming sitting sitting' old new totals) (over : coming ≡ []) where
    whole : far.first ≡ all
    whole = sym (append-nil far.first) ∙ ap (λ (lines : List Line). far.first ++ lines) (sym over) ∙ sym far.are

    pub far_runs : RunsSilently g all sitting sitting' old new
    far_runs = subst (λ (lines : List Line). RunsSilently g lines sitting sitting' old new) whole far.runs

    pub far_adds : AddsUp g all sitting old no_sums totals
    far_adds = subst (λ (lines : List Line). AddsUp g lines sitting old no_sums totals) whole far.adds

    pub far_lasts : LastsSilently g all sitting old new
    far_lasts = subst (λ (lines : List Line). LastsSilently g lines sitting old new) whole far.lasts

  -- the next line
  module _ {coming later : List Line} {line : Line} {mid_sitting : Sitting} {old mid : D} {so_far : Sums} (far : SoFar g all coming sitting mid_sitting old mid so_far) (next : coming ≡ line ∷ later) where
    with_next : all ≡ (far.first ++ line ∷ []) ++ later
    with_next = far.are ∙ ap (λ (lines : List Line). far.first ++ lines) next ∙ sym (append_assoc far.first (line ∷ []) later)

    pub far_more : {sitting' : Sitting} {new : D} {totals : Sums} → RunsSilently g (line ∷ []) mid_sitting sitting' mid new → AddsUp g (line ∷ []) mid_sitting mid so_far totals → LastsSilently g (line ∷ []) mid_sitting mid new
        → SoFar g all later sitting sitting' old new totals
    far_more runs adds lasts = record {
      first = far.first ++ line ∷ [];
      are = with_next;
      runs = runs_more far.runs runs;
      adds = adds_more far.runs far.adds adds;
      lasts = lasts_more far.runs far.lasts lasts;
    }

    pub far_stops : {status : Status} {new : D} → StopsSilently g status (line ∷ []) mid_sitting mid new → StopsSilently g status all sitting old new
    far_stops {status} {new} stops = subst (λ (lines : List Line). StopsSilently g status lines sitting old new) (sym with_next) (stops_before later (stops_more far.runs stops))

    pub far_ends : {new : D} → LastsSilently g (line ∷ []) mid_sitting mid new → LastsSilently g all sitting old new
    far_ends {new} lasts = subst (λ (lines : List Line). LastsSilently g lines sitting old new) (sym with_next) (lasts_before later (lasts_more far.runs far.lasts lasts))

    -- memory was wanting for the text of the line
    pub far_starves : StopsSilently g statuses.Memory all sitting old mid
    far_starves = far_stops (record {
      from = λ told start at. stopped_alone at.stands (record { given = refl; stays = refl; read = adds_nothing start (λ vectors. (vectors ≡ []) ⊎ ReadsWanting start line vectors) (g.reads mid) (g.reads mid) refl (inl refl) });
    })

    pub far_rests : LastsSilently g all sitting old mid
    far_rests = far_ends (record { from = λ keeps told start at secure. nothing_leaves g.clock g.left_since mid (SilentlyLeaves start (g.given mid) (line ∷ [])) })

-- memory was wanting for the text of a line that is still to come
module _ {D : Type 0} {g : Ghosts D} {all : List Line} {sitting mid_sitting : Sitting} {old mid : D} {so_far : Sums} where
  pub text_starves : (texts : List (List ℕ)) → texts ≢ [] → SoFar g all (map line_of texts) sitting mid_sitting old mid so_far → StopsSilently g statuses.Memory all sitting old mid
  text_starves [] some far = absurd (some refl)
  text_starves (text ∷ texts) some far = far_starves far refl

  pub text_rests : (texts : List (List ℕ)) → texts ≢ [] → SoFar g all (map line_of texts) sitting mid_sitting old mid so_far → LastsSilently g all sitting old mid
  text_rests [] some far = absurd (some refl)
  text_rests (text ∷ texts) some far = far_rests far refl

-- the next line, as it is handed over
pub next_text : (texts later : List (List ℕ)) (next : Option (List ℕ)) (text handed : List ℕ) → IfSome next (λ line. texts ≡ line ∷ later) → next ≡ Some text → handed ≡ text → map line_of texts ≡ line_of handed ∷ map line_of later
next_text texts later (Some line) text handed given is same =
    let next_line : ◌≡◌ {A = Option (List ℕ)} (Some line) (Some text) = is in
    let this : line ≡ text = cc in
    ap (map line_of) given ∙ ap (λ (t : List ℕ). line_of t ∷ map line_of later) (this ∙ sym same)
next_text texts later None text handed given is same = absurd (cc)
