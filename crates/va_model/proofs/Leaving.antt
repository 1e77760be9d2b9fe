-- The crash sentence over one line, over more lines, and from a run to a longer one.
use Rattle.std.proofs.Common.{◌≡◌, inl, ℕ, ◌<◌, List, [], ◌∷◌, ◌++◌, length, Bool, false, refl, ap, sym, ◌∙◌, subst, arith, append_assoc, append-nil, length-append}
use Rattle.std.proofs.lemmas.Grind.{flat_map-append}
use Rattle.va_disk.specs.Crashes.{Leaves}
use Rattle.va_disk.specs.declared.storage.Storage.{Ghosts}
use Rattle.va_disk.proofs.Moments.{weaker, then_leaves}
use Rattle.va_lang.specs.Reply.{Reply, reply_text, reply_line}
use Rattle.va_model.specs.Crashes.{IsPartNear, RunKeeps, RunLeaves, StandsNear, StepLeaves}
use Rattle.va_model.specs.Lines.{Line}
use Rattle.va_model.specs.Runs.{after, AreReplies, reply_lines, Served}
use Rattle.va_model.specs.State.{State, StandsFor}
use Rattle.va_model.specs.Step.{step}
use Rattle.va_model.proofs.Fitting.{fits_append, after_append}

-- no reply line is empty
pub has_newline : (reply : Reply) → 0 < length (reply_line reply)
has_newline reply = omega (arith, length-append (reply_text reply) (10 ∷ []))

-- lines that come later
near_later : (state : State) (later more : List Line) (image : List ℕ) → StandsNear state later image → StandsNear state (later ++ more) image
near_later state [] [] image stands = stands
near_later state [] (line ∷ more) image stands = inl stands
near_later state (line ∷ later) more image stands = stands

part_later : (state : State) (later more : List Line) (part : List ℕ) → IsPartNear state later part → IsPartNear state (later ++ more) part
part_later state [] [] part none = none
part_later state [] (line ∷ more) part none = record {
  refused = false;
  begins = record {
    missing = reply_line (step state line false).reply;
    lacks = has_newline (step state line false).reply;
    is = ap (λ (text : List ℕ). text ++ reply_line (step state line false).reply) none;
  };
}
part_later state (line ∷ later) more part is = is

pub keeps_later : {start : State} {lines before later : List Line} {replies : List Reply} {image : List ℕ} (more : List Line) → RunKeeps start lines before later replies image → RunKeeps start (lines ++ more) before (later ++ more) replies image
keeps_later {start} {lines} {before} {later} {replies} {image} more keeps = record {
  are = ap (λ (all : List Line). all ++ more) keeps.are ∙ append_assoc before later more;
  fits = keeps.fits;
  stands = near_later (after start before replies) later more image keeps.stands;
}

pub left_later : {start : State} {old image given : List ℕ} {lines : List Line} (more : List Line) → RunLeaves start old lines image given → RunLeaves start old (lines ++ more) image given
left_later {start} {old} {image} {given} {lines} more left = record {
  before = left.before;
  later = left.later ++ more;
  replies = left.replies;
  keeps = keeps_later more left.keeps;
  part = left.part;
  given_is = left.given_is;
  is_part = part_later (after start left.before left.replies) left.later more left.part left.is_part;
}

-- lines that came before, and their replies
pub keeps_after : {start : State} {more before later : List Line} {replies : List Reply} {image : List ℕ} (lines : List Line) (first : List Reply) → AreReplies start lines first → RunKeeps (after start lines first) more before later replies image
    → RunKeeps start (lines ++ more) (lines ++ before) later (first ++ replies) image
keeps_after {start} {more} {before} {later} {replies} {image} lines first fits keeps = record {
  are = ap (λ (all : List Line). lines ++ all) keeps.are ∙ sym (append_assoc lines before later);
  fits = fits_append start lines before first replies fits keeps.fits;
  stands = subst (λ (state : State). StandsNear state later image) (sym (after_append start lines before first replies fits)) keeps.stands;
}

pub left_after : {start : State} {old mid image given : List ℕ} {more : List Line} (lines : List Line) (replies : List Reply) → AreReplies start lines replies → mid ≡ old ++ reply_lines replies
    → RunLeaves (after start lines replies) mid more image given → RunLeaves start old (lines ++ more) image given
left_after {start} {old} {mid} {image} {given} {more} lines replies fits gave left = record {
  before = lines ++ left.before;
  later = left.later;
  replies = replies ++ left.replies;
  keeps = keeps_after lines replies fits left.keeps;
  part = left.part;
  given_is =
      left.given_is
      ∙ ap (λ (text : List ℕ). text ++ left.part) (
      ap (λ (text : List ℕ). text ++ reply_lines left.replies) gave
      ∙ append_assoc old (reply_lines replies) (reply_lines left.replies)
      ∙ ap (λ (text : List ℕ). old ++ text) (sym (flat_map-append reply_line replies left.replies))
      );
  is_part = subst (λ (state : State). IsPartNear state left.later left.part) (sym (after_append start lines left.before replies left.replies fits)) left.is_part;
}

-- one line
left_one_at : (state : State) (line : Line) (old image given missing : List ℕ) (leaves : StepLeaves state line old image given) → leaves.missing ≡ missing → RunLeaves state old (line ∷ []) image given
left_one_at state line old image given [] leaves none = record {
  before = line ∷ [];
  later = [];
  replies = (step state line leaves.refused).reply ∷ [];
  keeps = record {
    are = refl;
    fits = (ap (λ (m : Bool). (step state line m).reply) (leaves.done none).0, tt);
    stands = subst (λ (m : Bool). StandsFor (step state line m).state image) (leaves.done none).0 (leaves.done none).1;
  };
  part = [];
  given_is =
      leaves.given_is
      ∙ ap (λ (text : List ℕ). old ++ text) (
      sym (append-nil leaves.part)
      ∙ ap (λ (text : List ℕ). leaves.part ++ text) (sym none)
      ∙ leaves.begins
      ∙ sym (append-nil (reply_line (step state line leaves.refused).reply))
      )
      ∙ sym (append-nil (old ++ reply_lines ((step state line leaves.refused).reply ∷ [])));
  is_part = refl;
}
left_one_at state line old image given (b ∷ missing) leaves some = record {
  before = [];
  later = line ∷ [];
  replies = [];
  keeps = record { are = refl; fits = tt; stands = leaves.kept };
  part = leaves.part;
  given_is = leaves.given_is ∙ ap (λ (text : List ℕ). text ++ leaves.part) (sym (append-nil old));
  is_part = record {
    refused = leaves.refused;
    begins = record { missing = leaves.missing; lacks = omega (arith, ap length some); is = leaves.begins };
  };
}

pub left_one : {state : State} {line : Line} {old image given : List ℕ} → StepLeaves state line old image given → RunLeaves state old (line ∷ []) image given
left_one {state} {line} {old} {image} {given} leaves = left_one_at state line old image given leaves.missing leaves refl

module _ {D : Type 0} {g : Ghosts D} where
  -- the sentence goes on over further lines
  pub left_more : {start mid_state : State} {first next : List Line} {replies : List Reply} {old mid new : D} → Served g start first replies old mid mid_state
      → Leaves g.clock g.left_since old mid (RunLeaves start (g.given old) first) → Leaves g.clock g.left_since mid new (RunLeaves mid_state (g.given mid) next)
      → Leaves g.clock g.left_since old new (RunLeaves start (g.given old) (first ++ next))
  left_more {start} {mid_state} {first} {next} {replies} {old} {mid} {new} served before behind = then_leaves g.clock g.left_since old mid new _
      (weaker g.clock g.left_since old mid _ _ (λ image given left. left_later next left) before)
      (weaker g.clock g.left_since mid new _ _
      (λ image given left. left_after first replies served.answered.fits served.given (subst (λ (s : State). RunLeaves s (g.given mid) next image given) served.answered.state left)) behind)

-- the same lines, and more behind them
module _ {D : Type 0} (g : Ghosts D) where
  pub left_whole : (start : State) (given : List ℕ) (old new : D) {lines all : List Line} (more : List Line) → all ≡ lines ++ more
      → Leaves g.clock g.left_since old new (RunLeaves start given lines) → Leaves g.clock g.left_since old new (RunLeaves start given all)
  left_whole start given old new {lines} {all} more are so_far =
      weaker g.clock g.left_since old new _ _ (λ image gave left. subst (λ (ls : List Line). RunLeaves start given ls image gave) (sym are) (left_later more left)) so_far
