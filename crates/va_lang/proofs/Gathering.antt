-- Texts of which the front was given.
use Rattle.std.proofs.Common.{ℕ, List, [], ◌++◌, refl, ap, sym, ◌∙◌, append_assoc, subst}
use Rattle.va_disk.specs.Frames.{OnlyGives}
use Rattle.va_disk.specs.Told.{Gives, GivesPart}
use Rattle.va_disk.specs.declared.storage.Storage.{Ghosts}
use Rattle.va_disk.proofs.Frames.{gives_on}
use Rattle.va_disk.proofs.Giving.{gives_nothing, gives_both, gives_part_after, gives_prefix_first}
use Rattle.va_disk.proofs.Moments.{weaker}
use Rattle.va_lang.specs.Gathering.{Gathers}

-- nothing was given yet
pub gathers_all : (told : Type 0) (old text : List ℕ) → Gathers told old text text old
gathers_all told old text = record { front = []; is = refl; given = gives_nothing told old }

module _ {told : Type 0} {old mid text waiting : List ℕ} (so_far : Gathers told old text waiting mid) where
  -- more bytes wait
  pub gathers_more : (more : List ℕ) → Gathers told old (text ++ more) (waiting ++ more) mid
  gathers_more more = record {
    front = so_far.front;
    is = sym (append_assoc so_far.front waiting more) ∙ ap (λ (l : List ℕ). l ++ more) so_far.is;
    given = so_far.given;
  }

  -- of what waited, the front was given
  pub gathers_after : {new left : List ℕ} → Gathers told mid waiting left new → Gathers told old text left new
  gathers_after {new} {left} next = record {
    front = so_far.front ++ next.front;
    is = append_assoc so_far.front next.front left ∙ ap (λ (l : List ℕ). so_far.front ++ l) next.is ∙ so_far.is;
    given = gives_both told old mid new so_far.front next.front so_far.given next.given;
  }

  pub gathers_given : {new : List ℕ} → Gives told mid waiting new → Gives told old text new
  gathers_given {new} next = let P : List ℕ → Type 0 = λ l. Gives told old l new in
      subst P so_far.is (gives_both told old mid new so_far.front waiting so_far.given next)

  pub gathers_part : {new : List ℕ} → GivesPart told mid waiting new → GivesPart told old text new
  gathers_part {new} next = let P : List ℕ → Type 0 = λ l. GivesPart told old l new in
      subst P so_far.is (gives_part_after told old mid new so_far.front waiting so_far.given next)

module _ {D : Type 0} {g : Ghosts D} where
  -- a prefix of a text is one of a longer text
  pub gives_longer : {old new : D} {text : List ℕ} (more : List ℕ) → OnlyGives g text old new → OnlyGives g (text ++ more) old new
  gives_longer {old} {new} {text} more frame = record {
    image = frame.image;
    size = frame.size;
    reads = frame.reads;
    faults = frame.faults;
    later = frame.later;
    crash = frame.crash;
    moments = λ honest told. weaker g.clock g.left_since old new _ _
        (λ c given has. (has.0, gives_prefix_first g.told (g.given old) (g.given new) given text more has.1)) (frame.moments honest told);
  }

  -- what waited is given behind what was gathered
  pub gives_waiting : {old mid new : D} {text waiting : List ℕ} → OnlyGives g text old mid → Gathers g.told (g.given old) text waiting (g.given mid)
      → OnlyGives g waiting mid new → OnlyGives g text old new
  gives_waiting first gathers next = gives_on gathers.front gathers.is first gathers.given next
