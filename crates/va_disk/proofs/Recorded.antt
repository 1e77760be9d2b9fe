-- What one more call in the record changes.
use Rattle.std.proofs.Common.{◌≡◌, ◌⊎◌, inl, inr, ℕ, ◌+◌, ◌≤◌, min, List, [], ◌∷◌, ◌++◌, length, take, refl, sym, ◌∙◌, ap, subst, arith, length-append}
use Rattle.std.proofs.lemmas.Bool.{cases_lt}
use Rattle.std.proofs.lemmas.List.{take-append-le, take_all}
use Rattle.va_disk.specs.Crashes.{Torn, Holds, Follows, Elapses}
use Rattle.va_disk.specs.Replay.{State, step, replay_from, replay, started, overwritten, TornInTurn, MayLeave, LeftSince}
use Rattle.va_disk.specs.ReplayLaws.{in_turn_pop}
use Rattle.va_disk.specs.declared.call.Call.{Call}
use Rattle.va_disk.specs.declared.call.Call.TheVariants.{Write}

after_push : (s : State) (calls : List Call) (call : Call) → replay_from s (calls ++ call ∷ []) ≡ step (replay_from s calls) call
after_push s [] call = refl
after_push s (c ∷ calls) call = after_push (step s c) calls call

pub replay_push : (first : List ℕ) (calls later : List Call) (call : Call) → later ≡ calls ++ call ∷ [] → replay first later ≡ step (replay first calls) call
replay_push first calls later call is = ap (λ (l : List Call). replay first l) is ∙ after_push (started first) calls call

-- what a crash may leave after one more call is what it might have left, if that is so of the states
pub elapses_push : (first : List ℕ) (calls later : List Call) (call : Call) (given' : List ℕ) → later ≡ calls ++ call ∷ [] → given' ≡ (replay first later).given
    → Elapses (length calls) (length later) (LeftSince first calls) (LeftSince first later) (MayLeave first later) given'
elapses_push first calls later call given' is given_is = record {
  later = omega (arith, long);
  nothing_else = λ t c g le left. was t c g left;
  keeps = λ t c g le left. (
    left.0,
    left.1,
    omega (arith, left.2, long),
    subst (λ (l : List Call). MayLeave first l c) (sym (same left.0 left.2)) left.3,
    left.4 ∙ ap (λ (l : List Call). (replay first l).given) (sym (same left.0 left.2)),
  );
}
  where
    long : length later ≡ length calls + 1
    long = ap length is ∙ length-append calls (call ∷ [])

    same : (k : ℕ) → k ≤ length calls → take k later ≡ take k calls
    same k le = ap (λ (l : List Call). take k l) is ∙ take-append-le k calls (call ∷ []) le

    was : (t : ℕ) (c g : List ℕ) → LeftSince first later t c g → LeftSince first calls t c g ⊎ (MayLeave first later c × (g ≡ given'))
    was t c g left = elim (cases_lt (length calls) left.0) [
      | inr le ↦ inl (left.0, left.1, le, subst (λ (l : List Call). MayLeave first l c) (same left.0 le) left.3, left.4 ∙ ap (λ (l : List Call). (replay first l).given) (same left.0 le))
      | inl gt ↦ let all : take left.0 later ≡ later = take_all left.0 later (omega (arith, long, gt)) in
          inr (subst (λ (l : List Call). MayLeave first l c) all left.3, left.4 ∙ ap (λ (l : List Call). (replay first l).given) all ∙ sym given_is)
    ]

pub write_image : (at : ℕ) (old image next bytes : List ℕ) → image ≡ old → at ≤ length image → Holds image at bytes next → next ≡ overwritten old (min at (length old)) bytes
write_image at old image next bytes is le holds =
    let low : at ≡ min at (length image) = omega arith in
    holds
    ∙ ap (λ (k : ℕ). overwritten image k bytes) low
    ∙ ap (λ (l : List ℕ). overwritten l (min at (length l)) bytes) is

module _ (first first' : List ℕ) (calls later : List Call) (call : Call) (same : first' ≡ first) (is : later ≡ calls ++ call ∷ []) where
  -- what a crash may leave after the call
  pub left_after : (c : List ℕ) → MayLeave first' later c → TornInTurn (step (replay first calls) call).stable (step (replay first calls) call).pending c
  left_after c left =
      let at_first : MayLeave first later c = subst (λ (f : List ℕ). MayLeave f later c) same left in
      subst (λ (s : State). TornInTurn s.stable s.pending c) (replay_push first calls later call is) at_first

  pub elapses : (given : List ℕ) → given ≡ (replay first' later).given
      → Elapses (length calls) (length later) (LeftSince first calls) (LeftSince first' later) (MayLeave first' later) given
  elapses given given_is =
      subst (λ (f : List ℕ). Elapses (length calls) (length later) (LeftSince first calls) (LeftSince f later) (MayLeave f later) given) (sym same)
      (elapses_push first calls later call given is (given_is ∙ ap (λ (f : List ℕ). (replay f later).given) same))

pub write_follows : (first first' : List ℕ) (calls later : List Call) (at : ℕ) (bytes image : List ℕ) → first' ≡ first → later ≡ calls ++ Write at bytes ∷ []
    → image ≡ (replay first calls).image → at ≤ length image → Follows (Torn at (length bytes)) (MayLeave first calls) (MayLeave first' later)
write_follows first first' calls later at bytes image same is image_is le = λ c left.
    let from = in_turn_pop (replay first calls).stable c (replay first calls).pending _ (left_after first first' calls later (Write at bytes) same is c left) in
    let low : min at (length (replay first calls).image) ≡ at = omega (arith, ap length image_is) in
    (from.0, from.1, subst (λ (k : ℕ). Torn k (length bytes) from.0 c) low from.2)
