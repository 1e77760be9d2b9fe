-- Laws of a replay: what a read gives is an outcome, and this moment is one of those since an earlier one.
use Rattle.std.proofs.Common.{◌≡◌, ℕ, ◌≤◌, ◌<◌, ◌^◌, min, List, [], ◌∷◌, ◌++◌, length, take, Vec, refl, sym, ◌∙◌, ap, subst, arith}
use Rattle.std.proofs.lemmas.List.{take_all}
use Rattle.std.specs.declared.alloc.Global.{Global}
use Rattle.va_disk.specs.Crashes.{Torn}
use Rattle.va_disk.specs.TornLaws.{torn_of_holds, torn_same}
use Rattle.va_disk.specs.Replay.{State, started, step, replay_from, replay, TornInTurn, MayLeave, LeftSince}
use Rattle.va_disk.specs.declared.call.Call.{Call}
use Rattle.va_disk.specs.declared.call.Call.TheVariants.{Read, Write, Sync, Give}

pub in_turn_push : (stable d c : List ℕ) (ranges : List (ℕ × ℕ)) (range : ℕ × ℕ) → TornInTurn stable ranges d → Torn range.0 range.1 d c → TornInTurn stable (ranges ++ range ∷ []) c
in_turn_push stable d c [] range left torn = (c, subst (λ (l : List ℕ). Torn range.0 range.1 l c) left torn, refl)
in_turn_push stable d c (r ∷ ranges) range left torn = (left.0, left.1, in_turn_push left.0 d c ranges range left.2 torn)

pub in_turn_pop : (stable c : List ℕ) (ranges : List (ℕ × ℕ)) (range : ℕ × ℕ) → TornInTurn stable (ranges ++ range ∷ []) c → (d : List ℕ) × TornInTurn stable ranges d × Torn range.0 range.1 d c
in_turn_pop stable c [] range left = (stable, refl, subst (λ (l : List ℕ). Torn range.0 range.1 stable l) (sym left.2) left.1)
in_turn_pop stable c (r ∷ ranges) range left = let more = in_turn_pop left.0 c ranges range left.2 in (more.0, (left.0, left.1, more.1), more.2)

pub in_turn_none : (stable : List ℕ) (ranges : List (ℕ × ℕ)) → TornInTurn stable ranges stable
in_turn_none stable [] = refl
in_turn_none stable (r ∷ ranges) = (stable, torn_same r.0 r.1 stable, in_turn_none stable ranges)

step_leaves : (s : State) (call : Call) → TornInTurn s.stable s.pending s.image → TornInTurn (step s call).stable (step s call).pending (step s call).image
step_leaves s (Read at len) left = left
step_leaves s (Write at bytes) left = in_turn_push s.stable s.image _ s.pending (min at (length s.image), length bytes) left (torn_of_holds (min at (length s.image)) s.image bytes (omega arith) _ refl)
step_leaves s Sync left = refl
step_leaves s (Give bytes) left = left

image_left : (s : State) (calls : List Call) → TornInTurn s.stable s.pending s.image → TornInTurn (replay_from s calls).stable (replay_from s calls).pending (replay_from s calls).image
image_left s [] left = left
image_left s (call ∷ calls) left = image_left (step s call) calls (step_leaves s call left)

pub image_is_outcome : (first : List ℕ) (calls : List Call) (image : List ℕ) → image ≡ (replay first calls).image → MayLeave first calls image
image_is_outcome first calls image is = subst (λ (c : List ℕ). MayLeave first calls c) (sym is) (image_left (started first) calls refl)

pub now_counts : (first : List ℕ) (calls : List Call) (given : List ℕ) (t : ℕ) (c : List ℕ) → given ≡ (replay first calls).given → t ≤ length calls → MayLeave first calls c → LeftSince first calls t c given
now_counts first calls given t c is le left =
    let all : calls ≡ take (length calls) calls = sym (take_all (length calls) calls (omega arith)) in
    (length calls, le, omega arith, subst (λ (l : List Call). MayLeave first l c) all left, is ∙ ap (λ (l : List Call). (replay first l).given) all)

pub now_only : (first : List ℕ) (calls : List Call) (given c g : List ℕ) → given ≡ (replay first calls).given → LeftSince first calls (length calls) c g → MayLeave first calls c × (g ≡ given)
now_only first calls given c g is left =
    let all : take left.0 calls ≡ calls = take_all left.0 calls left.1 in
    (subst (λ (l : List Call). MayLeave first l c) all left.3, left.4 ∙ ap (λ (l : List Call). (replay first l).given) all ∙ sym is)

pub image_is_bounded : (v : Vec ℕ Global) → length v.items < 2 ^ 63
image_is_bounded v = omega (arith, v.ok, v.small)
