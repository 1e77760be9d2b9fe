use Rattle.std.proofs.Common.{◌≡◌, ◌++◌, ◌∷◌, [], List, ℕ, sym, ap, ◌∙◌, IsOk, arith, rules}
use Rattle.std.proofs.lemmas.Grind.{common_steps}
use Rattle.va_disk.specs.Replay.{State}
use Rattle.va_disk.specs.declared.call.Call.TheVariants.{Read}
use Rattle.va_disk.proofs.Recorded.{replay_push}
use Rattle.va_disk.proofs.history.History.read.Goals as goal

pub invariant_of-self-2 : goal.invariant_of-self-2
invariant_of-self-2 c =
    let s = c.args.self.now in
    let ok : IsOk c.push-2.result = c.push-2.ensures.succeeds (search rules) in
    let added : c.push-2.new.self.items ≡ s.reads.items ++ (c.args.at, c.args.len) ∷ [] = first_of (search rules, grind (arith, common_steps)) in
    let p = sym (replay_push s.first.items s.calls.items c.push.new.self.items (Read c.args.at c.args.len) c.in_ok-push.ensures.items) in
    record {
      stable_is = s.stable_is ∙ ap (λ (t : State). t.stable) p;
      pending_is = s.pending_is ∙ ap (λ (t : State). t.pending) p;
      image_is = s.image_is ∙ ap (λ (t : State). t.image) p;
      given_is = s.given_is ∙ ap (λ (t : State). t.given) p;
      reads_is = added ∙ ap (λ (l : List (ℕ × ℕ)). l ++ (c.args.at, c.args.len) ∷ []) s.reads_is ∙ ap (λ (t : State). t.reads) p;
    }
