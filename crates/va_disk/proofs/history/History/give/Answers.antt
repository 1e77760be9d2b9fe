use Rattle.std.proofs.Common.{◌≡◌, List, ℕ, sym, ap, ◌∙◌, [], ◌∷◌, ◌++◌, IsOk, arith, rules}
use Rattle.std.proofs.lemmas.Grind.{common_steps}
use Rattle.va_disk.specs.Replay.{State}
use Rattle.va_disk.specs.declared.call.Call.TheVariants.{Give}
use Rattle.va_disk.proofs.Recorded.{replay_push}
use Rattle.va_disk.proofs.history.History.give.Goals as goal

pub invariant_of-self-2 : goal.invariant_of-self-2
invariant_of-self-2 c =
    let s = c.args.self.now in
    let copied : c.in_ok-copy.copy.items ≡ c.args.bytes.now = search rules in
    let ok : IsOk c.extend_from_slice.result = c.extend_from_slice.ensures.succeeds (search rules) in
    let added : c.extend_from_slice.new.self.items ≡ s.given.items ++ c.args.bytes.now = first_of (search rules, grind (arith, common_steps)) in
    let pushed : c.push.new.self.items ≡ s.calls.items ++ Give c.args.bytes.now ∷ [] = c.in_ok-push.ensures.items ∙ ap (λ (l : List ℕ). s.calls.items ++ Give l ∷ []) copied in
    let p = sym (replay_push s.first.items s.calls.items c.push.new.self.items (Give c.args.bytes.now) pushed) in
    record {
      stable_is = s.stable_is ∙ ap (λ (t : State). t.stable) p;
      pending_is = s.pending_is ∙ ap (λ (t : State). t.pending) p;
      image_is = s.image_is ∙ ap (λ (t : State). t.image) p;
      given_is = added ∙ ap (λ (l : List ℕ). l ++ c.args.bytes.now) s.given_is ∙ ap (λ (t : State). t.given) p;
      reads_is = s.reads_is ∙ ap (λ (t : State). t.reads) p;
    }
