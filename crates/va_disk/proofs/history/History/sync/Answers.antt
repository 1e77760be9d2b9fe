use Rattle.std.proofs.Common.{◌≡◌, [], sym, ap, ◌∙◌, rules}
use Rattle.va_disk.specs.Replay.{State}
use Rattle.va_disk.specs.declared.call.Call.TheVariants.{Sync}
use Rattle.va_disk.proofs.Recorded.{replay_push}
use Rattle.va_disk.proofs.history.History.sync.Goals as goal

pub invariant_of-self-2 : goal.invariant_of-self-2
invariant_of-self-2 c =
    let s = c.args.self.now in
    let copied : c.in_ok-copy.copy.items ≡ s.image.items = search rules in
    let cleared : c.clear.new.self.items ≡ [] = search rules in
    let p = sym (replay_push s.first.items s.calls.items c.push.new.self.items Sync c.in_ok-push.ensures.items) in
    record {
      stable_is = copied ∙ s.image_is ∙ ap (λ (t : State). t.stable) p;
      pending_is = cleared ∙ ap (λ (t : State). t.pending) p;
      image_is = s.image_is ∙ ap (λ (t : State). t.image) p;
      given_is = s.given_is ∙ ap (λ (t : State). t.given) p;
      reads_is = s.reads_is ∙ ap (λ (t : State). t.reads) p;
    }
