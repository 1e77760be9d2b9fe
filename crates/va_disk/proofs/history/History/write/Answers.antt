use Rattle.std.proofs.Common.{◌≡◌, IsOk, List, ℕ, min, length, [], ◌∷◌, ◌++◌, arith, sym, ap, ◌∙◌, rules}
use Rattle.std.proofs.lemmas.Grind.{common_steps}
use Rattle.va_disk.specs.Crashes.{Holds}
use Rattle.va_disk.specs.Replay.{State, replay}
use Rattle.va_disk.specs.declared.call.Call.TheVariants.{Write}
use Rattle.va_disk.proofs.Recorded.{replay_push, write_image}
use Rattle.va_disk.proofs.history.History.write.Goals as goal

pub invariant_of-self-2 : goal.invariant_of-self-2
invariant_of-self-2 c =
    let s = c.args.self.now in
    let copied : c.in_ok-copy.copy.items ≡ c.args.bytes.now = search rules in
    let holds : Holds s.image.items c.args.at c.args.bytes.now c.overwrite.new.image.items = search rules in
    let low : c.args.at ≡ min c.args.at (length (replay s.first.items s.calls.items).image) = omega (arith, c.requires, ap length s.image_is) in
    let ok : IsOk c.push-2.result = c.push-2.ensures.succeeds (search rules) in
    let added : c.push-2.new.self.items ≡ s.pending.items ++ (c.args.at, length c.args.bytes.now) ∷ [] = first_of (search rules, grind (arith, common_steps)) in
    let reserved : c.try_reserve.new.self.items ≡ s.calls.items = search rules in
    let pushed : c.push.new.self.items ≡ s.calls.items ++ Write c.args.at c.args.bytes.now ∷ [] = c.in_ok-push.ensures.items ∙ ap (λ l. l ++ Write c.args.at c.in_ok-copy.copy.items ∷ []) reserved ∙ ap (λ (l : List ℕ). s.calls.items ++ Write c.args.at l ∷ []) copied in
    let p = sym (replay_push s.first.items s.calls.items c.push.new.self.items (Write c.args.at c.args.bytes.now) pushed) in
    record {
      stable_is = s.stable_is ∙ ap (λ (t : State). t.stable) p;
      pending_is = added ∙ ap (λ (l : List (ℕ × ℕ)). l ++ (c.args.at, length c.args.bytes.now) ∷ []) s.pending_is ∙ ap (λ (at : ℕ). (replay s.first.items s.calls.items).pending ++ (at, length c.args.bytes.now) ∷ []) low ∙ ap (λ (t : State). t.pending) p;
      image_is = write_image c.args.at (replay s.first.items s.calls.items).image s.image.items c.overwrite.new.image.items c.args.bytes.now s.image_is c.requires holds ∙ ap (λ (t : State). t.image) p;
      given_is = s.given_is ∙ ap (λ (t : State). t.given) p;
      reads_is = s.reads_is ∙ ap (λ (t : State). t.reads) p;
    }
