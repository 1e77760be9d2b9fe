-- Draws, one after another.
use Rattle.std.proofs.Common.{◌≡◌, ℕ, zero, suc, ◌+◌, ◌*◌, ◌%◌, ◌^◌, [], ◌∷◌, refl, ap, ◌∙◌, arith}
use Rattle.std.proofs.Math.Nat.{mod-add-mod}
use Rattle.va_script.specs.Script.{byte_of, drawn, next_state, state_after}

pub wrapped : (state : ℕ) → (((state * 6364136223846793005) % 2 ^ 64) + 1442695040888963407) % 2 ^ 64 ≡ next_state state
unfolding next_state
wrapped state = mod-add-mod (state * 6364136223846793005) (2 ^ 64) 1442695040888963407

-- the draws of so many bytes and then of more
pub drawn_on : (more draws state : ℕ) → state_after more (state_after draws state) ≡ state_after (more + draws) state
unfolding state_after
drawn_on zero draws state =
    let none : draws ≡ 0 + draws = omega arith in ap (λ d. state_after d state) none
drawn_on (suc more) draws state =
    let count : suc (more + draws) ≡ suc more + draws = omega arith in
    ap next_state (drawn_on more draws state) ∙ ap (λ d. state_after d state) count

-- eight states, each the next one
pub eight_on : (a b c d e f g h i : ℕ) → b ≡ next_state a → c ≡ next_state b → d ≡ next_state c → e ≡ next_state d →
    f ≡ next_state e → g ≡ next_state f → h ≡ next_state g → i ≡ next_state h → i ≡ state_after 8 a
unfolding state_after
eight_on a b c d e f g h i k l m n o p q r = rw (r, q, p, o, n, m, l, k) refl

-- and the bytes that they give
pub eight_drawn : (a b c d e f g h i : ℕ) → b ≡ next_state a → c ≡ next_state b → d ≡ next_state c → e ≡ next_state d →
    f ≡ next_state e → g ≡ next_state f → h ≡ next_state g → i ≡ next_state h →
    byte_of b ∷ byte_of c ∷ byte_of d ∷ byte_of e ∷ byte_of f ∷ byte_of g ∷ byte_of h ∷ byte_of i ∷ [] ≡ drawn a
unfolding drawn state_after
eight_drawn a b c d e f g h i k l m n o p q r = rw (r, q, p, o, n, m, l, k) refl
