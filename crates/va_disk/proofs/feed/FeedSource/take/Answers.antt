use Rattle.std.proofs.Common.{◌≡◌, ◌++◌, ◌≤◌, List, ℕ, length, take, drop, sym, ap, ◌∙◌, arith, append_assoc, length-take}
use Rattle.std.proofs.lemmas.List.{take-append-drop, drop-append-le}
use Rattle.va_disk.proofs.feed.FeedSource.take.Goals as goal

-- A pull into the first part of `out` leaves the second part as it is.
pub returns-clause-moved : goal.returns-clause-moved
returns-clause-moved c =
    let out = c.args.out.now in
    let room = c.min-room.result in
    let n = c.pull.result in
    let part : length (take room out) ≡ room = omega (arith, length-take room out, c.min-room.ensures) in
    let within : n ≤ length (take room out) = omega (arith, c.pull.ensures.count) in
    let rest : drop n (take room out) ++ drop room out ≡ drop n out = sym (drop-append-le n (take room out) (drop room out) within) ∙ ap (λ (l : List ℕ). drop n l) (take-append-drop room out) in
    let front = take n c.args.self.now.rest in
    ap (λ (l : List ℕ). l ++ drop room out) c.pull.ensures.moved ∙ append_assoc front (drop n (take room out)) (drop room out) ∙ ap (λ (l : List ℕ). front ++ l) rest
