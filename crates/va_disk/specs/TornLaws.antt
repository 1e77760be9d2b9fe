-- What is torn twice, side by side, and what is torn in a part.
use Rattle.std.proofs.Common.{◌≡◌, ℕ, ◌+◌, ◌-◌, ◌≤◌, List, [], ◌++◌, length, take, drop, refl, sym, ◌∙◌, ap, arith, append_assoc, length-append, length-take, length-drop}
use Rattle.std.proofs.lemmas.List.{append-nil, take-append-drop, take-take, drop-drop, take_at, drop_at}
use Rattle.va_disk.specs.Crashes.{Holds, Torn}

-- the rest behind n agrees behind m too
behind : (n m : ℕ) (a b : List ℕ) → n ≤ m → drop n a ≡ drop n b → drop m a ≡ drop m b
behind n m a b le same =
    let is : m ≡ n + (m - n) = omega arith in
    rw is (sym (drop-drop (m - n) n a) ∙ ap (λ (l : List ℕ). drop (m - n) l) same ∙ drop-drop (m - n) n b)

front : (n m : ℕ) (a b : List ℕ) → n ≤ m → take m a ≡ take m b → take n a ≡ take n b
front n m a b le same = sym (take-take n m a le) ∙ ap (λ (l : List ℕ). take n l) same ∙ take-take n m b le

pub torn_more : (at n m : ℕ) (a b : List ℕ) → n ≤ m → Torn at n a b → Torn at m a b
torn_more at n m a b le torn = record {
  before = torn.before;
  after = behind (at + n) (at + m) b a (omega arith) torn.after;
  no_shorter = torn.no_shorter;
  no_longer = omega (arith, torn.no_longer);
}

pub torn_beside : (at n m : ℕ) (a b c : List ℕ) → Torn at n a b → Torn (at + n) m b c → Torn at (n + m) a c
torn_beside at n m a b c first second =
    let same : at + (n + m) ≡ (at + n) + m = omega arith in
    record {
      before = front at (at + n) c b (omega arith) second.before ∙ first.before;
      after = rw same (second.after ∙ behind (at + n) ((at + n) + m) b a (omega arith) first.after);
      no_shorter = omega (arith, first.no_shorter, second.no_shorter);
      no_longer = omega (arith, first.no_longer, second.no_longer);
    }

pub torn_same : (at n : ℕ) (a : List ℕ) → Torn at n a a
torn_same at n a = record { before = refl; after = refl; no_shorter = omega arith; no_longer = omega arith }

module _ (at : ℕ) (a xs : List ℕ) (le : at ≤ length a) where
  head_length : length (take at a ++ xs) ≡ at + length xs
  head_length = omega (arith, length-append (take at a) xs, length-take at a)

  front_length : length (take at a) ≡ at
  front_length = omega (arith, length-take at a)

  pub holds_length : (b : List ℕ) → Holds a at xs b → length b ≡ at + length xs + (length a - (at + length xs))
  holds_length b holds = omega (arith, ap length holds, length-append (take at a ++ xs) (drop (at + length xs) a), head_length, length-drop (at + length xs) a)

  holds_front : (b : List ℕ) → Holds a at xs b → take (at + length xs) b ≡ take at a ++ xs
  holds_front b holds = ap (λ (l : List ℕ). take (at + length xs) l) holds ∙ take_at (take at a ++ xs) (drop (at + length xs) a) (at + length xs) head_length

  holds_behind : (b : List ℕ) → Holds a at xs b → drop (at + length xs) b ≡ drop (at + length xs) a
  holds_behind b holds = ap (λ (l : List ℕ). drop (at + length xs) l) holds ∙ drop_at (take at a ++ xs) (drop (at + length xs) a) (at + length xs) head_length

  pub torn_of_holds : (b : List ℕ) → Holds a at xs b → Torn at (length xs) a b
  torn_of_holds b holds = record {
    before = sym (take-take at (at + length xs) b (omega arith)) ∙ ap (λ (l : List ℕ). take at l) (holds_front b holds) ∙ take_at (take at a) xs at front_length;
    after = holds_behind b holds;
    no_shorter = omega (arith, holds_length b holds);
    no_longer = omega (arith, holds_length b holds);
  }

  pub holds_beside : (ys b c : List ℕ) → Holds a at xs b → Holds b (at + length xs) ys c → Holds a at (xs ++ ys) c
  holds_beside ys b c first second =
      let n = at + length xs in
      let far : drop (n + length ys) b ≡ drop (n + length ys) a = behind n (n + length ys) b a (omega arith) (holds_behind b first) in
      let size : at + length (xs ++ ys) ≡ n + length ys = omega (arith, length-append xs ys) in
      second
      ∙ ap (λ (l : List ℕ). l ++ ys ++ drop (n + length ys) b) (holds_front b first)
      ∙ ap (λ (l : List ℕ). (take at a ++ xs) ++ ys ++ l) far
      ∙ ap (λ (l : List ℕ). l ++ drop (n + length ys) a) (append_assoc (take at a) xs ys)
      ∙ ap (λ (k : ℕ). take at a ++ (xs ++ ys) ++ drop k a) (sym size)

pub holds_none : (at : ℕ) (a : List ℕ) → Holds a at [] a
holds_none at a = search (arith, append-nil, take-append-drop)
