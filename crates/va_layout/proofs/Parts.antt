-- Parts of an image, and what stays of them.
use Rattle.std.proofs.Common.{◌≡◌, ⊎_elim, inl, inr, ℕ, ◌+◌, ◌-◌, ◌≤◌, List, [], ◌∷◌, ◌++◌, length, take, drop, refl, sym, ◌∙◌, ap, zero-add, arith}
use Rattle.std.proofs.lemmas.List.{take-append-drop, take-take, drop-drop, drop-take, length-take-le, length-drop}
use Rattle.va_layout.specs.Parts.{part, Apart, KeepsRest}

-- a part in front of a byte, where nothing in front of it differs
pub part_front : (at n m : ℕ) (a b : List ℕ) → at + n ≤ m → take m a ≡ take m b → part at n a ≡ part at n b
part_front at n m a b le same =
    sym (drop-take at n a)
    ∙ ap (λ (l : List ℕ). drop at l) (sym (take-take (at + n) m a le) ∙ ap (λ (l : List ℕ). take (at + n) l) same ∙ take-take (at + n) m b le)
    ∙ drop-take at n b

-- a part behind a byte, where nothing from it on differs
pub part_behind : (at n m : ℕ) (a b : List ℕ) → m ≤ at → drop m a ≡ drop m b → part at n a ≡ part at n b
part_behind at n m a b le same =
    let is : at ≡ m + (at - m) = omega arith in
    ap (λ (l : List ℕ). take n l) (rw is (sym (drop-drop (at - m) m a) ∙ ap (λ (l : List ℕ). drop (at - m) l) same ∙ drop-drop (at - m) m b))

-- the last bytes of a part
pub part_end : (at n m : ℕ) (image : List ℕ) → part (at + n) m image ≡ drop n (part at (n + m) image)
part_end at n m image = ap (λ (l : List ℕ). take m l) (sym (drop-drop n at image)) ∙ sym (drop-take n m (drop at image))

-- the first bytes of a part
pub part_begin : (at n m : ℕ) (image : List ℕ) → n ≤ m → part at n image ≡ take n (part at m image)
part_begin at n m image le = sym (take-take n m (drop at image) le)

-- a part of a part
pub part_within : (at n m k : ℕ) (image : List ℕ) → n + m ≤ k → part n m (part at k image) ≡ part (at + n) m image
part_within at n m k image le =
    let e : part at (n + m) image ≡ take (n + m) (part at k image) = part_begin at (n + m) k image le in
    sym (drop-take n m (part at k image)) ∙ ap (λ (l : List ℕ). drop n l) (sym e) ∙ sym (part_end at n m image)

-- a part of the first bytes
pub part_of_front : (n m k : ℕ) (image : List ℕ) → n + m ≤ k → part n m (part 0 k image) ≡ part n m image
part_of_front n m k image le = part_within 0 n m k image le ∙ ap (λ (at : ℕ). part at m image) (zero-add n)

pub part_length : (at n : ℕ) (image : List ℕ) → at + n ≤ length image → length (part at n image) ≡ n
part_length at n image le = length-take-le n (drop at image) (omega (arith, length-drop at image))

pub apart_split : (at n : ℕ) (r s : List (ℕ × ℕ)) → Apart at n (r ++ s) → Apart at n r × Apart at n s
apart_split at n [] s apart = (tt, apart)
apart_split at n (x ∷ r) s apart = let both = apart_split at n r s apart.1 in ((apart.0, both.0), both.1)

pub rest_same : (r : List (ℕ × ℕ)) (a : List ℕ) → KeepsRest r a a
rest_same r a = record { no_shorter = omega arith; same = λ at n apart. refl }

-- one change after another
pub rest_then : (r s : List (ℕ × ℕ)) (a b c : List ℕ) → KeepsRest r a b → KeepsRest s b c → KeepsRest (r ++ s) a c
rest_then r s a b c first second = record {
  no_shorter = omega (arith, first.no_shorter, second.no_shorter);
  same = λ at n apart. (let both = apart_split at n r s apart in second.same at n both.1 ∙ first.same at n both.0);
}

-- fewer ranges lie in more
pub rest_more : (r s : List (ℕ × ℕ)) (a b : List ℕ) → KeepsRest r a b → KeepsRest (r ++ s) a b
rest_more r s a b keeps = record { no_shorter = keeps.no_shorter; same = λ at n apart. keeps.same at n (apart_split at n r s apart).0 }

-- a change in a range, and in one around it
pub rest_around : (at n from m : ℕ) (a b : List ℕ) → from ≤ at → at + n ≤ from + m → KeepsRest ((at, n) ∷ []) a b → KeepsRest ((from, m) ∷ []) a b
rest_around at n from m a b begins ends keeps = record {
  no_shorter = keeps.no_shorter;
  same = λ i k apart. keeps.same i k (⊎_elim (λ before. inl (omega (arith, before, begins))) (λ behind. inr (omega (arith, behind, ends))) apart.0, tt);
}

-- two changes in the same ranges
pub rest_twice : (ranges : List (ℕ × ℕ)) (a b c : List ℕ) → KeepsRest ranges a b → KeepsRest ranges b c → KeepsRest ranges a c
rest_twice ranges a b c first second = record {
  no_shorter = omega (arith, first.no_shorter, second.no_shorter);
  same = λ at n apart. second.same at n apart ∙ first.same at n apart;
}

-- one part behind another
pub part_join : (at n m : ℕ) (image : List ℕ) → part at (n + m) image ≡ part at n image ++ part (at + n) m image
part_join at n m image =
    sym (take-append-drop n (part at (n + m) image))
    ∙ ap (λ (l : List ℕ). l ++ drop n (part at (n + m) image)) (sym (part_begin at n (n + m) image (omega arith)))
    ∙ ap (λ (l : List ℕ). part at n image ++ l) (sym (part_end at n m image))
