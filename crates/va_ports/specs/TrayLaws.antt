-- The laws of a tray as a shelf.
use Rattle.std.proofs.Common.{◌≡◌, ℕ, zero, suc, List, [], ◌∷◌, ◌++◌, take, drop, refl, sym, ◌∙◌, ap, append_assoc}
use Rattle.std.proofs.lemmas.List.{append-nil}
use Rattle.va_ports.specs.Shelves.{IsLeft}
use Rattle.va_ports.specs.Tray.{Passes, contents, fetched, left}
use Rattle.va_ports.specs.declared.tray.Tray.{Tray}

pub passes_none : (t : Tray) → Passes t [] t
passes_none t = record { contents_stay = refl; fails_stay = refl; fetched_grow = sym (append-nil (fetched t)) }

pub passes_both : (old mid new : Tray) (first second : List ℕ) → Passes old first mid → Passes mid second new → Passes old (first ++ second) new
passes_both old mid new first second a b = record {
  contents_stay = b.contents_stay ∙ a.contents_stay;
  fails_stay = b.fails_stay ∙ a.fails_stay;
  fetched_grow = b.fetched_grow ∙ ap (λ l. l ++ second) a.fetched_grow ∙ append_assoc (fetched old) first second;
}

split_at : {X : Type 0} (n : ℕ) (l : List X) → l ≡ take n l ++ drop n l
split_at zero l = refl
split_at (suc n) [] = refl
split_at {X} (suc n) (x ∷ l) = ap (λ (m : List X). x ∷ m) (split_at n l)

pub stands : (t : Tray) → IsLeft (contents t).cells (left t)
stands t = record { given = take t.at (contents t).cells; split = split_at t.at (contents t).cells }
