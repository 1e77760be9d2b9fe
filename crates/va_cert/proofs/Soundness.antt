-- An accepted certificate is sound.
use Rattle.std.proofs.Common.{◌≡◌, ◌≢◌, ℕ, ◌≤◌, Bool, true, false, not, ◌||◌, List, [], ◌∷◌, Option, None, eqb, ltb, if◌then◌else◌, refl, ap, sym, ◌∙◌, ◌⊎◌, inl, inr, arith}
use Rattle.std.specs.List.{AllByRecursion}
use Rattle.std.specs.Option.{option_map, is_none}
use Rattle.std.proofs.lemmas.Bool.Decides.{nat_tests}
use Rattle.va_core.specs.declared.pair.Pair.{Pair}
use Rattle.va_core.proofs.Boxes.{low_least, high_greatest}
use Rattle.va_core.proofs.Certain.{AreCovered, covered_by, known_answer, known_tells}
use Rattle.va_core.proofs.Covering.{only_at}
use Rattle.va_core.proofs.Members.{IsAmong, all_from, all_at}
use Rattle.va_core.specs.Approximations.{pairs, is_wide}
use Rattle.va_core.specs.Boxes.{Lies}
use Rattle.va_core.specs.Distance.{pairs_of}
use Rattle.va_core.specs.Kth.{kth, first_before}
use Rattle.va_core.specs.Ranking.{answer}
use Rattle.va_cert.specs.declared.certificate.BoxRow.{BoxRow}
use Rattle.va_cert.specs.declared.certificate.Taken.{Taken}
use Rattle.va_cert.specs.declared.certificate.Certificate.{Certificate}
use Rattle.va_cert.specs.Known.{dist_of, box_of, box_at, has_box, is_fetched, vector_at, bounds, is_known, known_dist, known_list, substituted_dist, substituted_list, first_unknown}
use Rattle.va_cert.specs.Reasons.{vector_outside, substitute_outside, answer_differs, undetermined, needless, first_of, form_rows, Accepts, lies, first_entry, first_difference, is_outside, is_substitute_outside, is_needless}
use Rattle.va_cert.specs.Sound.{items_of, answer_in, IsMapOf, replaced, IsSound, AcceptedIsSound}
use Rattle.va_cert.specs.Forms.{IsFormed}
use Rattle.va_cert.proofs.WellFormed.{formed}
use Rattle.va_cert.proofs.Rows.{none_here, none_within, RowOf, row_of, fetched_has, lies_lie, no_entry, no_difference, same_lists}

-- the table, row by row
pub record Passes (c : Certificate) : Type 0 where
  pub form : first_of (form_rows c) ≡ None
  pub outside : first_entry (is_outside c) c.fetched ≡ None
  pub other : first_entry (is_substitute_outside c) c.fetched ≡ None
  pub answer : first_difference 0 c.answer (known_list c) ≡ None
  pub unknown : first_before (kth c.k (known_list c)) (first_unknown c) ≡ None
  pub needless : first_entry (is_needless c) c.fetched ≡ None

pub passes : (c : Certificate) → Accepts c → Passes c
passes c h =
    let a = none_here (first_of (form_rows c)) (option_map vector_outside (first_entry (is_outside c) c.fetched) ∷ option_map substitute_outside (first_entry (is_substitute_outside c) c.fetched) ∷ option_map answer_differs (first_difference 0 c.answer (known_list c)) ∷ option_map (λ (p : Pair). undetermined p.id) (first_before (kth c.k (known_list c)) (first_unknown c)) ∷ option_map needless (first_entry (is_needless c) c.fetched) ∷ []) h in
    let b = none_here (option_map vector_outside (first_entry (is_outside c) c.fetched)) (option_map substitute_outside (first_entry (is_substitute_outside c) c.fetched) ∷ option_map answer_differs (first_difference 0 c.answer (known_list c)) ∷ option_map (λ (p : Pair). undetermined p.id) (first_before (kth c.k (known_list c)) (first_unknown c)) ∷ option_map needless (first_entry (is_needless c) c.fetched) ∷ []) a.1 in
    let d = none_here (option_map substitute_outside (first_entry (is_substitute_outside c) c.fetched)) (option_map answer_differs (first_difference 0 c.answer (known_list c)) ∷ option_map (λ (p : Pair). undetermined p.id) (first_before (kth c.k (known_list c)) (first_unknown c)) ∷ option_map needless (first_entry (is_needless c) c.fetched) ∷ []) b.1 in
    let e = none_here (option_map answer_differs (first_difference 0 c.answer (known_list c))) (option_map (λ (p : Pair). undetermined p.id) (first_before (kth c.k (known_list c)) (first_unknown c)) ∷ option_map needless (first_entry (is_needless c) c.fetched) ∷ []) d.1 in
    let f = none_here (option_map (λ (p : Pair). undetermined p.id) (first_before (kth c.k (known_list c)) (first_unknown c))) (option_map needless (first_entry (is_needless c) c.fetched) ∷ []) e.1 in
    let g = none_here (option_map needless (first_entry (is_needless c) c.fetched)) [] f.1 in
    record {
      form = a.0;
      outside = none_within vector_outside (first_entry (is_outside c) c.fetched) b.0;
      other = none_within substitute_outside (first_entry (is_substitute_outside c) c.fetched) d.0;
      answer = none_within answer_differs (first_difference 0 c.answer (known_list c)) e.0;
      unknown = none_within (λ (p : Pair). undetermined p.id) (first_before (kth c.k (known_list c)) (first_unknown c)) f.0;
      needless = none_within needless (first_entry (is_needless c) c.fetched) g.0;
    }

not_false : (b : Bool) → not b ≡ false → b ≡ true
not_false true h = refl
not_false false h = cc

lie_all : (c : Certificate) (get : Taken → List ℕ) (fetched : List Taken) → AllByRecursion (λ taken. not (lies (box_at c.boxes taken.id) (get taken)) ≡ false) fetched → AllByRecursion (λ taken. Lies (box_at c.boxes taken.id) (get taken)) fetched
lie_all c get [] h = tt
lie_all c get (taken ∷ fetched) h = (lies_lie (box_at c.boxes taken.id) (get taken) (not_false (lies (box_at c.boxes taken.id) (get taken)) h.0), lie_all c get fetched h.1)

-- the distances in a map of the boxes
abbrev pub dist_in : Certificate → (ℕ → List ℕ) → BoxRow → ℕ
dist_in c vectors row = dist_of c (vectors row.id)

pairs_in : (c : Certificate) (vectors : ℕ → List ℕ) (boxes : List BoxRow) → pairs_of (record { objects = c.objects; weights = c.weights }) (items_of boxes vectors) ≡ pairs (λ (row : BoxRow). row.id) (dist_in c vectors) boxes
pairs_in c vectors [] = refl
pairs_in c vectors (row ∷ boxes) = let rest : pairs_of (record { objects = c.objects; weights = c.weights }) (items_of boxes vectors) ≡ pairs (λ (r : BoxRow). r.id) (dist_in c vectors) boxes = pairs_in c vectors boxes in rw rest refl

pub answer_is : (c : Certificate) (vectors : ℕ → List ℕ) → answer_in c vectors ≡ answer (pairs (λ (row : BoxRow). row.id) (dist_in c vectors) c.boxes) c.k
answer_is c vectors = ap (λ (ps : List Pair). answer ps c.k) (pairs_in c vectors c.boxes)

above_each : (c : Certificate) (vectors : ℕ → List ℕ) (boxes : List BoxRow) → AllByRecursion (λ row. Lies (box_of row) (vectors row.id)) boxes → AllByRecursion (λ row. (bounds c).low row ≤ dist_in c vectors row) boxes
above_each c vectors [] h = tt
above_each c vectors (row ∷ boxes) h = (low_least (dist_of c) (box_of row) (vectors row.id) h.0, above_each c vectors boxes h.1)

fetched_same : (vectors : ℕ → List ℕ) (id : ℕ) (fetched : List Taken) → AllByRecursion (λ (taken : Taken). vectors taken.id ≡ taken.vector) fetched → is_fetched fetched id ≡ true → vectors id ≡ vector_at fetched id
fetched_same vectors id [] h f = cc
fetched_same vectors id (taken ∷ fetched) h f = elim (eqb taken.id id) as (λ c. eqb taken.id id ≡ c → (c || is_fetched fetched id) ≡ true → vectors id ≡ (if c then taken.vector else vector_at fetched id)) [
  | true ↦ λ e g. let same : taken.id ≡ id = grind (arith, nat_tests, e) in ap vectors (sym same) ∙ h.0
  | false ↦ λ e g. fetched_same vectors id fetched h.1 g
] refl f

narrow_same : (low high d : ℕ) → low ≤ d → d ≤ high → not (ltb low high) ≡ true → d ≡ low
narrow_same low high d a b n = let h : high ≤ low = grind (arith, nat_tests, n) in omega (arith, a, b, h)

known_same_at : (c : Certificate) (vectors : ℕ → List ℕ) (row : BoxRow) → AllByRecursion (λ (taken : Taken). vectors taken.id ≡ taken.vector) c.fetched → Lies (box_of row) (vectors row.id) → is_known c row ≡ true → dist_in c vectors row ≡ known_dist c row
known_same_at c vectors row hold lie known = elim (is_fetched c.fetched row.id) as (λ b. is_fetched c.fetched row.id ≡ b → (b || not (is_wide (bounds c) row)) ≡ true → dist_in c vectors row ≡ (if b then dist_of c (vector_at c.fetched row.id) else (bounds c).low row)) [
  | true ↦ λ e k. ap (dist_of c) (fetched_same vectors row.id c.fetched hold e)
  | false ↦ λ e k. narrow_same ((bounds c).low row) ((bounds c).high row) (dist_in c vectors row) (low_least (dist_of c) (box_of row) (vectors row.id) lie) (high_greatest (dist_of c) (box_of row) (vectors row.id) lie) k
] refl known

known_same : (c : Certificate) (vectors : ℕ → List ℕ) (boxes : List BoxRow) → AllByRecursion (λ (taken : Taken). vectors taken.id ≡ taken.vector) c.fetched → AllByRecursion (λ row. Lies (box_of row) (vectors row.id)) boxes →
    AllByRecursion (λ row. is_known c row ≡ true → dist_in c vectors row ≡ known_dist c row) boxes
known_same c vectors [] hold h = tt
known_same c vectors (row ∷ boxes) hold h = (known_same_at c vectors row hold h.0, known_same c vectors boxes hold h.1)

covered : (c : Certificate) → IsFormed c → Passes c → AreCovered (λ (row : BoxRow). row.id) (bounds c).low (known_dist c) (is_known c) c.boxes c.k
covered c f p = covered_by (λ (row : BoxRow). row.id) (bounds c).low (known_dist c) (is_known c) c.boxes c.k f.some f.differ p.unknown

determined : (c : Certificate) → IsFormed c → Passes c → (vectors : ℕ → List ℕ) → IsMapOf c vectors → answer_in c vectors ≡ c.answer
determined c f p vectors m =
    answer_is c vectors
    ∙ (known_answer (λ (row : BoxRow). row.id) (bounds c).low (known_dist c) (dist_in c vectors) (is_known c) c.boxes c.k f.differ
    (above_each c vectors c.boxes m.lie) (known_same c vectors c.boxes m.hold m.lie) (covered c f p)
    ∙ sym (no_difference 0 c.answer (known_list c) p.answer))

moved_at : (c : Certificate) (vectors : ℕ → List ℕ) (taken : Taken) (row j : BoxRow) → row.id ≡ taken.id → (j.id ≡ row.id → j ≡ row) → (j ≡ row) ⊎ (dist_in c (replaced vectors taken.id taken.other) j ≡ dist_in c vectors j)
moved_at c vectors taken row j named only = elim (eqb j.id taken.id) as (λ b. eqb j.id taken.id ≡ b → (j ≡ row) ⊎ (dist_of c (if b then taken.other else vectors j.id) ≡ dist_in c vectors j)) [
  | true ↦ λ e. let same : j.id ≡ taken.id = grind (arith, nat_tests, e) in inl (only (same ∙ sym named))
  | false ↦ λ e. inr refl
] refl

pub other_at : (c : Certificate) (taken : Taken) (row j : BoxRow) → row.id ≡ taken.id → (j.id ≡ row.id → j ≡ row) → (j ≡ row) ⊎ (substituted_dist c taken j ≡ known_dist c j)
other_at c taken row j named only = elim (eqb j.id taken.id) as (λ b. eqb j.id taken.id ≡ b → (j ≡ row) ⊎ ((if b then dist_of c taken.other else known_dist c j) ≡ known_dist c j)) [
  | true ↦ λ e. let same : j.id ≡ taken.id = grind (arith, nat_tests, e) in inl (only (same ∙ sym named))
  | false ↦ λ e. inr refl
] refl

now_at : (c : Certificate) (vectors : ℕ → List ℕ) (taken : Taken) (row : BoxRow) → row.id ≡ taken.id → dist_in c (replaced vectors taken.id taken.other) row ≡ substituted_dist c taken row
now_at c vectors taken row named = let t : eqb row.id taken.id ≡ true = grind (arith, nat_tests, named) in rw t refl

changed : (c : Certificate) (taken : Taken) → is_needless c taken ≡ false → substituted_list c taken ≢ known_list c
changed c taken h same =
    let e : first_difference 0 (substituted_list c taken) (known_list c) ≡ None = ap (λ (ps : List Pair). first_difference 0 ps (known_list c)) same ∙ same_lists 0 (known_list c) in
    let g : is_needless c taken ≡ true = ap (λ (o : Option ℕ). is_none o) e in cc

pub known_row : (c : Certificate) (taken : Taken) (row : BoxRow) → IsAmong taken c.fetched → row.id ≡ taken.id → is_known c row ≡ true
known_row c taken row in' named = let f : is_fetched c.fetched row.id ≡ true = ap (λ (n : ℕ). is_fetched c.fetched n) named ∙ fetched_has c.fetched taken in' in rw f refl

tells : (c : Certificate) → IsFormed c → Passes c → (vectors : ℕ → List ℕ) → IsMapOf c vectors → (taken : Taken) → IsAmong taken c.fetched → RowOf c.boxes taken.id →
    is_needless c taken ≡ false → answer_in c (replaced vectors taken.id taken.other) ≢ answer_in c vectors
tells c f p vectors m taken in' r need same =
    known_tells (λ (row : BoxRow). row.id) (bounds c).low (known_dist c) (substituted_dist c taken) (dist_in c vectors) (dist_in c (replaced vectors taken.id taken.other)) (is_known c) r.row c.boxes c.k f.differ r.among
    (known_row c taken r.row in' r.named)
    (above_each c vectors c.boxes m.lie) (known_same c vectors c.boxes m.hold m.lie) (covered c f p)
    (all_from (λ j. (j ≡ r.row) ⊎ (dist_in c (replaced vectors taken.id taken.other) j ≡ dist_in c vectors j)) c.boxes (λ j g. moved_at c vectors taken r.row j r.named (all_at (λ (n : BoxRow). n.id ≡ r.row.id → n ≡ r.row) c.boxes j (only_at (λ (row : BoxRow). row.id) c.boxes r.row f.differ r.among) g)))
    (all_from (λ j. (j ≡ r.row) ⊎ (substituted_dist c taken j ≡ known_dist c j)) c.boxes (λ j g. other_at c taken r.row j r.named (all_at (λ (n : BoxRow). n.id ≡ r.row.id → n ≡ r.row) c.boxes j (only_at (λ (row : BoxRow). row.id) c.boxes r.row f.differ r.among) g)))
    (now_at c vectors taken r.row r.named)
    (changed c taken need)
    (sym (answer_is c (replaced vectors taken.id taken.other)) ∙ (same ∙ answer_is c vectors))

pub sound_by : (c : Certificate) → IsFormed c → Passes c → IsSound c
sound_by c f p = record {
  well_formed = p.form;
  vectors_lie = lie_all c (λ (taken : Taken). taken.vector) c.fetched (no_entry (is_outside c) c.fetched p.outside);
  others_lie = lie_all c (λ (taken : Taken). taken.other) c.fetched (no_entry (is_substitute_outside c) c.fetched p.other);
  determined = determined c f p;
  needed = λ vectors m. all_from (λ taken. answer_in c (replaced vectors taken.id taken.other) ≢ answer_in c vectors) c.fetched
      (λ taken in'. tells c f p vectors m taken in' (row_of c.boxes taken.id (all_at (λ (t : Taken). has_box c.boxes t.id ≡ true) c.fetched taken f.boxed in'))
      (all_at (λ t. is_needless c t ≡ false) c.fetched taken (no_entry (is_needless c) c.fetched p.needless) in'));
}

pub accepted_is_sound : AcceptedIsSound
accepted_is_sound c accepts = let p = passes c accepts in sound_by c (formed c p.form) p
