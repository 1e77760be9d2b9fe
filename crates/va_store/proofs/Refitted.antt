-- A store and its image while other marks are built, and once they are selected.
use Rattle.std.proofs.Common.{◌≡◌, ◌⊎◌, ⊎_elim, inl, inr, ℕ, zero, suc, ◌≤◌, ◌<◌, List, [], ◌∷◌, length, map, get_or, Bool, true, false, eqb, if◌then◌else◌, Option, Some, None, is_some, refl, sym, ◌∙◌, ap, subst, arith}
use Rattle.std.proofs.lemmas.Bool.{cases_lt}
use Rattle.std.proofs.lemmas.List.{get_or_past}
use Rattle.va_core.specs.Places.{IsItem, Item, id_of}
use Rattle.va_core.specs.MarkBytes.{marks_len}
use Rattle.va_core.specs.Shape.{Shape, code_bytes}
use Rattle.va_layout.specs.declared.region.Region.{Region}
use Rattle.va_layout.specs.declared.region.Region.TheVariants.{A, B}
use Rattle.va_layout.specs.Fields.{HasCode, IsOwnCode, NamesCell, code_in, code_range, gate_in, id_in, item_in, marks_in, marks_range, selection_range, vector_in}
use Rattle.va_layout.specs.Layout.{code_at, marks_at, other_region, region_len}
use Rattle.va_layout.specs.Parts.{KeepsRest}
use Rattle.va_layout.specs.Stands.{HasApproximations, IsBuilding, Kept, Opens, Stands, UpTo, selected_in, with_marks, Building}
use Rattle.va_layout.proofs.Apart.{item_kept}
use Rattle.va_layout.proofs.Approximations.{approximations_beside, approximations_converted, approximations_selected, approximations_weaker}
use Rattle.va_layout.proofs.Headers.{head_selected, head_stays}
use Rattle.va_layout.proofs.Parts.{rest_around}
use Rattle.va_layout.proofs.Regions.{code_ends, marks_end, region_begins, region_ends}
use Rattle.va_layout.proofs.Standing.{selected_stays, stands_beside, stands_switched, stands_switching}
use Rattle.va_store.specs.Builds.{IsBuilt, IsFor, last_of, marks_of_building, reaching}
use Rattle.va_store.specs.Ids.{IsNextLive, LivesAt}
use Rattle.va_store.specs.Image.{kept_in}
use Rattle.va_store.specs.Known.{IsKnownIn, IsOf, Known}
use Rattle.va_store.specs.Refits.{StandsIn, begun, converted, switched}
use Rattle.va_store.proofs.Built.{IsReached, item_is, item_of_slot, own_reached, place_in, places_count, places_same, some_building}
use Rattle.va_store.proofs.Fitting.{slot_kept}

abbrev pub region_range : Shape → Region → List (ℕ × ℕ)
region_range shape region = (marks_at shape region, region_len shape) ∷ []

pub marks_within : (shape : Shape) (region : Region) {a c : List ℕ} → KeepsRest (marks_range shape region) a c → KeepsRest (region_range shape region) a c
marks_within shape region {a} {c} keeps = rest_around (marks_at shape region) (marks_len shape) (marks_at shape region) (region_len shape) a c (omega arith) (marks_end shape region) keeps

pub code_within : (shape : Shape) (region : Region) (p : ℕ) {a c : List ℕ} → p < shape.capacity → KeepsRest (code_range shape region p) a c → KeepsRest (region_range shape region) a c
code_within shape region p {a} {c} inside keeps = rest_around (code_at shape region p) (code_bytes shape) (marks_at shape region) (region_len shape) a c (omega arith) (code_ends shape region p inside) keeps

-- an image that stands and selects a region does so while the other one is written
pub stands_in_beside : {region : Region} {kept : Kept} (shape : Shape) {a c : List ℕ} → shape ≡ kept.shape → StandsIn region kept a → KeepsRest (region_range shape (other_region region)) a c → StandsIn region kept c
stands_in_beside {region} {kept} shape {a} {c} same stands keeps =
    let there : KeepsRest (region_range kept.shape (other_region (selected_in a))) a c =
    subst (λ (r : Region). KeepsRest (region_range kept.shape (other_region r)) a c) (sym stands.1) (subst (λ (s : Shape). KeepsRest (region_range s (other_region region)) a c) same keeps) in
    let both = stands_beside stands.0 there in
    (both.0, both.1 ∙ stands.1)

-- what the store knows stays while the other region is written, but for what is being built there
pub known_beside : {known : Known} {a c : List ℕ} → IsKnownIn known a → KeepsRest (region_range known.shape (other_region known.region)) a c → (building : Option Building)
    → ((b : Building) → building ≡ Some b → IsBuilt known.shape (other_region known.region) b c) → IsKnownIn (record known { building = building }) c
known_beside {known} {a} {c} is keeps building built =
    let begins = region_begins known.shape (other_region known.region) in
    let ranges = region_range known.shape (other_region known.region) in
    record {
      head = head_stays known.shape ranges a c is.head keeps (inl (omega (arith, begins)), tt);
      count = is.count;
      once = is.once;
      slots = λ q inside. slot_kept q ranges a c (inl (omega (arith, begins, inside)), tt) (inl (omega (arith, begins, inside)), tt) keeps ∙ is.slots q inside;
      selected = selected_stays keeps (inl (omega (arith, begins)), tt) ∙ is.selected;
      named = approximations_beside is.named keeps;
      built = built;
    }

-- the marks were written, and no id was converted yet
pub known_begun : {known : Known} {marks : List (List ℕ)} {a c : List ℕ} → IsKnownIn known a → IsFor known.shape (record { marks = marks; last = None })
    → KeepsRest (marks_range known.shape (other_region known.region)) a c → marks_in known.shape (other_region known.region) c ≡ marks → IsKnownIn (begun marks known) c
known_begun {known} {marks} {a} {c} is fit keeps there =
    let first : Building = record { marks = marks; last = None } in
    known_beside is (marks_within known.shape (other_region known.region) keeps) (Some first)
    (λ b same. subst (λ (d : Building). IsBuilt known.shape (other_region known.region) d c) (some_building first b same)
    (record { there = there; fit = fit.fit; valid = fit.valid; codes = λ p x inside live upto. absurd upto }))

-- every live id was reached
pub all_reached : (last : Option ℕ) (ids : List (Option ℕ)) → IsNextLive last ids None → (id place : ℕ) → LivesAt id place ids → UpTo last id
all_reached None ids none id place lives = absurd (none id place lives tt)
all_reached (Some l) ids none id place lives = ⊎_elim (λ above. absurd (none id place lives above)) (λ le. le) (cases_lt l id)

-- an id up to the next one, in another place, was reached before
pub reached_before : (last : Option ℕ) (ids : List (Option ℕ)) (id p : ℕ) → IsNextLive last ids (Some id) → ((q : ℕ) → LivesAt id q ids → q ≡ p) → (x q : ℕ) → LivesAt x q ids → (q ≡ p → ⊥) → x ≤ id → UpTo last x
reached_before None ids id p next one x q lives ne le =
    let above = next.2 x q lives tt in
    let same : x ≡ id = omega (arith, above, le) in
    absurd (ne (one q (subst (λ (n : ℕ). LivesAt n q ids) same lives)))
reached_before (Some l) ids id p next one x q lives ne le = ⊎_elim
    (λ less. (let above = next.2 x q lives less in
    let same : x ≡ id = omega (arith, above, le) in
    absurd (ne (one q (subst (λ (n : ℕ). LivesAt n q ids) same lives)))))
    (λ upto. upto)
    (cases_lt l x)

-- what is being built
pub record Runs (o : Option Building) : Type 0 where
  pub built : Building
  pub is : o ≡ Some built

pub runs_of : (o : Option Building) → is_some o ≡ true → Runs o
runs_of None some = cc
runs_of (Some b) some = record { built = b; is = refl }

id_when : (is_open : Bool) (item : Item) → id_of (if is_open then Some item else None) ≡ (if is_open then Some item.id else None)
id_when true item = refl
id_when false item = refl

in_range : (n : ℕ) (places : List (Option Item)) (q : ℕ) (x : Item) → length places ≡ n → get_or places q None ≡ Some x → q < n
in_range n places q x long there = ⊎_elim (λ less. less) (λ past. absurd (let e : None ≡ Some x = sym (get_or_past places q None (omega (arith, past, long))) ∙ there in cc)) (cases_lt q n)

lives_at : (places : List (Option Item)) (p : ℕ) (item : Item) → get_or places p None ≡ Some item → LivesAt item.id p (map id_of places)
lives_at [] p item is = cc
lives_at (None ∷ places) zero item is = cc
lives_at (Some x ∷ places) zero item is = ap id_of is
lives_at (x ∷ places) (suc p) item is = lives_at places p item is

lives_of : (known : Known) (kept : Kept) (p : ℕ) (item : Item) → IsOf known kept → get_or kept.places p None ≡ Some item → LivesAt item.id p known.ids
lives_of known kept p item is live = ap (λ (l : List (Option ℕ)). get_or l p None) is.ids ∙ lives_at kept.places p item live

-- the id of an item that stands in a place lives there
lives_in : {known : Known} {a : List ℕ} → IsKnownIn known a → (q : ℕ) (x : Item) → get_or (kept_in known.shape a).places q None ≡ Some x → LivesAt x.id q known.ids
lives_in {known} {a} is q x there =
    let inside : q < known.shape.capacity = in_range known.shape.capacity (kept_in known.shape a).places q x (places_count known.shape a) there in
    sym (is.slots q inside) ∙ sym (id_when (eqb (gate_in q a) 71) (record { id = id_in q a; vector = vector_in known.shape q a }))
    ∙ ap id_of (sym (place_in known.shape a q inside) ∙ there)

module _ {known : Known} {b : Building} {a : List ℕ} (is : IsKnownIn known a) (runs : known.building ≡ Some b) where
  -- the code of the next id was written
  module _ {p id : ℕ} {c : List ℕ} (inside : p < known.shape.capacity) (lives : LivesAt id p known.ids) (keeps : KeepsRest (code_range known.shape (other_region known.region) p) a c) where
    items_stay : (q : ℕ) → q < known.shape.capacity → item_in known.shape q c ≡ item_in known.shape q a
    items_stay q q_in =
        let begins = region_begins known.shape (other_region known.region) in
        let ends = region_ends known.shape (other_region known.region) in
        item_kept known.shape q (region_range known.shape (other_region known.region)) a c
        (record { gate = (inl (omega (arith, begins, q_in)), tt); id = (inl (omega (arith, begins, q_in)), tt); vector = (inr (omega (arith, ends)), tt) })
        (code_within known.shape (other_region known.region) p inside keeps)

    pub known_converted : IsFor known.shape b → IsItem known.shape.dims (record { id = id; vector = vector_in known.shape p a })
        → HasCode known.shape (other_region known.region) b.marks p (record { id = id; vector = vector_in known.shape p a }) c
        → IsNextLive (last_of known.building) known.ids (Some id) → ((q : ℕ) → LivesAt id q known.ids → q ≡ p) → IsKnownIn (converted id known) c
    known_converted fit item code next one =
        let region = other_region known.region in
        let now : Building = record { marks = b.marks; last = Some id } in
        let next_live : IsNextLive b.last known.ids (Some id) = subst (λ (o : Option Building). IsNextLive (last_of o) known.ids (Some id)) runs next in
        let built : IsBuilt known.shape region now c = subst (λ (l : List (Option Item)). HasApproximations known.shape region b.marks (IsReached known.shape now) l c)
        (places_same known.shape a c items_stay)
        (approximations_converted (is.built b runs) keeps
        (λ x there. subst (λ (y : Item). IsReached known.shape now y (code_in known.shape region p c)) (item_is known.shape p id a inside (is.slots p inside ∙ lives) there) (own_reached {building = now} (record { fit = fit.fit; valid = fit.valid }) item code))
        (λ q x ne there code reached upto. reached (reached_before b.last known.ids id p next_live one x.id q (lives_in is q x there) ne upto))) in
        known_beside is (code_within known.shape region p inside keeps) (reaching id known.building)
        (λ d same. subst (λ (e : Building). IsBuilt known.shape region e c) (some_building now d (sym (ap (reaching id) runs) ∙ same)) built)

  -- what is being built is that of what is kept
  built_kept : {kept : Kept} → IsOf known kept → Opens kept a → HasApproximations kept.shape (other_region known.region) b.marks (λ item code. UpTo b.last item.id → IsOwnCode kept.shape b.marks item code) kept.places a
  built_kept {kept} of opens =
      let built : IsBuilt kept.shape (other_region known.region) b a = rw of.shape at (is.built b runs) in
      record {
        there = built.there;
        fit = built.fit;
        valid = built.valid;
        codes = λ p x inside live upto. (built.codes p x inside (place_in kept.shape a p inside ∙ opens.places p inside ∙ live) upto).0;
      }

  -- and so each live id up to the last that was converted has its own code in the region that isn't selected
  pub building_kept : {kept : Kept} → IsOf known kept → Opens kept a → IsBuilding kept b.marks b.last a
  building_kept {kept} of opens = subst (λ (r : Region). HasApproximations kept.shape (other_region r) b.marks (λ item code. UpTo b.last item.id → IsOwnCode kept.shape b.marks item code) kept.places a)
      (sym is.selected) (built_kept of opens)

  module _ (all : IsNextLive (last_of known.building) known.ids None) {c : List ℕ} (keeps : KeepsRest selection_range a c) where
    every : (id place : ℕ) → LivesAt id place known.ids → UpTo b.last id
    every id place lives = all_reached b.last known.ids (subst (λ (o : Option Building). IsNextLive (last_of o) known.ids None) runs all) id place lives

    -- the other region was selected
    pub known_switched : selected_in c ≡ other_region known.region → IsKnownIn (switched known) c
    known_switched selected =
        let built = is.built b runs in
        let named : HasApproximations known.shape (other_region known.region) b.marks (λ (id : ℕ) code. NamesCell known.shape b.marks code) known.ids a = record {
          there = built.there;
          fit = built.fit;
          valid = built.valid;
          codes = λ q id inside lives. (built.codes q (record { id = id; vector = vector_in known.shape q a }) inside
              (place_in known.shape a q inside ∙ item_of_slot known.shape q id a (is.slots q inside ∙ lives)) (every id q lives)).1;
        } in
        record {
          head = head_selected known.shape a c is.head keeps;
          count = is.count;
          once = is.once;
          slots = λ q inside. slot_kept q selection_range a c (inr (omega arith), tt) (inr (omega arith), tt) keeps ∙ is.slots q inside;
          selected = selected;
          named = subst (λ (m : List (List ℕ)). HasApproximations known.shape (other_region known.region) m (λ (id : ℕ) code. NamesCell known.shape m code) known.ids c)
              (sym (ap marks_of_building runs)) (approximations_selected named keeps);
          built = λ d no. absurd (let e : None ≡ Some d = no in cc);
        }

    module _ {kept : Kept} (of : IsOf known kept) (stood : Stands kept a) where
      whole : HasApproximations kept.shape (other_region (selected_in a)) b.marks (IsOwnCode kept.shape b.marks) kept.places a
      whole = subst (λ (r : Region). HasApproximations kept.shape (other_region r) b.marks (IsOwnCode kept.shape b.marks) kept.places a) (sym is.selected)
          (approximations_weaker (built_kept of stood.opens) (λ p item inside live code own. own (every item.id p (lives_kept p item live))))
        where
          lives_kept : (p : ℕ) (item : Item) → get_or kept.places p None ≡ Some item → LivesAt item.id p known.ids
          lives_kept p item live = lives_of known kept p item of live

      pub switched_after : selected_in c ≡ other_region known.region → Stands (with_marks (marks_of_building known.building) kept) c
      switched_after selected = subst (λ (o : Option Building). Stands (with_marks (marks_of_building o) kept) c) (sym runs)
          (stands_switched stood keeps whole (selected ∙ ap other_region (sym is.selected)))

      pub switched_either : Stands kept c ⊎ Stands (with_marks (marks_of_building known.building) kept) c
      switched_either = subst (λ (o : Option Building). Stands kept c ⊎ Stands (with_marks (marks_of_building o) kept) c) (sym runs)
          (⊎_elim (λ same. inl same.0) (λ other. inr other.0) (stands_switching stood keeps whole))
