-- A store that converts one id after another.
use Rattle.std.proofs.Common.{◌≡◌, ⊎_elim, ℕ, zero, suc, ◌+◌, ◌-◌, ◌≤◌, ◌<◌, List, [], ◌∷◌, ◌++◌, length, get_or, map, take, drop, append_assoc, Option, Some, None, true, is_some, IsSome, Result, Ok, Err, OnErr, refl, sym, ◌∙◌, ap, subst, arith}
use Rattle.std.proofs.lemmas.Bool.{cases_eq}
use Rattle.std.proofs.lemmas.List.{append-nil, map-append, take-append-drop, take-take}
use Rattle.va_disk.specs.declared.storage.Storage.{Ghosts}
use Rattle.va_layout.specs.Fields.{code_range}
use Rattle.va_layout.specs.Layout.{other_region}
use Rattle.va_layout.specs.Parts.{KeepsRest}
use Rattle.va_layout.specs.Stands.{Kept, Building}
use Rattle.va_layout.proofs.Parts.{rest_same, rest_twice}
use Rattle.va_requant.specs.Refitting.{other_range, waiting}
use Rattle.va_core.specs.Above.{live_above}
use Rattle.va_store.specs.Builds.{last_of, marks_of_building, reaching}
use Rattle.va_store.specs.Ids.{IsNextLive}
use Rattle.va_store.specs.Known.{Becomes, Fits, IsOf, Known, broken, place_of_id}
use Rattle.va_store.specs.Refits.{GivesNothing, ReadsFirst, ReadsThese, StaysIn, converted, same_kept}
use Rattle.va_store.proofs.AboveLive.{none_above}
use Rattle.va_store.proofs.Quiet.{quiet_both, quiet_nothing}
use Rattle.va_store.proofs.Refitted.{code_within}
use Rattle.va_store.specs.ShelfReads.{read_of_id}

-- the live ids above another are the next one, and those above it
abbrev pub FollowNext : List (Option ℕ) → Type 0
FollowNext ids = (other : Option ℕ) (next : ℕ) → IsNextLive other ids (Some next) → live_above other ids ≡ next ∷ live_above (Some next) ids

-- this many ids were converted, of which this one is the last
pub record Converts {D : Type 0} (g : Ghosts D) (first : Known) (start : D) (count : ℕ) (last : Option ℕ) (known : Known) (disk : D) : Type 0 where
  pub fits : Fits g known disk
  pub same : known ≡ record first { building = known.building }
  pub runs : is_some known.building ≡ true
  pub marks : marks_of_building known.building ≡ marks_of_building first.building
  pub at : last ≡ last_of known.building
  pub left : waiting known ≡ drop count (waiting first)
  pub none : count ≡ 0 → known ≡ first
  pub some : 1 ≤ count → known ≡ converted (get_or (waiting first) (count - 1) 0) first
  pub stands : Becomes g first same_kept start disk
  pub outcomes : g.honest → (c : List ℕ) → g.may_leave disk c → StaysIn g first start c
  pub frame : GivesNothing g start disk (StaysIn g first start)
  pub rest : g.told → KeepsRest (other_range first) (g.image start) (g.image disk)
  pub reads : g.told → g.reads disk ≡ g.reads start ++ map (read_of_id first) (take count (waiting first))
  pub size : g.size disk ≡ g.size start
  pub quiet : g.faults disk ≡ g.faults start

-- the conversion of an id was tried
pub record Tries {D : Type 0} (g : Ghosts D) (known : Known) (disk : D) (id : ℕ) (after : D) : Type 0 where
  pub next : IsNextLive (last_of known.building) known.ids (Some id)
  pub stands : Becomes g known same_kept disk after
  pub outcomes : g.honest → (c : List ℕ) → g.may_leave after c → StaysIn g known disk c
  pub frame : GivesNothing g disk after (StaysIn g known disk)
  pub rest : g.told → KeepsRest (code_range known.shape (other_region known.region) (place_of_id id known.ids)) (g.image disk) (g.image after)
  pub inside : place_of_id id known.ids < known.shape.capacity
  pub size : g.size after ≡ g.size disk

-- and it succeeded
pub record Steps {D : Type 0} (g : Ghosts D) (known : Known) (disk : D) (id : ℕ) (new : Known) (after : D) : Type 0 where
  pub ok : new ≡ converted id known
  pub fits : Fits g new after
  pub reads : g.told → g.reads after ≡ g.reads disk ++ read_of_id known id ∷ []
  pub quiet : g.faults after ≡ g.faults disk

-- what is kept stays, and so do the outcomes
pub record Stays {D : Type 0} (g : Ghosts D) (first : Known) (start after : D) : Type 0 where
  pub stands : Becomes g first same_kept start after
  pub outcomes : g.honest → (c : List ℕ) → g.may_leave after c → StaysIn g first start c
  pub frame : GivesNothing g start after (StaysIn g first start)
  pub rest : g.told → KeepsRest (other_range first) (g.image start) (g.image after)
  pub size : g.size after ≡ g.size start

-- no id was converted yet
pub converts_none : {D : Type 0} {g : Ghosts D} (first : Known) (start : D) {last : Option ℕ} → Fits g first start → is_some first.building ≡ true → last ≡ last_of first.building → Converts g first start 0 last first start
converts_none {D} {g} first start fits runs at = record {
  fits = fits;
  same = refl;
  runs = runs;
  marks = refl;
  at = at;
  left = refl;
  none = λ zeroth. refl;
  some = λ some. absurd (omega (arith, some));
  stands = λ told kept is stood. stood;
  outcomes = λ honest x left kept is each. each x left;
  frame = quiet_nothing;
  rest = λ told. rest_same (other_range first) (g.image start);
  reads = λ told. sym (append-nil (g.reads start));
  size = refl;
  quiet = refl;
}

reaching_some : (id : ℕ) (o : Option Building) → is_some o ≡ true → is_some (reaching id o) ≡ true
reaching_some id None e = e
reaching_some id (Some b) e = refl

reaching_last : (id : ℕ) (o : Option Building) → is_some o ≡ true → Some id ≡ last_of (reaching id o)
reaching_last id None e = cc
reaching_last id (Some b) e = refl

reaching_marks : (id : ℕ) (o : Option Building) → marks_of_building (reaching id o) ≡ marks_of_building o
reaching_marks id None = refl
reaching_marks id (Some b) = refl

reaching_again : (id other : ℕ) (o : Option Building) → reaching id (reaching other o) ≡ reaching id o
reaching_again id other None = refl
reaching_again id other (Some b) = refl

-- where a list goes on with x behind its first n members
pub drop_next : {A : Type 0} (n : ℕ) (l : List A) {x : A} {r : List A} → drop n l ≡ x ∷ r → drop (suc n) l ≡ r
drop_next zero [] e = cc
drop_next zero (y ∷ l) {x} {r} e = cc
drop_next (suc n) [] e = cc
drop_next (suc n) (y ∷ l) e = drop_next n l e

get_next : (n : ℕ) (l : List ℕ) {x : ℕ} {r : List ℕ} → drop n l ≡ x ∷ r → get_or l n 0 ≡ x
get_next zero [] e = cc
get_next zero (y ∷ l) e = cc
get_next (suc n) [] e = cc
get_next (suc n) (y ∷ l) e = get_next n l e

pub map_next : {A B : Type 0} (f : A → B) (n : ℕ) (l : List A) {x : A} {r : List A} → drop n l ≡ x ∷ r → map f (take (suc n) l) ≡ map f (take n l) ++ f x ∷ []
map_next f zero [] e = cc
map_next f zero (y ∷ l) {x} {r} e = (let same : y ≡ x = cc in ap (λ z. f z ∷ []) same)
map_next f (suc n) [] e = cc
map_next f (suc n) (y ∷ l) e = ap (λ t. f y ∷ t) (map_next f n l e)

pub is_of_first : {first : Known} {kept : Kept} (o : Option Building) → IsOf first kept → IsOf (record first { building = o }) kept
is_of_first o is = record { shape = is.shape; ids = is.ids; marks = is.marks }

module _ {D : Type 0} {g : Ghosts D} {first known : Known} {start disk after : D} {count id : ℕ} {last : Option ℕ} (law : FollowNext first.ids) (so_far : Converts g first start count last known disk) (tried : Tries g known disk id after) where
  pub next_waits : drop count (waiting first) ≡ id ∷ live_above (Some id) first.ids
  next_waits =
      let t = subst (λ (k : Known). Tries g k disk id after) so_far.same tried in
      sym so_far.left ∙ ap waiting so_far.same ∙ law (last_of known.building) id t.next

  pub stays_tried : Stays g first start after
  stays_tried =
      let t = subst (λ (k : Known). Tries g k disk id after) so_far.same tried in
      record {
        stands = λ told kept is stood. t.stands told kept (is_of_first known.building is) (so_far.stands told kept is stood);
        outcomes = λ honest x left kept is each. t.outcomes honest x left kept (is_of_first known.building is) (λ y was. so_far.outcomes honest y was kept is each);
        frame = quiet_both so_far.frame t.frame (λ honest x has. has)
            (λ honest x has kept is each. has kept (is_of_first known.building is) (λ y was. so_far.outcomes honest y was kept is each));
        rest = λ told. rest_twice (other_range first) _ _ _ (so_far.rest told) (code_within first.shape (other_region first.region) (place_of_id id first.ids) t.inside (t.rest told));
        size = t.size ∙ so_far.size;
      }

  pub converts_next : {new : Known} → Steps g known disk id new after → Converts g first start (count + 1) (Some id) new after
  converts_next {new} stepped =
      let o : Option Building = known.building in
      let s = subst (λ (k : Known). Steps g k disk id new after) so_far.same stepped in
      let building : new.building ≡ reaching id o = ap (λ (k : Known). k.building) s.ok in
      let stays = stays_tried in
      let waits = next_waits in
      let one : count + 1 ≡ suc count = omega arith in
      record {
        fits = s.fits;
        same = s.ok ∙ ap (λ (k : Known). record first { building = k.building }) (sym s.ok);
        runs = ap is_some building ∙ reaching_some id o so_far.runs;
        marks = ap marks_of_building building ∙ reaching_marks id o ∙ so_far.marks;
        at = reaching_last id o so_far.runs ∙ sym (ap last_of building);
        left = ap waiting s.ok ∙ ap (λ (x : Option ℕ). live_above x first.ids) (sym (reaching_last id o so_far.runs))
            ∙ sym (drop_next count (waiting first) waits) ∙ ap (λ (n : ℕ). drop n (waiting first)) (sym one);
        none = λ zeroth. absurd (omega (arith, zeroth));
        some = λ some. s.ok ∙ ap (λ (b : Option Building). record first { building = b }) once_reached
            ∙ ap (λ (n : ℕ). converted (get_or (waiting first) n 0) first) (omega arith);
        stands = stays.stands;
        outcomes = stays.outcomes;
        frame = stays.frame;
        rest = stays.rest;
        reads = λ told. s.reads told ∙ ap (λ (l : List (ℕ × ℕ)). l ++ read_of_id first id ∷ []) (so_far.reads told)
            ∙ append_assoc (g.reads start) (map (read_of_id first) (take count (waiting first))) (read_of_id first id ∷ [])
            ∙ ap (λ (l : List (ℕ × ℕ)). g.reads start ++ l) (sym (map_next (read_of_id first) count (waiting first) waits)
            ∙ ap (λ (n : ℕ). map (read_of_id first) (take n (waiting first))) (sym one));
        size = stays.size;
        quiet = s.quiet ∙ so_far.quiet;
      }
    where
      -- the last id that was converted before is forgotten
      once_reached : reaching id known.building ≡ reaching (get_or (waiting first) count 0) first.building
      once_reached = ap (λ (n : ℕ). reaching n known.building) (sym (get_next count (waiting first) next_waits)) ∙ ⊎_elim
          (λ none. ap (λ (k : Known). reaching (get_or (waiting first) count 0) k.building) (so_far.none none))
          (λ ne. (let some : 1 ≤ count = omega (arith, ne) in
          ap (λ (k : Known). reaching (get_or (waiting first) count 0) k.building) (so_far.some some)
          ∙ reaching_again (get_or (waiting first) count 0) (get_or (waiting first) (count - 1) 0) first.building))
          (cases_eq count 0)

some_left : (n : ℕ) (l : List ℕ) → n < length l → drop n l ≡ [] → ⊥
some_left zero [] less e = omega (arith, less)
some_left zero (x ∷ l) less e = cc
some_left (suc n) [] less e = omega (arith, less)
some_left (suc n) (x ∷ l) less e = some_left n l (omega (arith, less)) e

-- while some are waiting there is a next one
pub next_there : (last : Option ℕ) (ids : List (Option ℕ)) (r : Option ℕ) (n : ℕ) (l : List ℕ) → IsNextLive last ids r → live_above last ids ≡ drop n l → n < length l → IsSome r
next_there last ids None n l none left less = absurd (some_left n l less (sym left ∙ none_above last ids none))
next_there last ids (Some next) n l is left less = refl

-- a store that broke while it converted
pub broken_of : (first : Known) {known new : Known} → known ≡ record first { building = known.building } → new ≡ broken known → new ≡ record first { broken = true; building = new.building }
broken_of first {known} {new} same broke = broke ∙ ap broken same ∙ ap (λ (b : Option Building). record first { broken = true; building = b }) (sym (ap (λ (k : Known). k.building) broke))

-- the reads so far, and then the first of one more, are the first of all
pub reads_stopped : {D : Type 0} {g : Ghosts D} (first : Known) (ids : List ℕ) (count n : ℕ) {old mid new : D} {id : ℕ} {rest : List ℕ} → (g.told → g.reads mid ≡ g.reads old ++ map (read_of_id first) (take count ids))
    → drop count ids ≡ id ∷ rest → suc count ≤ n → ReadsFirst g (read_of_id first id ∷ []) mid new → ReadsFirst g (map (read_of_id first) (take n ids)) old new
reads_stopped {D} {g} first ids count n {old} {mid} {new} {id} {rest} before next less one =
    let made = map (read_of_id first) (take count ids) in
    let behind = map (read_of_id first) (drop (suc count) (take n ids)) in
    record {
      made = made ++ one.made;
      left = one.left ++ behind;
      split = append_assoc made one.made (one.left ++ behind)
          ∙ ap (λ (l : List (ℕ × ℕ)). made ++ l) (sym (append_assoc one.made one.left behind) ∙ ap (λ (l : List (ℕ × ℕ)). l ++ behind) one.split)
          ∙ sym (append_assoc made (read_of_id first id ∷ []) behind)
          ∙ ap (λ (l : List (ℕ × ℕ)). l ++ behind) (sym (map_next (read_of_id first) count ids next))
          ∙ ap (λ (l : List ℕ). map (read_of_id first) l ++ behind) (sym (take-take (suc count) n ids less))
          ∙ sym (map-append (read_of_id first) (take (suc count) (take n ids)) (drop (suc count) (take n ids)))
          ∙ ap (λ (l : List ℕ). map (read_of_id first) l) (take-append-drop (suc count) (take n ids));
      is = λ told. one.is told ∙ ap (λ (l : List (ℕ × ℕ)). l ++ one.made) (before told) ∙ append_assoc (g.reads old) made one.made;
    }

pub failed : {T E P : Type 0} (result : Result T E) → P → OnErr result P
failed (Ok x) is = tt
failed (Err e) is = is

pub reads_failed : {D T E : Type 0} {g : Ghosts D} {old new : D} {result : Result T E} {e : E} (reads : List (ℕ × ℕ)) → result ≡ Err e → ReadsFirst g reads old new → ReadsThese g reads old new result
reads_failed {D} {T} {E} {g} {old} {new} {result} {e} reads is first = subst (λ (r : Result T E). ReadsThese g reads old new r) (sym is) (record { ok = tt; err = first })
