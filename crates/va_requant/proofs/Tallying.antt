-- The live vectors are read and tallied one after another.
use Rattle.va_core.specs.Places.{vector_of}
use Rattle.std.proofs.Common.{◌≡◌, ℕ, suc, ◌+◌, List, [], ◌∷◌, ◌++◌, length, get_or, map, take, drop, append_assoc, Option, Some, None, sym, ◌∙◌, ap, subst, arith}
use Rattle.va_disk.specs.Frames.{OnlyReads, OnlyWrites}
use Rattle.va_disk.specs.declared.storage.Storage.{Ghosts}
use Rattle.va_disk.proofs.Frames.{reads_both}
use Rattle.va_layout.specs.Stands.{Kept, Opens}
use Rattle.va_marks.specs.Counts.{Counted, Tallies}
use Rattle.va_requant.specs.Refitting.{all_live, vectors_of}
use Rattle.va_requant.proofs.Advancing.{FollowNext, drop_next, map_next}
use Rattle.va_core.specs.Above.{live_above}
use Rattle.va_store.specs.Ids.{IsNextLive}
use Rattle.va_store.specs.Known.{Fits, IsOf, Keeps, Known, place_of_id}
use Rattle.va_store.specs.Refits.{GivesNothing, StaysIn}
use Rattle.va_store.proofs.Quiet.{quiet_both, quiet_reads, quiet_writes}
use Rattle.va_store.specs.ShelfReads.{read_of_id}

-- this many live vectors were read and tallied, of which that of this id was the last
pub record Tallied {D : Type 0} (g : Ghosts D) (first : Known) (start : D) (count : ℕ) (last : Option ℕ) (store : Known) (disk : D) (tally : Counted) (vector : List ℕ) : Type 0 where
  pub fits : Fits g store disk
  pub same : store ≡ first
  pub shape : tally.shape ≡ first.shape
  pub added : tally.added ≡ count
  pub left : live_above last first.ids ≡ drop count (all_live first)
  pub tallied : g.told → (kept : Kept) → IsOf first kept → Opens kept (g.image start) → Tallies tally (vectors_of first kept (take count (all_live first)))
  pub frame : OnlyReads g start disk
  pub reads : g.told → g.reads disk ≡ g.reads start ++ map (read_of_id first) (take count (all_live first))
  pub long : length vector ≡ first.shape.dims
  pub quiet : g.faults disk ≡ g.faults start

module _ {D : Type 0} {g : Ghosts D} {first store : Known} {start disk : D} {count id : ℕ} {last : Option ℕ} {tally : Counted} {vector : List ℕ}
    (law : FollowNext first.ids) (so_far : Tallied g first start count last store disk tally vector) (is_next : IsNextLive last first.ids (Some id)) where
  pub vector_waits : drop count (all_live first) ≡ id ∷ live_above (Some id) first.ids
  vector_waits = sym so_far.left ∙ law last id is_next

  pub tallied_next : {new : Known} {after : D} {more : Counted} {out : List ℕ} → Fits g new after → new ≡ store → Keeps g first disk (place_of_id id first.ids) (record { id = id; vector = out }) → length out ≡ first.shape.dims
      → (g.told → g.reads after ≡ g.reads disk ++ read_of_id first id ∷ []) → OnlyReads g disk after → g.faults after ≡ g.faults disk
      → more.shape ≡ tally.shape → more.added ≡ tally.added + 1 → ((vectors : List (List ℕ)) → Tallies tally vectors → Tallies more (vectors ++ out ∷ [])) → Tallied g first start (count + 1) (Some id) new after more out
  tallied_next {new} {after} {more} {out} fits same keeps long reads frame quiet shape added adds =
      let one : count + 1 ≡ suc count = omega arith in
      record {
        fits = fits;
        same = same ∙ so_far.same;
        shape = shape ∙ so_far.shape;
        added = added ∙ ap (λ (n : ℕ). n + 1) so_far.added;
        left = sym (drop_next count (all_live first) vector_waits) ∙ ap (λ (n : ℕ). drop n (all_live first)) (sym one);
        tallied = λ told kept is opens. (
            let there : vector_of (get_or kept.places (place_of_id id first.ids) None) ≡ out =
            ap vector_of (keeps told kept is (subst (Opens kept) (sym so_far.frame.image) opens)) in
            let all : vectors_of first kept (take (count + 1) (all_live first)) ≡ vectors_of first kept (take count (all_live first)) ++ out ∷ [] =
            ap (λ (n : ℕ). vectors_of first kept (take n (all_live first))) one
            ∙ map_next (λ (i : ℕ). vector_of (get_or kept.places (place_of_id i first.ids) None)) count (all_live first) vector_waits
            ∙ ap (λ (v : List ℕ). vectors_of first kept (take count (all_live first)) ++ v ∷ []) there in
            subst (Tallies more) (sym all) (adds (vectors_of first kept (take count (all_live first))) (so_far.tallied told kept is opens)));
        frame = reads_both so_far.frame frame;
        reads = λ told. reads told ∙ ap (λ (l : List (ℕ × ℕ)). l ++ read_of_id first id ∷ []) (so_far.reads told)
            ∙ append_assoc (g.reads start) (map (read_of_id first) (take count (all_live first))) (read_of_id first id ∷ [])
            ∙ ap (λ (l : List (ℕ × ℕ)). g.reads start ++ l) (sym (map_next (read_of_id first) count (all_live first) vector_waits)
            ∙ ap (λ (n : ℕ). map (read_of_id first) (take n (all_live first))) (sym one));
        long = long;
        quiet = quiet ∙ so_far.quiet;
      }

-- what is written behind the reads stays in what stood before them
module _ {D : Type 0} {g : Ghosts D} {first known : Known} {start mid : D} (same : known ≡ first) (before : OnlyReads g start mid) where
  pub stays_behind : g.honest → (c : List ℕ) → StaysIn g known mid c → StaysIn g first start c
  stays_behind honest c stays = subst (λ (k : Known). StaysIn g k start c) same (λ kept is each. stays kept is (λ x was. each x (before.crash honest x was)))

  pub frame_behind : {after : D} → OnlyWrites g mid after (StaysIn g known mid) → GivesNothing g start after (StaysIn g first start)
  frame_behind {after} behind = quiet_both (quiet_reads {P = StaysIn g first start} before) (quiet_writes behind stays_behind) (λ honest c has. has) (λ honest c has. has)
