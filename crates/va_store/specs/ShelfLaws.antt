-- The laws of a store's live places as a shelf.
use Rattle.std.proofs.Common.{◌≡◌, ◌≢◌, inl, inr, ⊎_elim, ℕ, zero, suc, ◌+◌, ◌≤◌, List, [], ◌∷◌, ◌++◌, length, map, take, drop, append_assoc, Option, None, Some, refl, sym, ap, subst, ◌∙◌, arith}
use Rattle.std.specs.List.{AllByRecursion}
use Rattle.std.proofs.lemmas.List.{append-nil, map-append}
use Rattle.std.proofs.lemmas.List.Elements.{filter-append}
use Rattle.va_core.specs.Approximations.{NamesDiffer}
use Rattle.va_core.specs.Shape.{Shape}
use Rattle.va_disk.specs.declared.storage.Storage.{Ghosts}
use Rattle.va_disk.proofs.Frames.{reads_both, reads_nothing}
use Rattle.va_ports.specs.Shelves.{IsLeft, IsSound, PlacesAscend, id_of}
use Rattle.va_store.specs.Ids.{LivesAt}
use Rattle.va_store.specs.Known.{Known}
use Rattle.va_store.specs.Shelved.{FindsChanged, IsOrderly, IsSameStore, KeepsChanged, Passes, cells_from, contents_of, left_of}
use Rattle.va_store.specs.ShelfReads.{ReadsVectors, reaches_vectors, read_of, vector_reads}

ascend_from : (from place capacity : ℕ) (ids : List (Option ℕ)) → from ≤ place → place + length ids ≤ capacity → PlacesAscend from capacity (cells_from place ids)
ascend_from from place capacity [] le fits = tt
ascend_from from place capacity (None ∷ ids) le fits = ascend_from from (place + 1) capacity ids (omega arith) (omega arith)
ascend_from from place capacity (Some id ∷ ids) le fits = (le, omega arith, ascend_from (place + 1) (place + 1) capacity ids (omega arith) (omega arith))

-- where an id lives in no place of a list, no cell of it has the id
others_differ : (place id : ℕ) (ids : List (Option ℕ)) → ((k : ℕ) → LivesAt id k ids → ⊥) → AllByRecursion (λ (cell : ℕ × ℕ). id_of cell ≢ id) (cells_from place ids)
others_differ place id [] none = tt
others_differ place id (None ∷ ids) none = others_differ (place + 1) id ids (λ k at. none (suc k) at)
others_differ place id (Some other ∷ ids) none = (λ e. none 0 (ap (λ (n : ℕ). Some n) e), others_differ (place + 1) id ids (λ k at. none (suc k) at))

differ_from : (place : ℕ) (ids : List (Option ℕ)) → ((id p q : ℕ) → LivesAt id p ids → LivesAt id q ids → p ≡ q) → NamesDiffer id_of (cells_from place ids)
differ_from place [] once = tt
differ_from place (None ∷ ids) once = differ_from (place + 1) ids (λ id p q at at'. let h : suc p ≡ suc q = once id (suc p) (suc q) at at' in omega (arith, h))
differ_from place (Some id ∷ ids) once = (
  others_differ (place + 1) id ids (λ k at. let h : suc k ≡ 0 = once id (suc k) 0 at refl in absurd (omega (arith, h))),
  differ_from (place + 1) ids (λ id p q at at'. let h : suc p ≡ suc q = once id (suc p) (suc q) at at' in omega (arith, h)),
)

pub is_sound : (known : Known) (image : List ℕ) → IsOrderly known → IsSound (contents_of known image)
is_sound known image is = record {
  shape = is.shape;
  has_shape = is.fit;
  valid = is.valid;
  places = ascend_from 0 0 known.shape.capacity known.ids (omega arith) (omega (arith, is.all));
  ids = differ_from 0 known.ids is.once;
}

-- the cells of the first places, and of the others
split_cells : (place n : ℕ) (ids : List (Option ℕ)) → cells_from place ids ≡ cells_from place (take n ids) ++ cells_from (place + n) (drop n ids)
split_cells place zero ids = ap (λ (p : ℕ). cells_from p ids) (omega arith)
split_cells place (suc n) [] = refl
split_cells place (suc n) (None ∷ ids) = split_cells (place + 1) n ids ∙ ap (λ (p : ℕ). cells_from (place + 1) (take n ids) ++ cells_from p (drop n ids)) (omega arith)
split_cells place (suc n) (Some id ∷ ids) = ap (λ (l : List (ℕ × ℕ)). (place, id) ∷ l)
    (split_cells (place + 1) n ids ∙ ap (λ (p : ℕ). cells_from (place + 1) (take n ids) ++ cells_from p (drop n ids)) (omega arith))

pub stands : (known : Known) (image : List ℕ) → IsLeft (contents_of known image).cells (left_of known)
stands known image = record {
  given = cells_from 0 (take known.scan.place known.ids);
  split = split_cells 0 known.scan.place known.ids
      ∙ ap (λ (p : ℕ). cells_from 0 (take known.scan.place known.ids) ++ cells_from p (drop known.scan.place known.ids)) (omega arith);
}

pub same_both : (old mid new : Known) → IsSameStore old mid → IsSameStore mid new → IsSameStore old new
same_both old mid new a b = b ∙ ap (λ (known : Known). record known { scan = new.scan; changed = new.changed }) a

pub keeps_both : (old mid new : Known) → IsSameStore old mid → KeepsChanged old mid → KeepsChanged mid new → KeepsChanged old new
keeps_both old mid new same a b = ⊎_elim
    (λ (stays : new.changed ≡ mid.changed). ⊎_elim
    (λ (kept : mid.changed ≡ old.changed). inl (stays ∙ kept))
    (λ (finds : FindsChanged old mid). inr (record { place = finds.place; id = finds.id; lives = finds.lives; none = finds.none; now = stays ∙ finds.now }))
    a)
    (λ (finds : FindsChanged mid new). ⊎_elim
    (λ (kept : mid.changed ≡ old.changed). inr (record {
      place = finds.place;
      id = finds.id;
      lives = subst (λ (known : Known). LivesAt finds.id finds.place known.ids) same finds.lives;
      none = sym kept ∙ finds.none;
      now = finds.now;
    }))
    (λ (before : FindsChanged old mid). absurd (let e : Some before.place ≡ None = sym before.now ∙ finds.none in cc))
    a)
    b

reads_on : {D : Type 0} (g : Ghosts D) (shape : Shape) (old mid new : D) (first second : List ℕ) → ReadsVectors g shape old first mid → ReadsVectors g shape mid second new → ReadsVectors g shape old (first ++ second) new
reads_on g shape old mid new first second a b = record {
  added = a.added ++ b.added;
  is = λ told. b.is told ∙ ap (λ (l : List (ℕ × ℕ)). l ++ b.added) (a.is told) ∙ append_assoc (g.reads old) a.added b.added;
  vectors = filter-append (reaches_vectors shape) a.added b.added
      ∙ ap (λ (l : List (ℕ × ℕ)). l ++ vector_reads shape b.added) a.vectors
      ∙ ap (λ (l : List (ℕ × ℕ)). map (read_of shape) first ++ l) b.vectors
      ∙ sym (map-append (read_of shape) first second);
  frame = reads_both a.frame b.frame;
}

pub passes_none : {D : Type 0} (g : Ghosts D) (known : Known) (disk : D) → Passes g known disk [] known disk
passes_none g known disk = record {
  same = refl;
  changed = inl refl;
  unchanged = λ told whole. refl;
  reads = record { added = []; is = λ told. sym (append-nil (g.reads disk)); vectors = refl; frame = reads_nothing };
}

pub passes_both : {D : Type 0} (g : Ghosts D) (old mid new : Known) (before between after : D) (first second : List ℕ) → Passes g old before first mid between → Passes g mid between second new after → Passes g old before (first ++ second) new after
passes_both g old mid new before between after first second a b = record {
  same = same_both old mid new a.same b.same;
  changed = keeps_both old mid new a.same a.changed b.changed;
  unchanged = λ told whole. b.unchanged told (ap (λ (known : Known). known.broken) a.same ∙ whole) ∙ a.unchanged told whole;
  reads = reads_on g old.shape before between after first second a.reads
      (subst (λ (s : Shape). ReadsVectors g s between second after) (ap (λ (known : Known). known.shape) a.same) b.reads);
}
