-- What becomes of a session where a cursor is asked for its next pair.
use Rattle.std.proofs.Common.{◌≡◌, ℕ, List, false, set, get_or, Option, None, Some, Result, Ok, Err, OnOk, refl, sym, ap, ◌∙◌, subst}
use Rattle.va_core.specs.declared.pair.Pair.{Pair}
use Rattle.va_core.specs.Shape.{Shape}
use Rattle.va_cursor.specs.Cursors.{Cursor}
use Rattle.va_disk.specs.Frames.{DiskFailsAs}
use Rattle.va_disk.specs.declared.storage.Storage.{Ghosts}
use Rattle.va_keep.specs.declared.entry.Entry.{Entry}
use Rattle.va_search.specs.Cursors.{Advanced, IsSameCursor, ReadsHeld}
use Rattle.va_search.specs.declared.fault.StoreSearchFault.{StoreSearchFault}
use Rattle.va_search.specs.declared.fault.StoreSearchFault.TheVariants as faults
use Rattle.va_serve.specs.Answers.{next_answer}
use Rattle.va_serve.specs.Bounds.{KeepsHeldBounds, ReadsAsHeld, UnlessBroken}
use Rattle.va_serve.specs.Held.{AreCounts, HaveShape, IsCursorOver}
use Rattle.va_serve.specs.Session.{FitsSession, Sitting, with_store}
use Rattle.va_serve.specs.declared.answer.CommandFault.TheVariants as commands
use Rattle.va_serve.proofs.Numbers.{same_counts, shape_found, shapes_set}
use Rattle.va_serve.proofs.Ranks.{set_twice}
use Rattle.va_store.specs.Known.{Known}

same_name : {a b : ℕ} → Some a ≡ Some b → a ≡ b
same_name {a} {b} e = cc

-- a cursor that went on is over the same shelf
over_same : {shape : Shape} {before after : Cursor} → IsCursorOver shape before → IsSameCursor before after → IsCursorOver shape after
over_same {shape} {before} {after} over same = record {
  shape_is = same.shape ∙ over.shape_is;
  once = λ place. rw same.places (over.once place);
}

module _ {D : Type 0} (g : Ghosts D) {old new : D} where
  -- the disk failed where the cursor says so
  pub next_cause : (result : Result (Option Pair) StoreSearchFault) (fetched : ℕ) → DiskFailsAs g faults.Disk old new result → DiskFailsAs g commands.Disk old new (next_answer result fetched)
  next_cause (Ok None) fetched cause = record { rose = λ is. absurd (let wrong = is in cc); stayed = λ other. cause.stayed (λ is. cc) }
  next_cause (Ok (Some pair)) fetched cause = record { rose = λ is. absurd (let wrong = is in cc); stayed = λ other. cause.stayed (λ is. cc) }
  next_cause (Err faults.Memory) fetched cause = record { rose = λ is. absurd (let wrong = is in cc); stayed = λ other. cause.stayed (λ is. cc) }
  next_cause (Err faults.Disk) fetched cause = record { rose = λ is. cause.rose refl; stayed = λ other. absurd (other refl) }
  next_cause (Err (faults.Mismatch place dist low high)) fetched cause = record { rose = λ is. absurd (let wrong = is in cc); stayed = λ other. cause.stayed (λ is. cc) }
  next_cause (Err (faults.Changed place)) fetched cause = record { rose = λ is. absurd (let wrong = is in cc); stayed = λ other. cause.stayed (λ is. cc) }

  -- what was read under its name lies between the bounds that it holds
  held_there : {before : Cursor} (name : ℕ) (sitting : Sitting) → get_or sitting.cursors name None ≡ Some before → (left : List Entry) → ReadsHeld g before left old new → KeepsHeldBounds g (Some name) sitting old new
  held_there name sitting there left reads other is =
      subst (λ (n : ℕ). ReadsAsHeld g (get_or sitting.cursors n None) old new) (same_name is)
      (subst (λ (cursor : Option Cursor). ReadsAsHeld g cursor old new) (sym there) (record { read = reads.read; left = left; added = reads.vectors.added; is = reads.vectors.is; vectors = reads.vectors.vectors; between = reads.between }))

module _ {D : Type 0} (g : Ghosts D) {known known' : Known} {old new : D} {before after : Cursor} where
  -- and so for its next pair
  pub next_held : (name : ℕ) (sitting : Sitting) → get_or sitting.cursors name None ≡ Some before → (result : Result (Option Pair) StoreSearchFault) (fetched : ℕ) → Advanced g before after known known' old new result
      → UnlessBroken (next_answer result fetched) (KeepsHeldBounds g (Some name) sitting old new)
  next_held name sitting there (Ok None) fetched did = held_there g name sitting there did.held.known did.held.reads
  next_held name sitting there (Ok (Some pair)) fetched did = held_there g name sitting there did.held.known did.held.reads
  next_held name sitting there (Err faults.Memory) fetched did = absurd did.failed
  next_held name sitting there (Err faults.Disk) fetched did = held_there g name sitting there after.held did.failed.1
  next_held name sitting there (Err (faults.Mismatch place dist low high)) fetched did = tt
  next_held name sitting there (Err (faults.Changed place)) fetched did = tt

  -- the store fits the disk as before
  pub next_fits : (cursors : List (Option Cursor)) (result : Result (Option Pair) StoreSearchFault) (fetched : ℕ) → Advanced g before after known known' old new result → known.broken ≡ false
      → OnOk (next_answer result fetched) (FitsSession g (with_store cursors known') new)
  next_fits cursors (Ok None) fetched did whole = (did.fits, ap (λ (k : Known). k.broken) did.same ∙ whole, did.unchanged)
  next_fits cursors (Ok (Some pair)) fetched did whole = (did.fits, ap (λ (k : Known). k.broken) did.same ∙ whole, did.unchanged)
  next_fits cursors (Err faults.Memory) fetched did whole = absurd did.failed
  next_fits cursors (Err faults.Disk) fetched did whole = tt
  next_fits cursors (Err (faults.Mismatch place dist low high)) fetched did whole = tt
  next_fits cursors (Err (faults.Changed place)) fetched did whole = tt

-- A cursor is taken out and put back.
module _ (cursors : List (Option Cursor)) (name : ℕ) {before after : Cursor} (there : get_or cursors name None ≡ Some before) (same : IsSameCursor before after) where
  pub next_counts : (numbers : List ℕ) (held : List (Option Cursor)) → held ≡ set (set cursors name None) name (Some after) → AreCounts cursors numbers → AreCounts held numbers
  next_counts numbers held is counts =
      subst (λ (l : List (Option Cursor)). AreCounts l numbers) (sym (is ∙ set_twice cursors name None (Some after))) (same_counts cursors name before after numbers counts there same.places)

  pub next_shapes : (shape : Shape) (held : List (Option Cursor)) → held ≡ set (set cursors name None) name (Some after) → HaveShape shape cursors → HaveShape shape held
  next_shapes shape held is shapes =
      subst (λ (l : List (Option Cursor)). HaveShape shape l) (sym (is ∙ set_twice cursors name None (Some after)))
      (shapes_set shape cursors name (Some after) shapes (over_same (shape_found shape cursors name before shapes there) same))
