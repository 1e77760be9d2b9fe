use Rattle.std.proofs.Common.{sym, subst, List, Option, ℕ, ap, ◌∙◌, length}
use Rattle.std.proofs.lemmas.List.{length-replicate}
use Rattle.va_cursor.specs.Cursors.{Cursor}
use Rattle.va_serve.specs.Held.{AreCounts, HaveShape, none_open}
use Rattle.va_serve.proofs.Holding.{fresh_counts, fresh_names, fresh_shapes}
use Rattle.va_serve.proofs.workspace.Rooms.over.Goals as goal

pub invariant_of-result : goal.invariant_of-result
invariant_of-result c = record {
  names = ap (λ (l : List (Option Cursor)). length l) c.requires.cursors ∙ fresh_names;
  shapes = subst (λ (l : List (Option Cursor)). HaveShape c.args.store.shape l) (sym c.requires.cursors) (fresh_shapes c.args.store.shape);
  numbered = ap (λ (l : List ℕ). length l) c.requires.held ∙ length-replicate {A = ℕ} c.args.store.shape.capacity 0;
  counts = subst (λ (l : List (Option Cursor)). AreCounts l c.args.self.held.items) (sym c.requires.cursors) (subst (λ (n : List ℕ). AreCounts none_open n) (sym c.requires.held) (fresh_counts c.args.store.shape.capacity));
  room = ap (λ (l : List ℕ). length l) c.requires.vector ∙ length-replicate {A = ℕ} 256 0;
}
