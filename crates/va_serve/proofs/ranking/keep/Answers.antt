use Rattle.std.proofs.Common.{List, Option, Some, arith, refl, subst, sym}
use Rattle.va_cursor.specs.Cursors.{Cursor}
use Rattle.va_serve.specs.Held.{AreCounts, HaveShape}
use Rattle.va_serve.proofs.Numbers.{kept_counts, once_each, room_for, shapes_set}
use Rattle.va_serve.proofs.ranking.keep.Goals as goal

pub hold-requires : goal.hold-requires
hold-requires c = record { room = room_for c.args.cursor.shape c.args.cursors.now c.args.held.now _ c.requires.shapes c.requires.names c.requires.counts c.places.ensures.ascends }

pub returns-clause-shapes : goal.returns-clause-shapes
returns-clause-shapes c =
    subst (λ (l : List (Option Cursor)). HaveShape c.args.cursor.shape l) (sym c.put_cursor.ensures)
    (shapes_set c.args.cursor.shape c.args.cursors.now c.args.name (Some c.args.cursor) c.requires.shapes
    (record { shape_is = refl; once = λ place. rw (sym c.places.ensures.places) (once_each _ c.places.ensures.ascends place) }))

pub returns-clause-counts : goal.returns-clause-counts
returns-clause-counts c =
    subst (λ (l : List (Option Cursor)). AreCounts l c.hold.new.held) (sym c.put_cursor.ensures)
    (kept_counts c.args.cursors.now c.args.name c.args.cursor c.args.held.now c.hold.new.held c.requires.counts c.requires.free (grind (arith)) c.hold.ensures.length
    (λ place inside. rw (sym c.places.ensures.places) (c.hold.ensures.more place inside)))
