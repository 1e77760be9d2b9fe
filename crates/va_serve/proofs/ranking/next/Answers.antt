use Rattle.std.proofs.Common.{◌≡◌, ◌∙◌, List, None, Option, Some, ap, get_or, length, set, subst, sym, ℕ}
use Rattle.std.proofs.lemmas.List.{length-set}
use Rattle.va_core.specs.Shape.{Shape}
use Rattle.va_cursor.specs.Cursors.{Cursor}
use Rattle.va_serve.specs.Answers.{next_answer}
use Rattle.va_serve.specs.Held.{AreCounts, HaveShape}
use Rattle.va_serve.specs.Session.{with_store}
use Rattle.va_serve.proofs.Advancing.{next_cause, next_counts, next_fits, next_held, next_shapes}
use Rattle.va_serve.proofs.Bounds.{held_nothing}
use Rattle.va_serve.proofs.Numbers.{shape_found}
use Rattle.va_serve.proofs.Ranks.{next_none, next_obeys, set_same, set_twice}
use Rattle.va_store.specs.Known.{Known}
use Rattle.va_serve.proofs.ranking.next.Goals as goal

pub returns-in-Some-clause-obeys : goal.returns-in-Some-clause-obeys
returns-in-Some-clause-obeys g c = λ lent.
    let cursors = c.args.cursors.now in
    let there : get_or cursors c.args.name None ≡ Some c.in-Some.cursor = sym c.take_cursor.ensures.cursor ∙ c.in-Some.is in
    let did = c.next_pair-next.ensures in
    let shapes = (shape_found c.args.store.now.shape cursors c.args.name c.in-Some.cursor c.requires.shapes there).shape_is in
    rw (
      c.next_answer.ensures ∙ ap (λ (n : ℕ). next_answer c.next_pair-next.result n) c.read_last-fetched.ensures,
      c.put_cursor.ensures ∙ ap (λ (l : List (Option Cursor)). set l c.args.name (Some c.next_pair-next.new.cursor)) c.take_cursor.ensures.rest ∙ set_twice cursors c.args.name None (Some c.next_pair-next.new.cursor),
    )
    (next_obeys cursors c.args.store.now c.args.name there shapes c.next_pair-next.new.cursor did.frame did.same lent c.next_pair-next.result did)

pub returns-in-Some-clause-held : goal.returns-in-Some-clause-held
returns-in-Some-clause-held g c =
    let there : get_or c.args.cursors.now c.args.name None ≡ Some c.in-Some.cursor = sym c.take_cursor.ensures.cursor ∙ c.in-Some.is in
    rw c.next_answer.ensures (next_held g.D.Storage c.args.name (with_store c.args.cursors.now c.args.store.now) there c.next_pair-next.result c.read_last-fetched.result c.next_pair-next.ensures)

pub returns-in-Some-clause-fits : goal.returns-in-Some-clause-fits
returns-in-Some-clause-fits g c = rw c.next_answer.ensures (next_fits g.D.Storage c.put_cursor.new.cursors c.next_pair-next.result c.read_last-fetched.result c.next_pair-next.ensures c.requires.fits.1)

pub returns-in-Some-clause-cause : goal.returns-in-Some-clause-cause
returns-in-Some-clause-cause g c = rw c.next_answer.ensures (next_cause g.D.Storage c.next_pair-next.result c.read_last-fetched.result c.next_pair-next.ensures.cause)

pub returns-in-Some-clause-shapes : goal.returns-in-Some-clause-shapes
returns-in-Some-clause-shapes g c =
    let there : get_or c.args.cursors.now c.args.name None ≡ Some c.in-Some.cursor = sym c.take_cursor.ensures.cursor ∙ c.in-Some.is in
    let did = c.next_pair-next.ensures in
    subst (λ (shape : Shape). HaveShape shape c.put_cursor.new.cursors) (sym (ap (λ (k : Known). k.shape) did.same))
    (next_shapes c.args.cursors.now c.args.name there did.cursor c.args.store.now.shape c.put_cursor.new.cursors
    (c.put_cursor.ensures ∙ ap (λ (l : List (Option Cursor)). set l c.args.name (Some c.next_pair-next.new.cursor)) c.take_cursor.ensures.rest) c.requires.shapes)

pub returns-in-Some-clause-counts : goal.returns-in-Some-clause-counts
returns-in-Some-clause-counts g c = λ numbers counts.
    let there : get_or c.args.cursors.now c.args.name None ≡ Some c.in-Some.cursor = sym c.take_cursor.ensures.cursor ∙ c.in-Some.is in
    next_counts c.args.cursors.now c.args.name there c.next_pair-next.ensures.cursor numbers c.put_cursor.new.cursors
    (c.put_cursor.ensures ∙ ap (λ (l : List (Option Cursor)). set l c.args.name (Some c.next_pair-next.new.cursor)) c.take_cursor.ensures.rest) counts

pub returns-in-None-clause-obeys : goal.returns-in-None-clause-obeys
returns-in-None-clause-obeys g c = λ lent. rw c.take_cursor.ensures.rest (next_none g.D.Storage c.args.cursors.now c.args.store.now c.args.name c.args.disk.now (sym c.take_cursor.ensures.cursor ∙ c.in-None.is))

pub returns-in-None-clause-held : goal.returns-in-None-clause-held
returns-in-None-clause-held g c = held_nothing g.D.Storage (Some c.args.name) (with_store c.args.cursors.now c.args.store.now) c.args.disk.now

pub returns-in-None-clause-shapes : goal.returns-in-None-clause-shapes
returns-in-None-clause-shapes g c =
    let same = c.take_cursor.ensures.rest ∙ set_same c.args.cursors.now c.args.name None (sym c.take_cursor.ensures.cursor ∙ c.in-None.is) in
    subst (λ (l : List (Option Cursor)). HaveShape c.args.store.now.shape l) (sym same) c.requires.shapes

pub returns-in-None-clause-counts : goal.returns-in-None-clause-counts
returns-in-None-clause-counts g c = λ numbers counts.
    let same = c.take_cursor.ensures.rest ∙ set_same c.args.cursors.now c.args.name None (sym c.take_cursor.ensures.cursor ∙ c.in-None.is) in
    subst (λ (l : List (Option Cursor)). AreCounts l numbers) (sym same) counts

pub returns-in-None-clause-names : goal.returns-in-None-clause-names
returns-in-None-clause-names g c = ap (λ (l : List (Option Cursor)). length l) c.take_cursor.ensures.rest ∙ length-set c.args.cursors.now c.args.name None

pub returns-in-Some-clause-names : goal.returns-in-Some-clause-names
returns-in-Some-clause-names g c =
    ap (λ (l : List (Option Cursor)). length l) (c.put_cursor.ensures ∙ ap (λ (l : List (Option Cursor)). set l c.args.name (Some c.next_pair-next.new.cursor)) c.take_cursor.ensures.rest)
    ∙ length-set (set c.args.cursors.now c.args.name None) c.args.name (Some c.next_pair-next.new.cursor) ∙ length-set c.args.cursors.now c.args.name None
