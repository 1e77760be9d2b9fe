use Rattle.std.proofs.Common.{◌≡◌, ◌∙◌, List, None, Option, Some, ap, get_or, is_some, subst, sym}
use Rattle.va_cursor.specs.Cursors.{Cursor}
use Rattle.va_serve.specs.Answers.{closed_reply}
use Rattle.va_serve.specs.Held.{AreCounts}
use Rattle.va_serve.proofs.Numbers.{gone_counts, held_enough}
use Rattle.va_serve.proofs.Ranks.{set_same}
use Rattle.va_serve.proofs.ranking.close.Goals as goal

pub release-requires : goal.release-requires
release-requires c =
    let there : get_or c.args.cursors.now c.args.name None ≡ Some c.in-Some.cursor = sym c.take_cursor.ensures.cursor ∙ c.in-Some.is in
    record { some = held_enough c.args.cursors.now c.args.name c.in-Some.cursor c.args.held.now _ c.places.ensures.places c.requires.counts there }

pub returns-in-Some-clause-closes : goal.returns-in-Some-clause-closes
returns-in-Some-clause-closes c = λ lent.
    let there : get_or c.args.cursors.now c.args.name None ≡ Some c.in-Some.cursor = sym c.take_cursor.ensures.cursor ∙ c.in-Some.is in
    record { reply = sym (ap (λ (o : Option Cursor). closed_reply (is_some o)) there); gone = c.take_cursor.ensures.rest }

pub returns-in-Some-clause-counts : goal.returns-in-Some-clause-counts
returns-in-Some-clause-counts c =
    let there : get_or c.args.cursors.now c.args.name None ≡ Some c.in-Some.cursor = sym c.take_cursor.ensures.cursor ∙ c.in-Some.is in
    subst (λ (l : List (Option Cursor)). AreCounts l c.release.new.held) (sym c.take_cursor.ensures.rest)
    (gone_counts c.args.cursors.now c.args.name c.in-Some.cursor c.args.held.now c.release.new.held c.requires.counts there c.release.ensures.length
    (λ place inside. rw (sym c.places.ensures.places) (c.release.ensures.fewer place inside)))

pub returns-in-None-clause-closes : goal.returns-in-None-clause-closes
returns-in-None-clause-closes c = λ lent.
    let none : get_or c.args.cursors.now c.args.name None ≡ None = sym c.take_cursor.ensures.cursor ∙ c.in-None.is in
    record { reply = sym (ap (λ (o : Option Cursor). closed_reply (is_some o)) none); gone = c.take_cursor.ensures.rest }

pub returns-in-None-clause-counts : goal.returns-in-None-clause-counts
returns-in-None-clause-counts c =
    let same = c.take_cursor.ensures.rest ∙ set_same c.args.cursors.now c.args.name None (sym c.take_cursor.ensures.cursor ∙ c.in-None.is) in
    subst (λ (l : List (Option Cursor)). AreCounts l c.args.held.now) (sym same) c.requires.counts
