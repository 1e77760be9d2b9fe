use Rattle.std.proofs.Common.{rules, ◌≡◌, ◌+◌, ◌<◌, sym, ap, subst, ◌∙◌, arith}
use Rattle.va_cells.specs.Scans.{Scan}
use Rattle.va_core.specs.Shape.{Shape}
use Rattle.va_disk.proofs.Frames.{reads_both}
use Rattle.va_layout.specs.Fields.{NamesCell}
use Rattle.va_store.proofs.Pieces.{code_given, named_more, pieces_on}
use Rattle.va_store.proofs.scanning.first_unnamed.Goals as goal

pub returns-in_err-place-clause-pieces : goal.returns-in_err-place-clause-pieces
returns-in_err-place-clause-pieces g c =
    let so_far = c.loop-place.invariant in
    pieces_on g.D.Storage c.args.pages.now.shape c.args.pages.now.region c.args.pages.now.end c.loop-place.pages c.next.new.self.end (so_far.shape ∙ sym c.requires.shape) so_far.region so_far.pieces c.next.ensures.pieces

pub returns-then-not-is_named-clause-pieces : goal.returns-then-not-is_named-clause-pieces
returns-then-not-is_named-clause-pieces g c =
    let so_far = c.loop-place.invariant in
    pieces_on g.D.Storage c.args.pages.now.shape c.args.pages.now.region c.args.pages.now.end c.loop-place.pages c.next.new.self.end (so_far.shape ∙ sym c.requires.shape) so_far.region so_far.pieces c.next.ensures.pieces

pub returns-clause-pieces : goal.returns-clause-pieces
returns-clause-pieces g c =
    let so_far = c.loop-place.invariant in
    pieces_on g.D.Storage c.args.pages.now.shape c.args.pages.now.region c.args.pages.now.end c.loop-place.pages c.next.new.self.end (so_far.shape ∙ sym c.requires.shape) so_far.region so_far.pieces c.next.ensures.pieces

pub returns-then-not-is_named-clause-unnamed : goal.returns-then-not-is_named-clause-unnamed
returns-then-not-is_named-clause-unnamed g c = λ told.
    let D = g.D.Storage in
    let so_far = c.loop-place.invariant in
    let before = c.loop-place.pages in
    let after = c.next.new.self in
    let place = c.in-Some.place in
    let given : (place ≡ before.place) × (place < before.shape.capacity) × (after ≡ record before { place = place + 1; end = after.end; codes = after.codes }) = search rules in
    let code = λ (told : D.told). code_given c.args.shape c.args.pages.now.region before place (D.image c.args.disk.now) (D.image c.loop-place.disk) c.next.new.out so_far.shape so_far.region so_far.frame.image
    (rw c.in-Some.is at (c.in_ok-place.ensures.code told (so_far.agrees told))) in
    let bad = c.is_named.ensures.unnamed (search rules) in
    record {
      inside = omega (arith, given.1, ap (λ (s : Shape). s.capacity) so_far.shape);
      lives = bad.0;
      unnamed = λ named. bad.1 (subst (NamesCell c.args.shape c.args.marks.now) (sym (code told)) named);
      named_before = λ q id less live. so_far.named told q id (omega (arith, less, given.0)) live;
    }

pub loop-place-preserved : goal.loop-place-preserved
loop-place-preserved g c =
    let D = g.D.Storage in
    let so_far = c.loop-place.invariant in
    let before = c.loop-place.pages in
    let after = c.next.new.self in
    let place = c.in-Some.place in
    let given : (place ≡ before.place) × (place < before.shape.capacity) × (after ≡ record before { place = place + 1; end = after.end; codes = after.codes }) = search rules in
    let code = λ (told : D.told). code_given c.args.shape c.args.pages.now.region before place (D.image c.args.disk.now) (D.image c.loop-place.disk) c.next.new.out so_far.shape so_far.region so_far.frame.image
    (rw c.in-Some.is at (c.in_ok-place.ensures.code told (so_far.agrees told))) in
    let good = c.is_named.ensures.named (search rules) in
    record {
      shape = ap (λ (s : Scan). s.shape) given.2 ∙ so_far.shape;
      region = ap (λ (s : Scan). s.region) given.2 ∙ so_far.region;
      agrees = λ told. c.next.ensures.agrees told (so_far.agrees told);
      named = λ told q id less live. named_more c.args.shape c.args.pages.now.region c.args.marks.now c.args.index.now (D.image c.args.disk.now) place
          (λ p x below lives. so_far.named told p x (omega (arith, below, given.0)) lives)
          (λ x lives. subst (NamesCell c.args.shape c.args.marks.now) (code told) (good x lives))
          q id (omega (arith, less, ap (λ (s : Scan). s.place) given.2)) live;
      pieces = pieces_on D c.args.pages.now.shape c.args.pages.now.region c.args.pages.now.end before after.end (so_far.shape ∙ sym c.requires.shape) so_far.region so_far.pieces c.next.ensures.pieces;
      frame = reads_both so_far.frame c.next.ensures.frame;
      quiet = c.in_ok-place.ensures.cause.stayed ∙ so_far.quiet;
    }

pub returns-clause-named : goal.returns-clause-named
returns-clause-named g c = λ none told p id inside live.
    let so_far = c.loop-place.invariant in
    let before = c.loop-place.pages in
    let end : (before.place ≡ before.shape.capacity) × (c.next.new.self ≡ before) = search rules in
    so_far.named told p id (omega (arith, inside, end.0, ap (λ (s : Shape). s.capacity) so_far.shape)) live
