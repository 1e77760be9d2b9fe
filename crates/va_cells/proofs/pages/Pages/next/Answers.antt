use Rattle.std.proofs.Common.{rules, ◌≡◌, ◌+◌, ◌<◌, refl, ap, subst, sym, ◌∙◌, ℕ}
use Rattle.va_cells.proofs.Pieces.{range_none}
use Rattle.va_cells.proofs.Scanned.{agrees_given, agrees_read, end_given, end_read, one_piece}
use Rattle.va_cells.specs.Scans.{Agrees, ReadsPieces, Scan, piece_count}
use Rattle.va_core.specs.Shape.{IsShape}
use Rattle.va_cells.proofs.pages.Pages.next.Goals as goal
use Rattle.va_cells.proofs.pages.Pages.next.Goals.{then-self+in_ok-read_piece, else-self}

pub returns-clause-agrees : goal.returns-clause-agrees
returns-clause-agrees g c = λ told agrees.
    let D = g.D.Storage in
    let held : Agrees c.if-self.self (D.image c.if-self.disk) = elim c.if-self.branch [
      | then-self+in_ok-read_piece w ↦ rw (w.self-is, w.in_ok-read_piece.ensures.ok, w.disk-is, w.in_ok-read_piece.ensures.frame.image)
          (agrees_read c.args.self.now (piece_count c.args.self.now.shape c.args.self.now.end) w.read_piece.new.self.codes (D.image c.args.disk.now) (search rules) (w.in_ok-read_piece.ensures.codes told))
      | else-self w ↦ rw (w.self-is, w.disk-is) agrees
    ] in
    let less : c.if-self.self.place < c.if-self.self.end = search rules in
    agrees_given c.if-self.self c.give_code.new.self (D.image c.if-self.disk) less held c.give_code.ensures.scan

pub returns-clause-pieces : goal.returns-clause-pieces
returns-clause-pieces g c =
    let s = c.args.self.now in
    let is : IsShape s.shape = search rules in
    let given : c.give_code.new.self.end ≡ c.if-self.self.end = end_given c.if-self.self c.give_code.new.self _ _ c.give_code.ensures.scan in
    elim c.if-self.branch [
      | then-self+in_ok-read_piece w ↦ (let read : c.if-self.self.end ≡ s.end + piece_count s.shape s.end = end_read s w.read_piece.new.self c.if-self.self _ _ w.self-is w.in_ok-read_piece.ensures.ok in
          one_piece s.shape s.region s.end c.give_code.new.self.end is (search rules) (sym read ∙ sym given) (λ told. rw w.disk-is (w.in_ok-read_piece.ensures.reads.ok told)))
      | else-self w ↦ (let kept : s.end ≡ c.give_code.new.self.end = sym (ap (λ (scan : Scan). scan.end) w.self-is) ∙ sym given in
          subst (λ (n : ℕ). ReadsPieces g.D.Storage s.shape s.region s.end n c.args.disk.now c.if-self.disk) kept (range_none (λ told. rw w.disk-is refl)))
    ]
