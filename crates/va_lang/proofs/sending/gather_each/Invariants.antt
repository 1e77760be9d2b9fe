use Rattle.std.proofs.Common.{◌≡◌, ◌≤◌, ◌++◌, length, drop}
use Rattle.std.specs.List.{flat_map}
use Rattle.va_disk.specs.Frames.{OnlyGives}
use Rattle.va_lang.specs.Gathering.{Gathers}
use Rattle.va_lang.proofs.sending.gather_each.Given as goal

abbrev pub invariant-loop-piece : goal.invariant-loop-piece
invariant-loop-piece g l =
    let D = g.D.Storage in
    let text = l.fn.line ++ flat_map g.P.Piece.text l.pieces in
    record {
      given : Gathers D.told (D.given l.fn.desk) text (l.line ++ flat_map g.P.Piece.text (drop l.piece-index l.pieces)) (D.given l.desk);
      room : length l.line ≤ 3942;
      frame : OnlyGives D text l.fn.desk l.desk;
      stayed : D.sink_faults l.desk ≡ D.sink_faults l.fn.desk;
    }
