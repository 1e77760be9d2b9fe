use Rattle.std.proofs.Common.{◌≡◌, ◌≤◌, ◌++◌, length, drop}
use Rattle.std.specs.List.{flat_map}
use Rattle.va_disk.specs.Frames.{OnlyGives}
use Rattle.va_lang.specs.Gathering.{Gathers}
use Rattle.va_lang.specs.Reply.{row_text}
use Rattle.va_lang.proofs.sending.gather_rows.Given as goal

abbrev pub invariant-loop-dim : goal.invariant-loop-dim
invariant-loop-dim g l =
    let D = g.D.Storage in
    let text = l.fn.line ++ flat_map row_text l.marks in
    record {
      given : Gathers D.told (D.given l.fn.desk) text (l.line ++ flat_map row_text (drop l.dim l.marks)) (D.given l.desk);
      room : length l.line ≤ 3942;
      frame : OnlyGives D text l.fn.desk l.desk;
      stayed : D.sink_faults l.desk ≡ D.sink_faults l.fn.desk;
    }
