use Rattle.std.proofs.Common.{◌≡◌, ◌+◌, ◌<◌, ◌++◌, ◌∷◌, List, ℕ, length, drop, get_or, ap, sym, ◌∙◌, refl, subst, arith, append_assoc, add-one, drop-cons}
use Rattle.std.specs.List.{flat_map}
use Rattle.std.proofs.lemmas.Result.{err_from_is_err_and}
use Rattle.va_disk.proofs.Giving.{gives_part_first}
use Rattle.va_lang.specs.Gathering.{Gathers}
use Rattle.va_lang.proofs.Gathering.{gathers_after, gathers_more, gathers_part, gives_longer, gives_waiting}
use Rattle.va_lang.proofs.sending.gather_each.Goals as goal

-- the next piece waits behind the line, and the rest behind it
next_piece : {P : Type 0} (text : P → List ℕ) (line : List ℕ) (pieces : List P) (i : ℕ) (d : P) → i < length pieces →
    line ++ flat_map text (drop i pieces) ≡ (line ++ text (get_or pieces i d)) ++ flat_map text (drop (i + 1) pieces)
next_piece {P} text line pieces i d h =
    let e : drop i pieces ≡ get_or pieces i d ∷ drop (i + 1) pieces = rw (add-one, drop-cons pieces i d) refl in
    ap (λ (l : List P). line ++ flat_map text l) e
    ∙ sym (append_assoc line (text (get_or pieces i d)) (flat_map text (drop (i + 1) pieces)))

pub loop-piece-preserved : goal.loop-piece-preserved
loop-piece-preserved g c =
    let D = g.D.Storage in
    let so_far = c.loop-piece.invariant in
    let now = c.in_ok-make_room.ensures in
    let pieces = c.args.pieces.now in
    let i = c.loop-piece.piece-index in
    let rest = flat_map g.P.Piece.text (drop i pieces) in
    let text = c.args.line.now ++ flat_map g.P.Piece.text pieces in
    let P : List ℕ → Type 0 = λ waiting. Gathers D.told (D.given c.args.desk.now) text waiting (D.given c.make_room.new.desk) in
    let within : i < length pieces = omega arith in
    let waits : c.make_room.new.line ++ rest ≡ c.push_to.new.line ++ flat_map g.P.Piece.text (drop (i + 1) pieces) =
    next_piece g.P.Piece.text c.make_room.new.line pieces i c.piece-item.result within
    ∙ ap (λ (x : g.row.P.Denot). (c.make_room.new.line ++ g.P.Piece.text x) ++ flat_map g.P.Piece.text (drop (i + 1) pieces)) (sym c.piece-item.is)
    ∙ ap (λ (l : List ℕ). l ++ flat_map g.P.Piece.text (drop (i + 1) pieces)) (sym c.push_to.ensures.text) in
    record {
      given = subst P waits (gathers_after so_far.given (gathers_more now.given rest));
      room = omega (arith, now.room, c.push_to.ensures.short);
      frame = gives_waiting so_far.frame so_far.given (gives_longer rest now.frame);
      stayed = now.cause.stayed ∙ so_far.stayed;
    }

pub returns-in_err-make_room-clause-part : goal.returns-in_err-make_room-clause-part
returns-in_err-make_room-clause-part g c =
    let p = err_from_is_err_and c.from_residual.result c.from_residual.ensures.1 in
    let rest = flat_map g.P.Piece.text (drop c.loop-piece.piece-index c.args.pieces.now) in
    let D = g.D.Storage in
    rw p.1 (gathers_part c.loop-piece.invariant.given
    (gives_part_first D.told _ (D.given c.loop-piece.desk) _ c.loop-piece.line rest c.in_err-make_room.ensures.part))

pub returns-in_err-make_room-clause-frame : goal.returns-in_err-make_room-clause-frame
returns-in_err-make_room-clause-frame g c =
    let so_far = c.loop-piece.invariant in
    let rest = flat_map g.P.Piece.text (drop c.loop-piece.piece-index c.args.pieces.now) in
    gives_waiting so_far.frame so_far.given (gives_longer rest c.in_err-make_room.ensures.frame)
