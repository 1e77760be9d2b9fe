use Rattle.std.proofs.Common.{◌≡◌, ◌+◌, ◌<◌, ◌++◌, ◌∷◌, [], List, ℕ, length, drop, get_or, refl, ap, sym, ◌∙◌, subst, arith, append_assoc, add-one, drop-cons}
use Rattle.std.specs.List.{flat_map}
use Rattle.std.proofs.lemmas.Result.{err_from_is_err_and}
use Rattle.va_disk.proofs.Giving.{gives_part_first}
use Rattle.va_lang.specs.Gathering.{Gathers}
use Rattle.va_lang.specs.Reply.{row_text}
use Rattle.va_lang.proofs.Gathering.{gathers_after, gathers_more, gathers_part, gives_longer, gives_waiting}
use Rattle.va_lang.proofs.sending.gather_rows.Goals as goal

-- the marks of the dimensions from one on
abbrev rest : List (List ℕ) → ℕ → List ℕ
rest rows i = flat_map row_text (drop i rows)

-- once there is room, the marks of the next dimension wait behind the line, and those of the others behind these
next_waits : {told : Type 0} {old text line given roomy now : List ℕ} (rows : List (List ℕ)) (i : ℕ) (row : List ℕ) → i < length rows → row ≡ get_or rows i [] →
    Gathers told old text (line ++ rest rows i) given → Gathers told given line roomy now → Gathers told old text ((roomy ++ row_text row) ++ rest rows (i + 1)) now
next_waits {told} {old} {text} {line} {given} {roomy} {now} rows i row h is so_far room =
    let e : drop i rows ≡ row ∷ drop (i + 1) rows = rw (is, add-one, drop-cons rows i []) refl in
    let waits : roomy ++ rest rows i ≡ (roomy ++ row_text row) ++ rest rows (i + 1) =
    ap (λ (l : List (List ℕ)). roomy ++ flat_map row_text l) e ∙ sym (append_assoc roomy (row_text row) (rest rows (i + 1))) in
    let P : List ℕ → Type 0 = λ waiting. Gathers told old text waiting now in
    subst P waits (gathers_after so_far (gathers_more room (rest rows i)))

pub loop-dim-preserved : goal.loop-dim-preserved
loop-dim-preserved g c =
    let so_far = c.loop-dim.invariant in
    let room = c.in_ok-make_room.ensures in
    let now = c.in_ok-gather_row.ensures in
    let rows = c.args.marks.now in
    let i = c.loop-dim.dim in
    let waits = next_waits rows i c.row.result.now (omega arith) c.row.ensures so_far.given room.given in
    let frame = gives_waiting so_far.frame so_far.given (gives_longer (rest rows i) room.frame) in
    record {
      given = gathers_after waits (gathers_more now.given (rest rows (i + 1)));
      room = now.room;
      frame = gives_waiting frame waits (gives_longer (rest rows (i + 1)) now.frame);
      stayed = now.cause.stayed ∙ room.cause.stayed ∙ so_far.stayed;
    }

pub returns-in_err-make_room-clause-part : goal.returns-in_err-make_room-clause-part
returns-in_err-make_room-clause-part g c =
    let D = g.D.Storage in
    let p = err_from_is_err_and c.from_residual.result c.from_residual.ensures.1 in
    rw p.1 (gathers_part c.loop-dim.invariant.given
    (gives_part_first D.told _ (D.given c.loop-dim.desk) _ c.loop-dim.line (rest c.args.marks.now c.loop-dim.dim) c.in_err-make_room.ensures.part))

pub returns-in_err-make_room-clause-frame : goal.returns-in_err-make_room-clause-frame
returns-in_err-make_room-clause-frame g c =
    let so_far = c.loop-dim.invariant in
    gives_waiting so_far.frame so_far.given (gives_longer (rest c.args.marks.now c.loop-dim.dim) c.in_err-make_room.ensures.frame)

pub returns-in_err-gather_row-clause-part : goal.returns-in_err-gather_row-clause-part
returns-in_err-gather_row-clause-part g c =
    let D = g.D.Storage in
    let rows = c.args.marks.now in
    let i = c.loop-dim.dim in
    let row = c.row.result.now in
    let p = err_from_is_err_and c.from_residual-in_err-gather_row.result c.from_residual-in_err-gather_row.ensures.1 in
    let waits = next_waits rows i row (omega arith) c.row.ensures c.loop-dim.invariant.given c.in_ok-make_room.ensures.given in
    rw p.1 (gathers_part waits
    (gives_part_first D.told _ (D.given c.make_room.new.desk) _ (c.make_room.new.line ++ row_text row) (rest rows (i + 1)) c.in_err-gather_row.ensures.part))

pub returns-in_err-gather_row-clause-frame : goal.returns-in_err-gather_row-clause-frame
returns-in_err-gather_row-clause-frame g c =
    let so_far = c.loop-dim.invariant in
    let room = c.in_ok-make_room.ensures in
    let rows = c.args.marks.now in
    let i = c.loop-dim.dim in
    let waits = next_waits rows i c.row.result.now (omega arith) c.row.ensures so_far.given room.given in
    let frame = gives_waiting so_far.frame so_far.given (gives_longer (rest rows i) room.frame) in
    gives_waiting frame waits (gives_longer (rest rows (i + 1)) c.in_err-gather_row.ensures.frame)
