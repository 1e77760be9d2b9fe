-- What the code's command owes, by what was done for the command that it stands for.
use Rattle.std.proofs.Common.{◌≡◌, ℕ, ◌≤◌, nat_le, Bool, true, false, List, [], ◌++◌, length, take, Option, Some, Result, refl, ap, sym, ◌∙◌, subst, arith}
use Rattle.std.proofs.lemmas.Bool.Decides.{nat_tests}
use denote.Ref.{Bor}
use Rattle.std.proofs.Math.Seq.{take-append_seam}
use Rattle.va_cursor.specs.Cursors.{Cursor}
use Rattle.va_disk.specs.declared.storage.Storage.{Ghosts}
use Rattle.va_disk.proofs.Frames.{reads_nothing}
use Rattle.va_lang.specs.Command.{Command, marks, stat}
use Rattle.va_lang.specs.Grammar.{command_of}
use Rattle.va_lang.specs.Reply as replies
use Rattle.va_lang.specs.Reply.{Reply}
use Rattle.va_core.specs.Places.{live_items}
use Rattle.va_layout.specs.Stands.{progress_of}
use Rattle.va_model.specs.Memory.{wants_memory}
use Rattle.va_model.specs.State.{State, Store, StandsFor, blank, holding, open_cursors}
use Rattle.va_model.specs.Lines.{Line, line_of, text}
use Rattle.va_model.specs.Rows.{Outcome}
use Rattle.va_model.specs.Step.{cursor_asked_by, query_of, reads_of, scans_asked, step_command, writes_asked}
use Rattle.va_model.specs.VectorReads.{AreReads}
use Rattle.va_model.proofs.Reading.{adds_nothing, no_reads_of}
use Rattle.va_serve.specs.Answers.{stat_reply}
use Rattle.va_serve.specs.Promises.{Asked, Carries, Obeys, Reached, asked_by, asked_in, of_command}
use Rattle.va_serve.specs.Session.{Is, IsAt, IsStoreOf, Lent, Sitting, line_handed, with_store}
use Rattle.va_serve.specs.declared.answer.Answer.{Answer}
use Rattle.va_serve.specs.declared.answer.CommandFault.{CommandFault}
use Rattle.va_serve.proofs.Places.{count_live}
use Rattle.va_serve.proofs.Holding.{count_cursors}
use Rattle.va_serve.proofs.Outcomes.{effect_outcome, reached_by, survives_reading}
use Rattle.va_store.specs.Known.{Known}

pub front_is_room : {A : Type 0} (n : ℕ) (room rest : List A) → length room ≡ n → take n (room ++ rest) ≡ room
front_is_room n room rest same = ap (λ (m : ℕ). take m (room ++ rest)) (sym same) ∙ take-append_seam room rest

-- the same command in other words
pub obeys_as : {D : Type 0} (g : Ghosts D) (asked command : Command) (lent : Lent) (sitting sitting' : Sitting) (old new : D) (result : Result Answer CommandFault) → asked ≡ command
    → Obeys g (asked_by command) lent sitting sitting' old new result → Obeys g (asked_by asked) lent sitting sitting' old new result
obeys_as g asked command lent sitting sitting' old new result is obeys = rw is obeys

-- a command that tells something of the store
tells_carries : {D : Type 0} (g : Ghosts D) (command : Command) (row : Store → Reply) → ((store : Store) → of_command command (holding store) false ≡ record { state = holding store; reply = row store; places = [] })
    → (cursors : List (Option Cursor)) (held : Known) (disk : D) {reply : Reply} → wants_memory reply ≡ false → ((store : Store) → IsStoreOf store held cursors → reply ≡ row store)
    → Carries g (of_command command) (with_store cursors held) (with_store cursors held) disk disk reply
tells_carries {D} g command row does cursors held disk {reply} plain says = record {
  reached = λ told start at. of_start start at;
  moments = survives_reading {g = g} (of_command command) (with_store cursors held) reads_nothing;
  settles = λ keeps told start at secure image left. (settled start at.is image (secure image left).0, (secure image left).1);
}
  where
    outcome : (store : Store) → of_command command (holding store) (wants_memory reply) ≡ record { state = holding store; reply = row store; places = [] }
    outcome store = ap (λ (m : Bool). of_command command (holding store) m) plain ∙ does store

    of_start : (start : State) → IsAt start (with_store cursors held) (g.image disk) → Reached g (of_command command start) start (with_store cursors held) disk disk reply
    of_start blank at = absurd at.is
    of_start (holding store) at =
        reached_by command (record { state = holding store; reply = row store; places = [] }) (outcome store) (says store at.is) at (λ same_state. refl)
        (adds_nothing (holding store) (λ vectors. AreReads (wants_memory reply) vectors (reads_of (holding store) [])) (g.reads disk) (g.reads disk) refl (no_reads_of (wants_memory reply) (holding store)))

    settled : (start : State) → Is start (with_store cursors held) → (image : List ℕ) → StandsFor start image → StandsFor (of_command command start (wants_memory reply)).state image
    settled blank is image stands = absurd is
    settled (holding store) is image stands = subst (λ (o : Outcome). StandsFor o.state image) (sym (outcome store)) stands

-- the answer what is there
pub stat_carries : {D : Type 0} (g : Ghosts D) (asked : Command) → asked ≡ stat → (cursors : List (Option Cursor)) (held : Known) (disk : D) (reply : Reply) → reply ≡ stat_reply held cursors → Carries g (of_command asked) (with_store cursors held) (with_store cursors held) disk disk reply
stat_carries g asked same cursors held disk reply is = rw (same, is)
    (tells_carries g stat (λ store. replies.stat store.kept.shape (length (live_items store.kept.places)) (length (open_cursors store.cursors)) (progress_of store.building)) (λ store. effect_outcome stat (holding store) refl) cursors held disk refl
    (λ store is. rw (is.kept.shape, is.kept.ids, count_live store.kept.places, count_cursors store.cursors cursors is.cursors, is.building) refl))

-- the answer what the marks are
pub marks_carries : {D : Type 0} (g : Ghosts D) (asked : Command) → asked ≡ marks → (cursors : List (Option Cursor)) (held : Known) (disk : D) (reply : Reply) → reply ≡ replies.marks held.marks → Carries g (of_command asked) (with_store cursors held) (with_store cursors held) disk disk reply
marks_carries g asked same cursors held disk reply is = rw (same, is)
    (tells_carries g marks (λ store. replies.marks store.kept.marks) (λ store. effect_outcome marks (holding store) refl) cursors held disk refl
    (λ store is. ap (λ (rows : List (List ℕ)). replies.marks rows) is.kept.marks))

-- what a line owes that a command is read from
pub line_asks : (F : Asked → Type 0) (line : Option (Bor (List ℕ))) (bytes : Bor (List ℕ)) (command : Command) → line ≡ Some bytes → length bytes.now ≤ 65535 → command_of bytes.now ≡ Some command
    → F (asked_by command) → F (asked_in (line_handed line))
line_asks F line bytes command is short parsed has =
    let fits : line_of bytes.now ≡ text bytes.now = rw (short_enough (length bytes.now) short) refl in
    let line_is : line_handed line ≡ text bytes.now = ap (λ (l : Option (Bor (List ℕ))). line_handed l) is ∙ fits in
    subst (λ (l : Line). F (asked_in l)) (sym line_is)
    (subst (λ (q : Option Command). F (record { outcome = λ state m. step_command q state m; query = query_of q; cursor = cursor_asked_by q; scans = scans_asked q; writes = writes_asked q })) (sym parsed) has)
  where
    short_enough : (n : ℕ) → n ≤ 65535 → nat_le n 65535 ≡ true
    short_enough n le = grind (arith, nat_tests, le)
