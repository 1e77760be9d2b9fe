-- A reply that was given is told from the other that its line might have.
use Rattle.std.proofs.Common.{◌≡◌, ℕ, ◌&&◌, ◌==◌, Bool, true, false, List, [], ◌∷◌, ◌++◌, length, suc, map, get_or, take, drop, codes, refl, ap, sym, ◌∙◌, subst}
use Rattle.std.proofs.lemmas.List.{append_cancel_left, length-map}
use Rattle.std.proofs.Math.Seq.{take-append_seam}
use Rattle.va_disk.specs.declared.storage.Storage.{Ghosts}
use Rattle.va_lang.specs.Reply.{Reply, created, placed, deleted, vector, stat, marks, near, scanned, within, opened, next_pair, at_end, closed, begun, more_left, switched, cert, work, error, reply_line, reply_text}
use Rattle.va_lang.specs.declared.reply.Why.{Why}
use Rattle.va_lang.specs.declared.reply.Why.TheVariants.{Long, Syntax, NoStore, Exists, Shape, Length, Duplicate, Full, Unknown, K, Busy, Idle, Cursor, Limit, Memory}
use Rattle.va_model.specs.Lines.{Line, Parts, parts}
use Rattle.va_model.specs.Memory.{is_memory, wants_memory}
use Rattle.va_model.specs.Runs.{AreReplies, GaveReply, reply_lines}
use Rattle.va_model.specs.State.{State}
use Rattle.va_model.specs.Step.{step}
use Rattle.va_model.proofs.Cuts.{cut_in_one_way}
use Rattle.va_model.proofs.Lending.{replies_lend}
use Rattle.va_core.specs.Texts.{IsOneLine}

abbrev begins_with : List ℕ → List ℕ → Bool
begins_with [] text = true
begins_with (c ∷ word) [] = false
begins_with (c ∷ word) (b ∷ text) = (c == b) && begins_with word text

abbrev tells_memory : List ℕ → Bool
tells_memory text = begins_with (codes "error memory") text

why_tells : (why : Why) → tells_memory (reply_line (error why)) ≡ is_memory why
why_tells Long = refl
why_tells Syntax = refl
why_tells NoStore = refl
why_tells Exists = refl
why_tells Shape = refl
why_tells Length = refl
why_tells Duplicate = refl
why_tells Full = refl
why_tells Unknown = refl
why_tells K = refl
why_tells Busy = refl
why_tells Idle = refl
why_tells Cursor = refl
why_tells Limit = refl
why_tells Memory = refl

-- whether memory was refused is told by the text
text_tells : (reply : Reply) → tells_memory (reply_line reply) ≡ wants_memory reply
text_tells created = refl
text_tells (placed place) = refl
text_tells (deleted place) = refl
text_tells (vector coordinates) = refl
text_tells (stat shape live cursors building) = refl
text_tells (marks rows) = refl
text_tells (near pairs fetched candidates live) = refl
text_tells (scanned pairs fetched live) = refl
text_tells (within pairs fetched live) = refl
text_tells (opened live) = refl
text_tells (next_pair pair fetched) = refl
text_tells at_end = refl
text_tells closed = refl
text_tells (begun live) = refl
text_tells (more_left done left) = refl
text_tells (switched done) = refl
text_tells (cert text) = refl
text_tells (work n fetched candidates sum) = refl
text_tells (error why) = why_tells why

-- two replies to one line with the same text are one
pub one_reply : (start : State) (line : Line) (reply other : Reply) → reply ≡ (step start line (wants_memory reply)).reply → other ≡ (step start line (wants_memory other)).reply → reply_line reply ≡ reply_line other
    → reply ≡ other
one_reply start line reply other fits other_fits same =
    let wants : wants_memory reply ≡ wants_memory other = sym (text_tells reply) ∙ ap tells_memory same ∙ text_tells other in
    fits ∙ ap (λ (m : Bool). (step start line m).reply) wants ∙ sym other_fits

module _ {D : Type 0} {g : Ghosts D} where
  -- of one line there was one reply
  pub one_gave : {start : State} {line : Line} {reply other : Reply} {old new : D} → GaveReply g start line reply old new → GaveReply g start line other old new → reply ≡ other
  one_gave {start} {line} {reply} {other} {old} gave other_gave = one_reply start line reply other gave.fits other_gave.fits
      (append_cancel_left (g.given old) (reply_line reply) (reply_line other) (sym gave.given ∙ other_gave.given))

first_same : (text other : List ℕ) (texts others : List (List ℕ)) → text ∷ texts ≡ other ∷ others → text ≡ other
first_same text other texts others same = ap (λ (l : List (List ℕ)). get_or l 0 []) same

rest_same : (text other : List ℕ) (texts others : List (List ℕ)) → text ∷ texts ≡ other ∷ others → texts ≡ others
rest_same text other texts others same = ap (λ (l : List (List ℕ)). drop 1 l) same

one_list : (start : State) (lines : List Line) (replies others : List Reply) → AreReplies start lines replies → AreReplies start lines others → map reply_text replies ≡ map reply_text others → replies ≡ others
one_list start [] [] [] fits other_fits same = refl
one_list start [] [] (other ∷ others) fits other_fits same = absurd other_fits
one_list start [] (reply ∷ replies) others fits other_fits same = absurd fits
one_list start (line ∷ lines) [] others fits other_fits same = absurd fits
one_list start (line ∷ lines) (reply ∷ replies) [] fits other_fits same = absurd other_fits
one_list start (line ∷ lines) (reply ∷ replies) (other ∷ others) fits other_fits same =
    let first : reply ≡ other = one_reply start line reply other fits.0 other_fits.0
    (ap (λ (text : List ℕ). text ++ 10 ∷ []) (first_same (reply_text reply) (reply_text other) (map reply_text replies) (map reply_text others) same)) in
    let later : AreReplies (step start line (wants_memory reply)).state lines others = subst (λ (r : Reply). AreReplies (step start line (wants_memory r)).state lines others) (sym first) other_fits.1 in
    let rest : replies ≡ others = one_list (step start line (wants_memory reply)).state lines replies others fits.1 later
    (rest_same (reply_text reply) (reply_text other) (map reply_text replies) (map reply_text others) same) in
    ap (λ (r : Reply). r ∷ replies) first ∙ ap (λ (rs : List Reply). other ∷ rs) rest

-- the same bytes are cut into the same replies
one_cut : (start other_start : State) (lines other_lines : List Line) (replies others : List Reply) (part other_part : List ℕ) → AreReplies start lines replies → AreReplies other_start other_lines others → IsOneLine part → IsOneLine other_part
    → reply_lines replies ++ part ≡ reply_lines others ++ other_part → map reply_text replies ≡ map reply_text others
one_cut start other_start lines other_lines replies others part other_part fits other_fits none other_none same = ap (λ (p : Parts). p.ended)
    (sym (cut_in_one_way replies part (replies_lend start lines replies fits) none) ∙ ap parts same ∙ cut_in_one_way others other_part (replies_lend other_start other_lines others other_fits) other_none)

-- the bytes that were given tell the replies
pub told_in_one_way : (start : State) (lines : List Line) (replies others : List Reply) (part other_part : List ℕ) → AreReplies start lines replies → AreReplies start lines others → IsOneLine part → IsOneLine other_part
    → reply_lines replies ++ part ≡ reply_lines others ++ other_part → replies ≡ others
told_in_one_way start lines replies others part other_part fits other_fits none other_none same = one_list start lines replies others fits other_fits
    (one_cut start start lines lines replies others part other_part fits other_fits none other_none same)

-- The same of lines of which one failed: the bytes that were given tell before which one.

fit_lengths : (start : State) (lines : List Line) (replies : List Reply) → AreReplies start lines replies → length lines ≡ length replies
fit_lengths start [] [] fits = refl
fit_lengths start [] (reply ∷ replies) fits = absurd fits
fit_lengths start (line ∷ lines) [] fits = absurd fits
fit_lengths start (line ∷ lines) (reply ∷ replies) fits = ap (λ (n : ℕ). suc n) (fit_lengths (step start line (wants_memory reply)).state lines replies fits.1)

front_of : (all before later : List Line) → all ≡ before ++ later → before ≡ take (length before) all
front_of all before later are = sym (ap (λ (l : List Line). take (length before) l) are ∙ take-append_seam before later)

module _ (start : State) (all before later other_before other_later : List Line) (replies others : List Reply) (part other_part : List ℕ) where
  pub stopped_in_one_way : all ≡ before ++ later → all ≡ other_before ++ other_later → AreReplies start before replies → AreReplies start other_before others → IsOneLine part → IsOneLine other_part
      → reply_lines replies ++ part ≡ reply_lines others ++ other_part → (before ≡ other_before) × (replies ≡ others)
  stopped_in_one_way are other_are fits other_fits none other_none same =
      let texts : map reply_text replies ≡ map reply_text others = one_cut start start before other_before replies others part other_part fits other_fits none other_none same in
      let counts : length replies ≡ length others = sym (length-map replies reply_text) ∙ ap (λ (l : List (List ℕ)). length l) texts ∙ length-map others reply_text in
      let long : length before ≡ length other_before = fit_lengths start before replies fits ∙ counts ∙ sym (fit_lengths start other_before others other_fits) in
      let fronts : before ≡ other_before = front_of all before later are ∙ ap (λ (n : ℕ). take n all) long ∙ sym (front_of all other_before other_later other_are) in
      (fronts, one_list start other_before replies others (subst (λ (lines : List Line). AreReplies start lines replies) fronts fits) other_fits texts)
