-- What comes of the command that makes a store.
use Rattle.std.proofs.Common.{◌≡◌, ◌⊎◌, ⊎_elim, inl, inr, ℕ, false, List, [], ◌∷◌, Option, None, Some, is_some, refl, sym, ap, ◌∙◌, subst}
use Rattle.va_core.specs.Shape.{Shape, shape_fault}
use Rattle.va_core.specs.declared.shape.ShapeFault.{ShapeFault}
use Rattle.va_cursor.specs.Cursors.{Cursor}
use Rattle.va_disk.specs.Crashes.{Only}
use Rattle.va_disk.specs.Frames.{OnlyWrites}
use Rattle.va_disk.specs.declared.storage.Storage.{Ghosts}
use Rattle.va_disk.proofs.Moments.{weaker}
use Rattle.va_lang.specs.Command.{create}
use Rattle.va_lang.specs.Reply as replies
use Rattle.va_lang.specs.declared.reply.Why.TheVariants.{Exists, Shape as BadShape}
use Rattle.va_layout.specs.Stands.{Stands, selected_in}
use Rattle.va_model.specs.State.{State, StandsFor, blank, holding}
use Rattle.va_model.specs.Rows.{Outcome, first_reason}
use Rattle.va_model.specs.Step.{effect, reads_of, refusal}
use Rattle.va_model.specs.Writing.{is_fault, new_store}
use Rattle.va_model.proofs.Reading.{adds_nothing, no_reads}
use Rattle.va_serve.specs.Promises.{Carries, LeavesImage, Loses, Reached, Survives, of_command}
use Rattle.va_serve.specs.Session.{Is, IsAt, Workspace, no_store, sitting_in, with_store}
use Rattle.va_serve.specs.Held.{none_open}
use Rattle.va_serve.proofs.Holding.{fresh_cursors, fresh_held}
use Rattle.va_serve.proofs.Outcomes.{MemoryIn, RefusedIn, effect_outcome, reached_by, reads_none}
use Rattle.va_store.specs.Empty.{IsBlankOrEmpty, IsMade, empty_kept}
use Rattle.va_store.specs.Known.{Known, empty}
use Rattle.va_store.proofs.Fitting.{is_of_empty}

abbrev pub shape_of : ℕ → ℕ → ℕ → Shape
shape_of dims bits capacity = record { dims = dims; bits = bits; capacity = capacity }

pub none_there : (work : Option Workspace) → is_some work ≡ false → sitting_in work ≡ no_store
none_there None is = refl
none_there (Some work) is = cc

-- there is a store already
pub create_exists : (dims bits capacity : ℕ) (cursors : List (Option Cursor)) (held : Known) → RefusedIn (create dims bits capacity) (with_store cursors held) Exists
create_exists dims bits capacity cursors held blank is = absurd is
create_exists dims bits capacity cursors held (holding store) is = refl

-- the numbers are no shape
pub create_shapeless : (dims bits capacity : ℕ) (fault : ShapeFault) → shape_fault (shape_of dims bits capacity) ≡ Some fault → RefusedIn (create dims bits capacity) no_store BadShape
create_shapeless dims bits capacity fault wrong blank is = ap (λ (o : Option ShapeFault). first_reason ((is_fault o, BadShape) ∷ [])) wrong
create_shapeless dims bits capacity fault wrong (holding store) is = absurd is

module _ (dims bits capacity : ℕ) (right : shape_fault (shape_of dims bits capacity) ≡ None) where
  create_free : refusal (create dims bits capacity) blank ≡ None
  create_free = ap (λ (o : Option ShapeFault). first_reason ((is_fault o, BadShape) ∷ [])) right

  pub create_memory : MemoryIn (create dims bits capacity) no_store
  create_memory blank is = (create_free, refl)
  create_memory (holding store) is = absurd is

  made_outcome : of_command (create dims bits capacity) blank false ≡ effect (create dims bits capacity) blank
  made_outcome = effect_outcome (create dims bits capacity) blank create_free

  made_is : (made : Known) → made ≡ empty (shape_of dims bits capacity) → Is (holding (new_store (shape_of dims bits capacity))) (with_store none_open made)
  made_is made is = rw is (record { kept = is_of_empty (shape_of dims bits capacity); whole = refl; cursors = fresh_cursors; building = refl })

  module _ {D : Type 0} (g : Ghosts D) (old new : D) where
    -- a crash inside leaves a blank file, or the whole of the new store
    pub made_survives : OnlyWrites g old new (λ outcome. g.told → IsMade (shape_of dims bits capacity) (g.image old) outcome)
        → Survives g (of_command (create dims bits capacity)) no_store old new
    made_survives frame keeps told (holding store) at secure = absurd at.is
    made_survives frame keeps told blank at secure = weaker g.clock g.left_since old new _ _ (λ image given left. (either image (left.0 told).either, left.1)) (frame.moments keeps)
      where
        either : (image : List ℕ) → IsBlankOrEmpty (shape_of dims bits capacity) image → StandsFor blank image ⊎ StandsFor (of_command (create dims bits capacity) blank false).state image
        either image left = ⊎_elim (λ was. inl was) (λ whole. inr (subst (λ (o : Outcome). StandsFor o.state image) (sym made_outcome) whole)) left

    -- the store that is made is none of before
    made_stays : LeavesImage g (of_command (create dims bits capacity)) no_store old new
    made_stays told (holding store) at same_state = absurd at.is
    made_stays told blank at same_state =
        let both : ◌≡◌ {A = State} (holding (new_store (shape_of dims bits capacity))) blank = ap (λ (o : Outcome). o.state) (sym made_outcome) ∙ same_state in
        cc

    pub made_loses : OnlyWrites g old new (λ outcome. g.told → IsMade (shape_of dims bits capacity) (g.image old) outcome) → Loses g (of_command (create dims bits capacity)) no_store old new
    made_loses frame = record {
      read = reads_none g old new (of_command (create dims bits capacity)) no_store frame.reads;
      stays = made_stays;
      moments = made_survives frame;
    }

    pub made_carries : (made : Known) → made ≡ empty (shape_of dims bits capacity) → (g.told → Stands (empty_kept (shape_of dims bits capacity)) (g.image new)) → (g.told → selected_in (g.image new) ≡ made.region) → g.reads new ≡ g.reads old
        → (g.honest → g.told → Only (g.image new) (g.may_leave new)) → Survives g (of_command (create dims bits capacity)) no_store old new
        → Carries g (of_command (create dims bits capacity)) no_store (with_store none_open made) old new replies.created
    made_carries made is stands selects same durable moments = record {
      reached = λ told start at. reaches told start at;
      moments = moments;
      settles = λ keeps told start at secure image left. (settled start at.is keeps told image left, subst (λ (x : List ℕ). selected_in x ≡ made.region) (sym (durable keeps told image left)) (selects told));
    }
      where
        reaches : g.told → (start : State) → IsAt start no_store (g.image old) → Reached g (of_command (create dims bits capacity) start) start (with_store none_open made) old new replies.created
        reaches told (holding store) at = absurd at.is
        reaches told blank at = reached_by (create dims bits capacity) (effect (create dims bits capacity) blank) made_outcome refl
            (record { is = made_is made is; stands = stands told; vectors = fresh_held (empty_kept (shape_of dims bits capacity)) (g.image new) }) (λ same_state. cc)
            (adds_nothing blank (λ vectors. vectors ≡ reads_of blank []) (g.reads old) (g.reads new) same (no_reads blank))

        settled : (start : State) → Is start no_store → g.honest → g.told → (image : List ℕ) → g.may_leave new image → StandsFor (of_command (create dims bits capacity) start false).state image
        settled (holding store) is keeps told image left = absurd is
        settled blank is keeps told image left = subst (λ (o : Outcome). StandsFor o.state image) (sym made_outcome)
            (subst (λ (x : List ℕ). Stands (empty_kept (shape_of dims bits capacity)) x) (sym (durable keeps told image left)) (stands told))
