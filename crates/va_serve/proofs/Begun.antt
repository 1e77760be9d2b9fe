-- A file that was opened, and one that is blank.
use Rattle.std.proofs.Common.{◌≡◌, ◌⊎◌, inl, inr, List, ℕ, zero, suc, nat_lt, length, Bool, true, false, if◌then◌else◌, Result, Ok, Err, Option, None, Some, refl, ap, sym, ◌∙◌, subst}
use Rattle.va_layout.specs.Fields.{head_in, marks_in}
use Rattle.va_layout.specs.Header.{header_of, shape_in}
use Rattle.va_layout.specs.declared.region.Region.{Region}
use Rattle.va_layout.specs.Layout.{layout_len}
use Rattle.va_layout.specs.declared.header.HeadFault.{HeadFault}
use Rattle.va_layout.specs.declared.header.HeadFault.TheVariants as heads
use Rattle.va_store.specs.Image.{IsFault, IsPlaceFault, IsRegionFault, first_below, first_or, ids_in, length_behind, repeat_at, same_at, same_fault}
use Rattle.va_store.specs.Openings.{Answers, IsTooShort}
use Rattle.va_store.specs.declared.faults.OpenFault.{OpenFault}
use Rattle.va_store.specs.declared.faults.OpenFault.TheVariants as faults
use Rattle.va_layout.specs.Stands.{SaysShape, IsBlank, Kept, Opens, Stands, selected_in}
use Rattle.va_serve.specs.Failing.{IsBlankOrFaultless, MayNotStart, StartFails, is_blank, status_of}
use Rattle.va_serve.specs.declared.status.Status.{Status}
use Rattle.va_serve.specs.declared.status.Status.TheVariants as statuses
use Rattle.va_store.proofs.Faulted.{one_fault}
use Rattle.va_layout.specs.declared.header.Header.{Header}
use Rattle.va_core.specs.Shape.{Shape}
use Rattle.va_model.specs.State.{Begins, OpenCursor, State, Store, blank, holding}
use Rattle.va_serve.specs.Held.{none_open}
use Rattle.va_serve.specs.Session.{AreCursors, IsAt, KeepsHeld, no_store, with_store}
use Rattle.va_serve.proofs.Holding.{fresh_cursors, fresh_held}
use Rattle.va_store.specs.Known.{Known, IsOf}

no_blank : (shape : Shape) (image : List ℕ) → SaysShape shape image → IsBlank image → ⊥
no_blank shape image has none = let both = sym has ∙ none in cc

pub blank_at : (state : State) (image image' : List ℕ) → IsBlank image → image' ≡ image → Begins state image → IsAt state no_store image'
blank_at blank image image' none same begins = record { is = tt; stands = rw same none; vectors = tt }
blank_at (holding store) image image' none same begins = absurd (no_blank store.kept.shape image begins.stands.opens.head none)

pub store_at : (state : State) (image image' : List ℕ) (held : Known) (shape : Shape) → SaysShape shape image → ((kept : Kept) → Stands kept image → IsOf held kept) → held.broken ≡ false → held.building ≡ None → image' ≡ image → Begins state image
    → IsAt state (with_store none_open held) image'
store_at blank image image' held shape has is_of whole idle same begins = absurd (no_blank shape image has begins.stands)
store_at (holding store) image image' held shape has is_of whole idle same begins = record {
  is = record {
    kept = is_of store.kept begins.stands;
    whole = whole;
    cursors = subst (λ (cursors : List (Option OpenCursor)). AreCursors cursors none_open) (sym (ap (λ (s : Store). s.cursors) begins.alone)) fresh_cursors;
    building = idle ∙ sym (ap (λ (s : Store). s.building) begins.alone);
  };
  stands = rw same begins.stands;
  vectors = subst (λ (s : Store). KeepsHeld (holding s) image') (sym begins.alone) (fresh_held store.kept image');
}

-- no image has the fault of a header that is blank in place of being blank
no_repeat : (ids : List (Option ℕ)) (q : ℕ) → repeat_at ids q ≡ Some (faults.Header heads.Blank) → ⊥
no_repeat ids q is = of_same q (first_below (same_at ids q) q) is
  where
    of_same : (r : ℕ) (earlier : Option ℕ) → same_fault r earlier ≡ Some (faults.Header heads.Blank) → ⊥
    of_same r None e = cc
    of_same r (Some p) e = cc

no_first : (ids : List (Option ℕ)) (n : ℕ) → first_below (repeat_at ids) n ≡ Some (faults.Header heads.Blank) → ⊥
no_first ids zero is = cc
no_first ids (suc n) is = either (first_below (repeat_at ids) n) (repeat_at ids n) (no_first ids n) (no_repeat ids n) is
  where
    either : (before here : Option OpenFault) → (before ≡ Some (faults.Header heads.Blank) → ⊥) → (here ≡ Some (faults.Header heads.Blank) → ⊥) → first_or before here ≡ Some (faults.Header heads.Blank) → ⊥
    either None here no_before no_here e = no_here e
    either (Some fault) here no_before no_here e = no_before e

no_length : (short : Bool) (need have : ℕ) → (if short then Some (faults.Length need have) else None) ≡ Some (faults.Header heads.Blank) → ⊥
no_length true need have is = cc
no_length false need have is = cc

no_behind : (header : Result Header HeadFault) (image : List ℕ) → length_behind header image ≡ Some (faults.Header heads.Blank) → ⊥
no_behind (Err heads.Blank) image is = cc
no_behind (Err heads.Magic) image is = cc
no_behind (Err (heads.Shape fault)) image is = cc
no_behind (Ok header) image is = no_length (nat_lt (length image) (layout_len header.shape)) (layout_len header.shape) (length image) is

no_place : (shape : Shape) (region : Region) (marks : List (List ℕ)) (ids : List (Option ℕ)) (image : List ℕ) → IsPlaceFault shape region marks ids image (faults.Header heads.Blank) → ⊥
no_place shape region marks ids image (inl repeat) = no_first ids (length ids) repeat
no_place shape region marks ids image (inr code) = let is = code.1 in cc

no_region : (shape : Shape) (region : Region) (image : List ℕ) → IsRegionFault shape region image (faults.Header heads.Blank) → ⊥
no_region shape region image (inl marks) = let is = marks.1 in cc
no_region shape region image (inr places) = no_place shape region (marks_in shape region image) (ids_in shape.capacity image) image places.1

no_fault : (image : List ℕ) → IsFault image (faults.Header heads.Blank) → ⊥
no_fault image (inl head) = no_behind (header_of (head_in image)) image head
no_fault image (inr behind) = no_region (shape_in (head_in image)) (selected_in image) image behind.1

no_blank_header : (image : List ℕ) → Answers image (faults.Header heads.Blank) → ⊥
no_blank_header image (inl disk) = let is : ◌≡◌ {A = OpenFault} (faults.Header heads.Blank) faults.Disk = disk in cc
no_blank_header image (inr (inl memory)) = let is : ◌≡◌ {A = OpenFault} (faults.Header heads.Blank) faults.Memory = memory.0 in cc
no_blank_header image (inr (inr is)) = no_fault image is

pub never_in_header : (image : List ℕ) (why : OpenFault) (head : HeadFault) → why ≡ faults.Header head → head ≡ heads.Blank → Answers image why → ⊥
never_in_header image why head is none answers =
    no_blank_header image (subst (λ (fault : OpenFault). Answers image fault) (is ∙ ap (λ (h : HeadFault). faults.Header h) none) answers)

-- an image of which a fault of the disk or of memory is told has that fault
no_answer : (image : List ℕ) {why : OpenFault} → Answers image why → (why ≡ faults.Disk → ⊥) → (why ≡ faults.Memory → ⊥) → IsFault image why
no_answer image (inl disk) no_disk no_memory = absurd (no_disk disk)
no_answer image (inr (inl memory)) no_disk no_memory = absurd (no_memory memory.0)
no_answer image (inr (inr is)) no_disk no_memory = is

-- an image that is told to be blank has no other fault
pub only_blank : (image : List ℕ) (why : OpenFault) → is_blank why ≡ true → Answers image why → IsBlankOrFaultless image
only_blank image faults.Blank is answers = λ other fault. one_fault image fault (no_answer image answers (λ e. cc) (λ e. cc))
only_blank image (faults.Header heads.Blank) is answers = absurd (no_blank_header image answers)
only_blank image (faults.Header heads.Magic) is answers = cc
only_blank image (faults.Header (heads.Shape fault)) is answers = cc
only_blank image (faults.Length need have) is answers = cc
only_blank image (faults.Marks dim) is answers = cc
only_blank image (faults.SameId earlier later) is answers = cc
only_blank image (faults.Code place) is answers = cc
only_blank image faults.Disk is answers = cc
only_blank image faults.Memory is answers = cc

-- it is blank
pub told_blank : (image : List ℕ) (why : OpenFault) → is_blank why ≡ true → Answers image why → why ≡ faults.Blank
told_blank image faults.Blank is answers = refl
told_blank image (faults.Header heads.Blank) is answers = absurd (no_blank_header image answers)
told_blank image (faults.Header heads.Magic) is answers = cc
told_blank image (faults.Header (heads.Shape fault)) is answers = cc
told_blank image (faults.Length need have) is answers = cc
told_blank image (faults.Marks dim) is answers = cc
told_blank image (faults.SameId earlier later) is answers = cc
told_blank image (faults.Code place) is answers = cc
told_blank image faults.Disk is answers = cc
told_blank image faults.Memory is answers = cc

-- why a session doesn't start otherwise
pub start_fails : (image : List ℕ) (why : OpenFault) → is_blank why ≡ false → Answers image why → StartFails image (status_of why)
start_fails image faults.Blank is answers = cc
start_fails image (faults.Header fault) is answers = (no_answer image answers (λ e. cc) (λ e. cc), λ e. cc)
start_fails image (faults.Length need have) is answers = (no_answer image answers (λ e. cc) (λ e. cc), λ e. cc)
start_fails image (faults.Marks dim) is answers = (no_answer image answers (λ e. cc) (λ e. cc), λ e. cc)
start_fails image (faults.SameId earlier later) is answers = (no_answer image answers (λ e. cc) (λ e. cc), λ e. cc)
start_fails image (faults.Code place) is answers = (no_answer image answers (λ e. cc) (λ e. cc), λ e. cc)
start_fails image faults.Disk is answers = tt
start_fails image faults.Memory is answers = tt

pub may_not_start : (size : ℕ) (why : OpenFault) → is_blank why ≡ false → IsTooShort size why → MayNotStart size (status_of why)
may_not_start size faults.Blank is short = cc
may_not_start size (faults.Header heads.Blank) is short = cc
may_not_start size (faults.Header heads.Magic) is short = tt
may_not_start size (faults.Header (heads.Shape fault)) is short = tt
may_not_start size (faults.Length need have) is short = short need have refl
may_not_start size (faults.Marks dim) is short = tt
may_not_start size (faults.SameId earlier later) is short = tt
may_not_start size (faults.Code place) is short = tt
may_not_start size faults.Disk is short = tt
may_not_start size faults.Memory is short = tt

-- an image in which a run may begin has no fault but that of being blank
begins_faultless : (image : List ℕ) (state : State) (why : OpenFault) → Begins state image → ((kept : Kept) → Opens kept image → (other : OpenFault) → IsFault image other → ⊥) → IsFault image why → (why ≡ faults.Blank → ⊥) → ⊥
begins_faultless image blank why begins faultless fault not_blank =
    not_blank (one_fault image fault (inl (ap (λ (header : Result Header HeadFault). length_behind header image) begins.stands)))
begins_faultless image (holding store) why begins faultless fault not_blank = faultless store.kept begins.stands.opens why fault

-- a session that doesn't start on such an image failed in a call, or memory was wanting
pub start_stands : (image : List ℕ) (state : State) (status : Status) → Begins state image → ((kept : Kept) → Opens kept image → (other : OpenFault) → IsFault image other → ⊥) → StartFails image status
    → (status ≡ statuses.DiskFault) ⊎ (status ≡ statuses.Memory)
start_stands image state statuses.DiskFault begins faultless fails = inl refl
start_stands image state statuses.Memory begins faultless fails = inr refl
start_stands image state (statuses.Store why) begins faultless fails = absurd (begins_faultless image state why begins faultless fails.0 fails.1)
start_stands image state (statuses.Mismatch place dist low high) begins faultless fails = absurd fails
start_stands image state (statuses.Changed place) begins faultless fails = absurd fails
start_stands image state statuses.Done begins faultless fails = absurd fails
start_stands image state statuses.Usage begins faultless fails = absurd fails
start_stands image state statuses.ReadFault begins faultless fails = absurd fails
start_stands image state statuses.WriteFault begins faultless fails = absurd fails
start_stands image state statuses.TooLong begins faultless fails = absurd fails

-- a fault of the disk and no other is told as one
pub told_disk : (why : OpenFault) → status_of why ≡ statuses.DiskFault → why ≡ faults.Disk
told_disk faults.Blank e = cc
told_disk (faults.Header fault) e = cc
told_disk (faults.Length need have) e = cc
told_disk (faults.Marks dim) e = cc
told_disk (faults.SameId earlier later) e = cc
told_disk (faults.Code place) e = cc
told_disk faults.Disk e = refl
told_disk faults.Memory e = cc
