-- What opening answers for an image.
use Rattle.std.proofs.Common.{◌≡◌, inl, inr, ℕ, ◌≤◌, List, length, refl, sym, ◌∙◌, ap, subst}
use Rattle.va_core.specs.Marks.{AreValid, HasShape}
use Rattle.va_core.specs.Shape.{Shape}
use Rattle.va_layout.specs.declared.region.Region.{Region}
use Rattle.va_layout.specs.Fields.{marks_in}
use Rattle.va_layout.specs.Layout.{layout_len}
use Rattle.va_layout.specs.Stands.{SaysShape, Kept, Opens, selected_in}
use Rattle.va_store.specs.Image.{IsFault, IsRegionFault, ids_in, kept_in}
use Rattle.va_store.specs.Known.{AreNamed, IsOf, Known}
use Rattle.va_store.specs.Openings.{Answers, HoldsPlaces, IsReadFrom, Refuses}
use Rattle.va_store.specs.declared.faults.OpenFault.{OpenFault}
use Rattle.va_layout.proofs.Standing.{one_shape}
use Rattle.va_store.proofs.Faulted.{one_fault}
use Rattle.va_store.proofs.Found.{head_faultless, ids_stand, kept_ids, kept_opens, shape_said}

-- what is answered for a part is answered for what it is a part of
pub refuses_more : (P Q : OpenFault → Type 0) (why : OpenFault) → (P why → Q why) → Refuses P why → Refuses Q why
refuses_more P Q why f (inl disk) = inl disk
refuses_more P Q why f (inr (inl memory)) = inr (inl memory)
refuses_more P Q why f (inr (inr fault)) = inr (inr (f fault))

-- what is answered for the region is answered for the image
pub answers_region : (image : List ℕ) (shape : Shape) (region : Region) {why : OpenFault} → SaysShape shape image → region ≡ selected_in image → layout_len shape ≤ length image → Refuses (λ other. IsRegionFault shape region image other) why → Answers image why
answers_region image shape region has selected long (inl disk) = inl disk
answers_region image shape region has selected long (inr (inl memory)) = inr (inl (memory, head_faultless image shape has long))
answers_region image shape region {why} has selected long (inr (inr fault)) = inr (inr (inr (
  head_faultless image shape has long,
  subst (λ (s : Shape). IsRegionFault s (selected_in image) image why) (sym (shape_said shape image has)) (subst (λ (r : Region). IsRegionFault shape r image why) selected fault),
)))

-- a file was read from its header to its codes
pub read_whole : (image : List ℕ) (known : Known) → SaysShape known.shape image → layout_len known.shape ≤ length image → known.region ≡ selected_in image → known.marks ≡ marks_in known.shape known.region image → HasShape known.shape known.marks → AreValid known.marks
    → HoldsPlaces known.shape known.region known.marks image known.ids → IsReadFrom image known
read_whole image known has long selected marks fit valid places =
    let there : known.marks ≡ marks_in known.shape (selected_in image) image = marks ∙ ap (λ (r : Region). marks_in known.shape r image) selected in
    record {
      head = has;
      ids = places.ids;
      region = selected;
      marks = there;
      opens = kept_opens image known.shape has long (subst (HasShape known.shape) there fit) (subst AreValid there valid) places.differ
          (subst (λ (m : List (List ℕ)). AreNamed known.shape (selected_in image) m (ids_in known.shape.capacity image) image) there (subst (λ (r : Region). AreNamed known.shape r known.marks (ids_in known.shape.capacity image) image) selected places.named));
    }

-- a store that was read is one of what the image holds, and of all that the image opens as
pub read_is_of : {image : List ℕ} {known : Known} → IsReadFrom image known → IsOf known (kept_in known.shape image)
read_is_of {image} {known} read = record { shape = refl; ids = read.ids ∙ sym (kept_ids known.shape image); marks = read.marks }

pub read_kept : {image : List ℕ} {known : Known} (kept : Kept) → IsReadFrom image known → Opens kept image → IsOf known kept
read_kept {image} {known} kept read opens =
    let same : known.shape ≡ kept.shape = one_shape image read.head opens.head in
    record {
      shape = same;
      ids = read.ids ∙ ap (λ (s : Shape). ids_in s.capacity image) same ∙ ids_stand kept image opens;
      marks = read.marks ∙ ap (λ (s : Shape). marks_in s (selected_in image) image) same ∙ opens.named.there;
    }

-- what was answered for an image is answered for its fault
pub refuses_fault : (image : List ℕ) {why other : OpenFault} → IsFault image why → Answers image other → Refuses (λ x. x ≡ why) other
refuses_fault image fault (inl disk) = inl disk
refuses_fault image fault (inr (inl memory)) = inr (inl memory.0)
refuses_fault image fault (inr (inr is)) = inr (inr (one_fault image is fault))

-- what was read of a part of the image, once the header was read
pub read_known : {image mid : List ℕ} {shape : Shape} {region : Region} (known : Known) → SaysShape shape image → layout_len shape ≤ length image → region ≡ selected_in image → mid ≡ image → (known.shape ≡ shape) × (known.region ≡ region)
    → known.marks ≡ marks_in shape region mid → HasShape known.shape known.marks × AreValid known.marks → HoldsPlaces shape region known.marks mid known.ids → IsReadFrom image known
read_known {image} {mid} {shape} {region} known has long selected same head marks good places =
    let there : known.marks ≡ marks_in known.shape known.region image =
    marks ∙ ap (λ (im : List ℕ). marks_in shape region im) same ∙ ap (λ (s : Shape). marks_in s region image) (sym head.0) ∙ ap (λ (r : Region). marks_in known.shape r image) (sym head.1) in
    read_whole image known (subst (λ (s : Shape). SaysShape s image) (sym head.0) has) (subst (λ (s : Shape). layout_len s ≤ length image) (sym head.0) long) (head.1 ∙ selected) there good.0 good.1
    (subst (λ (s : Shape). HoldsPlaces s known.region known.marks image known.ids) (sym head.0)
    (subst (λ (r : Region). HoldsPlaces shape r known.marks image known.ids) (sym head.1)
    (subst (λ (im : List ℕ). HoldsPlaces shape region known.marks im known.ids) same places)))
