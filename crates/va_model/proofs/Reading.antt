-- Reads of vectors, and calls that make none.
use Rattle.std.proofs.Common.{◌≡◌, ℕ, ◌≤◌, List, [], ◌∷◌, ◌++◌, Bool, true, false, not, Option, None, Some, if◌then◌else◌, refl, ap, sym, ◌∙◌, subst, append-nil, arith}
use Rattle.std.proofs.lemmas.Bool.Decides.{nat_tests}
use Rattle.std.specs.List.{filter}
use Rattle.va_core.specs.Shape.{Shape, is_within, shape_fault}
use Rattle.va_core.specs.declared.shape.ShapeFault.{ShapeFault}
use Rattle.va_core.specs.declared.shape.ShapeFault.TheVariants.{Dims}
use Rattle.va_layout.specs.Layout.{vector_at}
use Rattle.va_layout.specs.Stands.{Opens}
use Rattle.va_layout.proofs.Headers.{head_of}
use Rattle.va_model.specs.State.{State, Store, blank, holding}
use Rattle.va_model.specs.Step.{reads_of}
use Rattle.va_model.specs.VectorReads.{Adds, AreFirst, AreReads, reaches_past, vectors_from}
use Rattle.va_core.proofs.Tests.{at_least}

-- nothing was read
pub adds_nothing : (start : State) (P : List (ℕ × ℕ) → Type 0) (old new : List (ℕ × ℕ)) → new ≡ old → P [] → Adds start P old new
adds_nothing start P old new same has = record { added = []; is = same ∙ sym (append-nil old); vectors = has }

pub no_reads : (start : State) → [] ≡ reads_of start []
no_reads blank = refl
no_reads (holding store) = refl

pub no_reads_of : (refused : Bool) (start : State) → AreReads refused [] (reads_of start [])
no_reads_of false start = no_reads start
no_reads_of true start = record { rest = []; is = no_reads start }

-- these reads, or the first of them, are the first of them
pub first_of_reads : {vectors whole : List (ℕ × ℕ)} (refused : Bool) → AreReads refused vectors whole → AreFirst vectors whole
first_of_reads {vectors} {whole} false are = record { rest = []; is = append-nil vectors ∙ are }
first_of_reads {vectors} {whole} true are = are

-- the first of no reads are the first of any
none_is_first : (vectors rest whole : List (ℕ × ℕ)) → vectors ++ rest ≡ [] → AreFirst vectors whole
none_is_first [] rest whole is = record { rest = whole; is = refl }
none_is_first (read ∷ vectors) rest whole is = cc

pub first_of_none : {vectors none whole : List (ℕ × ℕ)} → AreFirst vectors none → none ≡ [] → AreFirst vectors whole
first_of_none {vectors} {none} {whole} first is = none_is_first vectors first.rest whole (first.is ∙ is)

-- a shape that is in its ranges has a dimension
pub first_right : (within : Bool) (other : Option ShapeFault) → (if not within then Some Dims else other) ≡ None → within ≡ true
first_right true other e = refl
first_right false other e = cc

some_dims : (shape : Shape) → shape_fault shape ≡ None → 1 ≤ shape.dims
some_dims shape valid = at_least 1 256 shape.dims (first_right (is_within 1 256 shape.dims) _ valid)

-- each of these reads is one of a vector
abbrev AllPast : ℕ → List (ℕ × ℕ) → Type 0
AllPast offset [] = Unit {0}
AllPast offset (read ∷ reads) = (reaches_past offset read ≡ true) × AllPast offset reads

past_one : (offset at dims : ℕ) → offset ≤ at → 1 ≤ dims → reaches_past offset (at, dims) ≡ true
past_one offset at dims behind some = grind (arith, nat_tests, behind, some)

all_past : (store : Store) (places : List ℕ) → 1 ≤ store.kept.shape.dims → AllPast (vectors_from (holding store)) (reads_of (holding store) places)
all_past store [] some = tt
all_past store (p ∷ places) some = (past_one (vector_at store.kept.shape 0) (vector_at store.kept.shape p) store.kept.shape.dims (omega arith) some, all_past store places some)

past_front : (offset : ℕ) (part rest : List (ℕ × ℕ)) → AllPast offset (part ++ rest) → AllPast offset part
past_front offset [] rest all = tt
past_front offset (read ∷ part) rest all = (all.0, past_front offset part rest all.1)

past_kept : (offset : ℕ) (reads : List (ℕ × ℕ)) → AllPast offset reads → filter (reaches_past offset) reads ≡ reads
past_kept offset [] all = refl
past_kept offset (read ∷ reads) all = rw all.0 (ap (λ (later : List (ℕ × ℕ)). read ∷ later) (past_kept offset reads all.1))

module _ (store : Store) (image : List ℕ) (opens : Opens store.kept image) (places : List ℕ) where
  dims_there : 1 ≤ store.kept.shape.dims
  dims_there = some_dims store.kept.shape (head_of store.kept.shape image opens.head).valid

  all_there : AllPast (vectors_from (holding store)) (reads_of (holding store) places)
  all_there = all_past store places dims_there

  -- the vectors of these places were read
  pub adds_vectors : (old new : List (ℕ × ℕ)) → new ≡ old ++ reads_of (holding store) places → Adds (holding store) (λ vectors. vectors ≡ reads_of (holding store) places) old new
  adds_vectors old new is = record { added = reads_of (holding store) places; is = is; vectors = past_kept (vectors_from (holding store)) (reads_of (holding store) places) all_there }

  -- the first of them were
  pub adds_first : (part rest old new : List (ℕ × ℕ)) → part ++ rest ≡ reads_of (holding store) places → new ≡ old ++ part → Adds (holding store) (λ vectors. AreFirst vectors (reads_of (holding store) places)) old new
  adds_first part rest old new begins is =
      let past : AllPast (vectors_from (holding store)) part = past_front (vectors_from (holding store)) part rest (subst (λ (reads : List (ℕ × ℕ)). AllPast (vectors_from (holding store)) reads) (sym begins) all_there) in
      record {
        added = part;
        is = is;
        vectors = record { rest = rest; is = ap (λ (first : List (ℕ × ℕ)). first ++ rest) (past_kept (vectors_from (holding store)) part past) ∙ begins };
      }
