-- Which reads are reads of vectors, and which of them a line makes.
use Rattle.std.specs.Prelude.{◌≡◌, ℕ, ◌+◌, ◌&&◌, nat_lt, List, [], ◌∷◌, ◌++◌, Bool, true, false}
use Rattle.std.specs.List.{filter}
use Rattle.va_lang.specs.Reply.{Reply}
use Rattle.va_layout.specs.Layout.{vector_at}
use Rattle.va_model.specs.Lines.{Line}
use Rattle.va_model.specs.Memory.{wants_memory}
use Rattle.va_model.specs.Rows.{Outcome}
use Rattle.va_model.specs.State.{State, blank, holding}
use Rattle.va_model.specs.Step.{reads_of, step}

-- where the vectors begin; while there is no store, the end of a header
abbrev pub vectors_from : State → ℕ
vectors_from blank = 32
vectors_from (holding store) = vector_at store.kept.shape 0

-- the read has a length, and reaches past this offset
abbrev pub reaches_past : ℕ → ℕ × ℕ → Bool
reaches_past offset read = nat_lt 0 read.1 && nat_lt offset (read.0 + read.1)

-- The reads of vectors among these. The others, of the header, the slots and what else is kept beside the vectors, are
-- not bounded.
abbrev pub vector_reads : State → List (ℕ × ℕ) → List (ℕ × ℕ)
vector_reads state reads = filter (reaches_past (vectors_from state)) reads

-- reads were added, and the reads of vectors among them have P
pub record Adds (state : State) (P : List (ℕ × ℕ) → Type 0) (old new : List (ℕ × ℕ)) : Type 0 where
  pub added : List (ℕ × ℕ)
  pub is : new ≡ old ++ added
  pub vectors : P (vector_reads state added)

-- the first of these reads, maybe none or all of them
pub record AreFirst (first whole : List (ℕ × ℕ)) : Type 0 where
  pub rest : List (ℕ × ℕ)
  pub is : first ++ rest ≡ whole

-- these reads, or the first of them where memory was refused
abbrev pub AreReads : Bool → List (ℕ × ℕ) → List (ℕ × ℕ) → Type 0
AreReads false vectors whole = vectors ≡ whole
AreReads true vectors whole = AreFirst vectors whole

-- the reads of vectors of an outcome with this reply: those of its places
abbrev pub PieceOf : State → (Bool → Outcome) → Reply → List (ℕ × ℕ) → Type 0
PieceOf state outcome reply vectors = AreReads (wants_memory reply) vectors (reads_of state (outcome (wants_memory reply)).places)

-- of an outcome that wasn't reached: the first of those of its places
abbrev pub FrontOf : State → (Bool → Outcome) → List (ℕ × ℕ) → Type 0
FrontOf state outcome vectors = AreFirst vectors (reads_of state (outcome false).places)

-- the reads of vectors for a line with this reply, and for a line that wasn't run to its end
abbrev pub Piece : State → Line → Reply → List (ℕ × ℕ) → Type 0
Piece state line reply = PieceOf state (step state line) reply

abbrev pub PieceFront : State → Line → List (ℕ × ℕ) → Type 0
PieceFront state line = FrontOf state (step state line)

-- the reads of a run over these lines with these replies: a piece for each, one after another
abbrev pub ReadsFor : State → List Line → List Reply → List (ℕ × ℕ) → List (ℕ × ℕ) → Type 0
ReadsFor state [] [] old new = new ≡ old
ReadsFor state [] (reply ∷ replies) old new = ⊥
ReadsFor state (line ∷ lines) [] old new = ⊥
ReadsFor state (line ∷ lines) (reply ∷ replies) old new =
    (mid : List (ℕ × ℕ)) × Adds state (Piece state line reply) old mid × ReadsFor (step state line (wants_memory reply)).state lines replies mid new
