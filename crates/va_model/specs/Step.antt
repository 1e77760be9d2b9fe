-- What a line does to a state, what is replied, and which vectors are read for it.
use Rattle.std.specs.Prelude.{ℕ, List, [], map, Option, None, Some, Bool, true, false, if◌then◌else◌}
use Rattle.va_lang.specs.Command.{Command, create, insert, delete, get, stat, marks, knn, ssa, range, «open», next, close, requant, convert, cert}
use Rattle.va_lang.specs.Grammar.{command_of}
use Rattle.va_lang.specs.declared.reply.Why.{Why}
use Rattle.va_lang.specs.declared.reply.Why.TheVariants.{Long, Syntax}
use Rattle.va_layout.specs.Layout.{vector_at}
use Rattle.va_model.specs.Cursors.{close_row, next_row, open_row}
use Rattle.va_model.specs.Lines.{Line, long, text}
use Rattle.va_model.specs.Reading.{get_row, marks_row, stat_row}
use Rattle.va_model.specs.Refitting.{convert_row, requant_row}
use Rattle.va_model.specs.Rows.{Outcome, Row, Want, first_reason, on_store, refuse, without_memory}
use Rattle.va_core.specs.Distance as distances
use Rattle.va_layout.specs.Stands.{Kept}
use Rattle.va_model.specs.Searching.{cert_row, knn_row, query_in, range_row, ssa_row}
use Rattle.va_model.specs.State.{State, blank, holding}
use Rattle.va_model.specs.Writing.{create_row, delete_row, insert_row}

-- the table of commands: the row of each, of the tables by what commands do
abbrev pub row_of : Command → State → Row
row_of (create dims bits capacity) state = create_row (record { dims = dims; bits = bits; capacity = capacity }) state
row_of (insert id vector) state = on_store (insert_row id vector) state
row_of (delete id) state = on_store (delete_row id) state
row_of (get id) state = on_store (get_row id) state
row_of stat state = on_store stat_row state
row_of marks state = on_store marks_row state
row_of (knn k query) state = on_store (knn_row k query) state
row_of (ssa k query) state = on_store (ssa_row k query) state
row_of (range radius query) state = on_store (range_row radius query) state
row_of («open» name query) state = on_store (open_row name query) state
row_of (next name) state = on_store (next_row name) state
row_of (close name) state = on_store (close_row name) state
row_of requant state = on_store requant_row state
row_of (convert n) state = on_store (convert_row n) state
row_of (cert k query) state = on_store (cert_row k query) state

-- why a command is refused, want of memory aside; of several reasons the first
abbrev pub refusal : Command → State → Option Why
refusal command state = first_reason (row_of command state).reasons

-- what a command does that is not refused
abbrev pub effect : Command → State → Outcome
effect command state = (row_of command state).outcome

-- when the command may be refused for want of memory
abbrev pub want : Command → State → Want
want command state = (row_of command state).want

-- a command, where m says that memory is refused
abbrev pub obey : Option Why → Command → State → Bool → Outcome
obey (Some why) command state m = refuse state why
obey None command state m = if m then without_memory (want command state) state (effect command state) else effect command state

abbrev pub step_command : Option Command → State → Bool → Outcome
step_command None state m = refuse state Syntax
step_command (Some command) state m = obey (refusal command state) command state m

-- a line, where m says that memory is refused
abbrev pub step : State → Line → Bool → Outcome
step state long m = refuse state Long
step state (text bytes) m = step_command (command_of bytes) state m

-- the reads of the vectors of these places
abbrev pub reads_of : State → List ℕ → List (ℕ × ℕ)
reads_of blank places = []
reads_of (holding store) places = map (λ (p : ℕ). (vector_at store.kept.shape p, store.kept.shape.dims)) places

-- The query that a command asks of the vectors that are kept now. A cursor that is opened reads none, and one that gives its next pair
-- asks its own query of its snapshot.
abbrev pub query_asked : Command → Kept → Option distances.Query
query_asked (create dims bits capacity) kept = None
query_asked (insert id vector) kept = None
query_asked (delete id) kept = None
query_asked (get id) kept = None
query_asked stat kept = None
query_asked marks kept = None
query_asked (knn k query) kept = Some (query_in kept query)
query_asked (ssa k query) kept = Some (query_in kept query)
query_asked (range radius query) kept = Some (query_in kept query)
query_asked («open» name query) kept = None
query_asked (next name) kept = None
query_asked (close name) kept = None
query_asked requant kept = None
query_asked (convert n) kept = None
query_asked (cert k query) kept = Some (query_in kept query)

abbrev pub query_of : Option Command → Kept → Option distances.Query
query_of None kept = None
query_of (Some command) kept = query_asked command kept

abbrev pub query_of_line : Line → Kept → Option distances.Query
query_of_line long kept = None
query_of_line (text bytes) kept = query_of (command_of bytes) kept

-- the command goes over the codes of all live vectors, where it isn't refused: a search, or the opening of a cursor
abbrev pub is_scanning : Command → Bool
is_scanning (create dims bits capacity) = false
is_scanning (insert id vector) = false
is_scanning (delete id) = false
is_scanning (get id) = false
is_scanning stat = false
is_scanning marks = false
is_scanning (knn k query) = true
is_scanning (ssa k query) = true
is_scanning (range radius query) = true
is_scanning («open» name query) = true
is_scanning (next name) = false
is_scanning (close name) = false
is_scanning requant = false
is_scanning (convert n) = false
is_scanning (cert k query) = true

abbrev pub scans_asked : Option Command → Bool
scans_asked None = false
scans_asked (Some command) = is_scanning command

abbrev pub scans_in : Line → Bool
scans_in long = false
scans_in (text bytes) = scans_asked (command_of bytes)

-- the command writes to the file, where it isn't refused
abbrev pub is_writing : Command → Bool
is_writing (create dims bits capacity) = true
is_writing (insert id vector) = true
is_writing (delete id) = true
is_writing (get id) = false
is_writing stat = false
is_writing marks = false
is_writing (knn k query) = false
is_writing (ssa k query) = false
is_writing (range radius query) = false
is_writing («open» name query) = false
is_writing (next name) = false
is_writing (close name) = false
is_writing requant = true
is_writing (convert n) = true
is_writing (cert k query) = false

abbrev pub writes_asked : Option Command → Bool
writes_asked None = false
writes_asked (Some command) = is_writing command

abbrev pub writes_in : Line → Bool
writes_in long = false
writes_in (text bytes) = writes_asked (command_of bytes)

-- the cursor that a command asks for its next pair, by its name
abbrev pub cursor_asked : Command → Option ℕ
cursor_asked (create dims bits capacity) = None
cursor_asked (insert id vector) = None
cursor_asked (delete id) = None
cursor_asked (get id) = None
cursor_asked stat = None
cursor_asked marks = None
cursor_asked (knn k query) = None
cursor_asked (ssa k query) = None
cursor_asked (range radius query) = None
cursor_asked («open» name query) = None
cursor_asked (next name) = Some name
cursor_asked (close name) = None
cursor_asked requant = None
cursor_asked (convert n) = None
cursor_asked (cert k query) = None

abbrev pub cursor_asked_by : Option Command → Option ℕ
cursor_asked_by None = None
cursor_asked_by (Some command) = cursor_asked command

abbrev pub cursor_of_line : Line → Option ℕ
cursor_of_line long = None
cursor_of_line (text bytes) = cursor_asked_by (command_of bytes)
