-- Replies that say that memory was refused.
use Rattle.std.specs.Prelude.{Bool, true, false}
use Rattle.va_lang.specs.Reply.{Reply, created, placed, deleted, vector, stat, marks, near, scanned, within, opened, next_pair, at_end, closed, begun, more_left, switched, cert, work, error}
use Rattle.va_lang.specs.declared.reply.Why.{Why}
use Rattle.va_lang.specs.declared.reply.Why.TheVariants.{Long, Syntax, NoStore, Exists, Shape, Length, Duplicate, Full, Unknown, K, Busy, Idle, Cursor, Limit, Memory}

-- the one reason that is free; each other follows from the line and the state
abbrev pub is_memory : Why → Bool
is_memory Long = false
is_memory Syntax = false
is_memory NoStore = false
is_memory Exists = false
is_memory Shape = false
is_memory Length = false
is_memory Duplicate = false
is_memory Full = false
is_memory Unknown = false
is_memory K = false
is_memory Busy = false
is_memory Idle = false
is_memory Cursor = false
is_memory Limit = false
is_memory Memory = true

-- the reply says that memory was refused
abbrev pub wants_memory : Reply → Bool
wants_memory created = false
wants_memory (placed place) = false
wants_memory (deleted place) = false
wants_memory (vector coordinates) = false
wants_memory (stat shape live cursors building) = false
wants_memory (marks rows) = false
wants_memory (near pairs fetched candidates live) = false
wants_memory (scanned pairs fetched live) = false
wants_memory (within pairs fetched live) = false
wants_memory (opened live) = false
wants_memory (next_pair pair fetched) = false
wants_memory at_end = false
wants_memory closed = false
wants_memory (begun live) = false
wants_memory (more_left done left) = false
wants_memory (switched done) = false
wants_memory (cert text) = false
wants_memory (work n fetched candidates sum) = false
wants_memory (error why) = is_memory why
