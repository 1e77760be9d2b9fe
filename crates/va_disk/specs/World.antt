-- What contracts say of a world.
use Rattle.std.specs.Prelude.{◌≡◌, ◌⊎◌, ℕ, Bool, IsTrue, IsErr, OnOk, OnErr, Result, Option, List, length}
use Rattle.va_disk.specs.Plan.{fails_at, raised}
use Rattle.va_disk.specs.Replay.{MayLeave, LeftSince}
use Rattle.va_disk.specs.declared.call.Call.{Call}
use Rattle.va_disk.specs.declared.world.World.{World}

-- the bytes as a read gives them
abbrev pub image : World → List ℕ
image world = world.history.image.items

-- the bytes of the last sync, or of the start
abbrev pub stable : World → List ℕ
stable world = world.history.stable.items

-- the ranges written since the last sync
abbrev pub pending : World → List (ℕ × ℕ)
pending world = world.history.pending.items

abbrev pub given : World → List ℕ
given world = world.history.given.items

abbrev pub reads : World → List (ℕ × ℕ)
reads world = world.history.reads.items

-- the bytes at the start
abbrev pub first : World → List ℕ
first world = world.history.first.items

-- the calls that were carried out
abbrev pub recorded : World → List Call
recorded world = world.history.calls.items

-- how many calls were carried out
abbrev pub clock : World → ℕ
clock world = length (recorded world)

-- what a crash now may leave
abbrev pub may_leave : World → List ℕ → Type 0
may_leave world outcome = MayLeave (first world) (recorded world) outcome

-- what a crash from that moment on might have left, and what was given before it
abbrev pub left_since : World → ℕ → List ℕ → List ℕ → Type 0
left_since world moment outcome before = LeftSince (first world) (recorded world) moment outcome before

-- the number of the next call
abbrev pub number : World → ℕ
number world = world.plan.number

-- the numbers of the calls that fail
abbrev pub fails : World → List ℕ
fails world = world.plan.fails.items

-- from this call on all fail
abbrev pub stop : World → Option ℕ
stop world = world.plan.stop

-- whether the next call is to fail
abbrev pub fails_next : World → Bool
fails_next world = fails_at (fails world) (stop world) (number world)

-- how many bytes a give takes at most
abbrev pub most : World → ℕ
most world = world.plan.most

abbrev pub faults : World → ℕ
faults world = world.faults

abbrev pub sink_faults : World → ℕ
sink_faults world = world.sink_faults

-- how often a growth found no memory
abbrev pub starved : World → ℕ
starved world = world.starved

-- A call takes its number. The plan of failures, the limit of a give and the bytes at the start stay.
pub record Numbered (old new : World) : Type 0 where
  pub next : number new ≡ raised (number old)
  pub list : fails new ≡ fails old
  pub end : stop new ≡ stop old
  pub limit : most new ≡ most old
  pub start : first new ≡ first old

-- A call that was to fail fails, and nothing is starved. Another fails where it is starved, and then alone.
pub record Fails {T E : Type 0} (old new : World) (result : Result T E) : Type 0 where
  pub planned : IsTrue (fails_next old) → IsErr result
  pub ok : OnOk result (starved new ≡ starved old)
  pub err : OnErr result ((IsTrue (fails_next old) × (starved new ≡ starved old)) ⊎ ((¬ IsTrue (fails_next old)) × (starved new ≡ raised (starved old))))
