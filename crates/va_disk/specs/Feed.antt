-- What contracts say of a feed.
use Rattle.std.specs.Prelude.{ℕ, Bool, Option, List}
use Rattle.va_disk.specs.Plan.{fails_at}
use Rattle.va_disk.specs.declared.feed.Feed.{Feed}

-- the bytes that are left
abbrev pub left : Feed → List ℕ
left feed = feed.rest

-- the number of the next take
abbrev pub number : Feed → ℕ
number feed = feed.plan.number

-- the numbers of the takes that fail
abbrev pub fails : Feed → List ℕ
fails feed = feed.plan.fails.items

-- from this take on all fail: none of a feed
abbrev pub stop : Feed → Option ℕ
stop feed = feed.plan.stop

-- whether the next take is to fail
abbrev pub fails_next : Feed → Bool
fails_next feed = fails_at (fails feed) (stop feed) (number feed)

-- how many bytes a take moves at most
abbrev pub piece : Feed → ℕ
piece feed = feed.plan.most

abbrev pub faults : Feed → ℕ
faults feed = feed.faults
