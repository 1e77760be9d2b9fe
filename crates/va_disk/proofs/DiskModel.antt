-- The outcomes that a record of calls leaves are those of the disk model.
use Rattle.std.proofs.Common.{◌≡◌, ◌⊎◌, ◌↔◌, inl, inr, ℕ, ◌+◌, ◌-◌, ◌<◌, ◌≤◌, min, max, List, [], ◌∷◌, ◌++◌, length, get_or, take, drop, refl, sym, ◌∙◌, ap, subst, arith, length-append, length-take, length-drop, append_assoc}
use Rattle.std.proofs.lemmas.Bool.{cases_lt}
use Rattle.std.proofs.lemmas.List.{get_or-take, get_or-drop, get_or_append_left, get_or-append_right, take_at, drop_at, drop_all, ext_get_or}
use Rattle.va_disk.specs.Crashes.{Torn}
use Rattle.va_disk.specs.TornLaws.{torn_same, holds_length}
use Rattle.va_disk.specs.DiskModel.{KeepsModel, SetsWritten, AreWithin}
use Rattle.va_disk.specs.Replay.{State, started, step, overwritten, replay_from, replay, TornInTurn, MayLeave}
use Rattle.va_disk.specs.ReplayLaws.{image_is_outcome}
use Rattle.va_disk.specs.declared.call.Call.{Call}
use Rattle.va_disk.specs.declared.call.Call.TheVariants.{Read, Write, Sync, Give}
use Rattle.va_disk.proofs.Ranges.{apart, unwritten, torn_stays}

-- the greatest length of a file of n bytes in which these ranges are written
abbrev pub extent : ℕ → List (ℕ × ℕ) → ℕ
extent n [] = n
extent n (r ∷ ranges) = extent (max n (r.0 + r.1)) ranges

extent_more : (m n : ℕ) (ranges : List (ℕ × ℕ)) → m ≤ n → extent m ranges ≤ extent n ranges
extent_more m n [] le = le
extent_more m n (r ∷ ranges) le = extent_more (max m (r.0 + r.1)) (max n (r.0 + r.1)) ranges (omega arith)

pub extent_least : (n : ℕ) (ranges : List (ℕ × ℕ)) → n ≤ extent n ranges
extent_least n [] = omega arith
extent_least n (r ∷ ranges) = omega (arith, extent_least (max n (r.0 + r.1)) ranges)

-- no more than the model allows
pub keeps_model : (stable : List ℕ) (ranges : List (ℕ × ℕ)) (c : List ℕ) → TornInTurn stable ranges c → KeepsModel stable ranges (extent (length stable) ranges) c
keeps_model stable [] c left = record { no_shorter = omega (arith, ap length left); no_longer = omega (arith, ap length left); stays = λ k lt out. ap (λ (l : List ℕ). get_or l k 0) left }
keeps_model stable (r ∷ ranges) c left =
    let d = left.0 in
    let more = keeps_model d ranges c left.2 in
    record {
      no_shorter = omega (arith, left.1.no_shorter, more.no_shorter);
      no_longer = omega (arith, more.no_longer, extent_more (length d) (max (length stable) (r.0 + r.1)) ranges left.1.no_longer);
      stays = λ k lt out. more.stays k (omega (arith, lt, left.1.no_shorter)) (λ later. out (inr later)) ∙ torn_stays r.0 r.1 stable d k left.1 (apart r ranges k out);
    }

-- each write began within the length of then
abbrev pub InOrder : ℕ → List (ℕ × ℕ) → Type 0
InOrder n [] = Unit {0}
InOrder n (r ∷ ranges) = (r.0 ≤ n) × InOrder (max n (r.0 + r.1)) ranges

-- the old bytes with those of c in the range
module _ (at n : ℕ) (a c : List ℕ) (inside : at ≤ length a) (long : length a ≤ length c) where
  abbrev middle : List ℕ
  middle = take n (drop at c)

  abbrev pub spliced : List ℕ
  spliced = (take at a ++ middle) ++ drop (at + n) a

  front_is : length (take at a) ≡ at
  front_is = omega (arith, length-take at a)

  middle_is : length middle ≡ min n (length c - at)
  middle_is = omega (arith, length-take n (drop at c), length-drop at c)

  head_is : length (take at a ++ middle) ≡ at + min n (length c - at)
  head_is = omega (arith, length-append (take at a) middle, front_is, middle_is)

  pub spliced_is : length spliced ≡ min (length c) (max (length a) (at + n))
  spliced_is = omega (arith, length-append (take at a ++ middle) (drop (at + n) a), head_is, length-drop (at + n) a)

  pub torn_spliced : Torn at n a spliced
  torn_spliced = record {
    before = ap (λ (l : List ℕ). take at l) (append_assoc (take at a) middle (drop (at + n) a)) ∙ take_at (take at a) (middle ++ drop (at + n) a) at front_is;
    after = elim (cases_lt (length c) (at + n)) [
      | inl short ↦ drop_all (at + n) spliced (omega (arith, spliced_is, short)) ∙ sym (drop_all (at + n) a (omega (arith, long, short)))
      | inr all ↦ drop_at (take at a ++ middle) (drop (at + n) a) (at + n) (omega (arith, head_is, all, inside, long))
    ];
    no_shorter = omega (arith, spliced_is, long);
    no_longer = omega (arith, spliced_is);
  }

  within : (k : ℕ) → at ≤ k → k < at + n → k < length c → get_or c k 0 ≡ get_or spliced k 0
  within k from to less =
      let j = k - at in
      let is : at + j ≡ k = omega arith in
      sym (
      get_or_append_left (take at a ++ middle) (drop (at + n) a) 0 k (omega (arith, head_is, from, to, less))
      ∙ get_or-append_right (take at a) middle at k 0 front_is from
      ∙ get_or-take n (drop at c) j 0 (omega (arith, from, to))
      ∙ get_or-drop at c j 0
      ∙ ap (λ (m : ℕ). get_or c m 0) is
      )

  pub same_as_spliced : (k : ℕ) → (k < length a → (k < at) ⊎ (at + n ≤ k) → get_or c k 0 ≡ get_or a k 0) → k < length spliced → get_or c k 0 ≡ get_or spliced k 0
  same_as_spliced k stays lt = elim (cases_lt k at) [
    | inl before ↦ stays (omega (arith, inside, before)) (inl before) ∙ sym (torn_stays at n a spliced k torn_spliced (inl before))
    | inr from ↦ elim (cases_lt k (at + n)) [
      | inl to ↦ within k from to (omega (arith, spliced_is, lt))
      | inr past ↦ stays (omega (arith, spliced_is, lt, past)) (inr past) ∙ sym (torn_stays at n a spliced k torn_spliced (inr past))
    ]
  ]

-- and all that it allows
pub model_leaves : (stable : List ℕ) (ranges : List (ℕ × ℕ)) (c : List ℕ) → (length c ≤ length stable) ⊎ InOrder (length stable) ranges → KeepsModel stable ranges (extent (length stable) ranges) c → TornInTurn stable ranges c
model_leaves stable [] c order model = ext_get_or 0 c stable (omega (arith, model.no_shorter, model.no_longer)) (λ k lt. model.stays k (omega (arith, lt, model.no_longer)) (λ none. none))
model_leaves stable (r ∷ ranges) c order model = elim (cases_lt (length stable) r.0) [
  | inl beyond ↦
      let short : length c ≤ length stable = elim order [ inl le ↦ le | inr o ↦ absurd (omega (arith, o.0, beyond)) ] in (
        stable,
        torn_same r.0 r.1 stable,
        model_leaves stable ranges c (inl short) (record {
          no_shorter = model.no_shorter;
          no_longer = omega (arith, short, extent_least (length stable) ranges);
          stays = λ k lt out. model.stays k lt (unwritten r ranges k (inl (omega (arith, lt, beyond))) out);
        }),
      )
  | inr inside ↦
      let d = spliced r.0 r.1 stable c inside model.no_shorter in
      let size : length d ≡ min (length c) (max (length stable) (r.0 + r.1)) = spliced_is r.0 r.1 stable c inside model.no_shorter in
      let order' : (length c ≤ length d) ⊎ InOrder (length d) ranges = elim (cases_lt (length d) (length c)) [
        | inr le ↦ inl le
        | inl lt ↦ elim order [
          | inl le ↦ absurd (omega (arith, size, lt, le))
          | inr o ↦ let grown : max (length stable) (r.0 + r.1) ≡ length d = omega (arith, size, lt) in inr (subst (λ (m : ℕ). InOrder m ranges) grown o.1)
        ]
      ] in (
        d,
        torn_spliced r.0 r.1 stable c inside model.no_shorter,
        model_leaves d ranges c order' (record {
          no_shorter = omega (arith, size);
          no_longer = elim (cases_lt (length d) (length c)) [
            | inr le ↦ omega (arith, le, extent_least (length d) ranges)
            | inl lt ↦ omega (arith, model.no_longer, extent_more (max (length stable) (r.0 + r.1)) (length d) ranges (omega (arith, size, lt)))
          ];
          stays = λ k lt out. same_as_spliced r.0 r.1 stable c inside model.no_shorter k (λ less away. model.stays k less (unwritten r ranges k away out)) lt;
        }),
      )
]

-- what holds of the pending ranges of each state
record Grown (s : State) : Type 0 where
  in_order : InOrder (length s.stable) s.pending
  long : extent (length s.stable) s.pending ≡ length s.image

in_order_push : (n : ℕ) (ranges : List (ℕ × ℕ)) (range : ℕ × ℕ) → InOrder n ranges → range.0 ≤ extent n ranges → InOrder n (ranges ++ range ∷ [])
in_order_push n [] range order le = (le, tt)
in_order_push n (r ∷ ranges) range order le = (order.0, in_order_push (max n (r.0 + r.1)) ranges range order.1 le)

extent_push : (n : ℕ) (ranges : List (ℕ × ℕ)) (range : ℕ × ℕ) → extent n (ranges ++ range ∷ []) ≡ max (extent n ranges) (range.0 + range.1)
extent_push n [] range = refl
extent_push n (r ∷ ranges) range = extent_push (max n (r.0 + r.1)) ranges range

step_grown : (s : State) (call : Call) → Grown s → Grown (step s call)
step_grown s (Read at len) grown = record { in_order = grown.in_order; long = grown.long }
step_grown s (Write at bytes) grown =
    let from = min at (length s.image) in
    let size = holds_length from s.image bytes (omega arith) (overwritten s.image from bytes) refl in
    record {
      in_order = in_order_push (length s.stable) s.pending (from, length bytes) grown.in_order (omega (arith, grown.long));
      long = omega (arith, extent_push (length s.stable) s.pending (from, length bytes), grown.long, size);
    }
step_grown s Sync grown = record { in_order = tt; long = refl }
step_grown s (Give bytes) grown = record { in_order = grown.in_order; long = grown.long }

replay_grown : (s : State) (calls : List Call) → Grown s → Grown (replay_from s calls)
replay_grown s [] grown = grown
replay_grown s (call ∷ calls) grown = replay_grown (step s call) calls (step_grown s call grown)

-- each pending range ends inside a file of the greatest length
within_extent : (n : ℕ) (ranges : List (ℕ × ℕ)) → AreWithin (extent n ranges) ranges
within_extent n [] = tt
within_extent n (r ∷ ranges) = (omega (arith, extent_least (max n (r.0 + r.1)) ranges), within_extent (max n (r.0 + r.1)) ranges)

module _ (first : List ℕ) (calls : List Call) where
  grown_now : Grown (replay first calls)
  grown_now = replay_grown (started first) calls (record { in_order = tt; long = refl })

  pending_within : AreWithin (length (replay first calls).image) (replay first calls).pending
  pending_within = subst (λ (n : ℕ). AreWithin n (replay first calls).pending) grown_now.long (within_extent (length (replay first calls).stable) (replay first calls).pending)

  leaves_model : (c : List ℕ) → MayLeave first calls c → KeepsModel (replay first calls).stable (replay first calls).pending (length (replay first calls).image) c
  leaves_model c left = subst (λ (n : ℕ). KeepsModel (replay first calls).stable (replay first calls).pending n c) grown_now.long (keeps_model (replay first calls).stable (replay first calls).pending c left)

  model_may_leave : (c : List ℕ) → KeepsModel (replay first calls).stable (replay first calls).pending (length (replay first calls).image) c → MayLeave first calls c
  model_may_leave c model =
      model_leaves (replay first calls).stable (replay first calls).pending c (inr grown_now.in_order)
      (subst (λ (n : ℕ). KeepsModel (replay first calls).stable (replay first calls).pending n c) (sym grown_now.long) model)

  set_may_leave : (byte : ℕ) (c : List ℕ) → SetsWritten (replay first calls).image (replay first calls).pending byte c → MayLeave first calls c
  set_may_leave byte c sets =
      let image = leaves_model (replay first calls).image (image_is_outcome first calls (replay first calls).image refl) in
      model_may_leave c (record {
        no_shorter = omega (arith, image.no_shorter, sets.size);
        no_longer = omega (arith, sets.size);
        stays = λ place lt unwritten. sets.others place (omega (arith, lt, image.no_shorter)) unwritten ∙ image.stays place lt unwritten;
      })

  module _ (stable : List ℕ) (pending : List (ℕ × ℕ)) (image : List ℕ)
      (stable_is : stable ≡ (replay first calls).stable) (pending_is : pending ≡ (replay first calls).pending) (image_is : image ≡ (replay first calls).image) where
    -- a crash may leave what the disk model allows, and nothing else
    pub outcomes_are : (c : List ℕ) → MayLeave first calls c ↔ KeepsModel stable pending (length image) c
    outcomes_are c = rw stable_is (rw pending_is (rw image_is (leaves_model c, model_may_leave c)))

    -- the written bytes set to one value is one of them
    pub set_is_outcome : (byte : ℕ) (c : List ℕ) → SetsWritten image pending byte c → MayLeave first calls c
    set_is_outcome byte c sets = set_may_leave byte c (rw (sym image_is) (rw (sym pending_is) sets))

    pub pending_is_within : AreWithin (length image) pending
    pending_is_within = rw pending_is (rw image_is pending_within)
