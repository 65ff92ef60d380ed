-- Document 02, A14: "On a desk used since it was fresh, while enrolment is unchanged, every enrolled cabinet is polled within 96 accepted
-- ticks." What holds is more: within 94, and with n enrolled within 3 × (n - 1) + 1.
use Rattle.std.specs.Prelude.{ℕ, zero, suc, ◌+◌, ◌-◌, ◌*◌, ◌≤◌, ◌≡◌, true, cond, List}
use Rattle.desk.specs.declared.Desk.{Desk}
use Rattle.desk.specs.Desk.{enrolled_at}
use Rattle.desk.specs.Calls.{Call, desk_after, accepted_ticks, polled_within, EnrolmentUnchanged, AllAnswered}

-- How many of the cabinets below this number are enrolled, and how many of all.
abbrev pub enrolled_below : Desk → ℕ → ℕ
enrolled_below d zero = 0
enrolled_below d (suc cabinet) = enrolled_below d cabinet + cond (enrolled_at d cabinet) 1 0

abbrev pub how_many : Desk → ℕ
how_many d = enrolled_below d 32

-- On a desk used since it was this one: whatever calls came before, over every run of calls that leaves enrolment unchanged, and of which
-- this holds besides, every enrolled cabinet is polled at one of the run's first so many accepted ticks, where the run has as many. So many
-- are counted from the run's first accepted tick, and a run may begin anywhere: right after the cabinet itself was polled, too.
unfoldable pub PolledWithin : (Desk → ℕ) → (Desk → List Call → Type 0) → Desk → Type 0
PolledWithin most Besides start =
    (before run : List Call) (cabinet : ℕ)
    → enrolled_at (desk_after start before) cabinet ≡ true
    → EnrolmentUnchanged (desk_after start before) run
    → Besides (desk_after start before) run
    → most (desk_after start before) ≤ accepted_ticks (desk_after start before) run
    → polled_within cabinet (most (desk_after start before)) (desk_after start before) run ≡ true

abbrev pub Any : Desk → List Call → Type 0
Any d run = Unit {0}

-- With n enrolled: three ticks for each of the n - 1 others, which may all be silent, and the one that polls it. None of the others' three
-- polls need lie before the run's first tick: the cabinet itself may have been polled just before it. With 32 that is 94.
unfoldable pub longest_wait : ℕ → ℕ
longest_wait n = 3 * (n - 1) + 1

pub record PolledInTime (start : Desk) : Type 0 where
  pub by_number : PolledWithin (λ d. longest_wait (how_many d)) Any start
  pub within_94 : PolledWithin (λ _. 94) Any start
  pub within_96 : PolledWithin (λ _. 96) Any start
  -- When all answer, one tick for each: n ticks.
  pub all_answering : PolledWithin how_many AllAnswered start
