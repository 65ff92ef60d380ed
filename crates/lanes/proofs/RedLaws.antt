-- How long a lane takes until it has been red for a time; a tick shortens it.
use Prim.Native.Nat.{ℕ, ◌+◌, ◌-◌, ◌≤◌, max}
use mathlib.Core.Path.{◌≡◌}
use mathlib.Core.Bool.{cond}
use native.Mathlib.Omega.{arith}
use borrow.Author.Tests.{eqb-false}
use lib.Dec.{eqb}
use Rattle.loops.proofs.Cases.{by_test}
use Rattle.timings.specs.declared.Timings.{Timings}
use Rattle.lanes.specs.declared.Lane.{Lane}
use Rattle.lanes.specs.declared.Ending.{Ending}
use Rattle.lanes.specs.Intervals.{lane_tick}
use Rattle.lanes.proofs.LaneLaws.{Within, rise_min, tick_cases}

-- Ticks, the present one included, until the lane has been red so long, where no green reaches a given age; of a time of 0 until it is red.
unfoldable pub red_in : Timings → ℕ → ℕ → Lane → ℕ
red_in t green red l =
    cond (eqb l.colour 3) (max 1 (green - l.age) + t.yellow + red)
    (cond (eqb l.colour 2) (max 1 (t.yellow - l.age) + red) (red - l.age))

pub red_falls : (t : Timings) (ending : Ending) (green red : ℕ) → Within t green ending → green ≤ 720 → 1 ≤ t.yellow → t.yellow ≤ 720 → red ≤ 720
    → (l : Lane) (passage : ℕ) → red_in t green red (lane_tick t ending l passage) ≤ red_in t green red l - 1
unfolding red_in
red_falls t ending green red within green_most some_yellow yellow_most red_most l passage =
    let r = rise_min l.age in
    tick_cases t ending l passage (λ m. red_in t green red m ≤ red_in t green red l - 1)
    (λ c h. rw c (omega arith))
    (λ c h. rw c (omega (arith, r, within _ _ h)))
    (λ c h. rw c (omega arith))
    (λ c h. rw c (omega (arith, r)))
    (λ n3 n2. rw (n3, n2) (omega (arith, r)))

-- Where no tick is left, the lane is red, and has been so long.
pub red_now : (t : Timings) (green red : ℕ) (l : Lane) → 1 ≤ l.colour → l.colour ≤ 3 → red_in t green red l ≤ 0 → (l.colour ≡ 1) × (red ≤ l.age)
unfolding red_in
red_now t green red l least most h =
    by_test (eqb l.colour 3)
    (λ e. let y = rw e at h in absurd (omega arith))
    (λ e. by_test (eqb l.colour 2)
    (λ f. let y = rw (e, f) at h in absurd (omega arith))
    (λ f. let y = rw (e, f) at h in (omega (arith, eqb-false l.colour 3 e, eqb-false l.colour 2 f), omega arith)))
