-- The answer is the definition's, and what holds of that holds of the answer.
use Prim.Native.Nat.{ℕ}
use mathlib.Core.Path.{◌≡◌, refl, ◌∙◌, ap}
use lib.IntN.{ℤ}
use mir.Facts.{to_z-of_z}
use Rattle.std.specs.Prelude.{Result, Ok, Err, IsOkAnd}
use Rattle.refusals.specs.declared.Refusal.{Refusal}
use Rattle.refusals.specs.declared.Refusal.TheVariants.{BadApproach}
use Rattle.slope.specs.Slope.{speed_in, grade_in, ticks_of, yellow_at}
use Rattle.slope.specs.Kinematic.{LeastEnough}
use Rattle.slope.specs.Claims.{InRange, Refuses, Fits, NeverGrows, NeverFalls}
use Rattle.slope.proofs.ClaimLaws.{refuses, given_least, given_fits, never_grows, never_falls}
use Rattle.slope.proofs.yellow_at.Goals as goal
use Rattle.slope.proofs.yellow_at.Goals.{After-grade_in, After-speed_in, else-speed_in-via-then-speed_in+else-grade_in, else-speed_in-via-else-speed_in}

abbrev Promised : ℤ → ℤ → Result ℕ Refusal → Type 0
Promised v s r =
    (r ≡ yellow_at v s)
    × (Refuses v s r
    × ((InRange v s → IsOkAnd r (LeastEnough v s))
    × ((InRange v s → IsOkAnd r Fits)
    × ((InRange v s → IsOkAnd r (NeverGrows v s))
    × (InRange v s → IsOkAnd r (NeverFalls v s))))))

promised : (v s : ℤ) (r : Result ℕ Refusal) → r ≡ yellow_at v s → Promised v s r
promised v s r e = rw e (refl, (refuses v s, (given_least v s, (given_fits v s, (never_grows v s, never_falls v s)))))

-- The two tests, of the numbers as they are read back.
going : (c : After-speed_in) → c.speed_in.result ≡ speed_in c.args.speed
going c = c.speed_in.ensures ∙ ap speed_in (to_z-of_z c.ranges.speed)

tipped : (c : After-grade_in) → c.grade_in.result ≡ grade_in c.args.grade
tipped c = c.grade_in.ensures ∙ ap grade_in (to_z-of_z c.ranges.grade)

pub ticks-requires : goal.ticks-requires
ticks-requires c = record {
  speed_value = rw (to_z-of_z c.ranges.speed, ← going (goal.at.ticks-requires c).After-speed_in) c.if-speed_in.true;
  grade_value = rw (to_z-of_z c.ranges.grade, ← tipped (goal.at.ticks-requires c).After-grade_in) c.if-grade_in.true;
}

pub returns-then-grade_in : goal.returns-then-grade_in
unfolding yellow_at
returns-then-grade_in c =
    let v = c.args.speed in
    let s = c.args.grade in
    let t : c.ticks.result ≡ ticks_of v s = c.ticks.ensures ∙ rw (to_z-of_z c.ranges.speed, to_z-of_z c.ranges.grade) in
    let all = promised v s (Ok c.ticks.result)
    (rw (← going (goal.at.returns-then-grade_in c).After-speed_in, c.if-speed_in.true, ← tipped (goal.at.returns-then-grade_in c).After-grade_in, c.if-grade_in.true, t)) in
    record { is = all.0; refuses = all.1.0; least = all.1.1.0; fits = all.1.1.1.0; upward = all.1.1.1.1.0; faster = all.1.1.1.1.1 }

pub returns : goal.returns
unfolding yellow_at
returns c =
    let v = c.args.speed in
    let s = c.args.grade in
    let swift : c.speed_in.result ≡ speed_in v = c.speed_in.ensures ∙ ap speed_in (to_z-of_z c.ranges.speed) in
    let e : Err BadApproach ≡ yellow_at v s =
    elim c.else-speed_in.branch [
      | else-speed_in-via-then-speed_in+else-grade_in w ↦
          rw (← swift, w.if-speed_in.true, ← to_z-of_z c.ranges.grade, ← w.grade_in.ensures, w.if-grade_in.false)
      | else-speed_in-via-else-speed_in w ↦ rw (← swift, w.if-speed_in.false)
    ] in
    let all = promised v s (Err BadApproach) e in
    record { is = all.0; refuses = all.1.0; least = all.1.1.0; fits = all.1.1.1.0; upward = all.1.1.1.1.0; faster = all.1.1.1.1.1 }
