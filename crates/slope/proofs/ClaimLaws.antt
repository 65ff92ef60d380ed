-- What is promised in words of each answer.
use Prim.Native.Nat.{ℕ, suc, ◌≤◌}
use mathlib.Core.Path.{◌≡◌, refl, sym}
use mathlib.Core.Bool.{Bool, true, false, ◌&&◌, true≢false}
use Rattle.std.specs.Prelude.{Ok, IsOkAnd}
use lib.Dec.{T, leb→le}
use lib.IntN.{ℤ, pos, negsuc, nat_abs, pos-ne-negsuc}
use lib.Signed.{le_z, le_z_yes, ◌≤ℤ◌, ≤ℤ_refl}
use Rattle.loops.proofs.Cases.{by_test, both_true}
use Rattle.slope.specs.Slope.{is_from, least_speed, most_speed, least_grade, most_grade, speed_in, grade_in, ticks_of, yellow_at, ticks_given}
use Rattle.slope.specs.Kinematic.{LeastEnough}
use Rattle.slope.specs.Claims.{InRange, Refuses, Fits, NeverGrows, NeverFalls}
use Rattle.slope.proofs.SlopeLaws.{Speed, speed, grade_size, ticks_fit, ordered}
use Rattle.slope.proofs.KinematicLaws.{ticks_least}

-- The tests of the two ranges are the words.
passed : (t : Bool) → T t → t ≡ true
passed true h = refl
passed false h = absurd h

holds : (t : Bool) → t ≡ true → T t
holds true e = tt
holds false e = absurd (true≢false (sym e))

in_range : (v s : ℤ) → InRange v s → (speed_in v && grade_in s) ≡ true
unfolding speed_in grade_in is_from
in_range v s r =
    rw (
      passed (le_z least_speed v) r.least_speed_lem.le,
      passed (le_z v most_speed) r.most_speed_lem.le,
      passed (le_z least_grade s) r.least_grade_lem.le,
      passed (le_z s most_grade) r.most_grade_lem.le,
    )

by_tests : (v s : ℤ) → (speed_in v && grade_in s) ≡ true → InRange v s
unfolding speed_in grade_in is_from
by_tests v s t =
    let p = both_true (speed_in v) (grade_in s) t in
    let a = both_true (le_z least_speed v) (le_z v most_speed) p.0 in
    let b = both_true (le_z least_grade s) (le_z s most_grade) p.1 in
    record {
      least_speed_lem = le_z_yes (holds (le_z least_speed v) a.0);
      most_speed_lem = le_z_yes (holds (le_z v most_speed) a.1);
      least_grade_lem = le_z_yes (holds (le_z least_grade s) b.0);
      most_grade_lem = le_z_yes (holds (le_z s most_grade) b.1);
    }

pub refuses : (v s : ℤ) → Refuses v s (yellow_at v s)
unfolding yellow_at
refuses v s = record {
  given = λ r. rw (in_range v s r);
  refused = λ out.
      by_test (speed_in v && grade_in s) (λ t. absurd (out (by_tests v s t))) (λ f. rw f (refl, refl));
}

-- A speed and a grade in range have their ticks.
record Given (v s : ℤ) : Type 0 where
  going : Speed v
  tipped : nat_abs s ≤ 80
  ticks_are : yellow_at v s ≡ Ok (ticks_of v s)

given : (v s : ℤ) → InRange v s → Given v s
unfolding yellow_at
given v s r =
    let t = in_range v s r in
    let p = both_true (speed_in v) (grade_in s) t in
    record { going = speed v p.0; tipped = grade_size s p.1; ticks_are = rw t }

-- Of two speeds in range the lower has the smaller size.
slower : (v v' : ℤ) → Speed v → Speed v' → v ≤ℤ v' → nat_abs v ≤ nat_abs v'
slower (pos n) (pos n') a b h = leb→le n n' h.le
slower (pos n) (negsuc n') a b h = absurd (pos-ne-negsuc (suc n') n' (sym b.whole))
slower (negsuc n) v' a b h = absurd (pos-ne-negsuc (suc n) n (sym a.whole))

-- A slower vehicle, and a road that tips upward, have no longer yellow.
ticks_ordered : (v v' s s' : ℤ) → InRange v s → InRange v' s' → v ≤ℤ v' → s' ≤ℤ s → ticks_of v s ≤ ticks_of v' s'
ticks_ordered v v' s s' e e' h l =
    let a = given v s e in
    let b = given v' s' e' in
    ordered v v' s s' a.tipped b.tipped (slower v v' a.going b.going h) l

answers_ordered : (v v' s s' : ℤ) → InRange v s → InRange v' s' → v ≤ℤ v' → s' ≤ℤ s → ticks_given (yellow_at v s) ≤ ticks_given (yellow_at v' s')
answers_ordered v v' s s' e e' h l = rw ((given v s e).ticks_are, (given v' s' e').ticks_are) (ticks_ordered v v' s s' e e' h l)

-- What holds of the ticks holds of the answer.
answered : (v s : ℤ) (P : ℕ → Type 0) → InRange v s → P (ticks_of v s) → IsOkAnd (yellow_at v s) P
answered v s P e h = rw (given v s e).ticks_are h

module _ (v s : ℤ) (e : InRange v s) where
  pub given_least : IsOkAnd (yellow_at v s) (LeastEnough v s)
  given_least = let a = given v s e in answered v s (LeastEnough v s) e (ticks_least v s a.going a.tipped)

  pub given_fits : IsOkAnd (yellow_at v s) Fits
  given_fits = let a = given v s e in answered v s Fits e (ticks_fit v s a.going.most a.tipped)

  pub never_grows : IsOkAnd (yellow_at v s) (NeverGrows v s)
  never_grows = answered v s (NeverGrows v s) e (record {
    higher = λ s' h e'. answered v s' (λ y. y ≤ ticks_of v s) e' (ticks_ordered v v s' s e' e (≤ℤ_refl v) h);
    lower = λ s' h e'. answered v s' (λ y. ticks_of v s ≤ y) e' (ticks_ordered v v s s' e e' (≤ℤ_refl v) h);
  })

  pub never_falls : IsOkAnd (yellow_at v s) (NeverFalls v s)
  never_falls = answered v s (NeverFalls v s) e (record {
    higher = λ v' h e'. answered v' s (λ y. ticks_of v s ≤ y) e' (ticks_ordered v v' s s e e' h (≤ℤ_refl s));
    lower = λ v' h e'. answered v' s (λ y. y ≤ ticks_of v s) e' (ticks_ordered v' v s s e' e h (≤ℤ_refl s));
  })
