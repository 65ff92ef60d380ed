-- Which calls no check refuses, and when the one in turn is polled again.
use Rattle.refusals.proofs.NoneLaws.{no_refusal, accepted_test, refused_test, some_none}
use Rattle.std.specs.Option.{is_none}
use Rattle.std.specs.Prelude.{Option, Some, None}
use Rattle.refusals.specs.declared.Refusal.{Refusal}
use Rattle.refusals.specs.declared.Refusal.TheVariants.{SpoiltState, BadNumber}
use Prim.Native.Nat.{ℕ, zero, suc, ◌≤◌, ◌<◌}
use mathlib.Core.Path.{◌≡◌, refl, sym, ◌∙◌}
use mathlib.Core.Bool.{true}
use mathlib.Core.Logic.{inl, inr}
use native.Mathlib.Omega.{arith}
use borrow.Author.Tests.{ltb-true, ltb-false, lt-ltb, le-ltb, eqb-true}
use lib.Dec.{ltb, eqb}
use Rattle.loops.proofs.Cases.{by_test, both_true}
use Rattle.desk.specs.declared.Desk.{Desk}
use Rattle.desk.specs.Desk.{spoilt_desk, refusal_of}
use Rattle.desk.specs.Tick.{is_again}
use Rattle.desk.specs.InWords.{Spoilt, InRange, InTurn}

pub positive : (n : ℕ) → (n ≡ 0 → ⊥) → 0 < n
positive zero h = absurd (h refl)
positive (suc n) h = omega arith

-- What a call knows of its desk and its number.
pub data Checked (d : Desk) (most number : ℕ) : Type 0 where
  spoilt : Spoilt d → refusal_of d most number ≡ Some SpoiltState → Checked d most number
  above : InRange d → most < number → refusal_of d most number ≡ Some BadNumber → Checked d most number
  fits : InRange d → number ≤ most → refusal_of d most number ≡ None → Checked d most number

pub checked : (d : Desk) (most number : ℕ) → Checked d most number
unfolding refusal_of spoilt_desk
checked d most number =
    by_test (ltb 31 d.turn)
    (λ a. spoilt (inl (ltb-true _ _ a)) (rw a))
    (λ a. by_test (ltb 3 d.tries)
    (λ b. spoilt (inr (ltb-true _ _ b)) (rw (a, b)))
    (λ b. let ok : InRange d = record { turn_most = ltb-false _ _ a; tries_most = ltb-false _ _ b } in
    by_test (ltb most number)
    (λ f. above ok (ltb-true _ _ f) (rw (a, b, f)))
    (λ f. fits ok (ltb-false _ _ f) (rw (a, b, f)))))

pub record Passes (d : Desk) (most number : ℕ) : Type 0 where
  pub in_range : InRange d
  pub number_most : number ≤ most

pub passes : (d : Desk) (most number : ℕ) → refusal_of d most number ≡ None → Passes d most number
passes d most number e = by (checked d most number)
  where
    by : Checked d most number → Passes d most number
    by (spoilt s is) = absurd (some_none (sym is ∙ e))
    by (above r m is) = absurd (some_none (sym is ∙ e))
    by (fits r m is) = record { in_range = r; number_most = m }

-- No desk is both.
pub not_both : {A : Type 0} (d : Desk) → Spoilt d → InRange d → A
not_both d (inl h) r = absurd (omega (arith, h, r.turn_most))
not_both d (inr h) r = absurd (omega (arith, h, r.tries_most))

pub record Again (d : Desk) (answer : ℕ) : Type 0 where
  pub silent : answer ≡ 0
  pub in_turn : InTurn d d.turn
  pub tries_left : d.tries < 3

pub again : (d : Desk) (answer : ℕ) → is_again d answer ≡ true → Again d answer
unfolding is_again
again d answer e =
    let p = both_true (eqb answer 0) _ e in
    let q = both_true (ltb 0 d.tries) _ p.1 in
    let r = both_true (ltb d.tries 3) _ q.1 in
    record {
      silent = eqb-true _ _ p.0;
      in_turn = record { enrolled = r.1; last_polled = refl; polled = ltb-true _ _ q.0 };
      tries_left = ltb-true _ _ r.0;
    }
