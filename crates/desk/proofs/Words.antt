-- The request's sentences hold of a tick: where the one in turn is not polled once more, the search gives the one that is.
use Rattle.refusals.proofs.NoneLaws.{no_refusal, accepted_test, refused_test, some_none}
use Rattle.std.specs.Option.{is_none}
use Rattle.std.specs.Prelude.{Option, Some, None}
use Rattle.refusals.specs.declared.Refusal.{Refusal}
use Rattle.refusals.specs.declared.Refusal.TheVariants.{SpoiltState, BadNumber}
use Prim.Native.Nat.{ℕ, ◌+◌, ◌-◌, ◌≤◌, ◌<◌}
use mathlib.Core.Path.{◌≡◌, refl, sym, ◌∙◌, subst}
use mathlib.Core.Bool.{true, false, true≢false}
use native.Mathlib.Omega.{arith}
use borrow.Author.Tests.{eq-eqb, ne_eqb, lt-ltb}
use lib.Dec.{eqb}
use Rattle.loops.proofs.Cases.{by_test}
use Rattle.turns.specs.Turn.{first_after}
use Rattle.desk.specs.declared.Desk.{Desk}
use Rattle.desk.specs.declared.DeskTicked.{DeskTicked}
use Rattle.desk.specs.Desk.{enrolled_at, has_place}
use Rattle.desk.specs.Tick.{is_again, again_of, before_first, polled_at, passed_of, tick_of}
use Rattle.desk.specs.Calls.{ticks, is_accepted}
use Rattle.desk.specs.InWords.{InTurn, PolledAnew, PassesOn, OnceMore, PollsNobody, Turned}
use Rattle.desk.proofs.DeskLaws.{passes, Again, again}
use Rattle.desk.proofs.CallLaws.{accepted_of, not_refused, tick_accepted, ticks_unchanged}
use Rattle.desk.proofs.NextLaws.{place_most, above, below, some, holds, none}

before_in : (d : Desk) → d.turn ≤ 31 → (1 ≤ before_first d) × (before_first d ≤ 32)
unfolding before_first
before_in d h = by_test (eqb d.tries 0) (λ e. rw e (omega arith, omega arith)) (λ e. rw e (omega arith, omega arith))

from_turn : (d : Desk) → 0 < d.tries → before_first d ≡ d.turn + 1
unfolding before_first
from_turn d h = rw (ne_eqb d.tries 0 (λ z. omega (arith, z)))

from_last : (d : Desk) → d.tries ≡ 0 → before_first d ≡ 32
unfolding before_first
from_last d h = rw (eq-eqb d.tries 0 h)

module _ (d : Desk) (turn_most : d.turn ≤ 31) where
  abbrev place : ℕ
  place = first_after (has_place d) 32 (before_first d) 32

  least : 1 ≤ before_first d
  least = (before_in d turn_most).0

  most : before_first d ≤ 32
  most = (before_in d turn_most).1

  passed_nobody : ((k : ℕ) → enrolled_at d k ≡ false) → PollsNobody (passed_of d)
  unfolding passed_of polled_at
  passed_nobody empty = rw (none d (before_first d) least most empty) (record { polled = refl; turn = refl; tries = refl })

  module _ (k : ℕ) (there : enrolled_at d k ≡ true) where
    passed_is : passed_of d ≡ record { refusal = None; desk = record { enrolled = d.enrolled; turn = place - 1; tries = 1 }; polled = Some (place - 1) }
    unfolding passed_of polled_at
    passed_is = rw (some d (before_first d) least most k there)

    passed_anew : PolledAnew d (passed_of d)
    passed_anew = rw passed_is (record { polled = refl; tries = refl; enrolled = holds d (before_first d) least most k there })

    passed_first : d.tries ≡ 0 → PolledAnew d (passed_of d) × ((passed_of d).desk.turn ≤ k)
    passed_first z =
        let last = from_last d z in
        let low = below d (before_first d) least most k there (omega (arith, last, place_most d (before_first d) least most)) in
        (passed_anew, rw passed_is (omega (arith, low)))

    passed_on : 0 < d.tries → PassesOn d (passed_of d)
    passed_on tried =
        let from = from_turn d tried in
        record {
          anew = passed_anew;
          higher = λ j h e. let a = above d (before_first d) least most j e (omega (arith, from, h)) in
              rw passed_is (omega (arith, a.0, from), omega (arith, a.1));
          wraps = λ h j e. let l : place - 1 ≤ d.turn = rw passed_is at h in
              let b = below d (before_first d) least most j e (omega (arith, l, from)) in
              rw passed_is (omega (arith, b));
        }

-- The one in turn is not polled once more: with nobody in turn, after an answer, after the third time, and where it is not enrolled.
not_again : (d : Desk) (answer : ℕ) → (Again d answer → ⊥) → is_again d answer ≡ false
not_again d answer never = by_test (is_again d answer) (λ e. absurd (never (again d answer e))) (λ e. e)

is_again_lem : (d : Desk) (answer : ℕ) → InTurn d d.turn → d.tries < 3 → answer ≡ 0 → is_again d answer ≡ true
unfolding is_again
is_again_lem d answer t left z = rw (eq-eqb answer 0 z, lt-ltb 0 d.tries t.polled, lt-ltb d.tries 3 left, t.enrolled)

module _ (d : Desk) (answer : ℕ) (turn_most : d.turn ≤ 31) where
  passed_case : (P : DeskTicked → Type 0) → (Again d answer → ⊥) → P (passed_of d) → P (accepted_of d answer)
  passed_case P never p = let e = not_again d answer never in rw e p

  again_case : is_again d answer ≡ true → OnceMore d (accepted_of d answer)
  unfolding again_of
  again_case e = rw e (record { polled = refl; turn = refl; tries = refl })

  accepted_turned : (accepted_of d answer).desk.enrolled ≡ d.enrolled → Turned d answer (accepted_of d answer)
  accepted_turned same = record {
    nobody = λ empty. passed_case PollsNobody (λ a. true≢false (sym a.in_turn.enrolled ∙ empty d.turn)) (passed_nobody d turn_most empty);
    first = λ k there z. passed_case (λ r. PolledAnew d r × (r.desk.turn ≤ k)) (λ a. omega (arith, a.in_turn.polled, z)) (passed_first d turn_most k there z);
    answered = λ k there tried one. passed_case (PassesOn d) (λ a. omega (arith, a.silent, one)) (passed_on d turn_most k there tried);
    silent = λ t left z. again_case (is_again_lem d answer t left z);
    third = λ k there up. passed_case (PassesOn d) (λ a. omega (arith, a.tries_left, up)) (passed_on d turn_most k there (omega (arith, up)));
    removed = λ k there tried out. passed_case (PassesOn d) (λ a. true≢false (sym a.in_turn.enrolled ∙ out)) (passed_on d turn_most k there tried);
    enrolment = same;
  }

pub turned : (d : Desk) (answer : ℕ) → is_accepted d (ticks answer) ≡ true → Turned d answer (tick_of d answer)
turned d answer e =
    let is = tick_accepted d answer e in
    let same = subst (λ (r : DeskTicked). r.desk.enrolled ≡ d.enrolled) is (ticks_unchanged d answer) in
    subst (Turned d answer) (sym is) (accepted_turned d answer (passes d 1 answer (not_refused d answer e)).in_range.turn_most same)
