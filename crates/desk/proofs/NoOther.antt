-- The request's sentences leave no other answer: whatever was in turn, one of them fits, and two answers that it fits poll the same cabinet.
use Rattle.refusals.proofs.NoneLaws.{no_refusal, accepted_test, refused_test, some_none}
use Rattle.std.specs.Option.{is_none}
use Rattle.std.specs.Prelude.{Option, Some, None}
use Rattle.refusals.specs.declared.Refusal.{Refusal}
use Rattle.refusals.specs.declared.Refusal.TheVariants.{SpoiltState, BadNumber}
use Prim.Native.Nat.{ℕ, ◌≤◌}
use mathlib.Core.Path.{◌≡◌, sym, ◌∙◌, ap}
use mathlib.Core.Bool.{true, false}
use native.Mathlib.Omega.{arith}
use borrow.Author.Tests.{ltb-true, ltb-false}
use lib.Dec.{ltb}
use Rattle.loops.proofs.Cases.{by_test}
use Rattle.desk.specs.declared.Desk.{Desk}
use Rattle.desk.specs.declared.DeskTicked.{DeskTicked}
use Rattle.desk.specs.InWords.{InRange, PolledAnew, PassesOn, Turned}
use Rattle.desk.proofs.Sentences.{Sentence, nobody, first, passes_on, once_more, sentence}

-- Two answers with the same parts.
alike : {r x : DeskTicked} → r.refusal ≡ x.refusal → r.desk.enrolled ≡ x.desk.enrolled → r.desk.turn ≡ x.desk.turn → r.desk.tries ≡ x.desk.tries
    → r.polled ≡ x.polled → r ≡ x
alike a b c d e = λ i. record { refusal = a i; desk = record { enrolled = b i; turn = c i; tries = d i }; polled = e i }

module _ (d : Desk) (r x : DeskTicked) where
  same_turn : PassesOn d r → PassesOn d x → r.desk.turn ≡ x.desk.turn
  same_turn p q =
      by_test (ltb d.turn x.desk.turn)
      (λ e. let up = p.higher x.desk.turn (ltb-true _ _ e) q.anew.enrolled in
      let down = q.higher r.desk.turn up.0 p.anew.enrolled in
      omega (arith, up.1, down.1))
      (λ e. let low = q.wraps (ltb-false _ _ e) r.desk.turn p.anew.enrolled in
      by_test (ltb d.turn r.desk.turn)
      (λ f. let up = q.higher r.desk.turn (ltb-true _ _ f) p.anew.enrolled in absurd (omega (arith, up.0, ltb-false d.turn x.desk.turn e)))
      (λ f. let down = p.wraps (ltb-false _ _ f) x.desk.turn q.anew.enrolled in omega (arith, low, down)))

  module _ (ok-r : r.refusal ≡ None) (ok-x : x.refusal ≡ None) (kept-r : r.desk.enrolled ≡ d.enrolled) (kept-x : x.desk.enrolled ≡ d.enrolled) where
    same_anew : PolledAnew d r → PolledAnew d x → r.desk.turn ≡ x.desk.turn → r ≡ x
    same_anew p q same =
        alike (ok-r ∙ sym ok-x) (kept-r ∙ sym kept-x) same (p.tries ∙ sym q.tries) (p.polled ∙ ap Some same ∙ sym q.polled)

    same_passed : PassesOn d r → PassesOn d x → r ≡ x
    same_passed p q = same_anew p.anew q.anew (same_turn p q)

pub turned_once : (d : Desk) (answer : ℕ) (r x : DeskTicked) → InRange d → answer ≤ 1 → r.refusal ≡ None → x.refusal ≡ None
    → Turned d answer r → Turned d answer x → r ≡ x
turned_once d answer r x in_range most ok-r ok-x t u = by (sentence d answer in_range most)
  where
    same : r.desk.turn ≡ x.desk.turn → r.desk.tries ≡ x.desk.tries → r.polled ≡ x.polled → r ≡ x
    same = alike (ok-r ∙ sym ok-x) (t.enrolment ∙ sym u.enrolment)

    by : Sentence d answer → r ≡ x
    by (nobody empty) =
        let p = t.nobody empty in
        let q = u.nobody empty in
        same (p.turn ∙ sym q.turn) (p.tries ∙ sym q.tries) (p.polled ∙ sym q.polled)
    by (first k there z) =
        let p = (t.first k there z).0 in
        let q = (u.first k there z).0 in
        same_anew d r x ok-r ok-x t.enrolment u.enrolment p q
        (omega (arith, (t.first x.desk.turn q.enrolled z).1, (u.first r.desk.turn p.enrolled z).1))
    by (passes_on tried p) = same_passed d r x ok-r ok-x t.enrolment u.enrolment (p r t) (p x u)
    by (once_more in_turn left z) =
        let p = t.silent in_turn left z in
        let q = u.silent in_turn left z in
        same (p.turn ∙ sym q.turn) (p.tries ∙ sym q.tries) (p.polled ∙ sym q.polled)
