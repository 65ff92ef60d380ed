-- Which of the request's sentences says what an accepted tick does: at each desk and answer one of them does.
use Prim.Native.Nat.{ℕ, ◌+◌, ◌-◌, ◌≤◌, ◌<◌}
use mathlib.Core.Path.{◌≡◌, refl, sym, ◌∙◌}
use mathlib.Core.Bool.{true, false, true≢false}
use native.Mathlib.Omega.{arith}
use borrow.Author.Tests.{eqb-true, eqb-false, ltb-true, ltb-false}
use lib.Dec.{ltb, eqb}
use Rattle.loops.proofs.Cases.{by_test}
use Rattle.turns.specs.Turn.{first_after}
use Rattle.turns.proofs.TurnLaws.{first_holds}
use Rattle.desk.specs.declared.Desk.{Desk}
use Rattle.desk.specs.declared.DeskTicked.{DeskTicked}
use Rattle.desk.specs.Desk.{enrolled_at, has_place}
use Rattle.desk.specs.InWords.{InRange, InTurn, PolledAnew, PassesOn, OnceMore, PollsNobody, Turned}
use Rattle.desk.proofs.DeskLaws.{positive}
use Rattle.desk.proofs.NextLaws.{number_most, some}

-- None is enrolled; nobody was polled before; the turn passes; the one in turn is polled once more.
pub data Sentence (d : Desk) (answer : ℕ) : Type 0 where
  nobody : ((k : ℕ) → enrolled_at d k ≡ false) → Sentence d answer
  first : (k : ℕ) → enrolled_at d k ≡ true → d.tries ≡ 0 → Sentence d answer
  passes_on : 0 < d.tries → ((r : DeskTicked) → Turned d answer r → PassesOn d r) → Sentence d answer
  once_more : InTurn d d.turn → d.tries < 3 → answer ≡ 0 → Sentence d answer

module _ (d : Desk) where
  abbrev place : ℕ
  place = first_after (has_place d) 32 1 32

  -- Some cabinet is enrolled, or none is.
  some_or_none : {A : Type 0} → ((k : ℕ) → enrolled_at d k ≡ true → A) → (((k : ℕ) → enrolled_at d k ≡ false) → A) → A
  unfolding has_place
  some_or_none f g =
      by_test (eqb place 0)
      (λ e. g (λ k. by_test (enrolled_at d k) (λ there. absurd (true≢false (sym e ∙ some d 1 (omega arith) (omega arith) k there))) (λ out. out)))
      (λ e. f (place - 1) (first_holds (has_place d) 32 1 32 e))

pub sentence : (d : Desk) (answer : ℕ) → InRange d → answer ≤ 1 → Sentence d answer
sentence d answer in_range most =
    some_or_none d
    (λ k there. by_test (eqb d.tries 0)
    (λ e. first k there (eqb-true d.tries 0 e))
    (λ e. let tried = positive d.tries (eqb-false d.tries 0 e) in
    by_test (eqb answer 0)
    (λ f. by_test (ltb d.tries 3)
    (λ g. by_test (enrolled_at d d.turn)
    (λ h. once_more (record { enrolled = h; last_polled = refl; polled = tried }) (ltb-true _ _ g) (eqb-true _ _ f))
    (λ h. passes_on tried (λ r words. words.removed k there tried h)))
    (λ g. let up : d.tries ≡ 3 = omega (arith, ltb-false d.tries 3 g, in_range.tries_most) in
    passes_on tried (λ r words. words.third k there up)))
    (λ f. let one : answer ≡ 1 = omega (arith, positive answer (eqb-false answer 0 f), most) in
    passes_on tried (λ r words. words.answered k there tried one))))
    nobody

-- So a desk in range stays so.
anew_in_range : (d : Desk) (r : DeskTicked) → PolledAnew d r → InRange r.desk
anew_in_range d r p = record {
  turn_most = omega (arith, number_most d r.desk.turn p.enrolled);
  tries_most = omega (arith, p.tries);
}

pub turned_in_range : (d : Desk) (answer : ℕ) (r : DeskTicked) → InRange d → answer ≤ 1 → Turned d answer r → InRange r.desk
turned_in_range d answer r in_range most words = by (sentence d answer in_range most)
  where
    by : Sentence d answer → InRange r.desk
    by (nobody empty) = let p = words.nobody empty in record { turn_most = omega (arith, p.turn); tries_most = omega (arith, p.tries) }
    by (first k there z) = anew_in_range d r (words.first k there z).0
    by (passes_on tried p) = anew_in_range d r (p r words).anew
    by (once_more t left z) =
        let p = words.silent t left z in
        record { turn_most = omega (arith, p.turn, in_range.turn_most); tries_most = omega (arith, p.tries, left) }
