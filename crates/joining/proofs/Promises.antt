-- All that joining promises, of an answer that is the definition's.
use mathlib.Core.Path.{◌≡◌, refl, sym, ap, subst}
use mathlib.Core.Bool.{false}
use Rattle.joining.specs.declared.PlanList.{PlanList}
use Rattle.std.specs.Prelude.{Result}
use Rattle.refusals.specs.declared.Refusal.{Refusal}
use Rattle.joining.specs.Joining.{spoilt_list, joined_of, list_given}
use Rattle.joining.specs.InWords.{Answers}
use Rattle.joining.specs.EndToEnd.{IsAccepted, SameInForce}
use Rattle.joining.specs.Decided.{SameDecisions}
use Rattle.joining.specs.Ticked.{SameTicks}
use Rattle.joining.proofs.Accepted.{Accepted, accepted}
use Rattle.joining.proofs.AnswerLaws.{answers}
use Rattle.joining.proofs.CouldBeFiled.{could_be_filed}
use Rattle.joining.proofs.SameInForce.{same_in_force}
use Rattle.joining.proofs.SameDecision.{same_decision}
use Rattle.joining.proofs.SameTicks.{same_ticks}

module _ (first second : PlanList) where
  abbrev Promised : Result PlanList Refusal → Type 0
  Promised r =
      (r ≡ joined_of first second)
      × (Answers first second r
      × ((spoilt_list (list_given r) ≡ false)
      × ((IsAccepted first second → SameInForce first second (list_given r))
      × ((IsAccepted first second → SameDecisions first second (list_given r))
      × (IsAccepted first second → SameTicks first second (list_given r))))))

  -- What holds of an accepted pair's list.
  abbrev OfAccepted : PlanList → Type 0
  OfAccepted list = SameInForce first second list × (SameDecisions first second list × SameTicks first second list)

  of_accepted : Accepted first second → OfAccepted (list_given (joined_of first second))
  of_accepted a =
      let same = sym (ap list_given a.given) in
      let decisions = subst (SameDecisions first second) same (same_decision first second a) in
      (subst (SameInForce first second) same (same_in_force first second a), (decisions, same_ticks first second _ (could_be_filed first second) decisions))

  pub promised : (r : Result PlanList Refusal) → r ≡ joined_of first second → Promised r
  promised r e =
      let all = λ (z : IsAccepted first second). of_accepted (accepted first second z) in
      subst Promised (sym e) (
        refl,
        (answers first second, (could_be_filed first second, (λ z. (all z).0, (λ z. (all z).1.0, λ z. (all z).1.1)))),
      )
