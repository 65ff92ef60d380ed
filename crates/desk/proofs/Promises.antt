-- What each call promises besides its equation, of whatever equals what the definition gives.
use Rattle.refusals.proofs.NoneLaws.{no_refusal, accepted_test, refused_test, some_none}
use Rattle.std.specs.Option.{is_none}
use Rattle.std.specs.Prelude.{Option, Some, None}
use Rattle.refusals.specs.declared.Refusal.{Refusal}
use Rattle.refusals.specs.declared.Refusal.TheVariants.{SpoiltState, BadNumber}
use Prim.Native.Nat.{ℕ, ◌≤◌}
use mathlib.Core.Path.{◌≡◌, refl, sym, ◌∙◌, subst}
use native.Mathlib.Omega.{arith}
use borrow.Author.Tests.{eq-eqb, ne_eqb}
use lib.ListN.{length}
use Rattle.desk.specs.declared.Desk.{Desk}
use Rattle.desk.specs.declared.Changed.{Changed}
use Rattle.desk.specs.declared.DeskTicked.{DeskTicked}
use Rattle.desk.specs.Desk.{refusal_of, with_cabinet, without_cabinet, enrol_of, remove_of}
use Rattle.desk.specs.Tick.{refused_of, tick_of}
use Rattle.desk.specs.InWords.{InRange, Answers, InTurn, Enrols, Removes, Turned, EnrolAnswers, RemoveAnswers, TickAnswers}
use Rattle.desk.specs.Calls.{is_accepted}
use Rattle.desk.specs.Removed.{NextPasses}
use Rattle.desk.specs.Polling.{PolledInTime}
use Rattle.desk.proofs.DeskLaws.{Checked, spoilt, above, fits, checked, not_both}
use Rattle.desk.proofs.ChangeLaws.{enrols, removes, enrols_once, removes_once, enrols_in_range, removes_in_range}
use Rattle.desk.proofs.CallLaws.{tick_refusal_lem}
use Rattle.desk.proofs.Words.{turned}
use Rattle.desk.proofs.Sentences.{turned_in_range}
use Rattle.desk.proofs.NoOther.{turned_once}
use Rattle.desk.proofs.RemovedLaws.{Up, next_passes}
use Rattle.desk.proofs.PollingLaws.{polled_in_time}

-- The words of a call follow from what its check gives: a refusal and what is unchanged, or 0 and what is done.
module _ (d : Desk) (most number : ℕ) (refusal : Option Refusal) (is : refusal ≡ refusal_of d most number) (Unchanged Done : Type 0) where
  pub answers : ((refusal_of d most number ≡ None → ⊥) → Unchanged) → (InRange d → number ≤ most → refusal_of d most number ≡ None → Done)
      → Answers d most number refusal Unchanged Done
  answers kept done = by (checked d most number)
    where
      by : Checked d most number → Answers d most number refusal Unchanged Done
      by (spoilt s e) = record {
        spoilt = λ _. (is ∙ e, kept (λ z. some_none (sym e ∙ z)));
        above = λ r _. not_both d s r;
        accepted = λ r _. not_both d s r;
      }
      by (above r m e) = record {
        spoilt = λ s. not_both d s r;
        above = λ _ _. (is ∙ e, kept (λ z. some_none (sym e ∙ z)));
        accepted = λ _ l. absurd (omega (arith, l, m));
      }
      by (fits r m e) = record {
        spoilt = λ s. not_both d s r;
        above = λ _ l. absurd (omega (arith, l, m));
        accepted = λ _ _. (is ∙ e, done r m e);
      }

-- Two answers that the words fit are the same, if that holds of two unchanged and of two done.
once : (d : Desk) (most number : ℕ) (refusal refusal' : Option Refusal) (Unchanged Done Unchanged' Done' A : Type 0)
    → Answers d most number refusal Unchanged Done → Answers d most number refusal' Unchanged' Done'
    → (refusal ≡ refusal' → Unchanged → Unchanged' → A)
    → (InRange d → number ≤ most → refusal ≡ None → refusal' ≡ None → Done → Done' → A) → A
once d most number refusal refusal' Unchanged Done Unchanged' Done' A p q same_kept same-done = by (checked d most number)
  where
    by : Checked d most number → A
    by (spoilt s e) = same_kept ((p.spoilt s).0 ∙ sym (q.spoilt s).0) (p.spoilt s).1 (q.spoilt s).1
    by (above r m e) = same_kept ((p.above r m).0 ∙ sym (q.above r m).0) (p.above r m).1 (q.above r m).1
    by (fits r m e) = same-done r m (p.accepted r m).0 (q.accepted r m).0 (p.accepted r m).1 (q.accepted r m).1

-- What follows from the words of a call that holds of its desk.
kept_or_done : (d : Desk) (most number : ℕ) (refusal : Option Refusal) (Unchanged Done A : Type 0) → Answers d most number refusal Unchanged Done
    → InRange d → (Unchanged → A) → (number ≤ most → Done → A) → A
kept_or_done d most number refusal Unchanged Done A p in_range kept done = by (checked d most number)
  where
    by : Checked d most number → A
    by (spoilt s e) = not_both d s in_range
    by (above r m e) = kept (p.above r m).1
    by (fits r m e) = done m (p.accepted r m).1

changed : {x y : Changed} → x.refusal ≡ y.refusal → x.desk ≡ y.desk → x ≡ y
changed a b = λ i. record { refusal = a i; desk = b i }

module _ (d : Desk) (k : ℕ) (whole : length d.enrolled ≡ 32) where
  enrol_kept : (refusal_of d 31 k ≡ None → ⊥) → (enrol_of d k).desk ≡ d
  unfolding enrol_of
  enrol_kept never = rw (refused_test _ never)

  enrol_done : InRange d → k ≤ 31 → refusal_of d 31 k ≡ None → Enrols d k (enrol_of d k).desk
  unfolding enrol_of
  enrol_done r m e = rw (accepted_test _ e) (enrols d k m whole)

  enrol_words : EnrolAnswers d k (enrol_of d k)
  unfolding enrol_of
  enrol_words = answers d 31 k _ refl _ _ enrol_kept enrol_done

  remove_kept : (refusal_of d 31 k ≡ None → ⊥) → (remove_of d k).desk ≡ d
  unfolding remove_of
  remove_kept never = rw (refused_test _ never)

  remove_done : InRange d → k ≤ 31 → refusal_of d 31 k ≡ None → Removes d k (remove_of d k).desk
  unfolding remove_of
  remove_done r m e = rw (accepted_test _ e) (removes d k m whole)

  remove_words : RemoveAnswers d k (remove_of d k)
  unfolding remove_of
  remove_words = answers d 31 k _ refl _ _ remove_kept remove_done

  abbrev EnrolPromises : Changed → Type 0
  EnrolPromises r =
      EnrolAnswers d k r
      × (((x : Changed) → length x.desk.enrolled ≡ 32 → EnrolAnswers d k x → x ≡ r) × (InRange d → InRange r.desk))

  pub enrol_promises : (r : Changed) → length r.desk.enrolled ≡ 32 → r ≡ enrol_of d k → (r ≡ enrol_of d k) × EnrolPromises r
  enrol_promises r full is =
      let words = subst (EnrolAnswers d k) (sym is) enrol_words in (
        is,
        (
          words,
          (
            (λ x l w. once d 31 k _ _ _ _ _ _ (x ≡ r) w words
                (λ same a b. changed same (a ∙ sym b))
                (λ _ _ a b p q. changed (a ∙ sym b) (enrols_once d x.desk r.desk k l full p q))),
            (λ in_range. kept_or_done d 31 k _ _ _ (InRange r.desk) words in_range (λ a. subst InRange (sym a) in_range) (λ _ p. enrols_in_range p in_range)),
          ),
        ),
      )

  abbrev RemovePromises : Changed → Type 0
  RemovePromises r =
      RemoveAnswers d k r
      × (((x : Changed) → length x.desk.enrolled ≡ 32 → RemoveAnswers d k x → x ≡ r)
      × ((InRange d → InTurn d k → NextPasses k r.desk) × (InRange d → InRange r.desk)))

  remove_up : (r : Changed) → RemoveAnswers d k r → InRange d → InTurn d k → Up k r.desk
  remove_up r words in_range t =
      let done = (words.accepted in_range (omega (arith, t.last_polled, in_range.turn_most))).1 in
      record { turn = done.turn ∙ sym t.last_polled; tries = done.in_turn t }

  pub remove_promises : (r : Changed) → length r.desk.enrolled ≡ 32 → r ≡ remove_of d k → (r ≡ remove_of d k) × RemovePromises r
  remove_promises r full is =
      let words = subst (RemoveAnswers d k) (sym is) remove_words in (
        is,
        (
          words,
          (
            (λ x l w. once d 31 k _ _ _ _ _ _ (x ≡ r) w words
                (λ same a b. changed same (a ∙ sym b))
                (λ _ _ a b p q. changed (a ∙ sym b) (removes_once d x.desk r.desk k l full p q))),
            (
              (λ in_range t. next_passes k r.desk (remove_up r words in_range t)),
              (λ in_range. kept_or_done d 31 k _ _ _ (InRange r.desk) words in_range (λ a. subst InRange (sym a) in_range) (λ _ p. removes_in_range p in_range)),
            ),
          ),
        ),
      )

tick_kept : (d : Desk) (answer : ℕ) → (refusal_of d 1 answer ≡ None → ⊥) → ((tick_of d answer).desk ≡ d) × ((tick_of d answer).polled ≡ None)
unfolding tick_of refused_of
tick_kept d answer never = rw (refused_test _ never) (refl, refl)

tick_done : (d : Desk) (answer : ℕ) → refusal_of d 1 answer ≡ None → Turned d answer (tick_of d answer)
unfolding is_accepted
tick_done d answer ok = turned d answer (accepted_test _ (tick_refusal_lem d answer ∙ ok))

tick_words : (d : Desk) (answer : ℕ) → TickAnswers d answer (tick_of d answer)
tick_words d answer = answers d 1 answer _ (tick_refusal_lem d answer) _ _ (tick_kept d answer) (λ _ _. tick_done d answer)

ticked : {x y : DeskTicked} → x.refusal ≡ y.refusal → x.desk ≡ y.desk → x.polled ≡ y.polled → x ≡ y
ticked a b c = λ i. record { refusal = a i; desk = b i; polled = c i }

abbrev TickPromises : Desk → ℕ → DeskTicked → Type 0
TickPromises d answer r =
    TickAnswers d answer r
    × (((x : DeskTicked) → TickAnswers d answer x → x ≡ r) × ((InRange d → InRange r.desk) × PolledInTime r.desk))

pub tick_promises : (d : Desk) (answer : ℕ) (r : DeskTicked) → r ≡ tick_of d answer → (r ≡ tick_of d answer) × TickPromises d answer r
tick_promises d answer r is =
    let words = subst (TickAnswers d answer) (sym is) (tick_words d answer) in (
      is,
      (
        words,
        (
          (λ x w. once d 1 answer _ _ _ _ _ _ (x ≡ r) w words
              (λ same a b. ticked same (a.0 ∙ sym b.0) (a.1 ∙ sym b.1))
              (λ in_range m a b p q. turned_once d answer x r in_range m a b p q)),
          (
            (λ in_range. kept_or_done d 1 answer _ _ _ (InRange r.desk) words in_range (λ a. subst InRange (sym a.0) in_range) (λ m p. turned_in_range d answer r in_range m p)),
            polled_in_time r.desk,
          ),
        ),
      ),
    )
