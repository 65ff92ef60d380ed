-- A refused join writes nothing; an accepted one writes what the site's writer does. Of two sites that a file could give, 17 is the one
-- refusal.
use Prim.Native.Nat.{ℕ, ◌≤◌, ◌<◌}
use mathlib.Core.Path.{◌≡◌, refl, ap, ◌∙◌}
use mathlib.Core.Bool.{false, false≢true}
use mathlib.Core.List.{List}
use mathlib.Core.Logic.{◌⊎◌, inl, inr, ⊎_elim}
use native.Mathlib.Omega.{arith}
use lib.Dec.{ltb}
use lib.ListN.{length, take}
use Rattle.loops.proofs.Cases.{by_test}
use Rattle.loops.proofs.AnyLaws.{neither}
use Rattle.std.specs.Prelude.{Option, None, Result, Ok, Err, IfOk, IsOk, IsOkAnd, is_ok}
use Rattle.refusals.specs.declared.Refusal.{Refusal}
use Rattle.refusals.specs.declared.Refusal.TheVariants.{SmallBuffer, TooManyEntries}
use Rattle.output.specs.Output.{answer_of}
use Rattle.ranges.specs.declared.Section.TheVariants.{Timings}
use Rattle.ranges.specs.Sections.{greatest_of}
use Rattle.site.specs.declared.Site.{Site}
use Rattle.site.specs.Reading.{longest_file, read_of}
use Rattle.site.specs.Record.{spoilt_of, spoilt_site}
use Rattle.site.specs.Writing.{bytes_of, refusal_of, written_of, out_of}
use Rattle.joining.specs.declared.PlanList.{PlanList}
use Rattle.joining.specs.Joining.{spoilt_list}
use Rattle.joining.specs.Decided.{with_list}
use Rattle.joining.proofs.AnswerLaws.{filed_refusal}
use Rattle.joining.proofs.SameTicks.{still_sound}
use Rattle.join_plans.specs.JoinedSite.{plan_of, joined_plans, joined_site, join_written, join_out}

pub plan_sound : (x : Site) → spoilt_site x ≡ false → spoilt_list (plan_of x) ≡ false
unfolding spoilt_site
plan_sound x h = (neither _ _ (neither (spoilt_of Timings (greatest_of Timings) x.timings) _ h).1).0

-- Where nothing refuses before, 11 is the one refusal.
small_or_not : (text d : List ℕ) → IsOk (answer_of None text d) ⊎ (answer_of None text d ≡ Err SmallBuffer)
unfolding answer_of
small_or_not text d = by_test (ltb (length d) (length text)) (λ t. inr (rw t refl)) (λ f. inl (rw f refl))

module _ (x works : Site) (d : List ℕ) where
  -- What `write` promises, of an answer and a buffer.
  abbrev pub Promised : Result ℕ Refusal → List ℕ → Type 0
  Promised r out =
      (r ≡ join_written x works d)
      × ((out ≡ join_out x works d)
      × (IfOk r (λ count. IsOkAnd (joined_site x works) (λ y. read_of (take count out) ≡ Ok y))
      × (spoilt_site x ≡ false → spoilt_site works ≡ false → longest_file ≤ length d → IsOk r ⊎ (r ≡ Err TooManyEntries))))

  same_refusal : (a b : Refusal) (r : Result PlanList Refusal) → r ≡ Err a → r ≡ Err b → a ≡ b
  same_refusal a b r e f = cc

  no_list : (a : Refusal) (r : Result PlanList Refusal) → r ≡ Err a → IsOk r → ⊥
  no_list a r e h = let y = rw e at h in absurd (false≢true y)

  pub refused : (refusal : Refusal) → joined_plans x works ≡ Err refusal → Promised (Err refusal) d
  unfolding joined_site
  refused refusal e =
      rw e (
        refl,
        (
          refl,
          (
            tt,
            (λ s t l.
                ⊎_elim (λ z. absurd (no_list refusal _ e z)) (λ z. inr (ap Err (same_refusal _ _ _ e z)))
                (filed_refusal (plan_of x) (plan_of works) (record { of_first = plan_sound x s; of_second = plan_sound works t }))),
          ),
        ),
      )

  pub written : (list : PlanList) → joined_plans x works ≡ Ok list → spoilt_list list ≡ false → (r : Result ℕ Refusal) (out : List ℕ)
      → r ≡ written_of (with_list x list) d
      → out ≡ out_of (with_list x list) d
      → IfOk r (λ count. read_of (take count out) ≡ Ok (with_list x list))
      → (r ≡ Err SmallBuffer → length d < longest_file)
      → Promised r out
  unfolding joined_site
  written list e filed r out a b back room =
      rw e (
        a,
        (
          b,
          (
            back,
            (λ s t l.
                let none : refusal_of (with_list x list) ≡ None = rw (still_sound x list filed s) refl in
                let is : r ≡ answer_of None (bytes_of (with_list x list)) d = a ∙ ap (λ (k : Option Refusal). answer_of k (bytes_of (with_list x list)) d) none in
                ⊎_elim (λ k. inl (ap is_ok is ∙ k)) (λ k. let m = room (is ∙ k) in absurd (omega arith)) (small_or_not (bytes_of (with_list x list)) d)),
          ),
        ),
      )
