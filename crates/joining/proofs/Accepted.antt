-- What an accepted join tells of the two lists and of the list given.
use Prim.Native.Nat.{◌≤◌}
use mathlib.Core.Path.{◌≡◌, refl}
use mathlib.Core.Bool.{false, ◌||◌, false≢true}
use mathlib.Core.List.{List}
use borrow.Author.Tests.{ltb-false}
use lib.Dec.{ltb}
use lib.ListN.{length}
use Rattle.loops.proofs.Cases.{by_test}
use Rattle.loops.proofs.AnyLaws.{neither}
use Rattle.plan.specs.declared.Entry.{Entry}
use Rattle.std.specs.Prelude.{Ok, Err}
use Rattle.refusals.specs.declared.Refusal.{Refusal}
use Rattle.refusals.specs.declared.Refusal.TheVariants.{SpoiltSite, TooManyEntries}
use Rattle.joining.specs.declared.PlanList.{PlanList}
use Rattle.joining.specs.Joining.{entries_of, joined_entries, list_of, spoilt_list, joined_of}
use Rattle.joining.specs.EndToEnd.{IsAccepted}

module _ (first second : PlanList) where
  abbrev pub joined_ones : List Entry
  joined_ones = joined_entries (entries_of first) (entries_of second)

  pub record Accepted : Type 0 where
    pub first_sound : spoilt_list first ≡ false
    pub second_sound : spoilt_list second ≡ false
    pub few : length joined_ones ≤ 16
    pub given : joined_of first second ≡ Ok (list_of joined_ones)

  -- Each join is accepted or refused.
  pub accepted_or_refused : {A : Type 0} → (Accepted → A) → ((refusal : Refusal) → joined_of first second ≡ Err refusal → A) → A
  unfolding joined_of
  accepted_or_refused f g =
      by_test (spoilt_list first || spoilt_list second)
      (λ s. g SpoiltSite (rw s refl))
      (λ s. by_test (ltb 16 (length joined_ones))
      (λ t. g TooManyEntries (rw (s, t) refl))
      (λ t. let n = neither (spoilt_list first) (spoilt_list second) s in
      f (record { first_sound = n.0; second_sound = n.1; few = ltb-false 16 (length joined_ones) t; given = rw (s, t) refl })))

  pub accepted : IsAccepted first second → Accepted
  accepted h = accepted_or_refused (λ a. a) (λ refusal e. absurd (false≢true (rw e at h)))
