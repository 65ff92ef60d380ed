-- A removal of the one in turn leaves three tries, and until the next accepted tick no call changes them, or the turn.
use Rattle.refusals.proofs.NoneLaws.{no_refusal, accepted_test, refused_test, some_none}
use Rattle.std.specs.Option.{is_none}
use Rattle.std.specs.Prelude.{Option, Some, None}
use Rattle.refusals.specs.declared.Refusal.{Refusal}
use Rattle.refusals.specs.declared.Refusal.TheVariants.{SpoiltState, BadNumber}
use Prim.Native.Nat.{ℕ, ◌+◌}
use mathlib.Core.Path.{◌≡◌, sym, subst}
use mathlib.Core.Bool.{true, false}
use mathlib.Core.List.{List, [], ◌∷◌}
use native.Mathlib.Omega.{arith}
use borrow.Author.Tests.{ne_eqb}
use lib.Dec.{eqb}
use Rattle.loops.proofs.Cases.{by_test}
use Rattle.desk.specs.declared.Desk.{Desk}
use Rattle.desk.specs.Desk.{enrolled_at, refusal_of, with_cabinet, tries_without, without_cabinet, enrol_of, remove_of}
use Rattle.desk.specs.Calls.{Call, enrols, removes, ticks, onward, is_accepted_tick, desk_after, accepted_ticks}
use Rattle.desk.specs.Removed.{NextPasses}
use Rattle.desk.proofs.CallLaws.{refused_stays}
use Rattle.desk.proofs.Words.{turned}

-- The one in turn is this one, and its tries are up.
pub record Up (from : ℕ) (d : Desk) : Type 0 where
  pub turn : d.turn ≡ from
  pub tries : d.tries ≡ 3

with_up : (from : ℕ) (d : Desk) (k : ℕ) → Up from d → Up from (with_cabinet d k)
unfolding with_cabinet
with_up from d k up = by_test (enrolled_at d k) (λ e. rw e up) (λ e. rw e (record { turn = up.turn; tries = up.tries }))

still_three : (d : Desk) (k : ℕ) → d.tries ≡ 3 → tries_without d k ≡ 3
unfolding tries_without
still_three d k three =
    let some = ne_eqb d.tries 0 (λ z. omega (arith, z, three)) in
    by_test (eqb k d.turn) (λ e. rw (e, some)) (λ e. rw e three)

without_up : (from : ℕ) (d : Desk) (k : ℕ) → Up from d → Up from (without_cabinet d k)
unfolding without_cabinet
without_up from d k up =
    by_test (enrolled_at d k) (λ e. rw e (record { turn = up.turn; tries = still_three d k up.tries })) (λ e. rw e up)

keeps : (from : ℕ) (d : Desk) (call : Call) → is_accepted_tick d call ≡ false → Up from d → Up from (onward d call)
unfolding is_accepted_tick enrol_of remove_of
keeps from d (enrols k) e up = by_test (is_none (refusal_of d 31 k)) (λ f. rw f (with_up from d k up)) (λ f. rw f up)
keeps from d (removes k) e up = by_test (is_none (refusal_of d 31 k)) (λ f. rw f (without_up from d k up)) (λ f. rw f up)
keeps from d (ticks answer) e up = subst (Up from) (sym (refused_stays d (ticks answer) e)) up

reaches : (from : ℕ) (d : Desk) (calls : List Call) → accepted_ticks d calls ≡ 0 → Up from d → Up from (desk_after d calls)
reaches from d [] l up = up
reaches from d (call ∷ calls) l up =
    by_test (is_accepted_tick d call)
    (λ e. let one : 1 + accepted_ticks (onward d call) calls ≡ 0 = rw e at l in absurd (omega arith))
    (λ e. let on : 0 + accepted_ticks (onward d call) calls ≡ 0 = rw e at l in reaches from (onward d call) calls (omega arith) (keeps from d call e up))

pub next_passes : (from : ℕ) (d : Desk) → Up from d → NextPasses from d
unfolding NextPasses
next_passes from d up calls l =
    let there = reaches from d calls l up in
    (there.turn, λ answer k e enrolled. (turned (desk_after d calls) answer e).third k enrolled there.tries)
