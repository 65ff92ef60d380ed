-- 14, 13, and then the records.
use Prim.Native.Nat.{ℕ, ◌+◌, ◌*◌, ◌≤◌}
use mathlib.Core.Path.{◌≡◌, sym, ◌∙◌, ap}
use mathlib.Core.Bool.{false}
use mathlib.Core.List.{List}
use native.Mathlib.Omega.{arith}
use native.Mathlib.Nat.{zero-mul}
use lib.ListN.{length}
use Rattle.std.specs.Prelude.{Some}
use Rattle.refusals.specs.declared.Refusal.{Refusal}
use Rattle.refusals.specs.declared.Refusal.TheVariants.{SmallBuffer, SpoiltState, SpoiltSite}
use Rattle.site.specs.declared.Site.{Site}
use Rattle.site.specs.Record.{spoilt_site}
use Rattle.site.specs.Named.{metered_lanes, shape_of}
use Rattle.state.specs.declared.State.{State}
use Rattle.state.specs.State.{state_spoilt}
use Rattle.many_ticks.specs.Many.{Run, ends_with, records_at, run_from, run_of, ran_of, output_of}
use Rattle.many_ticks.specs.Singly.{Singly}
use Rattle.many_ticks.specs.Blocks.{InBlocks}
use Rattle.many_ticks.proofs.RunLaws.{laid_fits, laid_counted}
use Rattle.many_ticks.proofs.SinglyLaws.{call_is, call_singly}
use Rattle.many_ticks.proofs.BlockLaws.{in_blocks}
use Rattle.many_ticks.proofs.RoomLaws.{room_enough}
use Rattle.group.specs.declared.indication.Indications.{Indications}
use Rattle.tick.specs.Waiting.{WaitingBound}
use Rattle.tick.specs.Preemption.{PreemptionClears}
use Rattle.tick.specs.Serving.{BusServed, BusHeld}
use Rattle.tick.proofs.ServingLaws.{over_lists}
use Rattle.many_ticks.specs.declared.Ran.{Ran}
use Rattle.many_ticks.proofs.run.Goals as goal
use Rattle.many_ticks.proofs.run.Goals.{After-spoilt-2, Else-spoilt}

-- What holds of every call, whatever it comes to.
abbrev Laws : Site → State → List ℕ → List ℕ → Type 0
Laws x s records out =
    (spoilt_site x ≡ false → state_spoilt s (shape_of x) ≡ false → (shown : Indications) → Singly x (record { state = s; shown = shown }) (records_at x records) (length out) (run_of x s records (length out)))
    × (InBlocks x s records out × (WaitingBound x × (PreemptionClears x × (BusServed x × BusHeld x))))

laws : (x : Site) (s : State) (records out : List ℕ) → Laws x s records out
laws x s records out = ((λ ok good shown. call_singly x s shown records (length out) ok good), (in_blocks x s records out, over_lists x))

-- And of what it answers: 11 only where the output is shorter than the records.
room : (x : Site) (s : State) (records out : List ℕ) (r : Ran) → r ≡ ran_of (run_of x s records (length out)) → length records ≤ length out → r.refusal ≡ Some SmallBuffer → ⊥
unfolding ran_of
room x s records out r is enough z = room_enough x s records (length out) enough (sym (ap (λ (a : Ran). a.refusal) is) ∙ z)

-- A call that ends before the first record gives the state that came and touches no byte.
module _ (x : Site) (s : State) (records out : List ℕ) (refusal : Refusal) (r : Ran)
    (given : r ≡ ran_of (ends_with s (Some refusal))) (is : run_of x s records (length out) ≡ ends_with s (Some refusal)) where
  none : r.accepted * (metered_lanes x + 1) ≡ 0
  unfolding ran_of
  none = ap (λ (a : Ran). a.accepted * (metered_lanes x + 1)) given ∙ zero-mul (metered_lanes x + 1)

  ends : (r ≡ ran_of (run_of x s records (length out)))
      × ((out ≡ output_of (run_of x s records (length out)) out)
      × ((state_spoilt s (shape_of x) ≡ false → state_spoilt r.state (shape_of x) ≡ false)
      × (((length (run_of x s records (length out)).laid ≡ r.accepted * (metered_lanes x + 1)) × (r.accepted * (metered_lanes x + 1) ≤ length out)) × ((length records ≤ length out → r.refusal ≡ Some SmallBuffer → ⊥) × Laws x s records out))))
  unfolding ran_of output_of
  ends = (
    given ∙ ap ran_of (sym is),
    (
      ap (λ (run : Run). output_of run out) (sym is),
      (
        (λ ok. ap (λ (a : Ran). state_spoilt a.state (shape_of x)) given ∙ ok),
        ((ap (λ (run : Run). length run.laid) is ∙ sym none, omega (arith, none)), (room x s records out r (given ∙ ap ran_of (sym is)), laws x s records out)),
      ),
    ),
  )

-- Past the tests site and state are in range.
site-good : (c : Else-spoilt) → spoilt_site c.args.site ≡ false
site-good c = sym c.spoilt.ensures ∙ c.if-spoilt.false

state_is : (c : After-spoilt-2) → let a = c.args in c.spoilt-2.result ≡ state_spoilt a.state (shape_of a.site)
state_is c = c.spoilt-2.ensures ∙ rw c.shape_of.ensures

pub returns-then-spoilt : goal.returns-then-spoilt
unfolding run_of
returns-then-spoilt c =
    let a = c.args in
    let all = ends a.site a.state a.records.now a.out.now SpoiltSite _ c.stopped.ensures (rw (sym c.spoilt.ensures ∙ c.if-spoilt.true)) in record { is = all.0; output = all.1.0; kept = all.1.1.0; long = all.1.1.1.0; room = all.1.1.1.1.0; singly = all.1.1.1.1.1.0; blocks = all.1.1.1.1.1.1.0; waits = all.1.1.1.1.1.1.1.0; clears = all.1.1.1.1.1.1.1.1.0; serves = all.1.1.1.1.1.1.1.1.1.0; holds = all.1.1.1.1.1.1.1.1.1.1 }

pub returns-then-spoilt-2 : goal.returns-then-spoilt-2
unfolding run_of
returns-then-spoilt-2 c =
    let a = c.args in
    let all = ends a.site a.state a.records.now a.out.now SpoiltState _ c.stopped-then-spoilt-2.ensures
    (rw (site-good (goal.at.returns-then-spoilt-2 c).Else-spoilt, sym (state_is (goal.at.returns-then-spoilt-2 c).After-spoilt-2) ∙ c.if-spoilt-2.true)) in record { is = all.0; output = all.1.0; kept = all.1.1.0; long = all.1.1.1.0; room = all.1.1.1.1.0; singly = all.1.1.1.1.1.0; blocks = all.1.1.1.1.1.1.0; waits = all.1.1.1.1.1.1.1.0; clears = all.1.1.1.1.1.1.1.1.0; serves = all.1.1.1.1.1.1.1.1.1.0; holds = all.1.1.1.1.1.1.1.1.1.1 }

pub run_all-requires : goal.run_all-requires
run_all-requires c = (site-good (goal.at.run_all-requires c).Else-spoilt, sym (state_is (goal.at.run_all-requires c).After-spoilt-2) ∙ c.if-spoilt-2.false)

pub returns : goal.returns
unfolding ran_of
returns c =
    let a = c.args in
    let r = c.run_all.ensures in
    let out = a.out.now in
    let records = records_at a.site a.records.now in
    let is = call_is a.site a.state a.records.now (length out) (site-good (goal.at.returns c).Else-spoilt) (sym (state_is (goal.at.returns c).After-spoilt-2) ∙ c.if-spoilt-2.false) in
    let count : c.run_all.result.accepted ≡ (run_from a.site a.state (length out) records).accepted = ap (λ (q : Ran). q.accepted) r.is in
    let long : length (run_from a.site a.state (length out) records).laid ≡ c.run_all.result.accepted * (metered_lanes a.site + 1) =
    laid_counted a.site records a.state (length out) ∙ ap (λ (k : ℕ). k * (metered_lanes a.site + 1)) (sym count) in
    let is_whole = r.is ∙ ap ran_of (sym is) in
    let all = laws a.site a.state a.records.now out in
    record {
      is = is_whole;
      output = r.output ∙ ap (λ (run : Run). output_of run out) (sym is);
      kept = λ _. r.kept;
      long = (ap (λ (run : Run). length run.laid) is ∙ long, rw long at (laid_fits a.site records a.state (length out)));
      room = room a.site a.state a.records.now out _ is_whole;
      singly = all.0;
      blocks = all.1.0;
      waits = all.1.1.0;
      clears = all.1.1.1.0;
      serves = all.1.1.1.1.0;
      holds = all.1.1.1.1.1;
    }
