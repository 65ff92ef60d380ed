-- A run is single calls of the tick on its records, up to the first that is refused: an accepted record's call is accepted, and both go on
-- from the same state, with the same bytes shown. By induction on the records.
use Prim.Native.Nat.{ℕ, suc, ◌+◌, ◌-◌}
use mathlib.Core.Path.{◌≡◌, refl, ◌∙◌, ap, subst}
use mathlib.Core.Bool.{true, false}
use mathlib.Core.List.{List, [], ◌∷◌, ◌++◌}
use native.Mathlib.Omega.{arith}
use native.Mathlib.Numerals.{add-one}
use Rattle.std.specs.Prelude.{None}
use Rattle.std.specs.Option.{is_none}
use lib.ListN.{length, length-append}
use Rattle.loops.proofs.Cases.{by_test}
use Rattle.site.specs.declared.Site.{Site}
use Rattle.site.specs.Record.{spoilt_site}
use Rattle.site.specs.Named.{metered_lanes, shape_of}
use Rattle.group.specs.declared.indication.Indications.{Indications}
use Rattle.state.specs.declared.State.{State}
use Rattle.state.specs.State.{state_spoilt}
use Rattle.tick.specs.declared.Ticked.{Ticked}
use Rattle.tick.specs.Course.{Call, Course, answer_to, is_accepted, onward}
use Rattle.many_ticks.specs.Many.{records_at, input_at, ticked_at, shown_bytes, record_refusal, Run, ends_with, behind_tick, run_from, run_of}
use Rattle.many_ticks.specs.Singly.{Singly}
use Rattle.many_ticks.proofs.StepLaws.{none_is, some_is, taken, ticked_refusal, laid_length}

-- The single call of a record,
abbrev call_at : Site → List ℕ → Call
call_at x r = record { site = x; input = input_at x r }

-- its answer, and the state that it leaves.
module _ (x : Site) (c : Course) (r : List ℕ) where
  answer_is : answer_to c (call_at x r) ≡ ticked_at x c.state r
  unfolding answer_to ticked_at
  answer_is = refl

  state_is : (onward c (call_at x r)).state ≡ (ticked_at x c.state r).state
  unfolding onward
  state_is = ap (λ (t : Ticked). t.state) answer_is

  -- Where the record is accepted, so is the call.
  is_accepted_lem : (room : ℕ) → record_refusal x c.state room r ≡ None → is_accepted c (call_at x r) ≡ true
  unfolding is_accepted
  is_accepted_lem room e = rw answer_is (ap is_none (ticked_refusal x c.state r ∙ (taken x c.state r room e).no_check))

-- Without records there is nothing to do;
singly_end : (x : Site) (c : Course) (room : ℕ) → Singly x c [] room (ends_with c.state None)
singly_end x c room = record {
  accepted = refl;
  state = refl;
  laid = refl;
  at_end = λ _. refl;
  more = λ f. absurd (f refl);
  refused = λ f. absurd (f refl);
}

module _ (x : Site) (c : Course) (r : List ℕ) (records : List (List ℕ)) (room : ℕ) where
  -- a refused record ends the run;
  singly_refused : (record_refusal x c.state room r ≡ None → ⊥) → Singly x c (r ∷ records) room (ends_with c.state (record_refusal x c.state room r))
  singly_refused f =
      let e : room - 0 ≡ room = omega arith in
      record {
        accepted = refl;
        state = refl;
        laid = refl;
        at_end = λ z. absurd (f z);
        more = λ _. omega arith;
        refused = λ _. rw e;
      }

  -- an accepted one is a single call before those of the rest.
  singly_accepted : (rest : Run) → record_refusal x c.state room r ≡ None → Singly x (onward c (call_at x r)) records (room - (metered_lanes x + 1)) rest
      → Singly x c (r ∷ records) room (behind_tick (shown_bytes (metered_lanes x) (ticked_at x c.state r).shown) rest)
  singly_accepted rest e h =
      let shown = shown_bytes (metered_lanes x) (ticked_at x c.state r).shown in
      let left : room - length (shown ++ rest.laid) ≡ room - (metered_lanes x + 1) - length rest.laid
      = omega (arith, length-append shown rest.laid, laid_length x c.state r room e) in
      let one = add-one rest.accepted in
      record {
        accepted = rw (one, is_accepted_lem x c r room e) (omega (arith, h.accepted));
        state = rw one h.state;
        laid = rw (one, answer_is x c r, h.laid);
        at_end = λ z. rw one (ap suc (h.at_end z));
        more = λ f. omega (arith, h.more f);
        refused = λ f. rw (left, one) (h.refused f);
      }

-- So it is record by record.
pub run_singly : (x : Site) (c : Course) (records : List (List ℕ)) (room : ℕ) → Singly x c records room (run_from x c.state room records)
run_singly x c [] room = singly_end x c room
run_singly x c (r ∷ records) room =
    let after = onward c (call_at x r) in
    let left = room - (metered_lanes x + 1) in
    let rest = subst (λ (s : State). Singly x after records left (run_from x s left records)) (state_is x c r) (run_singly x after records left) in
    by_test (is_none (record_refusal x c.state room r))
    (λ e. rw e (singly_accepted x c r records room (run_from x (ticked_at x c.state r).state left records) (none_is _ e) rest))
    (λ e. rw e (singly_refused x c r records room (some_is _ e)))

-- A call at a site and from a state in range is a run.
pub call_is : (x : Site) (s : State) (bytes : List ℕ) (room : ℕ) → spoilt_site x ≡ false → state_spoilt s (shape_of x) ≡ false
    → run_of x s bytes room ≡ run_from x s room (records_at x bytes)
unfolding run_of
call_is x s bytes room ok good = rw (ok, good)

-- So the call comes to what single calls on its records come to, whatever was shown before.
pub call_singly : (x : Site) (s : State) (shown : Indications) (bytes : List ℕ) (room : ℕ) → spoilt_site x ≡ false → state_spoilt s (shape_of x) ≡ false
    → Singly x (record { state = s; shown = shown }) (records_at x bytes) room (run_of x s bytes room)
call_singly x s shown bytes room ok good =
    rw (call_is x s bytes room ok good) (run_singly x (record { state = s; shown = shown }) (records_at x bytes) room)
