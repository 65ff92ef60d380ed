-- Records in turn: what is left of a run, at each of them.
use Prim.Native.Nat.{ℕ, ◌+◌, ◌*◌, ◌-◌, ◌≤◌, ◌<◌}
use mathlib.Core.Path.{◌≡◌, refl, sym, ◌∙◌, ap, ap₂}
use mathlib.Core.Bool.{false}
use mathlib.Core.List.{List, [], ◌∷◌}
use native.Mathlib.Omega.{arith}
use native.Mathlib.Nat.{zero-mul, suc-mul}
use native.Mathlib.Numerals.{add-one}
use Rattle.std.specs.Prelude.{Option, None}
use Rattle.std.specs.Option.{is_none}
use Rattle.refusals.specs.declared.Refusal.{Refusal}
use lib.ListN.{length, take, drop, length-drop, length-take, length-append}
use lib.Seq.{sets, length-sets, drop-drop}
use borrow.Rule.Slice.PartMut.{put_mid}
use Rattle.loops.proofs.Cases.{by_test}
use Rattle.site.specs.declared.Site.{Site}
use Rattle.site.specs.Named.{metered_lanes, mainline_lanes, shape_of}
use Rattle.state.specs.declared.State.{State}
use Rattle.state.specs.State.{state_spoilt}
use Rattle.state.proofs.StateLaws.{good_state}
use Rattle.output.proofs.SetsLaws.{over_front, sets_append}
use Rattle.tick_record.specs.Record.{record_size}
use Rattle.tick_record.proofs.RecordLaws.{some_record}
use Rattle.many_ticks.specs.Many.{records_at, ticked_at, shown_bytes, record_refusal, Run, ends_with, behind_tick, run_from, ran_of, output_of}
use Rattle.many_ticks.proofs.PartLaws.{first_part, lend_back}
use Rattle.many_ticks.proofs.StepLaws.{none_is, not_none, taken, laid_length}

module _ (x : Site) where
  abbrev size : ℕ
  size = record_size (metered_lanes x) (mainline_lanes x)

  abbrev width : ℕ
  width = metered_lanes x + 1

  no_records : records_at x [] ≡ []
  unfolding records_at
  no_records = refl

  pub first_record : (b : List ℕ) → 0 < length b → records_at x b ≡ take size b ∷ records_at x (drop size b)
  unfolding records_at
  first_record b h = first_part size (omega (arith, some_record (metered_lanes x) (mainline_lanes x))) b h

  module _ (s : State) (room : ℕ) where
    -- At the end nothing is left to do;
    pub at_end : (b : List ℕ) → length b ≡ 0 → run_from x s room (records_at x b) ≡ ends_with s None
    at_end [] h = rw no_records
    at_end (y ∷ b) h = absurd (omega arith)

    module _ (b : List ℕ) (more : 0 < length b) where
      -- a refused record ends the run;
      pub at_refused : (record_refusal x s room (take size b) ≡ None → ⊥) → run_from x s room (records_at x b) ≡ ends_with s (record_refusal x s room (take size b))
      at_refused e = rw (first_record b more, not_none _ e)

      -- behind an accepted one comes the run of the rest.
      pub at_accepted : record_refusal x s room (take size b) ≡ None
          → run_from x s room (records_at x b)
          ≡ behind_tick (shown_bytes (metered_lanes x) (ticked_at x s (take size b)).shown) (run_from x (ticked_at x s (take size b)).state (room - width) (records_at x (drop size b)))
      at_accepted e = rw (first_record b more, ap is_none e)

  -- No more is laid than there is room.
  pub laid_fits : (records : List (List ℕ)) (s : State) (room : ℕ) → length (run_from x s room records).laid ≤ room
  laid_fits [] s room = omega arith
  laid_fits (r ∷ records) s room =
      by_test (is_none (record_refusal x s room r))
      (λ e. let a = none_is _ e in
      let h = laid_fits records (ticked_at x s r).state (room - width) in
      let w = laid_length x s r room a in
      let t = (taken x s r room a).room_left in
      rw (e, length-append (shown_bytes (metered_lanes x) (ticked_at x s r).shown) (run_from x (ticked_at x s r).state (room - width) records).laid) (omega (arith, h, w, t)))
      (λ e. rw e (omega arith))

  -- So many bytes are laid as the accepted ticks show.
  pub laid_counted : (records : List (List ℕ)) (s : State) (room : ℕ) → length (run_from x s room records).laid ≡ (run_from x s room records).accepted * width
  laid_counted [] s room = sym (zero-mul width)
  laid_counted (r ∷ records) s room =
      by_test (is_none (record_refusal x s room r))
      (λ e. let h = laid_counted records (ticked_at x s r).state (room - width) in
      let w = laid_length x s r room (none_is _ e) in
      let run = run_from x (ticked_at x s r).state (room - width) records in
      let more : (run.accepted + 1) * width ≡ run.accepted * width + width = rw (add-one, suc-mul) (omega arith) in
      rw (e, length-append (shown_bytes (metered_lanes x) (ticked_at x s r).shown) run.laid) (omega (arith, h, w, more)))
      (λ e. rw e (sym (zero-mul width)))

  -- What a call has left to do, from this state with these bytes and this room, is what it had to do from the first, so many ticks and
  -- the bytes before this place apart.
  pub record Left (first : State) (records out₀ : List ℕ) (s : State) (from at accepted : ℕ) (out : List ℕ) : Type 0 where
    pub from_most : from ≤ length records
    pub at_most_lem : at ≤ length out₀
    pub accepted_most : accepted ≤ from
    pub long : length out ≡ length out₀
    pub good : state_spoilt s (shape_of x) ≡ false
    pub same_state : (run_from x s (length out₀ - at) (records_at x (drop from records))).state ≡ (run_from x first (length out₀) (records_at x records)).state
    pub same_refusal : (run_from x s (length out₀ - at) (records_at x (drop from records))).refusal ≡ (run_from x first (length out₀) (records_at x records)).refusal
    pub counted : (run_from x s (length out₀ - at) (records_at x (drop from records))).accepted + accepted ≡ (run_from x first (length out₀) (records_at x records)).accepted
    pub laid : sets out at (run_from x s (length out₀ - at) (records_at x (drop from records))).laid ≡ sets out₀ 0 (run_from x first (length out₀) (records_at x records)).laid

  module _ (first : State) (records out₀ : List ℕ) where
    abbrev whole : Run
    whole = run_from x first (length out₀) (records_at x records)

    pub left_at_start : state_spoilt first (shape_of x) ≡ false → Left first records out₀ first 0 0 0 out₀
    left_at_start ok =
        let e : length out₀ - 0 ≡ length out₀ = omega arith in
        record {
          from_most = omega arith;
          at_most_lem = omega arith;
          accepted_most = omega arith;
          long = refl;
          good = ok;
          same_state = rw e;
          same_refusal = rw e;
          counted = rw e (omega arith);
          laid = rw e;
        }

    -- Where nothing of it is accepted any more, it has come to what it comes to.
    pub left_ends : (s : State) (from at accepted : ℕ) (refusal : Option Refusal) (out : List ℕ) → Left first records out₀ s from at accepted out
        → run_from x s (length out₀ - at) (records_at x (drop from records)) ≡ ends_with s refusal
        → (record { refusal = refusal; accepted = accepted; state = s } ≡ ran_of whole) × (out ≡ output_of whole out₀)
    unfolding ran_of output_of
    left_ends s from at accepted refusal out l e =
        let a : s ≡ whole.state = sym (ap (λ (r : Run). r.state) e) ∙ l.same_state in
        let b : refusal ≡ whole.refusal = sym (ap (λ (r : Run). r.refusal) e) ∙ l.same_refusal in
        let c : accepted ≡ whole.accepted = omega (arith, ap (λ (r : Run). r.accepted) e, l.counted) in (
          rw (a, b, c),
          ap (λ (r : Run). sets out at r.laid) (sym e) ∙ l.laid ∙ over_front whole.laid out₀ (laid_fits (records_at x records) first (length out₀)),
        )

    -- A turn: the next record is accepted, and its bytes are laid at this place.
    pub left_turn : (s : State) (from at accepted : ℕ) (out : List ℕ) → Left first records out₀ s from at accepted out
        → from < length records
        → (t : record_refusal x s (length out₀ - at) (take size (drop from records)) ≡ None)
        → (after : State) → after ≡ (ticked_at x s (take size (drop from records))).state
        → (end : ℕ) → end ≡ from + size
        → (wide : ℕ) → wide ≡ width
        → (ys : List ℕ) → ys ≡ sets (take (length out - at) (drop at out)) 0 (shown_bytes (metered_lanes x) (ticked_at x s (take size (drop from records))).shown)
        → Left first records out₀ after end (at + wide) (accepted + 1) (put_mid at (length out - at) out ys)
    left_turn s from at accepted out l more t after same end far wide w ys e =
        let r = take size (drop from records) in
        let b : length (drop from records) ≡ length records - from = length-drop from records in
        let shown = shown_bytes (metered_lanes x) (ticked_at x s r).shown in
        let k = taken x s r (length out₀ - at) t in
        let n = laid_length x s r (length out₀ - at) t in
        let fits : at + width ≤ length out = omega (arith, k.room_left, l.long, l.at_most_lem) in
        let next = at_accepted s (length out₀ - at) (drop from records) (omega (arith, b)) t in
        let room : length out₀ - (at + wide) ≡ length out₀ - at - width = omega (arith, w) in
        let behind : drop end records ≡ drop size (drop from records) = ap (λ (j : ℕ). drop j records) far ∙ sym (drop-drop size from records) in
        let cut : length r ≤ length (drop from records) = omega (arith, length-take size (drop from records)) in
        let back : put_mid at (length out - at) out ys ≡ sets out at shown = ap (put_mid at (length out - at) out) e ∙ lend_back out shown at (omega (arith, n, fits)) in
        record {
          from_most = omega (arith, k.whole, cut, b, far);
          at_most_lem = omega (arith, k.room_left, l.at_most_lem, w);
          accepted_most = omega (arith, l.accepted_most, some_record (metered_lanes x) (mainline_lanes x), far);
          long = ap length back ∙ length-sets out at shown ∙ l.long;
          good = ap (λ (q : State). state_spoilt q (shape_of x)) same ∙ good_state (ticked_at x s r).state (shape_of x) k.kept;
          same_state = rw (room, behind, same) (sym (ap (λ (r : Run). r.state) next) ∙ l.same_state);
          same_refusal = rw (room, behind, same) (sym (ap (λ (r : Run). r.refusal) next) ∙ l.same_refusal);
          counted = rw (room, behind, same) (omega (arith, ap (λ (r : Run). r.accepted) next, l.counted));
          laid = rw (room, behind, same)
              (ap₂ (λ (d : List ℕ) (j : ℕ). sets d (at + j) (run_from x (ticked_at x s r).state (length out₀ - at - width) (records_at x (drop size (drop from records)))).laid) back w
              ∙ sets_append out at (at + width) shown (run_from x (ticked_at x s r).state (length out₀ - at - width) (records_at x (drop size (drop from records)))).laid (omega (arith, n))
              ∙ ap (λ (r : Run). sets out at r.laid) (sym next)
              ∙ l.laid);
        }
