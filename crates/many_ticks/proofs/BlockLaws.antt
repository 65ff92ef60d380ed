-- A call on two blocks, the first of which refuses nothing, is two calls in a row: the records of the first block are whole then, so that the
-- second begins at a record, and the second call finds the state in range and the output that the first left.
use Prim.Native.Nat.{ℕ, zero, suc, ◌+◌, ◌-◌, ◌≤◌, ◌<◌}
use mathlib.Core.Path.{◌≡◌, refl, sym, ◌∙◌, ap}
use mathlib.Core.Bool.{false}
use mathlib.Core.List.{List, [], ◌∷◌, ◌++◌, append_assoc}
use native.Mathlib.Omega.{arith}
use native.Mathlib.Nat.{zero-add}
use Rattle.std.specs.Prelude.{None}
use Rattle.std.specs.Option.{is_none}
use Rattle.std.proofs.lemmas.Option.{none-some}
use lib.ListN.{length, take, drop, length-take, length-drop, length-append}
use lib.Seq.{take-append-le, drop-append-le, take-append_seam, drop-append_seam, drop-drop}
use Rattle.loops.proofs.Cases.{by_test}
use Rattle.site.specs.declared.Site.{Site}
use Rattle.site.specs.Record.{spoilt_site}
use Rattle.site.specs.Named.{metered_lanes, mainline_lanes, shape_of}
use Rattle.state.specs.declared.State.{State}
use Rattle.state.specs.State.{state_spoilt}
use Rattle.state.proofs.StateLaws.{good_state}
use Rattle.tick_record.specs.Record.{record_size}
use Rattle.tick_record.proofs.RecordLaws.{some_record}
use Rattle.many_ticks.specs.Many.{records_at, ticked_at, shown_bytes, record_refusal, Run, behind_tick, run_from, run_of, output_of}
use Rattle.many_ticks.specs.Blocks.{run_on, rest_of, first_of, second_of, InBlocks}
use Rattle.many_ticks.proofs.StepLaws.{none_is, some_is, taken, laid_length}
use Rattle.many_ticks.proofs.RunLaws.{at_end, at_refused, at_accepted}
use Rattle.many_ticks.proofs.SinglyLaws.{call_is}

module _ (x : Site) where
  -- The bytes of a record, and those laid for a tick.
  abbrev size : ℕ
  size = record_size (metered_lanes x) (mainline_lanes x)

  abbrev width : ℕ
  width = metered_lanes x + 1

  -- From a state in range a run leaves one in range.
  run_kept : (records : List (List ℕ)) (s : State) (room : ℕ) → state_spoilt s (shape_of x) ≡ false
      → state_spoilt (run_from x s room records).state (shape_of x) ≡ false
  run_kept [] s room good = good
  run_kept (r ∷ records) s room good =
      let after = (ticked_at x s r).state in
      by_test (is_none (record_refusal x s room r))
      (λ e. rw e (run_kept records after (room - width) (good_state after (shape_of x) (taken x s r room (none_is _ e)).kept)))
      (λ e. rw e good)

  -- A block of which nothing is refused: its first record is accepted,
  first_accepted : (s : State) (room : ℕ) (a : List ℕ) → 0 < length a → (run_from x s room (records_at x a)).refusal ≡ None
      → record_refusal x s room (take size a) ≡ None
  first_accepted s room a more none =
      by_test (is_none (record_refusal x s room (take size a)))
      (λ e. none_is _ e)
      (λ e. rw (at_refused x s room a more (some_is _ e)) at none)

  -- and whole, so that the block is as long.
  first_whole : (s : State) (room : ℕ) (a : List ℕ) → record_refusal x s room (take size a) ≡ None → size ≤ length a
  first_whole s room a ok = omega (arith, (taken x s (take size a) room ok).whole, length-take size a)

  -- A run, and behind it that of the next block: from the state that it leaves, in the room that is left.
  abbrev go_on : List ℕ → ℕ → Run → Run
  go_on b room run = run_on run (run_from x run.state (room - length run.laid) (records_at x b))

  module _ (b : List ℕ) where
    -- Behind an empty block;
    on_end : (s : State) (room : ℕ) → run_from x s room (records_at x b) ≡ go_on b room (run_from x s room (records_at x []))
    on_end s room = let e : room - 0 ≡ room = omega arith in rw (at_end x s room [] refl, e, zero-add)

    -- with one more tick before it, and so much less room;
    on_behind : (shown : List ℕ) (run : Run) (room : ℕ) → length shown ≡ width
        → behind_tick shown (go_on b (room - width) run) ≡ go_on b room (behind_tick shown run)
    on_behind shown run room w =
        let rest = run_from x run.state (room - width - length run.laid) (records_at x b) in
        let left : room - length (shown ++ run.laid) ≡ room - width - length run.laid = omega (arith, length-append shown run.laid) in
        let count : run.accepted + 1 + rest.accepted ≡ run.accepted + rest.accepted + 1 = omega arith in
        rw (left, count, append_assoc shown run.laid rest.laid)

    -- behind an accepted record, where it is so behind the rest of the block.
    on_accepted : (a : List ℕ) (s : State) (room : ℕ) (more : 0 < length a) (ok : record_refusal x s room (take size a) ≡ None)
        → let after = (ticked_at x s (take size a)).state in
        let rest = drop size a in
        run_from x after (room - width) (records_at x (rest ++ b)) ≡ go_on b (room - width) (run_from x after (room - width) (records_at x rest))
        → run_from x s room (records_at x (a ++ b)) ≡ go_on b room (run_from x s room (records_at x a))
    on_accepted a s room more ok h =
        let r = take size a in
        let rest = drop size a in
        let shown = shown_bytes (metered_lanes x) (ticked_at x s r).shown in
        let whole = first_whole s room a ok in
        let same : take size (a ++ b) ≡ r = take-append-le size a b whole in
        let behind : drop size (a ++ b) ≡ rest ++ b = drop-append-le size a b whole in
        let more-on : 0 < length (a ++ b) = omega (arith, length-append a b) in
        at_accepted x s room (a ++ b) more-on (rw same ok)
        ∙ rw (same, behind, h) (on_behind shown (run_from x (ticked_at x s r).state (room - width) (records_at x rest)) room (laid_length x s r room ok))
        ∙ ap (go_on b room) (sym (at_accepted x s room a more ok))

    -- So it is behind each block of which nothing is refused, of k bytes at the most.
    run_on_lem : (k : ℕ) (a : List ℕ) (s : State) (room : ℕ) → length a ≤ k → (run_from x s room (records_at x a)).refusal ≡ None
        → run_from x s room (records_at x (a ++ b)) ≡ go_on b room (run_from x s room (records_at x a))
    run_on_lem zero [] s room most none = on_end s room
    run_on_lem zero (y ∷ a) s room most none = absurd (omega arith)
    run_on_lem (suc k) [] s room most none = on_end s room
    run_on_lem (suc k) (y ∷ a) s room most none =
        let more : 0 < length (y ∷ a) = omega arith in
        let ok = first_accepted s room (y ∷ a) more none in
        let shorter : length (drop size (y ∷ a)) ≤ k = omega (arith, length-drop size (y ∷ a), some_record (metered_lanes x) (mainline_lanes x)) in
        on_accepted (y ∷ a) s room more ok
        (run_on_lem k (drop size (y ∷ a)) (ticked_at x s (take size (y ∷ a))).state (room - width) shorter (rw (at_accepted x s room (y ∷ a) more ok) at none))

-- The output behind what a run laid is as it came;
rest_is : (run : Run) (out : List ℕ) → rest_of run out ≡ drop (length run.laid) out
unfolding rest_of output_of
rest_is run out = drop-append_seam run.laid (drop (length run.laid) out)

-- what two runs laid stands in front of the rest that the second left.
output_on : (f g : Run) (out : List ℕ) → output_of (run_on f g) out ≡ take (length f.laid) (output_of f out) ++ output_of g (rest_of f out)
unfolding output_of
output_on f g out =
    let n = length f.laid in
    let m = length g.laid in
    rw (take-append_seam f.laid (drop n out), rest_is f out, drop-drop m n out, length-append f.laid g.laid)
    (append_assoc f.laid g.laid (drop (n + m) out))

module _ (x : Site) (s : State) (a b out : List ℕ) (none : (first_of x s a out).refusal ≡ None) where
  -- Where nothing is refused, site and state are in range,
  in_range : (spoilt_site x ≡ false) × (state_spoilt s (shape_of x) ≡ false)
  unfolding first_of run_of
  in_range =
      by_test (spoilt_site x)
      (λ e. absurd (none-some _ (sym (rw e at none))))
      (λ ok. by_test (state_spoilt s (shape_of x))
      (λ e. absurd (none-some _ (sym (rw (ok, e) at none))))
      (λ good. (ok, good)))

  -- so that the first call is a run,
  first_is : first_of x s a out ≡ run_from x s (length out) (records_at x a)
  unfolding first_of
  first_is = call_is x s a (length out) in_range.0 in_range.1

  -- and so is the second, in the room that is left.
  second_is : second_of x s a b out ≡ run_from x (first_of x s a out).state (length out - length (first_of x s a out).laid) (records_at x b)
  unfolding second_of
  second_is =
      let first = first_of x s a out in
      let kept = ap (λ (run : Run). state_spoilt run.state (shape_of x)) first_is ∙ run_kept x (records_at x a) s (length out) in_range.1 in
      let room = ap length (rest_is first out) ∙ length-drop (length first.laid) out in
      call_is x first.state b (length (rest_of first out)) in_range.0 kept ∙ ap (λ (n : ℕ). run_from x first.state n (records_at x b)) room

  -- Together they are the call on both blocks;
  ran_on : run_of x s (a ++ b) (length out) ≡ run_on (first_of x s a out) (second_of x s a b out)
  ran_on =
      call_is x s (a ++ b) (length out) in_range.0 in_range.1
      ∙ run_on_lem x b (length a) a s (length out) (omega arith) (rw first_is at none)
      ∙ ap (go_on x b (length out)) (sym first_is)
      ∙ ap (run_on (first_of x s a out)) (sym second_is)

-- and so are their outputs, for any two blocks that the records are.
pub in_blocks : (x : Site) (s : State) (records out : List ℕ) → InBlocks x s records out
unfolding InBlocks
in_blocks x s records out a b _ none =
    let ran = ran_on x s a b out none in
    record { ran = ran; output = ap (λ (run : Run). output_of run out) ran ∙ output_on (first_of x s a out) (second_of x s a b out) out }
