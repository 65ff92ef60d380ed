-- The input may come in parts: what one part and then the next add is what both add. And what one more byte adds, by which the loop goes.
use Prim.Native.Nat.{ℕ, zero, suc, ◌+◌, ◌≤◌, ◌<◌}
use mathlib.Core.Path.{◌≡◌, refl, sym, ap, ◌∙◌}
use mathlib.Core.Bool.{Bool, true, false, cond}
use mathlib.Core.List.{List, [], ◌∷◌, ◌++◌, append-nil, append_assoc}
use native.Mathlib.Omega.{arith}
use native.Mathlib.Numerals.{add-one}
use borrow.Author.Tests.{eq-eqb, ne_eqb, leb-false}
use lib.Dec.{leb, eqb}
use lib.ListN.{length, get_or, take, drop, take-append-drop}
use lib.Seq.{take-suc, take-length}
use Rattle.text.specs.Put.{Put, farthest}
use Rattle.text.proofs.PutLaws.{put_then, put_nothing}
use Rattle.site.specs.declared.Site.{Site}
use Rattle.tick_line.specs.Scan.{line_start, after_byte as scanAfter}
use Rattle.tick_line.specs.Reading.{is_tick}
use Rattle.replay_lines.specs.declared.run.Run.{Run}
use Rattle.replay_lines.specs.declared.run.Line.{Line}
use Rattle.replay_lines.specs.Replay.{line_of, line_text, after_line, with_scan, after_byte, added_by, run_after, output_of, last_text, last_run, longest_answer}

-- Where there is no room, some bytes have been taken.
pub no_room : (at end size : ℕ) → leb (end + longest_answer) size ≡ false → (at ≡ 0 → end ≡ 0) → longest_answer ≤ size → 0 < at
no_room zero end size e z h = absurd (omega (arith, leb-false (end + longest_answer) size e, z refl))
no_room (suc at) end size e z h = omega arith

-- Behind a line another begins.
fresh_case : (run : Run) (line : Line) (b : Bool) → is_tick line.verdict ≡ b → with_scan (after_line run line) line_start false ≡ after_line run line
unfolding with_scan after_line
fresh_case run line true e = rw e
fresh_case run line false e = rw e

pub fresh_line : (run : Run) (line : Line) → with_scan (after_line run line) line_start false ≡ after_line run line
fresh_line run line = fresh_case run line _ refl

module _ (x : Site) where
  pub run_in_parts : (a b : List ℕ) (run : Run) → run_after x (a ++ b) run ≡ run_after x b (run_after x a run)
  run_in_parts [] b run = refl
  run_in_parts (c ∷ a) b run = run_in_parts a b (after_byte x run c)

  pub output_in_parts : (a b : List ℕ) (run : Run) → output_of x (a ++ b) run ≡ output_of x a run ++ output_of x b (run_after x a run)
  output_in_parts [] b run = refl
  output_in_parts (c ∷ a) b run =
      rw (output_in_parts a b (after_byte x run c)) (sym (append_assoc (added_by x run c) (output_of x a (after_byte x run c)) (output_of x b (run_after x a (after_byte x run c)))))

  -- Behind a line that is no tick nothing is read.
  module _ (run : Run) (b : ℕ) (e : run.ended ≡ true) where
    pub stays : after_byte x run b ≡ run
    unfolding after_byte
    stays = ap (λ (t : Bool). cond t run (cond (eqb b 10) (after_line run (line_of x run)) (with_scan run (scanAfter run.scan b) true))) e

    pub adds_nothing : added_by x run b ≡ []
    unfolding added_by
    adds_nothing = ap (λ (t : Bool). cond t [] (cond (eqb b 10) (line_text x (line_of x run)) [])) e

  pub run_stays : (bytes : List ℕ) (run : Run) → run.ended ≡ true → run_after x bytes run ≡ run
  run_stays [] run e = refl
  run_stays (b ∷ bytes) run e = rw (stays run b e) (run_stays bytes run e)

  pub output_ends : (bytes : List ℕ) (run : Run) → run.ended ≡ true → output_of x bytes run ≡ []
  output_ends [] run e = refl
  output_ends (b ∷ bytes) run e = rw (adds_nothing run b e, stays run b e) (output_ends bytes run e)

  -- A byte of a line, and the end of one.
  module _ (run : Run) (b : ℕ) (e : run.ended ≡ false) where
    pub going_on : after_byte x run b ≡ cond (eqb b 10) (after_line run (line_of x run)) (with_scan run (scanAfter run.scan b) true)
    unfolding after_byte
    going_on = ap (λ (t : Bool). cond t run (cond (eqb b 10) (after_line run (line_of x run)) (with_scan run (scanAfter run.scan b) true))) e

    pub adding : added_by x run b ≡ cond (eqb b 10) (line_text x (line_of x run)) []
    unfolding added_by
    adding = ap (λ (t : Bool). cond t [] (cond (eqb b 10) (line_text x (line_of x run)) [])) e

  -- The run and the output that the first `at` bytes give.
  pub record Reached (first : Run) (bytes : List ℕ) (out₀ : List ℕ) (at : ℕ) (run : Run) (end : ℕ) (out : List ℕ) : Type 0 where
    pub is : run ≡ run_after x (take at bytes) first
    pub adds : Put out₀ 0 (output_of x (take at bytes) first) end out

  pub reached_start : (first : Run) (bytes out : List ℕ) → Reached first bytes out 0 first 0 out
  reached_start first bytes out = record { is = refl; adds = put_nothing out 0 (omega arith) }

  module _ {first : Run} {bytes out₀ out : List ℕ} {at end : ℕ} {run : Run} (h : Reached first bytes out₀ at run end out) (l : at < length bytes) where
    next_run : run_after x (take (at + 1) bytes) first ≡ after_byte x run (get_or bytes at 0)
    next_run = rw (add-one, take-suc bytes at 0 l, run_in_parts, ← h.is)

    next_output : output_of x (take (at + 1) bytes) first ≡ output_of x (take at bytes) first ++ added_by x run (get_or bytes at 0)
    next_output = rw (add-one, take-suc bytes at 0 l, output_in_parts, ← h.is, append-nil)

    pub reached_in : run.ended ≡ false → (get_or bytes at 0 ≡ 10 → ⊥) → Reached first bytes out₀ (at + 1) (with_scan run (scanAfter run.scan (get_or bytes at 0)) true) end out
    reached_in e n = record {
      is = sym (next_run ∙ rw (going_on run (get_or bytes at 0) e, ne_eqb _ _ n));
      adds = rw (next_output, adding run (get_or bytes at 0) e, ne_eqb _ _ n, append-nil) h.adds;
    }

    pub reached_line : {end' : ℕ} {out' : List ℕ} → run.ended ≡ false → get_or bytes at 0 ≡ 10 → length out₀ < farthest
        → Put out end (line_text x (line_of x run)) end' out'
        → Reached first bytes out₀ (at + 1) (after_line run (line_of x run)) end' out'
    reached_line e n r p = record {
      is = sym (next_run ∙ rw (going_on run (get_or bytes at 0) e, eq-eqb _ _ n));
      adds = rw (next_output, adding run (get_or bytes at 0) e, eq-eqb _ _ n) (put_then r h.adds (λ _. p));
    }

  pub reached_same : {first : Run} {bytes out₀ out : List ℕ} {at end : ℕ} {run run' : Run} → run' ≡ run → Reached first bytes out₀ at run end out
      → Reached first bytes out₀ at run' end out
  reached_same e h = record { is = e ∙ h.is; adds = h.adds }

  pub reached_end : {first : Run} {bytes out₀ out : List ℕ} {at end : ℕ} {run : Run} → Reached first bytes out₀ at run end out → run.ended ≡ true
      → Reached first bytes out₀ (length bytes) run end out
  reached_end {first} {bytes} {out₀} {out} {at} {end} {run} h e =
      let whole : take (length bytes) bytes ≡ take at bytes ++ drop at bytes = take-length bytes ∙ sym (take-append-drop at bytes) in
      record {
        is = rw (whole, run_in_parts, ← h.is, run_stays (drop at bytes) run e);
        adds = rw (whole, output_in_parts, ← h.is, output_ends (drop at bytes) run e, append-nil) h.adds;
      }

  -- The end of the input.
  module _ (run : Run) where
    pub last_ended : run.ended ≡ true → (last_text x run ≡ []) × (last_run x run ≡ run)
    unfolding last_text last_run
    last_ended e = (
      ap (λ (t : Bool). cond t [] (cond run.begun (line_text x (line_of x run)) [])) e,
      ap (λ (t : Bool). cond t run (cond run.begun (after_line run (line_of x run)) run)) e,
    )

    going_last : run.ended ≡ false → (last_text x run ≡ cond run.begun (line_text x (line_of x run)) []) × (last_run x run ≡ cond run.begun (after_line run (line_of x run)) run)
    unfolding last_text last_run
    going_last e = (
      ap (λ (t : Bool). cond t [] (cond run.begun (line_text x (line_of x run)) [])) e,
      ap (λ (t : Bool). cond t run (cond run.begun (after_line run (line_of x run)) run)) e,
    )

    pub last_between : run.ended ≡ false → run.begun ≡ false → (last_text x run ≡ []) × (last_run x run ≡ run)
    last_between e b = (
      (going_last e).0 ∙ ap (λ (t : Bool). cond t (line_text x (line_of x run)) []) b,
      (going_last e).1 ∙ ap (λ (t : Bool). cond t (after_line run (line_of x run)) run) b,
    )

    pub last_begun : run.ended ≡ false → run.begun ≡ true → (last_text x run ≡ line_text x (line_of x run)) × (last_run x run ≡ after_line run (line_of x run))
    last_begun e b = (
      (going_last e).0 ∙ ap (λ (t : Bool). cond t (line_text x (line_of x run)) []) b,
      (going_last e).1 ∙ ap (λ (t : Bool). cond t (after_line run (line_of x run)) run) b,
    )
