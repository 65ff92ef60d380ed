-- One record, at a site and from a state in range: the input's checks alone can refuse its tick, and an accepted one keeps the state in
-- range and shows bytes.
use Prim.Native.Nat.{ℕ, ◌+◌, ◌≤◌}
use mathlib.Core.Path.{◌≡◌, refl, sym, ◌∙◌}
use mathlib.Core.Bool.{true, false, true≢false, cond}
use Rattle.std.specs.Prelude.{Option, Some, None, Ok, Err}
use Rattle.refusals.specs.declared.Refusal.{Refusal}
use Rattle.std.specs.Option.{is_none}
use Rattle.std.proofs.lemmas.Option.{none-some}
use Rattle.refusals.specs.declared.Refusal.TheVariants.{SmallBuffer, BadRecord}
use mathlib.Core.List.{List}
use native.Mathlib.Omega.{arith}
use borrow.Author.Tests.{ltb-false}
use lib.Dec.{ltb}
use lib.ListN.{length, get_or}
use Rattle.loops.proofs.Cases.{by_test}
use Rattle.site.specs.declared.Site.{Site}
use Rattle.site.specs.Record.{spoilt_site}
use Rattle.site.specs.Named.{metered_lanes, mainline_lanes, shape_of}
use Rattle.site.proofs.TimingLaws.{timings_good}
use Rattle.group.specs.Indications.{indications_of}
use Rattle.state.specs.declared.State.{State}
use Rattle.state.specs.State.{state_spoilt}
use Rattle.state.proofs.StateLaws.{StateGood}
use Rattle.tick.specs.declared.Input.{Input}
use Rattle.tick.specs.Checks.{input_refusal, tick_refusal}
use Rattle.tick.specs.Tick.{accepted_tick, tick_of}
use Rattle.tick.proofs.TickLaws.{accepted, tick_keeps, input_alone, refusal_is, tick_is, tick_kept}
use Rattle.tick_record.specs.Record.{record_size, is_record}
use Rattle.tick_record.proofs.RecordLaws.{is_whole}
use Rattle.many_ticks.specs.Many.{input_at, ticked_at, shown_bytes, record_refusal, unless}
use Rattle.many_ticks.proofs.ShownLaws.{length_shown, colours_most, sign_most, four_colours}

-- What the test for no refusal tells.
pub none_is : {A : Type 0} (o : Option A) → is_none o ≡ true → o ≡ None
none_is None e = refl
none_is (Some a) e = absurd (true≢false (sym e))

pub some_is : {A : Type 0} (o : Option A) → is_none o ≡ false → o ≡ None → ⊥
some_is None e z = true≢false e
some_is (Some a) e z = none-some a (sym z)

pub not_none : {A : Type 0} (o : Option A) → (o ≡ None → ⊥) → is_none o ≡ false
not_none None f = absurd (f refl)
not_none (Some a) f = refl

-- What an answer tells of the refusal and the tick that it was made of.
pub unless_ok : (r : Option Refusal) (i : Input) {j : Input} → unless r i ≡ Ok j → (r ≡ None) × (j ≡ i)
unless_ok None i e = (refl, cc)
unless_ok (Some refusal) i e = absurd (cc)

pub unless_err : (r : Option Refusal) (i : Input) {refusal : Refusal} → unless r i ≡ Err refusal → r ≡ Some refusal
unless_err None i e = absurd (cc)
unless_err (Some refusal) i e = cc

module _ (x : Site) (s : State) (r : List ℕ) where
  pub ticked_refusal : (ticked_at x s r).refusal ≡ tick_refusal x s (input_at x r)
  unfolding ticked_at
  ticked_refusal = refusal_is x s (input_at x r)

  -- What is known of an accepted record.
  pub record Taken (room : ℕ) : Type 0 where
    pub whole : length r ≡ record_size (metered_lanes x) (mainline_lanes x)
    pub room_left : metered_lanes x + 1 ≤ room
    pub no_check : tick_refusal x s (input_at x r) ≡ None
    pub is : ticked_at x s r ≡ accepted_tick x s (input_at x r)
    pub kept : StateGood (ticked_at x s r).state (shape_of x)

  pub taken : (room : ℕ) → record_refusal x s room r ≡ None → Taken room
  unfolding record_refusal ticked_at
  taken room e =
      by_test (is_record r (metered_lanes x) (mainline_lanes x))
      (λ a. by_test (ltb room (metered_lanes x + 1))
      (λ b. absurd (none-some _ (sym (rw (a, b) at e))))
      (λ b. let z : (tick_of x s (input_at x r)).refusal ≡ None = rw (a, b) at e in
      let none = sym (refusal_is x s (input_at x r)) ∙ z in
      record { whole = is_whole r (metered_lanes x) (mainline_lanes x) a; room_left = ltb-false room (metered_lanes x + 1) b; no_check = none; is = tick_is x s (input_at x r) none; kept = tick_kept x s (input_at x r) none }))
      (λ a. absurd (none-some _ (sym (rw a at e))))

  module _ (ok : spoilt_site x ≡ false) (good : state_spoilt s (shape_of x) ≡ false) where
    pub record_refusal_lem : (room : ℕ)
        → record_refusal x s room r ≡ cond (is_record r (metered_lanes x) (mainline_lanes x)) (cond (ltb room (metered_lanes x + 1)) (Some SmallBuffer) (input_refusal (shape_of x) (input_at x r))) (Some BadRecord)
    unfolding record_refusal
    record_refusal_lem room = rw (ticked_refusal, input_alone x s (input_at x r) ok good)

-- What an accepted tick shows.
module _ (x : Site) (s : State) (i : Input) (none : tick_refusal x s i ≡ None) where
  shown_is : (accepted_tick x s i).shown ≡ indications_of (accepted_tick x s i).state.group (metered_lanes x)
  unfolding accepted_tick
  shown_is = refl

  abbrev good : StateGood (accepted_tick x s i).state (shape_of x)
  good = tick_keeps x s i (accepted x s i none)

  pub shown_colours : (k : ℕ) → get_or (accepted_tick x s i).shown.colours k 0 ≤ 3
  shown_colours k = rw shown_is (colours_most (accepted_tick x s i).state.group (metered_lanes x) _ good.group k)

  pub shown_sign : (accepted_tick x s i).shown.sign ≤ 1
  shown_sign = rw shown_is (sign_most (accepted_tick x s i).state.group (metered_lanes x))

  pub shown_length : length (shown_bytes (metered_lanes x) (accepted_tick x s i).shown) ≡ metered_lanes x + 1
  shown_length =
      let most = (timings_good x (accepted x s i none).site).lanes_most in
      length_shown (metered_lanes x) (accepted_tick x s i).shown (rw shown_is (omega (arith, four_colours (accepted_tick x s i).state.group (metered_lanes x), most)))

-- So many bytes are laid for each.
pub laid_length : (x : Site) (s : State) (r : List ℕ) (room : ℕ) → record_refusal x s room r ≡ None → length (shown_bytes (metered_lanes x) (ticked_at x s r).shown) ≡ metered_lanes x + 1
laid_length x s r room e = let t = taken x s r room e in rw t.is (shown_length x s (input_at x r) t.no_check)
