-- Document 02, A7: "Many ticks in one call."
use Rattle.std.specs.Prelude.{ℕ, zero, suc, ◌+◌, ◌-◌, cond, List, [], ◌∷◌, ◌++◌, ltb, length, take, drop, Option, Some, None, Result, Ok, Err}
use Rattle.std.specs.Option.{is_none}
use Rattle.refusals.specs.declared.Refusal.{Refusal}
use Rattle.refusals.specs.declared.Refusal.TheVariants.{SmallBuffer, SpoiltState, SpoiltSite, BadRecord}
use Rattle.site.specs.declared.Site.{Site}
use Rattle.site.specs.Record.{spoilt_site}
use Rattle.site.specs.Named.{metered_lanes, mainline_lanes, shape_of}
use Rattle.group.specs.declared.indication.Indications.{Indications}
use Rattle.state.specs.declared.State.{State}
use Rattle.state.specs.State.{state_spoilt}
use Rattle.tick.specs.declared.Input.{Input}
use Rattle.tick.specs.declared.Ticked.{Ticked}
use Rattle.tick.specs.Tick.{tick_of}
use Rattle.tick_record.specs.Record.{record_size, is_record, record_input}
use Rattle.many_ticks.specs.declared.Ran.{Ran}

-- Bytes cut into parts of this size, the last of which may be shorter; at most so many parts.
abbrev pub parts_of : ℕ → ℕ → List ℕ → List (List ℕ)
parts_of size zero bytes = []
parts_of size (suc most) [] = []
parts_of size (suc most) (b ∷ bytes) = take size (b ∷ bytes) ∷ parts_of size most (drop size (b ∷ bytes))

-- The records that a call takes, the last of which may be cut short. There are no more of them than bytes.
unfoldable pub records_at : Site → List ℕ → List (List ℕ)
records_at x bytes = parts_of (record_size (metered_lanes x) (mainline_lanes x)) (length bytes) bytes

-- The tick of a record, and the single tick's answer to it.
unfoldable pub input_at : Site → List ℕ → Input
input_at x r = record_input r (metered_lanes x) (mainline_lanes x)

unfoldable pub ticked_at : Site → State → List ℕ → Ticked
ticked_at x s r = tick_of x s (input_at x r)

-- "A byte per lane, then the sign's byte, 1 on and 0 off", of n lanes.
unfoldable pub shown_bytes : ℕ → Indications → List ℕ
shown_bytes n shown = take n shown.colours ++ (shown.sign ∷ [])

-- "Then per record 15, 11, 8, 9, 10", with so much room left in the output. The last three are the single tick's.
unfoldable pub record_refusal : Site → State → ℕ → List ℕ → Option Refusal
record_refusal x s room r =
    cond (is_record r (metered_lanes x) (mainline_lanes x)) (cond (ltb room (metered_lanes x + 1)) (Some SmallBuffer) (ticked_at x s r).refusal) (Some BadRecord)

-- A record's tick, where no check refuses it. Crate decide says the same of a decision.
abbrev pub unless : Option Refusal → Input → Result Input Refusal
unless None input = Ok input
unless (Some refusal) input = Err refusal

-- What a call comes to: "the state so far, the number of accepted ticks and the refusal, or 0 at the end", and the bytes laid.
pub record Run : Type 0 where
  pub state : State
  pub accepted : ℕ
  pub refusal : Option Refusal
  pub laid : List ℕ

-- It ends here, with this refusal, if there is one.
abbrev pub ends_with : State → Option Refusal → Run
ends_with s refusal = record { state = s; accepted = 0; refusal = refusal; laid = [] }

-- One more accepted tick before it: "each accepted tick's indications are laid directly behind those of the tick before".
abbrev pub behind_tick : List ℕ → Run → Run
behind_tick shown run = record { state = run.state; accepted = run.accepted + 1; refusal = run.refusal; laid = shown ++ run.laid }

-- "It stops at the first refusal." With so much room, from this state.
abbrev pub run_from : Site → State → ℕ → List (List ℕ) → Run
run_from x s room [] = ends_with s None
run_from x s room (r ∷ records) =
    cond (is_none (record_refusal x s room r))
    (behind_tick (shown_bytes (metered_lanes x) (ticked_at x s r).shown) (run_from x (ticked_at x s r).state (room - (metered_lanes x + 1)) records))
    (ends_with s (record_refusal x s room r))

-- "Order: site 14, state 13, then per record": with these records and an output of this length.
unfoldable pub run_of : Site → State → List ℕ → ℕ → Run
run_of x s bytes room =
    cond (spoilt_site x) (ends_with s (Some SpoiltSite)) (cond (state_spoilt s (shape_of x)) (ends_with s (Some SpoiltState)) (run_from x s room (records_at x bytes)))

-- What the call gives,
unfoldable pub ran_of : Run → Ran
ran_of run = record { refusal = run.refusal; accepted = run.accepted; state = run.state }

-- and its output afterwards: "the output beyond stays untouched".
unfoldable pub output_of : Run → List ℕ → List ℕ
output_of run out = run.laid ++ drop (length run.laid) out
