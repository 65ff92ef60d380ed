-- Document 02's sentences on the desk, in its own words beside the definitions: each call promises those about it, and that no other answer
-- fits them.
use Rattle.std.specs.Prelude.{ℕ, Option, Some, None, ◌+◌, ◌≤◌, ◌<◌, ◌≡◌, true, false, ◌⊎◌}
use Rattle.desk.specs.declared.Desk.{Desk}
use Rattle.desk.specs.declared.Changed.{Changed}
use Rattle.desk.specs.declared.DeskTicked.{DeskTicked}
use Rattle.refusals.specs.declared.Refusal.{Refusal}
use Rattle.refusals.specs.declared.Refusal.TheVariants.{SpoiltState, BadNumber}
use Rattle.desk.specs.Desk.{enrolled_at}

-- "A desk whose turn is above 31 or whose tries exceed 3", and any other.
abbrev pub Spoilt : Desk → Type 0
Spoilt d = (31 < d.turn) ⊎ (3 < d.tries)

pub record InRange (d : Desk) : Type 0 where
  pub turn_most : d.turn ≤ 31
  pub tries_most : d.tries ≤ 3

-- What a call answers that is given this desk and a number that may be at most so large.
pub record Answers (d : Desk) (most number : ℕ) (refusal : Option Refusal) (Unchanged Done : Type 0) : Type 0 where
  -- "13 for a desk whose turn is above 31 or whose tries exceed 3", which is SpoiltState,
  pub spoilt : Spoilt d → (refusal ≡ Some SpoiltState) × Unchanged
  -- "then 18", BadNumber; "refused, the desk is unchanged and nobody is polled".
  pub above : InRange d → most < number → (refusal ≡ Some BadNumber) × Unchanged
  -- Every other call is accepted.
  pub accepted : InRange d → number ≤ most → (refusal ≡ None) × Done

-- A cabinet is in turn: it is enrolled, and the last accepted tick polled it.
pub record InTurn (d : Desk) (cabinet : ℕ) : Type 0 where
  pub enrolled : enrolled_at d cabinet ≡ true
  pub last_polled : cabinet ≡ d.turn
  pub polled : 0 < d.tries

-- "It can enrol .. a cabinet; repeating .. changes nothing." No other's enrolment changes, and nobody's turn.
pub record Enrols (d : Desk) (cabinet : ℕ) (after : Desk) : Type 0 where
  pub own : enrolled_at after cabinet ≡ true
  pub others : (other : ℕ) → (other ≡ cabinet → ⊥) → enrolled_at after other ≡ enrolled_at d other
  pub repeated : enrolled_at d cabinet ≡ true → after ≡ d
  pub turn : after.turn ≡ d.turn
  pub tries : after.tries ≡ d.tries

-- "It can .. remove a cabinet; repeating .. changes nothing."
pub record Removes (d : Desk) (cabinet : ℕ) (after : Desk) : Type 0 where
  pub own : enrolled_at after cabinet ≡ false
  pub others : (other : ℕ) → (other ≡ cabinet → ⊥) → enrolled_at after other ≡ enrolled_at d other
  pub repeated : enrolled_at d cabinet ≡ false → after ≡ d
  pub turn : after.turn ≡ d.turn
  -- The one in turn has no tries left; what follows from that is said in `Removed`. Another leaves them.
  pub in_turn : InTurn d cabinet → after.tries ≡ 3
  pub not_in_turn : (InTurn d cabinet → ⊥) → after.tries ≡ d.tries

-- An enrolled cabinet is polled for the first time running; it is the one in turn.
pub record PolledAnew (d : Desk) (r : DeskTicked) : Type 0 where
  pub polled : r.polled ≡ Some r.desk.turn
  pub tries : r.desk.tries ≡ 1
  pub enrolled : enrolled_at d r.desk.turn ≡ true

-- "The turn passes to the next higher enrolled number, wrapping past 31": to the lowest enrolled above the one that had it, or, where there
-- is none above, to the lowest of all.
pub record PassesOn (d : Desk) (r : DeskTicked) : Type 0 where
  pub anew : PolledAnew d r
  pub higher : (other : ℕ) → d.turn < other → enrolled_at d other ≡ true → (d.turn < r.desk.turn) × (r.desk.turn ≤ other)
  pub wraps : r.desk.turn ≤ d.turn → (other : ℕ) → enrolled_at d other ≡ true → r.desk.turn ≤ other

-- The one in turn is polled once more.
pub record OnceMore (d : Desk) (r : DeskTicked) : Type 0 where
  pub polled : r.polled ≡ Some d.turn
  pub turn : r.desk.turn ≡ d.turn
  pub tries : r.desk.tries ≡ d.tries + 1

-- Nobody is polled, and none is in turn.
pub record PollsNobody (r : DeskTicked) : Type 0 where
  pub polled : r.polled ≡ None
  pub turn : r.desk.turn ≡ 0
  pub tries : r.desk.tries ≡ 0

-- An accepted tick, told `answer`, that was given the desk d and gave r.
pub record Turned (d : Desk) (answer : ℕ) (r : DeskTicked) : Type 0 where
  -- "Each tick it polls one cabinet or, with none enrolled, nobody."
  pub nobody : ((cabinet : ℕ) → enrolled_at d cabinet ≡ false) → PollsNobody r
  -- "The first turn goes to the lowest enrolled number"; "after an accepted tick that polled nobody, the lowest enrolled number comes first
  -- again"; "with nobody polled [the answer] is ignored". Where a cabinet is enrolled:
  pub first : (cabinet : ℕ) → enrolled_at d cabinet ≡ true → d.tries ≡ 0 → PolledAnew d r × (r.desk.turn ≤ cabinet)
  -- "After an answer the turn passes on."
  pub answered : (cabinet : ℕ) → enrolled_at d cabinet ≡ true → 0 < d.tries → answer ≡ 1 → PassesOn d r
  -- "A silent cabinet is polled three times running": once more after one silence and after two,
  pub silent : InTurn d d.turn → d.tries < 3 → answer ≡ 0 → OnceMore d r
  -- "then the turn passes", after the third, whatever the answer; so too where the one in turn was removed, enrolled again or not.
  pub third : (cabinet : ℕ) → enrolled_at d cabinet ≡ true → d.tries ≡ 3 → PassesOn d r
  pub removed : (cabinet : ℕ) → enrolled_at d cabinet ≡ true → 0 < d.tries → enrolled_at d d.turn ≡ false → PassesOn d r
  -- A tick enrols and removes none.
  pub enrolment : r.desk.enrolled ≡ d.enrolled

-- The three calls.
abbrev pub EnrolAnswers : Desk → ℕ → Changed → Type 0
EnrolAnswers d cabinet r = Answers d 31 cabinet r.refusal (r.desk ≡ d) (Enrols d cabinet r.desk)

abbrev pub RemoveAnswers : Desk → ℕ → Changed → Type 0
RemoveAnswers d cabinet r = Answers d 31 cabinet r.refusal (r.desk ≡ d) (Removes d cabinet r.desk)

abbrev pub TickAnswers : Desk → ℕ → DeskTicked → Type 0
TickAnswers d answer r = Answers d 1 answer r.refusal ((r.desk ≡ d) × (r.polled ≡ None)) (Turned d answer r)
