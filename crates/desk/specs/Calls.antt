-- A list of calls of a desk, refused ones included: each finds the desk that the call before it gave.
use Rattle.std.specs.Prelude.{ℕ, Option, Some, None, ◌≡◌, Bool, true, false, ◌&&◌, List, eqb}
use Rattle.runs.specs.Runs.{after, AtEach, accepted_in, happens_within}
use Rattle.desk.specs.declared.Desk.{Desk}
use Rattle.std.specs.Option.{is_none}
use Rattle.refusals.specs.declared.Refusal.{Refusal}
use Rattle.desk.specs.Desk.{enrol_of, remove_of}
use Rattle.desk.specs.Tick.{tick_of}

-- A call, with any number: a cabinet's, or a tick's answer.
pub data Call : Type 0 where
  enrols : ℕ → Call
  removes : ℕ → Call
  ticks : ℕ → Call

-- The desk after a call, and what refuses the call, if anything does.
abbrev pub onward : Desk → Call → Desk
onward d (enrols k) = (enrol_of d k).desk
onward d (removes k) = (remove_of d k).desk
onward d (ticks answer) = (tick_of d answer).desk

abbrev pub refusal_at : Desk → Call → Option Refusal
refusal_at d (enrols k) = (enrol_of d k).refusal
refusal_at d (removes k) = (remove_of d k).refusal
refusal_at d (ticks answer) = (tick_of d answer).refusal

unfoldable pub is_accepted : Desk → Call → Bool
is_accepted d call = is_none (refusal_at d call)

abbrev pub is_tick : Call → Bool
is_tick (enrols k) = false
is_tick (removes k) = false
is_tick (ticks answer) = true

unfoldable pub is_accepted_tick : Desk → Call → Bool
is_accepted_tick d call = is_tick call && is_accepted d call

-- Cabinet i is the one polled.
abbrev pub is_cabinet : ℕ → Option ℕ → Bool
is_cabinet i None = false
is_cabinet i (Some k) = eqb k i

-- Cabinet i is polled at this call.
abbrev pub polls : ℕ → Desk → Call → Bool
polls i d (enrols k) = false
polls i d (removes k) = false
polls i d (ticks answer) = is_cabinet i (tick_of d answer).polled

-- What a list of calls comes to; how many accepted ticks it has; that a cabinet is polled at one of its first so many accepted ticks.
abbrev pub desk_after : Desk → List Call → Desk
desk_after = after onward

abbrev pub accepted_ticks : Desk → List Call → ℕ
accepted_ticks = accepted_in onward is_accepted_tick

abbrev pub polled_within : ℕ → ℕ → Desk → List Call → Bool
polled_within i = happens_within onward is_accepted_tick (polls i)

-- "While enrolment is unchanged": no accepted call of a list changes who is enrolled. Ticks never do. One that enrols the enrolled, or
-- removes one who is not, does not either.
abbrev pub EnrolmentUnchanged : Desk → List Call → Type 0
EnrolmentUnchanged = AtEach onward is_accepted (λ d call. (onward d call).enrolled ≡ d.enrolled)

-- "When all answer": each accepted tick of a list is told 1.
abbrev pub told_answer : Call → Type 0
told_answer (enrols k) = Unit {0}
told_answer (removes k) = Unit {0}
told_answer (ticks answer) = answer ≡ 1

abbrev pub AllAnswered : Desk → List Call → Type 0
AllAnswered = AtEach onward is_accepted (λ d call. told_answer call)
