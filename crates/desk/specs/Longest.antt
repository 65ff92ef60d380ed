-- Runs that need every tick of the bounds: all 32 are enrolled on a fresh desk. If none answers, each is polled three times, and cabinet 31
-- first at the 94th tick. If all answer, it is polled first at the 32nd. `longest_run` shows it all.
use Rattle.std.specs.Prelude.{ℕ, zero, suc, ◌≡◌, true, false, List, [], ◌∷◌}
use Rattle.desk.specs.declared.Desk.{Desk}
use Rattle.desk.specs.Desk.{fresh_desk, enrolled_at}
use Rattle.desk.specs.Calls.{Call, enrols, ticks, desk_after, accepted_ticks, polled_within, EnrolmentUnchanged, AllAnswered}
use Rattle.desk.specs.Polling.{how_many, PolledWithin, Any}

-- The n cabinets from n - 1 down to 0 are enrolled; n ticks that are told this.
abbrev pub enrolling : ℕ → List Call
enrolling zero = []
enrolling (suc n) = enrols n ∷ enrolling n

abbrev pub told : ℕ → ℕ → List Call
told answer zero = []
told answer (suc n) = ticks answer ∷ told answer n

abbrev pub all_enrolled : Desk
all_enrolled = desk_after fresh_desk (enrolling 32)

pub record LongestRun : Type 0 where
  pub all_32 : how_many all_enrolled ≡ 32
  pub enrolled : enrolled_at all_enrolled 31 ≡ true
  pub unchanged : (answer n : ℕ) → EnrolmentUnchanged all_enrolled (told answer n)
  pub silent_accepted : accepted_ticks all_enrolled (told 0 94) ≡ 94
  pub silent_in_time : polled_within 31 94 all_enrolled (told 0 94) ≡ true
  pub silent_no_tick_to_spare : polled_within 31 93 all_enrolled (told 0 94) ≡ false
  pub answered : (n : ℕ) → AllAnswered all_enrolled (told 1 n)
  pub answered_accepted : accepted_ticks all_enrolled (told 1 32) ≡ 32
  pub answered_in_time : polled_within 31 32 all_enrolled (told 1 32) ≡ true
  pub answered_no_tick_to_spare : polled_within 31 31 all_enrolled (told 1 32) ≡ false
  -- So 93 would be false, and with all answering 31.
  pub not_93 : PolledWithin (λ _. 93) Any fresh_desk → ⊥
  pub not_31 : PolledWithin (λ _. 31) AllAnswered fresh_desk → ⊥
