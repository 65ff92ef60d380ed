-- By computation.
use Prim.Native.Nat.{ℕ, zero, suc, ◌≤◌}
use mathlib.Core.Path.{◌≡◌, refl, sym, ◌∙◌}
use mathlib.Core.Bool.{true, false, true≢false}
use native.Mathlib.Omega.{arith}
use Rattle.turns.specs.Turn.{next_of}
use Rattle.desk.specs.declared.Desk.{Desk}
use Rattle.desk.specs.Desk.{fresh_desk, enrolled_at, has_place, spoilt_desk, refusal_of, with_cabinet, enrol_of}
use Rattle.desk.specs.Tick.{is_again, again_of, before_first, polled_at, passed_of, refused_of, tick_of}
use Rattle.desk.specs.Calls.{is_accepted, is_accepted_tick, accepted_ticks, polled_within, EnrolmentUnchanged, AllAnswered}
use Rattle.desk.specs.Polling.{how_many, PolledWithin}
use Rattle.desk.specs.Longest.{enrolling, told, all_enrolled, LongestRun}
use Rattle.desk.proofs.CallLaws.{ticks_unchanged}

all_of_them : how_many all_enrolled ≡ 32
unfolding fresh_desk enrolled_at has_place spoilt_desk refusal_of with_cabinet enrol_of
all_of_them = refl

is_enrolled : enrolled_at all_enrolled 31 ≡ true
unfolding fresh_desk enrolled_at has_place spoilt_desk refusal_of with_cabinet enrol_of
is_enrolled = refl

silent_ticks : accepted_ticks all_enrolled (told 0 94) ≡ 94
unfolding fresh_desk enrolled_at has_place spoilt_desk refusal_of with_cabinet enrol_of is_again again_of before_first polled_at passed_of refused_of tick_of is_accepted is_accepted_tick next_of
silent_ticks = refl

at_94 : polled_within 31 94 all_enrolled (told 0 94) ≡ true
unfolding fresh_desk enrolled_at has_place spoilt_desk refusal_of with_cabinet enrol_of is_again again_of before_first polled_at passed_of refused_of tick_of is_accepted is_accepted_tick next_of
at_94 = refl

not_at_93 : polled_within 31 93 all_enrolled (told 0 94) ≡ false
unfolding fresh_desk enrolled_at has_place spoilt_desk refusal_of with_cabinet enrol_of is_again again_of before_first polled_at passed_of refused_of tick_of is_accepted is_accepted_tick next_of
not_at_93 = refl

answered_ticks : accepted_ticks all_enrolled (told 1 32) ≡ 32
unfolding fresh_desk enrolled_at has_place spoilt_desk refusal_of with_cabinet enrol_of is_again again_of before_first polled_at passed_of refused_of tick_of is_accepted is_accepted_tick next_of
answered_ticks = refl

at_32 : polled_within 31 32 all_enrolled (told 1 32) ≡ true
unfolding fresh_desk enrolled_at has_place spoilt_desk refusal_of with_cabinet enrol_of is_again again_of before_first polled_at passed_of refused_of tick_of is_accepted is_accepted_tick next_of
at_32 = refl

not_at_31 : polled_within 31 31 all_enrolled (told 1 32) ≡ false
unfolding fresh_desk enrolled_at has_place spoilt_desk refusal_of with_cabinet enrol_of is_again again_of before_first polled_at passed_of refused_of tick_of is_accepted is_accepted_tick next_of
not_at_31 = refl

same : (answer n : ℕ) (d : Desk) → EnrolmentUnchanged d (told answer n)
same answer zero d = tt
same answer (suc n) d = ((λ _. ticks_unchanged d answer), same answer n _)

all_told : (n : ℕ) (d : Desk) → AllAnswered d (told 1 n)
all_told zero d = tt
all_told (suc n) d = ((λ _. refl), all_told n _)

one_more : (n k : ℕ) → n ≡ suc k → k ≤ n
one_more n k e = omega (arith, e)

pub longest_run : LongestRun
unfolding PolledWithin
longest_run = record {
  all_32 = all_of_them;
  enrolled = is_enrolled;
  unchanged = λ answer n. same answer n all_enrolled;
  silent_accepted = silent_ticks;
  silent_in_time = at_94;
  silent_no_tick_to_spare = not_at_93;
  answered = λ n. all_told n all_enrolled;
  answered_accepted = answered_ticks;
  answered_in_time = at_32;
  answered_no_tick_to_spare = not_at_31;
  not_93 = λ claim. true≢false (sym (claim (enrolling 32) (told 0 94) 31 is_enrolled (same 0 94 all_enrolled) tt (one_more _ 93 silent_ticks)) ∙ not_at_93);
  not_31 = λ claim. true≢false (sym (claim (enrolling 32) (told 1 32) 31 is_enrolled (same 1 32 all_enrolled) (all_told 32 all_enrolled) (one_more _ 31 answered_ticks)) ∙ not_at_31);
}
