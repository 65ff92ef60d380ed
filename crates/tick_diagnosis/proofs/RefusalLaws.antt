-- The refusal of the first number that is out of range is the one that a tick's checks give: each part has such a number exactly where its
-- own check says that it is bad, and the parts come in the order of the checks.
use Prim.Native.Nat.{ℕ, zero, suc, ◌+◌, ◌-◌}
use mathlib.Core.Path.{◌≡◌, refl, ap, sym, ◌∙◌}
use mathlib.Core.Bool.{Bool, true, false, cond, not, ◌&&◌, ◌||◌}
use borrow.Author.Tests.{leb-true, leb-false, lt-ltb, le-ltb, eqb-true}
use lib.Dec.{leb, ltb, eqb}
use Rattle.std.specs.Prelude.{Option, Some, None}
use Rattle.std.specs.Option.{option_or}
use Rattle.refusals.specs.declared.Refusal.{Refusal}
use Rattle.refusals.specs.declared.Refusal.TheVariants.{BadClock, BadSample, BadCommand}
use Rattle.loops.proofs.Cases.{by_test}
use Rattle.loops.specs.Any.{any_from}
use Rattle.numbers.specs.declared.Range.{Range}
use Rattle.numbers.specs.Within.{between, is_within}
use Rattle.ranges.specs.Ranges.{only_zero, rate_range, table_range}
use Rattle.ranges.proofs.RangeLaws.{only, up_to}
use Rattle.timings.specs.declared.Shape.{Shape}
use Rattle.calendar.specs.declared.clock.Clock.{Clock}
use Rattle.calendar.specs.Dates.{years, months, days_of, is_date}
use Rattle.calendar.specs.Clock.{tenths, clock_bad}
use Rattle.inputs.specs.declared.MeteredSample.{MeteredSample}
use Rattle.inputs.specs.declared.LaneSample.{LaneSample}
use Rattle.inputs.specs.declared.Calls.{Calls}
use Rattle.inputs.specs.declared.Command.{Command}
use Rattle.inputs.specs.Samples.{metered_sample_of, lane_sample_of, flags, occupancies, times, metered_bad, lane_bad, samples_bad, calls_bad}
use Rattle.inputs.specs.Commands.{kinds, carries_nothing, command_bad, commands_bad}
use Rattle.tick.specs.declared.Input.{Input}
use Rattle.tick.specs.Checks.{sample_bad, input_refusal}
use Rattle.tick_diagnosis.specs.declared.number.Part.{Part}
use Rattle.tick_diagnosis.specs.declared.number.Part.TheVariants.{Manual, Communications}
use Rattle.tick_diagnosis.specs.declared.number.Number.{Number}
use Rattle.tick_diagnosis.specs.Numbers.{number_of, first_from, in_clock, in_metered, in_mainline, in_calls, mode_of, in_command, in_lanes, first_bad}
use Rattle.tick_diagnosis.specs.Names.{refusal_of}

-- The refusal that a number stands for, if it is out of range.
abbrev pub told : Option Number → Option Refusal
told None = None
told (Some x) = Some (refusal_of x.part)

-- It is refusal k exactly where a test says so.
record Says (x : Option Number) (k : Refusal) (test : Bool) : Type 0 where
  is : told x ≡ cond test (Some k) None

says_number : {k : Refusal} (part : Part) (column x : ℕ) (g : Range) → refusal_of part ≡ k → Says (number_of part column x g) k (not (is_within g x))
unfolding number_of
says_number part column x g e = record { is = by_test (is_within g x) (λ t. rw t) (λ t. rw (t, e)) }

-- A number that is out of range is the first; one that is not is passed.
told_first : {a : Option Number} (rest : Option Number) {k : Refusal} {t : Bool} → Says a k t → told (option_or a rest) ≡ cond t (Some k) (told rest)
told_first {a = None} rest {t = true} p = let e = p.is in absurd (cc)
told_first {a = None} rest {t = false} p = refl
told_first {a = Some x} rest {t = true} p = p.is
told_first {a = Some x} rest {t = false} p = let e = p.is in absurd (cc)

cond_or : (s t : Bool) (x y : Option Refusal) → cond (s || t) x y ≡ cond s x (cond t x y)
cond_or true t x y = refl
cond_or false t x y = refl

says_first : {a b : Option Number} {k : Refusal} {s t : Bool} → Says a k s → Says b k t → Says (option_or a b) k (s || t)
says_first {b = b} {k = k} {s = s} {t = t} p q = record { is = told_first b p ∙ ap (λ (r : Option Refusal). cond s (Some k) r) q.is ∙ sym (cond_or s t (Some k) None) }

told_from : (f : ℕ → Option Number) (p : ℕ → Bool) (k : Refusal) (rest : Option Number) → ((i : ℕ) → Says (f i) k (p i)) → (i n : ℕ)
    → told (first_from f i n rest) ≡ cond (any_from p i n) (Some k) (told rest)
told_from f p k rest each i zero = refl
told_from f p k rest each i (suc n) =
    told_first (first_from f (i + 1) n rest) (each i)
    ∙ (ap (λ (r : Option Refusal). cond (p i) (Some k) r) (told_from f p k rest each (i + 1) n) ∙ sym (cond_or (p i) (any_from p (i + 1) n) (Some k) (told rest)))

-- A range from 0 on is left above its end alone.
above : (g x : ℕ) → not (is_within (between 0 g) x) ≡ ltb g x
above g x =
    by_test (leb x g)
    (λ e. rw (up_to g x, e, le-ltb g x (leb-true x g e)))
    (λ e. rw (up_to g x, e, lt-ltb g x (leb-false x g e)))

in_date : (y m d t : Bool) → (not y || (not m || (not d || t))) ≡ (not (y && m && d) || t)
in_date true true true t = refl
in_date true true false t = refl
in_date true false d t = refl
in_date false m d t = refl

says_clock : (c : Clock) → Says (in_clock c) BadClock (clock_bad c)
unfolding in_clock clock_bad is_date
says_clock c =
    let y = is_within years c.date.year in
    let m = is_within months c.date.month in
    let d = is_within (days_of c.date.year c.date.month) c.date.day in
    rw (← in_date y m d (ltb tenths.high c.tenth), ← above tenths.high c.tenth)
    (says_first (says_number _ _ _ _ refl) (says_first (says_number _ _ _ _ refl) (says_first (says_number _ _ _ _ refl) (says_number _ _ _ _ refl))))

says_metered : (i : ℕ) (s : MeteredSample) → Says (in_metered i s) BadSample (metered_bad s)
unfolding in_metered metered_bad
says_metered i s = rw (← above flags.high s.demand, ← above flags.high s.passage) (says_first (says_number _ _ _ _ refl) (says_number _ _ _ _ refl))

says_mainline : (j : ℕ) (s : LaneSample) → Says (in_mainline j s) BadSample (lane_bad s)
unfolding in_mainline lane_bad
says_mainline j s =
    rw (← above flags.high s.working, ← above occupancies.high s.occupied, ← above flags.high s.vehicles, ← above times.high s.time)
    (says_first (says_number _ _ _ _ refl) (says_first (says_number _ _ _ _ refl) (says_first (says_number _ _ _ _ refl) (says_number _ _ _ _ refl))))

says_calls : (calls : Calls) → Says (in_calls calls) BadSample (calls_bad calls)
unfolding in_calls calls_bad
says_calls calls =
    rw (← above flags.high calls.preemption, ← above flags.high calls.bypass)
    (says_first (says_number _ _ _ _ refl) (says_number _ _ _ _ refl))

-- Kind 0 has neither rate nor table, and is itself in range.
in_nothing : (r t : Bool) → (not r || not t) ≡ not (r && t)
in_nothing true t = refl
in_nothing false t = refl

kind_0 : (rate table : ℕ) → (not (is_within kinds 0) || (not (is_within only_zero rate) || not (is_within only_zero table))) ≡ not (eqb rate 0 && eqb table 0)
kind_0 rate table = rw (above 4 0, only 0 rate, only 0 table) (in_nothing (eqb rate 0) (eqb table 0))

in_command_lem : (kind rate table : ℕ)
    → (not (is_within kinds kind) || (not (is_within (rate_range (kind - 1)) rate) || not (is_within (table_range (kind - 1)) table)))
    ≡ command_bad (record { kind = kind; rate = rate; table = table })
unfolding command_bad carries_nothing rate_range table_range
in_command_lem kind rate table =
    by_test (eqb kind 0)
    (λ e. rw (eqb-true kind 0 e) (kind_0 rate table))
    (λ e. rw (e, above 4 kind))

says_command : (part : Part) → refusal_of part ≡ BadCommand → (c : Command) → Says (in_command part c) BadCommand (command_bad c)
unfolding in_command mode_of
says_command part e c =
    rw (← in_command_lem c.kind c.rate c.table) (says_first (says_number _ _ _ _ e) (says_first (says_number _ _ _ _ e) (says_number _ _ _ _ e)))

pub told_is : (h : Shape) (i : Input) → told (first_bad h i) ≡ input_refusal h i
unfolding first_bad in_lanes input_refusal sample_bad samples_bad commands_bad
told_is h i =
    let centre = in_command Communications i.centre in
    let commands = option_or (in_command Manual i.manual) centre in
    let calls = option_or (in_calls i.calls) commands in
    let main = first_from (λ k. in_mainline k (lane_sample_of i.main k)) 0 h.mainline calls in
    let lanes = first_from (λ k. in_metered k (metered_sample_of i.lanes k)) 0 h.lanes main in
    rw (
      told_first lanes (says_clock i.clock),
      told_from _ _ BadSample main (λ k. says_metered k (metered_sample_of i.lanes k)) 0 h.lanes,
      told_from _ _ BadSample calls (λ k. says_mainline k (lane_sample_of i.main k)) 0 h.mainline,
      told_first commands (says_calls i.calls),
      told_first centre (says_command Manual refl i.manual),
      (says_command Communications refl i.centre).is,
      cond_or _ _ (Some BadSample) _,
      cond_or _ _ (Some BadSample) _,
      cond_or _ _ (Some BadCommand) None,
    )
