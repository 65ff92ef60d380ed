-- No tick's line is longer than the longest: no number of the machine has more than 20 digits.
use Prim.Native.Nat.{ℕ, ◌^◌, ◌≤◌, ◌<◌}
use mathlib.Core.Path.{◌≡◌, refl}
use mathlib.Core.Bool.{Bool, true, false}
use mathlib.Core.List.{List}
use native.Mathlib.Omega.{arith}
use Rattle.std.specs.Prelude.{Option, Some, None}
use Rattle.std.specs.Option.{is_some}
use Rattle.refusals.specs.declared.Refusal.{Refusal}
use Rattle.refusals.specs.declared.Refusal.TheVariants.{ShortFile, WrongCount, BadTiming, BadEntry, BadHoliday, BadLevel, LongFile, BadClock, BadSample, BadCommand, SmallBuffer, NoPeriod, SpoiltState, SpoiltSite, BadRecord, BadApproach, TooManyEntries, BadNumber}
use Rattle.refusals.specs.Numbers.{number_of}
use lib.ListN.{length, length-append, length-take}
use mir.Val.{Val}
use denote.Laws.{Is}
use Rattle.text.proofs.DecimalLaws.{decimal_word}
use Rattle.phrases.proofs.DayNames.{day_name_most}
use Rattle.group.specs.declared.indication.Indications.{Indications}
use Rattle.wanted.specs.declared.wish.Wish.{Wish}
use Rattle.wanted.specs.declared.wish.Wish.TheVariants.{Dark, Green, Metering, Clear}
use Rattle.wanted.specs.declared.wish.Source.{Source}
use Rattle.wanted.specs.declared.wish.Source.TheVariants.{Manual, Centre, Plan}
use Rattle.wanted.specs.Wish.{rate_of}
use Rattle.wanted.specs.contracts.wish.Wish as a-wish
use Rattle.bypass.specs.declared.Doing.{Doing}
use Rattle.bypass.specs.declared.Doing.TheVariants.{None, Waits, Runs}
use Rattle.tick.specs.declared.Ticked.{Ticked}
use Rattle.tick_text.specs.Lamps.{lamps_text}
use Rattle.tick_text.specs.Decided.{source_text, wish_text, ruling_text, wished_text, decision_text, bypass_text, accepted_text, decided_text}
use Rattle.tick_text.specs.Lines.{refusal_number, interval_text, tick_line, longest_tick}

-- A wish that the machine holds has a rate that it holds.
pub rate_word : (w : Wish) (vs : List Val) → Is (a-wish.the_field).row ((a-wish.the_field).into w) vs → rate_of w < 2 ^ 64
rate_word Dark vs g = omega arith
rate_word Green vs g = omega arith
rate_word (Metering rate) vs g = omega (arith, g.1.1.1.1.0.1)
rate_word Clear vs g = omega arith

-- The numbers of a line are numbers of the machine.
pub record Sized (k : ℕ) (t : Ticked) : Type 0 where
  pub number : k < 2 ^ 64
  pub interval : t.state.group.interval < 2 ^ 64
  pub age : t.state.group.age < 2 ^ 64
  pub sign : t.shown.sign < 2 ^ 64
  pub entry : t.decision.entry < 2 ^ 64
  pub level : t.decision.level < 2 ^ 64
  pub rate : rate_of t.decision.wish < 2 ^ 64
  pub cycle : t.cycle < 2 ^ 64
  pub released : t.released < 2 ^ 64

-- A refusal's number has two digits at the most.
number_most : (r : Refusal) → number_of r < 2 ^ 64
unfolding number_of
number_most ShortFile = omega arith
number_most WrongCount = omega arith
number_most BadTiming = omega arith
number_most BadEntry = omega arith
number_most BadHoliday = omega arith
number_most BadLevel = omega arith
number_most LongFile = omega arith
number_most BadClock = omega arith
number_most BadSample = omega arith
number_most BadCommand = omega arith
number_most SmallBuffer = omega arith
number_most NoPeriod = omega arith
number_most SpoiltState = omega arith
number_most SpoiltSite = omega arith
number_most BadRecord = omega arith
number_most BadApproach = omega arith
number_most TooManyEntries = omega arith
number_most BadNumber = omega arith

refusal_most : (r : Option Refusal) → refusal_number r < 2 ^ 64
refusal_most None = omega arith
refusal_most (Some r) = number_most r

source_most : (s : Source) → length (source_text s) ≤ 7
source_most Manual = omega arith
source_most Centre = omega arith
source_most Plan = omega arith

wish_most : (w : Wish) → length (wish_text w) ≤ 6
wish_most Dark = omega arith
wish_most Green = omega arith
wish_most (Metering rate) = omega arith
wish_most Clear = omega arith

bypass_most : (d : Doing) → length (bypass_text d) ≤ 6
bypass_most None = omega arith
bypass_most Waits = omega arith
bypass_most Runs = omega arith

lamps_most : (s : Indications) (n : ℕ) → s.sign < 2 ^ 64 → length (lamps_text s n) ≤ 31
unfolding lamps_text
lamps_most s n h = let a = decimal_word s.sign h in simp (length-append, length-take) (omega arith)

module _ (k : ℕ) (t : Ticked) (z : Sized k t) where
  interval_most : length (interval_text t) ≤ 63
  unfolding interval_text
  interval_most =
      let a = decimal_word (refusal_number t.refusal) (refusal_most t.refusal) in
      let b = decimal_word t.state.group.interval z.interval in
      let c = decimal_word t.state.group.age z.age in
      simp length-append (omega arith)

  ruling_most : length (ruling_text t.decision) ≤ 32
  unfolding ruling_text
  ruling_most =
      let a = day_name_most t.decision.day in
      let b = decimal_word t.decision.entry z.entry in
      let c = source_most t.decision.source in
      simp length-append (omega arith)

  wished_most : length (wished_text t.decision) ≤ 48
  unfolding wished_text
  wished_most =
      let a = decimal_word t.decision.level z.level in
      let b = wish_most t.decision.wish in
      let c = decimal_word (rate_of t.decision.wish) z.rate in
      simp length-append (omega arith)

  accepted_most : length (accepted_text t) ≤ 128
  unfolding accepted_text decision_text
  accepted_most =
      let a = ruling_most in
      let b = wished_most in
      let c = decimal_word t.cycle z.cycle in
      let d = decimal_word t.released z.released in
      let e = bypass_most t.bypass in
      simp length-append (omega arith)

  decided_case : (b : Bool) → is_some t.refusal ≡ b → length (decided_text t) ≤ 128
  unfolding decided_text
  decided_case true e = rw e (omega arith)
  decided_case false e = rw e accepted_most

  pub tick_most : (n : ℕ) → length (tick_line k n t) ≤ longest_tick
  unfolding tick_line
  tick_most n =
      let a = decimal_word k z.number in
      let b = interval_most in
      let c = lamps_most t.shown n z.sign in
      let d = decided_case _ refl in
      simp length-append (omega arith)
