-- The checks are the definition's, in its order. From any state in range they answer the same.
use Prim.Native.Nat.{◌+◌}
use mathlib.Core.Path.{◌≡◌, refl, sym, ◌∙◌, ap}
use mathlib.Core.Bool.{Bool, true, false, cond}
use lib.Dec.{ltb}
use Rattle.std.proofs.lemmas.Result.{err_from_is_err_and}
use Rattle.std.specs.Prelude.{Option, Some, Result, Ok, Err}
use Rattle.refusals.specs.declared.Refusal.{Refusal}
use Rattle.refusals.specs.declared.Refusal.TheVariants.{SmallBuffer, BadRecord}
use Rattle.timings.specs.declared.Shape.{Shape}
use Rattle.site.specs.Named.{metered_lanes, mainline_lanes, shape_of}
use Rattle.tick.specs.declared.Input.{Input}
use Rattle.tick.specs.Checks.{input_refusal}
use Rattle.tick_record.specs.Record.{record_size, is_record}
use Rattle.tick_record.proofs.RecordLaws.{is_whole}
use Rattle.many_ticks.specs.Many.{input_at, unless}
use Rattle.many_ticks.proofs.StepLaws.{record_refusal_lem}
use Rattle.many_ticks.proofs.check_record.Goals as goal
use Rattle.many_ticks.proofs.check_record.Goals.{After-from_residual, In_ok-early_check, After-input_of-input, After-input_refusal}

-- What the early checks answer, 15 and then 11, and what all checks do.
abbrev early : Bool → Bool → Result (Unit {0}) Refusal
early whole small = cond whole (cond small (Err SmallBuffer) (Ok tt)) (Err BadRecord)

abbrev all : Bool → Bool → Option Refusal → Option Refusal
all whole small later = cond whole (cond small (Some SmallBuffer) later) (Some BadRecord)

-- Where an early check refuses, no later one is asked; where none does, it is a record and there is room.
stops : (whole small : Bool) (later : Option Refusal) (i : Input) (e : Refusal) → early whole small ≡ Err e → Err e ≡ unless (all whole small later) i
stops true true later i e h = sym h'
  where
    h' : ◌≡◌ {A = Result Input Refusal} (Err SmallBuffer) (Err e)
    h' = ap Err (cc)
stops true false later i e h = absurd (cc)
stops false small later i e h = ap Err (cc)

goes_on : (whole small : Bool) (u : Unit {0}) → early whole small ≡ Ok u → (whole ≡ true) × (small ≡ false)
goes_on true true u e = absurd (cc)
goes_on true false u e = (refl, refl)
goes_on false small u e = absurd (cc)

early-is_ok : (c : In_ok-early_check)
    → let a = c.args in
    c.early_check.result ≡ early (is_record a.bytes.now (metered_lanes a.site) (mainline_lanes a.site)) (ltb a.room (metered_lanes a.site + 1))
early-is_ok c =
    c.early_check.ensures
    ∙ rw c.is_record-whole.ensures
    (ap (λ (h : Shape). early (is_record c.args.bytes.now h.lanes h.mainline) (ltb c.args.room (h.lanes + 1))) c.shape_of-shape.ensures)

early-is_err : (c : After-from_residual)
    → let a = c.args in
    c.early_check.result ≡ early (is_record a.bytes.now (metered_lanes a.site) (mainline_lanes a.site)) (ltb a.room (metered_lanes a.site + 1))
early-is_err c =
    c.early_check.ensures
    ∙ rw c.is_record-whole.ensures
    (ap (λ (h : Shape). early (is_record c.args.bytes.now h.lanes h.mainline) (ltb c.args.room (h.lanes + 1))) c.shape_of-shape.ensures)

passed : (c : In_ok-early_check)
    → let a = c.args in
    (is_record a.bytes.now (metered_lanes a.site) (mainline_lanes a.site) ≡ true) × (ltb a.room (metered_lanes a.site + 1) ≡ false)
passed c = goes_on _ _ c.in_ok-early_check.field-0 (sym (early-is_ok c) ∙ c.in_ok-early_check.was)

input-is : (c : After-input_of-input) → let a = c.args in c.input_of-input.result ≡ input_at a.site a.bytes.now
unfolding input_at
input-is c = c.input_of-input.ensures ∙ rw c.shape_of-shape.ensures

later-is : (c : After-input_refusal) → let a = c.args in c.input_refusal.result ≡ input_refusal (shape_of a.site) (input_at a.site a.bytes.now)
unfolding input_at
later-is c = c.input_refusal.ensures ∙ rw (c.input_of-input.ensures, c.shape_of-shape.ensures)

pub returns-in_err-early_check : goal.returns-in_err-early_check
returns-in_err-early_check c q good =
    let a = c.args in
    let whole = is_record a.bytes.now (metered_lanes a.site) (mainline_lanes a.site) in
    let small = ltb a.room (metered_lanes a.site + 1) in
    let given = err_from_is_err_and c.from_residual.result c.from_residual.ensures.1 in
    let same : given.0 ≡ c.in_err-early_check.field-0.0 = given.2 in
    given.1
    ∙ rw same (stops whole small (input_refusal (shape_of a.site) (input_at a.site a.bytes.now)) (input_at a.site a.bytes.now) c.in_err-early_check.field-0.0
    (sym (early-is_err c) ∙ c.in_err-early_check.was))
    ∙ ap (λ (r : Option Refusal). unless r (input_at a.site a.bytes.now)) (sym (record_refusal_lem a.site q a.bytes.now c.requires good a.room))

pub input_of-input-requires : goal.input_of-input-requires
input_of-input-requires c =
    let a = c.args in
    is_whole a.bytes.now (metered_lanes a.site) (mainline_lanes a.site) (passed c).0 ∙ ap (λ (h : Shape). record_size h.lanes h.mainline) (sym c.shape_of-shape.ensures)

pub returns-in-Some : goal.returns-in-Some
returns-in-Some c q good =
    let a = c.args in
    let p = passed (goal.at.returns-in-Some c).In_ok-early_check in
    rw (record_refusal_lem a.site q a.bytes.now c.requires good a.room, p.0, p.1, sym (later-is (goal.at.returns-in-Some c).After-input_refusal) ∙ c.in-Some.is)

pub returns-in-None : goal.returns-in-None
returns-in-None c q good =
    let a = c.args in
    let p = passed (goal.at.returns-in-None c).In_ok-early_check in
    rw (record_refusal_lem a.site q a.bytes.now c.requires good a.room, p.0, p.1, sym (later-is (goal.at.returns-in-None c).After-input_refusal) ∙ c.in-None.is, input-is (goal.at.returns-in-None c).After-input_of-input)
