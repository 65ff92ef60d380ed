-- The loop's invariant: what is left to do comes to what the whole call comes to.
use Prim.Native.Nat.{ℕ, ◌+◌, ◌-◌, ◌<◌, min}
use mathlib.Core.Path.{◌≡◌, refl, sym, ◌∙◌, ap, ap₂, subst}
use mathlib.Core.List.{List}
use native.Mathlib.Omega.{arith}
use lib.ListN.{length, take, drop, length-drop, length-take}
use lib.Seq.{sets}
use Rattle.std.specs.Prelude.{Option, Some, None}
use Rattle.std.proofs.lemmas.Option.{none-some}
use Rattle.site.specs.Named.{metered_lanes, mainline_lanes}
use Rattle.period.specs.declared.Periods.{Periods}
use Rattle.tick.specs.declared.Ticked.{Ticked}
use Rattle.tick.specs.Checks.{tick_refusal}
use Rattle.tick.specs.Tick.{accepted_tick}
use Rattle.tick.proofs.TickLaws.{input_passed}
use Rattle.tick_record.specs.Record.{record_size}
use Rattle.tick_record.proofs.RecordLaws.{some_record}
use Rattle.many_ticks.specs.declared.known.Known.{Known}
use Rattle.many_ticks.specs.Known.{Holds}
use Rattle.many_ticks.specs.Many.{input_at, ticked_at, shown_bytes, record_refusal, unless}
use Rattle.many_ticks.proofs.PartLaws.{whole_or_cut}
use Rattle.many_ticks.proofs.StepLaws.{unless_ok, unless_err, Taken, taken}
use Rattle.many_ticks.proofs.KnownLaws.{holds_nothing, holds_counted, holds_accepted, kept_holds, kept_nothing}
use Rattle.many_ticks.proofs.RunLaws.{left_at_start, left_turn, left_ends, at_refused, at_end}
use Rattle.site.specs.declared.Site.{Site}
use Rattle.many_ticks.proofs.run_all.Goals as goal
use Rattle.many_ticks.proofs.run_all.Goals.{After-check_record, In-Err, In-Ok}

-- The next record, whole or cut short, of those from a place on.
abbrev next : Site → List ℕ → ℕ → List ℕ
next x records from = take (record_size (metered_lanes x) (mainline_lanes x)) (drop from records)

-- It is the part that is taken,
part_is : (c : After-check_record)
    → let a = c.args in
    take (c.end_of-end.result - c.loop-from.from) (drop c.loop-from.from a.records.now) ≡ next a.site a.records.now c.loop-from.from
part_is c =
    let a = c.args in
    let size = record_size (metered_lanes a.site) (mainline_lanes a.site) in
    let rest = drop c.loop-from.from a.records.now in
    let e : c.end_of-end.result - c.loop-from.from ≡ min size (length rest) = omega (arith, c.end_of-end.ensures, c.loop-from.invariant.0, length-drop c.loop-from.from a.records.now) in
    ap (λ (k : ℕ). take k rest) e ∙ whole_or_cut size rest

-- what is said of it is the definition's,
checked_is : (c : After-check_record)
    → let a = c.args in
    let r = next a.site a.records.now c.loop-from.from in
    c.check_record.result ≡ unless (record_refusal a.site c.loop-from.state (length a.out.now - c.loop-from.at) r) (input_at a.site r)
checked_is c =
    let a = c.args in
    let v = c.loop-from.invariant.3 in
    let room : length c.loop-from.out - c.loop-from.at ≡ length a.out.now - c.loop-from.at = ap (λ (k : ℕ). k - c.loop-from.at) v.long in
    c.check_record.ensures c.loop-from.state v.good
    ∙ ap₂ (λ (k : ℕ) (r : List ℕ). unless (record_refusal a.site c.loop-from.state k r) (input_at a.site r)) room (part_is c)

refusal_is : (c : In-Err)
    → let a = c.args in
    record_refusal a.site c.loop-from.state (length a.out.now - c.loop-from.at) (next a.site a.records.now c.loop-from.from) ≡ Some c.in-Err.refusal
refusal_is c = unless_err _ _ (sym (checked_is (goal.at.In-Err c).After-check_record) ∙ c.in-Err.is)

-- and where it is accepted, it is whole, its tick is the definition's and so are the state and the bytes that this leaves.
is_accepted : (c : In-Ok)
    → let a = c.args in
    let r = next a.site a.records.now c.loop-from.from in
    (record_refusal a.site c.loop-from.state (length a.out.now - c.loop-from.at) r ≡ None) × (c.in-Ok.input ≡ input_at a.site r)
is_accepted c = unless_ok _ _ (sym (checked_is (goal.at.In-Ok c).After-check_record) ∙ c.in-Ok.is)

known : (c : In-Ok)
    → let a = c.args in
    Taken a.site c.loop-from.state (next a.site a.records.now c.loop-from.from) (length a.out.now - c.loop-from.at)
known c =
    let a = c.args in
    taken a.site c.loop-from.state (next a.site a.records.now c.loop-from.from) (length a.out.now - c.loop-from.at) (is_accepted c).0

ticked-is : (c : In-Ok)
    → let a = c.args in
    accepted_tick a.site c.loop-from.state c.in-Ok.input ≡ ticked_at a.site c.loop-from.state (next a.site a.records.now c.loop-from.from)
ticked-is c =
    let a = c.args in
    ap (accepted_tick a.site c.loop-from.state) (is_accepted c).1 ∙ sym (known c).is

end_is : (c : In-Ok)
    → let a = c.args in
    c.end_of-end.result ≡ c.loop-from.from + record_size (metered_lanes a.site) (mainline_lanes a.site)
end_is c =
    let a = c.args in
    let size = record_size (metered_lanes a.site) (mainline_lanes a.site) in
    let rest = drop c.loop-from.from a.records.now in
    omega (arith, c.end_of-end.ensures, c.loop-from.invariant.0, (known c).whole, length-take size rest, length-drop c.loop-from.from a.records.now)

-- What the tick is given is accepted.
no_check : (c : In-Ok)
    → let a = c.args in
    tick_refusal a.site c.loop-from.state c.in-Ok.input ≡ None
no_check c = rw (is_accepted c).1 (known c).no_check

pub loop-from-init : goal.loop-from-init
loop-from-init c =
    let a = c.args in
    let shape = c.shape_of-shape.ensures in (
      c.size-size.ensures ∙ rw shape,
      rw shape,
      c.requires.0,
      left_at_start a.site a.first a.records.now a.out.now c.requires.1,
      holds_nothing a.site None a.first.periods refl,
    )

pub count-counted-requires : goal.count-counted-requires
count-counted-requires c = no_check (goal.at.count-counted-requires c).In-Ok

pub loop-from-smaller : goal.loop-from-smaller
loop-from-smaller c =
    let a = c.args in
    omega (arith, end_is (goal.at.loop-from-smaller c).In-Ok, some_record (metered_lanes a.site) (mainline_lanes a.site), c.loop-from-test.true)

pub decided_now-now-requires : goal.decided_now-now-requires
decided_now-now-requires c =
    let a = c.args in
    let v = c.loop-from.invariant in
    let is = c.count-counted.ensures in
    (v.2, input_passed a.site c.loop-from.state c.in-Ok.input (no_check (goal.at.decided_now-now-requires c).In-Ok), λ more. rw is (holds_counted a.site c.loop-from.known c.loop-from.state c.in-Ok.input v.4 (λ z. more (ap (λ (p : Periods). p.ticks) is ∙ z))))

pub accept-state-requires : goal.accept-state-requires
accept-state-requires c =
    let v = c.loop-from.invariant in
    let rest = drop c.loop-from.at c.loop-from.out in (
      no_check (goal.at.accept-state-requires c).In-Ok,
      c.count-counted.ensures,
      c.decided_now-now.ensures.decided,
      omega (arith, (known (goal.at.accept-state-requires c).In-Ok).room_left, length-take (length c.loop-from.out - c.loop-from.at) rest, length-drop c.loop-from.at c.loop-from.out, v.3.long),
    )

pub loop-from-preserved : goal.loop-from-preserved
loop-from-preserved c =
    let a = c.args in
    let v = c.loop-from.invariant in
    let ok = (goal.at.loop-from-preserved c).In-Ok in
    let is = c.count-counted.ensures in
    let now = c.decided_now-now in
    let kept = c.kept_after-known.result in
    let lent = take (length c.loop-from.out - c.loop-from.at) (drop c.loop-from.at c.loop-from.out) in (
      v.0,
      v.1,
      v.2,
      left_turn a.site a.first a.records.now a.out.now c.loop-from.state c.loop-from.from c.loop-from.at c.loop-from.accepted c.loop-from.out v.3
          c.loop-from-test.true (is_accepted ok).0 c.accept-state.result (c.accept-state.ensures.state ∙ ap (λ (q : Ticked). q.state) (ticked-is ok))
          c.end_of-end.result (end_is ok) (c.shape_of-shape.result.lanes + 1) v.1 c.accept-state.new.out
          (c.accept-state.ensures.laid ∙ ap (λ (q : Ticked). sets lent 0 (shown_bytes (metered_lanes a.site) q.shown)) (ticked-is ok)),
      rw c.accept-state.ensures.state
          (holds_accepted a.site kept c.loop-from.state c.in-Ok.input
          (λ z. c.kept_after-known.ensures ∙ kept_nothing now.result c.count-counted.result (ap (λ (p : Periods). p.ticks) is ∙ z))
          (subst (λ (p : Periods). Holds a.site kept p) is
          (subst (λ (k : Option Known). Holds a.site k c.count-counted.result) (sym c.kept_after-known.ensures) (kept_holds a.site now.result c.count-counted.result c.count-counted.result now.ensures.holds)))),
    )

pub returns-in-Err : goal.returns-in-Err
returns-in-Err c =
    let a = c.args in
    let v = c.loop-from.invariant.3 in
    let more : 0 < length (drop c.loop-from.from a.records.now) = omega (arith, length-drop c.loop-from.from a.records.now, c.loop-from-test.true) in
    let is = refusal_is (goal.at.returns-in-Err c).In-Err in
    let refused = at_refused a.site c.loop-from.state (length a.out.now - c.loop-from.at) (drop c.loop-from.from a.records.now) more (λ z. none-some _ (sym z ∙ is)) in
    let e = left_ends a.site a.first a.records.now a.out.now c.loop-from.state c.loop-from.from c.loop-from.at c.loop-from.accepted _ c.loop-from.out v (rw is at refused) in
    record { is = e.0; kept = v.good; output = e.1 }

pub returns : goal.returns
returns c =
    let a = c.args in
    let v = c.loop-from.invariant.3 in
    let none : length (drop c.loop-from.from a.records.now) ≡ 0 = omega (arith, length-drop c.loop-from.from a.records.now, c.loop-from-test.false) in
    let e = left_ends a.site a.first a.records.now a.out.now c.loop-from.state c.loop-from.from c.loop-from.at c.loop-from.accepted None c.loop-from.out v
    (at_end a.site c.loop-from.state (length a.out.now - c.loop-from.at) (drop c.loop-from.from a.records.now) none) in
    record { is = e.0; kept = v.good; output = e.1 }
