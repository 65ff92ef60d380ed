-- The checks, then the refused or the accepted tick.
use Rattle.std.specs.Prelude.{None}
use Rattle.std.proofs.lemmas.Option.{none-some}
use Rattle.tick.specs.declared.Ticked.{Ticked}
use Rattle.tick.specs.Tick.{refused_tick, tick_by, tick_of}
use Rattle.tick.proofs.TickLaws.{accepted, tick_day, tick_entry, tick_levelled, tick_steered, tick_cycle, tick_searched, tick_bypassed}
use Rattle.tick.proofs.ServingLaws.{over_lists}
use mathlib.Core.Path.{◌≡◌, ap, sym, ◌∙◌}
use Rattle.tick.proofs.tick.Goals as goal

pub returns-in-Some : goal.returns-in-Some
unfolding tick_of tick_by refused_tick
returns-in-Some c =
    let never : c.refused.result.refusal ≡ None → ⊥ =
    λ z. none-some _ (sym z ∙ ap (λ (t : Ticked). t.refusal) c.refused.ensures) in
    let lists = over_lists c.args.site in
    record {
      is = rw (← c.refusal_of.ensures, c.in-Some.is) c.refused.ensures;
      kept = λ z. absurd (never z);
      day = λ z. absurd (never z);
      entry = λ z. absurd (never z);
      levelled = λ z. absurd (never z);
      steered = λ z. absurd (never z);
      cycled = λ z. absurd (never z);
      searched = λ z. absurd (never z);
      bypassed = λ z. absurd (never z);
      waits = lists.0;
      clears = lists.1.0;
      serves = lists.1.1.0;
      holds = lists.1.1.1;
    }

pub advance-requires : goal.advance-requires
advance-requires c = sym c.refusal_of.ensures ∙ c.in_default.is

pub returns : goal.returns
unfolding tick_of tick_by
returns c =
    let a = c.args in
    let passed = accepted a.site a.state a.input (sym c.refusal_of.ensures ∙ c.in_default.is) in
    let lists = over_lists a.site in
    record {
      is = rw (← c.refusal_of.ensures, c.in_default.is) c.advance.ensures.is;
      kept = λ _. c.advance.ensures.kept;
      day = λ _. rw c.advance.ensures.is (tick_day a.site a.state a.input passed);
      entry = λ _. rw c.advance.ensures.is (tick_entry a.site a.state a.input passed);
      levelled = λ _. rw c.advance.ensures.is (tick_levelled a.site a.state a.input passed);
      steered = λ _. rw c.advance.ensures.is (tick_steered a.site a.state a.input);
      cycled = λ _. rw c.advance.ensures.is (tick_cycle a.site a.state a.input passed);
      searched = λ _. rw c.advance.ensures.is (tick_searched a.site a.state a.input passed);
      bypassed = λ _. rw c.advance.ensures.is (tick_bypassed a.site a.state a.input passed);
      waits = lists.0;
      clears = lists.1.0;
      serves = lists.1.1.0;
      holds = lists.1.1.1;
    }
