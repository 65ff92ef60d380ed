-- The five parts of the line.
use Rattle.text.proofs.PutsLaws.{puts_then}
use Rattle.tick_text.proofs.LengthLaws.{Sized, rate_word, tick_most}
use native.Mathlib.Omega.{arith}
use Rattle.tick_text.specs.Lines.{tick_line}
use Rattle.tick_text.proofs.put_tick.Goals as goal
use Rattle.tick_text.proofs.put_tick.Goals.{Start}

-- The numbers of the line, each where the machine's facts of the parameters have it.
sized : (start : Start) → Sized start.args.number start.args.t
sized start =
    let t = start.well_formed.1.1.1.0.1.1 in
    let group = t.1.0.1.1.0.1.1 in
    let shown = t.1.1.0.1.1 in
    let decision = t.1.1.1.0.1.1 in
    record {
      number = omega (arith, start.ranges.number.fits);
      interval = omega (arith, group.0.1);
      age = omega (arith, group.1.0.1);
      sign = omega (arith, shown.1.1.0.1);
      entry = omega (arith, decision.1.0.1);
      level = omega (arith, decision.1.1.1.0.1);
      rate = rate_word start.args.t.decision.wish _ decision.1.1.1.1.0;
      cycle = omega (arith, t.1.1.1.1.0.1);
      released = omega (arith, t.1.1.1.1.1.0.1);
    }

pub returns : goal.returns
unfolding tick_line
returns c = (record {
  is = puts_then c.put_decimal.ensures
      (puts_then c.put_interval.ensures
      (puts_then c.put_lamps.ensures
      (puts_then c.put_decided.ensures
      c.put_byte.ensures)));
  short = tick_most c.args.number c.args.t (sized (goal.at.returns c).Start) c.args.n;
})
