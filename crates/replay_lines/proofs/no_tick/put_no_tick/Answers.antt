-- The five parts of the line; its numbers are the machine's.
use native.Mathlib.Omega.{arith}
use Rattle.text.proofs.PutsLaws.{puts_then}
use Rattle.replay_lines.proofs.LengthLaws.{no_tick_most}
use Rattle.replay_lines.specs.NoTick.{no_tick_line}
use Rattle.replay_lines.proofs.no_tick.put_no_tick.Goals as goal

pub returns : goal.returns
unfolding no_tick_line
returns c = (record {
  is = puts_then c.put.ensures
      (puts_then c.put_decimal.ensures
      (puts_then c.put-2.ensures
      (puts_then c.put_reason.ensures
      c.put_byte.ensures)));
  short = no_tick_most c.args.k c.args.verdict _ (omega (arith, c.ranges.k.fits)) c.well_formed.1.1.0;
})
