-- What is left to take, from the run that a part leaves on, gives what all gives.
use Rattle.std.proofs.Common.{rules, ◌∙◌, arith}
use lib.ListN.{length-drop}
use Rattle.replay_file.proofs.PartLaws.{rest, part_taken}
use Rattle.replay_file.proofs.ticks.take_all.Goals as goal

pub loop-from-preserved : goal.loop-from-preserved
loop-from-preserved g c =
    let all = c.args.bytes.now in
    let from = c.loop-from.from in (
      omega (arith, c.loop-from.invariant.0, length-drop from all, rw (rest all from) at c.take-taken.ensures.part),
      search rules,
      part_taken c.args.site all from c.take-taken.result.bytes c.loop-from.run c.take-taken.result.run (rw (rest all from) at c.take-taken.ensures.is) ∙ c.loop-from.invariant.2,
    )
