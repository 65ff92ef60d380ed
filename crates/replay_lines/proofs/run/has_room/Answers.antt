-- The code's tests are the definition's.
use Prim.Native.Nat.{◌+◌, ◌≤◌, ◌<◌}
use native.Mathlib.Omega.{arith}
use borrow.Author.Tests.{le-leb, lt-leb}
use Rattle.replay_lines.specs.Replay.{longest_answer}
use Rattle.replay_lines.proofs.run.has_room.Goals as goal

pub returns-then-size-lt-LONGEST_ANSWER : goal.returns-then-size-lt-LONGEST_ANSWER
returns-then-size-lt-LONGEST_ANSWER c = let a = c.args in let h : a.size < a.end + longest_answer = omega (arith, c.if-size-lt-LONGEST_ANSWER.true) in rw (lt-leb (a.end + longest_answer) a.size h)

pub returns-then-size-end : goal.returns-then-size-end
returns-then-size-end c = let a = c.args in let h : a.size < a.end + longest_answer = omega (arith, c.if-size-lt-LONGEST_ANSWER.false, c.if-size-end.true) in rw (lt-leb (a.end + longest_answer) a.size h)

pub returns : goal.returns
returns c = let a = c.args in let h : a.end + longest_answer ≤ a.size = omega (arith, c.if-size-lt-LONGEST_ANSWER.false, c.if-size-end.false) in rw (le-leb (a.end + longest_answer) a.size h)
