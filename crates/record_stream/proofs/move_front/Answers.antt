-- The loop's invariant: the bytes before i are those from `from` on, and those from i on are as they were.
use Prim.Native.Nat.{◌+◌, ◌-◌}
use mathlib.Core.Path.{◌≡◌, refl}
use native.Mathlib.Omega.{arith}
use native.Mathlib.Numerals.{add-one}
use lib.ListN.{get_or}
use borrow.Author.Rules.{rules}
use Rattle.record_stream.proofs.MoveLaws.{one_moved, rest_same}
use Rattle.record_stream.proofs.move_front.Goals as goal

pub loop-i-init : goal.loop-i-init
loop-i-init c = (omega arith, refl, refl, refl)

pub loop-i-preserved : goal.loop-i-preserved
loop-i-preserved c =
    let a = c.args in
    let v = c.loop-i.invariant in (
      search rules,
      search rules,
      rw add-one (one_moved a.buffer.now c.loop-i.buffer c.loop-i.i a.from v.2 v.3 (search rules) (search rules)),
      rw add-one (rest_same a.buffer.now c.loop-i.buffer c.loop-i.i a.from v.2 v.3 (get_or c.loop-i.buffer (a.from + c.loop-i.i) 0)),
    )

pub returns : goal.returns
returns c =
    let a = c.args in
    let e : c.loop-i.i ≡ a.to - a.from = search rules in
    rw e at c.loop-i.invariant.2
