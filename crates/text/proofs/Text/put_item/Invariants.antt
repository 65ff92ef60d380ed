-- The loop's invariant: whatever puts what is left of the item puts all of it.
use Prim.Native.Nat.{◌≤◌}
use lib.ListN.{length, drop}
use Rattle.text.specs.Items.{item}
use Rattle.text.proofs.PutsLaws.{Left}
use Rattle.text.proofs.Text.put_item.Given as goal

abbrev pub invariant-loop-byte : goal.invariant-loop-byte
invariant-loop-byte l = (l.byte-index ≤ length l.list) × Left l.initial.self l.self (item (drop l.byte-index l.list) l.left) (item l.list l.i)
