-- The loop's invariant: whatever puts the digits of the bytes that are left puts all of them.
use Rattle.tick_text.specs.Lines.{hex_text}
use Rattle.text.proofs.PutsLaws.{Left}
use lib.ListN.{length, drop}
use Prim.Native.Nat.{◌≤◌}
use Rattle.tick_text.proofs.put_hex.Given as goal

abbrev pub invariant-loop-b : goal.invariant-loop-b
invariant-loop-b l =
    (l.b-index ≤ length l.bytes)
    × Left l.initial.out l.out (hex_text (drop l.b-index l.bytes)) (hex_text l.bytes)
