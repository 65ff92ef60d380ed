-- The loop's invariant: whatever puts the digits of the bytes that are left puts all of them.
use Rattle.tick_text.proofs.HexLaws.{hex_turn, hex_end}
use Rattle.text.proofs.PutsLaws.{left_at_start, left_turn, left_end}
use borrow.Author.Rules.{rules}
use native.Mathlib.Omega.{arith}
use Rattle.tick_text.proofs.put_hex.Goals as goal

pub loop-b-init : goal.loop-b-init
loop-b-init c = (search rules, left_at_start)

pub hex_digit-requires : goal.hex_digit-requires
hex_digit-requires c = omega (arith, c.type_inv.bytes c.loop-b.b-index)

pub loop-b-preserved : goal.loop-b-preserved
loop-b-preserved c =
    let a = c.args in (
      search rules,
      left_turn c.loop-b.invariant.1 c.put.ensures (hex_turn a.bytes.now c.loop-b.b-index _ _ (search rules) c.hex_digit.ensures c.hex_digit-in-loop-b.ensures),
    )

pub returns : goal.returns
returns c =
    let a = c.args in
    left_end c.loop-b.invariant.1 (hex_end a.bytes.now c.loop-b.b-index (search rules))
