-- Each turn passes a comma, puts a byte of the item, or passes one of another item.
use Prim.Native.Nat.{◌<◌}
use borrow.Author.Rules.{rules}
use lib.ListN.{length}
use Rattle.text.proofs.ItemLaws.{item_ends, item_letter, past_comma, past_letter, item_beyond}
use Rattle.text.proofs.PutsLaws.{left_at_start, left_turn, left_end}
use Rattle.text.proofs.Text.put_item.Goals as goal
use Rattle.text.proofs.Text.put_item.Goals.{then-byte-eq44+else-left-eq0, else-byte-eq44+then-left-eq0-2, else-byte-eq44+else-left-eq0-2}

pub loop-byte-init : goal.loop-byte-init
loop-byte-init c = (search rules, left_at_start)

pub returns-then-left-eq0 : goal.returns-then-left-eq0
returns-then-left-eq0 c =
    left_end c.loop-byte.invariant.1 (item_ends c.args.list.now c.loop-byte.byte-index (search rules) c.loop-byte.left c.if-byte-eq44.true c.if-left-eq0.true)

pub loop-byte-preserved : goal.loop-byte-preserved
loop-byte-preserved c =
    let list = c.args.list.now in
    let i = c.loop-byte.byte-index in
    let left = c.loop-byte.left in
    let l : i < length list = search rules in (
      search rules,
      elim c.if-byte-eq44.branch [
        | then-byte-eq44+else-left-eq0 w ↦ rw (w.self-is, w.left-is, ← past_comma list i l left w.if-byte-eq44.true w.if-left-eq0.false) c.loop-byte.invariant.1
        | else-byte-eq44+then-left-eq0-2 w ↦
            rw (w.self-is, w.left-is) (left_turn c.loop-byte.invariant.1 w.put_byte.ensures (item_letter list i l left w.if-byte-eq44.false w.if-left-eq0-2.true))
        | else-byte-eq44+else-left-eq0-2 w ↦ rw (w.self-is, w.left-is, ← past_letter list i l left w.if-byte-eq44.false w.if-left-eq0-2.false) c.loop-byte.invariant.1
      ],
    )

pub returns : goal.returns
returns c = left_end c.loop-byte.invariant.1 (item_beyond c.args.list.now c.loop-byte.byte-index c.loop-byte.left (search rules))
