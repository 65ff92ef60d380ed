-- Each arm is the definition's name; past the fourth mode there is none.
use Rattle.entry_text.proofs.Names.{no_mode}
use Rattle.entry_text.specs.EntryText.{mode_name}
use Rattle.text.proofs.PutsLaws.{puts_nothing}
use native.Mathlib.Omega.{arith}
use Rattle.entry_text.proofs.put_mode_name.Goals as goal

pub returns-in-0 : goal.returns-in-0
unfolding mode_name
returns-in-0 c = rw c.in-0.is c.put.ensures

pub returns-in-1 : goal.returns-in-1
unfolding mode_name
returns-in-1 c = rw c.in-1.is c.put-in-1.ensures

pub returns-in-2 : goal.returns-in-2
unfolding mode_name
returns-in-2 c = rw c.in-2.is c.put-in-2.ensures

pub returns-in-3 : goal.returns-in-3
unfolding mode_name
returns-in-3 c = rw c.in-3.is c.put-in-3.ensures

pub returns-in_default : goal.returns-in_default
returns-in_default c =
    let a = c.args in
    rw (no_mode a.mode (omega arith)) puts_nothing
