-- Within the letters any default gives the same; beyond them it is `?`.
use Rattle.tick_text.specs.Lamps.{letter_of}
use Prim.Native.Nat.{ℕ, ◌<◌}
use mathlib.Core.Path.{◌≡◌, sym}
use mathlib.Core.List.{List}
use lib.ListN.{length, get_or, get_or-eq_default}
use lib.Seq.{drop-cons}
use borrow.Author.Rules.{rules}
use Rattle.tick_text.proofs.lamps.letter_of.Goals as goal

any_default : (l : List ℕ) (i d e : ℕ) → i < length l → get_or l i d ≡ get_or l i e
any_default l i d e h = cc (drop-cons l i d h, drop-cons l i e h)

pub returns-then-i-letters : goal.returns-then-i-letters
unfolding letter_of
returns-then-i-letters c = let a = c.args in any_default a.letters.now a.x 0 63 (search rules)

pub returns-else-i-letters : goal.returns-else-i-letters
unfolding letter_of
returns-else-i-letters c = let a = c.args in sym (get_or-eq_default a.letters.now 63 {n = a.x} c.if-i-letters.false)
