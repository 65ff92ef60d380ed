-- The loop's invariant: what is read of the word is what is read of the bytes that are left, behind the value so far.
use borrow.Author.Rules.{rules}
use Rattle.word_value.proofs.DigitLaws.{no_bytes, from_the_first}
use Rattle.word_value.proofs.digits.digits_read.Goals as goal

pub returns-then-is_empty : goal.returns-then-is_empty
returns-then-is_empty c = no_bytes c.args.word.now (search rules)

pub loop-b-init : goal.loop-b-init
loop-b-init c = (search rules, from_the_first c.args.word.now (search rules))
