-- The loop's invariant: what is read of the word is what is read of the bytes that are left, behind the value so far.
use Prim.Native.Nat.{◌≤◌}
use mathlib.Core.Path.{◌≡◌}
use lib.ListN.{length, drop}
use Rattle.word_value.specs.Digits.{digits_read}
use Rattle.word_value.proofs.DigitLaws.{number_from}
use Rattle.word_value.proofs.digits.digits_read.Given as goal

abbrev pub invariant-loop-b : goal.invariant-loop-b
invariant-loop-b l = (l.b-index ≤ length l.word) × (digits_read l.word ≡ number_from l.value (drop l.b-index l.word))
