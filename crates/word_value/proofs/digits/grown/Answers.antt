-- The smaller of the two: what is lost of a sum that is too large is lost of it anyway.
use native.Mathlib.Omega.{arith}
use Rattle.word_value.specs.Digits.{grown}
use Rattle.word_value.proofs.digits.grown.Goals as goal

pub returns : goal.returns
unfolding grown
returns c = omega arith
