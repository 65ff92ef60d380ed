-- The five stores are the definition's.
use Rattle.joining.specs.Filling.{with_entry}
use native.Mathlib.Numerals.{unary_clauses}
use Rattle.joining.proofs.filling.with_entry.Goals as goal

pub returns : goal.returns
unfolding with_entry
returns c = simp unary_clauses
