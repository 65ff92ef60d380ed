-- For those who send records in blocks: a call on two blocks laid end to end, the first of which refuses nothing, is two calls in a row, the
-- second on the state and the rest of the output that the first left.
use Rattle.std.specs.Prelude.{ℕ, ◌+◌, ◌≡◌, List, ◌++◌, length, take, drop, None}
use Rattle.site.specs.declared.Site.{Site}
use Rattle.state.specs.declared.State.{State}
use Rattle.many_ticks.specs.Many.{Run, run_of, output_of}

-- What two runs, one after the other, come to.
abbrev pub run_on : Run → Run → Run
run_on a b = record { state = b.state; accepted = a.accepted + b.accepted; refusal = b.refusal; laid = a.laid ++ b.laid }

-- The output behind what a run laid.
unfoldable pub rest_of : Run → List ℕ → List ℕ
rest_of run out = drop (length run.laid) (output_of run out)

-- A call on this block and then on that one, with this output.
unfoldable pub first_of : Site → State → List ℕ → List ℕ → Run
first_of x s a out = run_of x s a (length out)

unfoldable pub second_of : Site → State → List ℕ → List ℕ → List ℕ → Run
second_of x s a b out = run_of x (first_of x s a out).state b (length (rest_of (first_of x s a out) out))

pub record InTwo (x : Site) (s : State) (a b out : List ℕ) : Type 0 where
  pub ran : run_of x s (a ++ b) (length out) ≡ run_on (first_of x s a out) (second_of x s a b out)
  pub output : output_of (run_of x s (a ++ b) (length out)) out
      ≡ take (length (first_of x s a out).laid) (output_of (first_of x s a out) out) ++ output_of (second_of x s a b out) (rest_of (first_of x s a out) out)

-- Of every two blocks that these records are.
unfoldable pub InBlocks : Site → State → List ℕ → List ℕ → Type 0
InBlocks x s records out = (a b : List ℕ) → records ≡ a ++ b → (first_of x s a out).refusal ≡ None → InTwo x s a b out
