-- What it is to put text into a buffer d from place p on: the buffer is then d', and the place behind the text is r.
use Rattle.std.specs.Prelude.{ℕ, ◌+◌, ◌-◌, ◌^◌, min, ◌≡◌, List, length}
use Rattle.std.proofs.lemmas.List.Edits.{sets}

-- The farthest place that a number of the machine can name.
abbrev pub farthest : ℕ
farthest = 2 ^ 64 - 1

-- `sets` leaves out what would fall beyond the buffer's end. No buffer is so long that it has the farthest place, so a place that stops
-- there says only that the text did not fit.
pub record Put (d : List ℕ) (p : ℕ) (text : List ℕ) (r : ℕ) (d' : List ℕ) : Type 0 where
  pub next : r ≡ min (p + length text) farthest
  pub bytes : d' ≡ sets d p text
