-- What putting these bytes makes of a text t: it is then t', in the same buffer.
use Rattle.std.specs.Prelude.{ℕ, ◌≡◌, ◌<◌, ◌≤◌, List, length}
use Rattle.text.specs.Put.{farthest, Put}
use Rattle.text.specs.declared.Text.{Text}

-- As every text of the machine is: no buffer is so long that it has the farthest place, and no place is farther.
pub record InReach (t : Text) : Type 0 where
  pub short : length t.out.now < farthest
  pub end_most : t.end ≤ farthest

pub record Puts (t : Text) (bytes : List ℕ) (t' : Text) : Type 0 where
  pub same_buffer : t'.out.ghost_name ≡ t.out.ghost_name
  pub put : InReach t → Put t.out.now t.end bytes t'.end t'.out.now
