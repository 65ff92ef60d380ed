-- Texts one behind the other.
use Rattle.std.specs.Prelude.{ℕ, zero, suc, ◌+◌, List, [], ◌++◌}

-- The texts of the next k numbers from i on.
abbrev pub joined : (ℕ → List ℕ) → ℕ → ℕ → List ℕ
joined text i zero = []
joined text i (suc k) = text i ++ joined text (i + 1) k
