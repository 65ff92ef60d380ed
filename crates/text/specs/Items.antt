-- An item of a list whose items stand between commas.
use Rattle.std.specs.Prelude.{ℕ, zero, suc, cond, List, [], ◌∷◌, eqb}

abbrev pub comma : ℕ
comma = 44

-- What stands before the first comma.
abbrev pub first_item : List ℕ → List ℕ
first_item [] = []
first_item (b ∷ list) = cond (eqb b comma) [] (b ∷ first_item list)

-- Item i, from 0: what stands between i commas and the next. There is nothing beyond the last item.
abbrev pub item : List ℕ → ℕ → List ℕ
item list zero = first_item list
item [] (suc i) = []
item (b ∷ list) (suc i) = cond (eqb b comma) (item list i) (item list (suc i))
