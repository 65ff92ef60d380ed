-- Document 01, 'Group intervals': what the lamps show. 0 dark, 1 red, 2 yellow, 3 green; 0 off, 1 on. Lanes are counted from 0.
use Rattle.std.specs.Prelude.{ℕ, cond, ◌||◌, ltb, eqb, replicate}
use Rattle.loops.specs.Each.{four}
use Rattle.lanes.specs.Lanes.{lane_of}
use Rattle.group.specs.declared.Group.{Group}
use Rattle.group.specs.declared.indication.Indications.{Indications}

-- "Lanes show 0 dark in 0 and 1; 3 green in 2, 3, 4; 2 yellow in 5; 1 red in 6 and 9; their own in 7 and 8."
unfoldable pub colour_shown : ℕ → ℕ → ℕ
colour_shown interval own =
    cond (eqb interval 2 || (eqb interval 3 || eqb interval 4)) 3
    (cond (eqb interval 5) 2
    (cond (eqb interval 6 || eqb interval 9) 1 (cond (eqb interval 7 || eqb interval 8) own 0)))

-- "The lower green is lit with green and yellow."
unfoldable pub lower_shown : ℕ → ℕ
lower_shown colour = cond (eqb colour 2 || eqb colour 3) 1 0

-- "The warning sign is off in 0, 1 and 2 only."
unfoldable pub sign_shown : ℕ → ℕ
sign_shown interval = cond (ltb interval 3) 0 1

-- Lane i's colour, at a site of n lanes; lanes beyond n are dark.
unfoldable pub lane_shown : Group → ℕ → ℕ → ℕ
lane_shown g n i = cond (ltb i n) (colour_shown g.interval (lane_of g.lanes i).colour) 0

unfoldable pub indications_of : Group → ℕ → Indications
indications_of g n = record {
  colours = four (lane_shown g n);
  lower = four (λ i. lower_shown (lane_shown g n i));
  sign = sign_shown g.interval;
}

-- "All dark with the sign off."
unfoldable pub all_dark : Indications
all_dark = record { colours = replicate 4 0; lower = replicate 4 0; sign = 0 }
