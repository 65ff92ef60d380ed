-- Document 01, 'What is wanted': "The level of its table listed last among those met decides." "A level is met if flow or occupancy is at
-- or above, or a known mean speed at or below, a threshold in use." Document 02, A8: the speed is no mean of speeds any more, and is not
-- rounded.
use Rattle.std.specs.Prelude.{ℕ, zero, suc, ◌+◌, ◌*◌, ◌<◌, ◌≡◌, Bool, true, false, cond, not, ◌&&◌, ◌||◌, List, leb, eqb, get_or, Float, Option, Some, None}
use Rattle.speed.specs.Speed.{at_most}
use Rattle.ranges.specs.declared.Section.TheVariants.{Levels}
use Rattle.ranges.specs.Ranges.{unused}
use Rattle.ranges.specs.Sections.{width_of}
use Rattle.levels.specs.declared.Level.{Level}
use Rattle.levels.specs.declared.measure.Measures.{Measures}

-- Level i of a site's rows, the first being 0.
abbrev pub level_of : List ℕ → ℕ → Level
level_of rows i =
    let at : ℕ = i * width_of Levels in
    record {
      table = get_or rows at 0;
      flow = get_or rows (at + 1) 0;
      occupancy = get_or rows (at + 2) 0;
      speed = get_or rows (at + 3) 0;
      rate = get_or rows (at + 4) 0;
    }

-- "At or above a threshold in use."
unfoldable pub reaches_of : ℕ → ℕ → Bool
reaches_of threshold measure = not (eqb threshold unused) && leb threshold measure

-- "A known .. speed at or below", "no longer rounded down" (document 02, A8).
unfoldable pub is_slow : ℕ → Option Float → Bool
is_slow threshold None = false
is_slow threshold (Some speed) = not (eqb threshold unused) && at_most speed threshold

unfoldable pub is_met : Level → Measures → Bool
is_met l q = reaches_of l.flow q.flow || (reaches_of l.occupancy q.occupancy || is_slow l.speed q.speed)

-- A level of the table asked for that is met.
unfoldable pub decides : Level → ℕ → Measures → Bool
decides l table q = eqb l.table table && is_met l q

-- The place from 1 of the level that decides: of n + 1 levels the last one, if it is of the table and met, else the one among the n before;
-- 0 for none.
abbrev pub deciding_of : List ℕ → ℕ → ℕ → Measures → ℕ
deciding_of rows zero table q = 0
deciding_of rows (suc n) table q = cond (decides (level_of rows n) table q) (n + 1) (deciding_of rows n table q)

-- The same in the paper's own words, which `deciding` promises too: of the first count levels, the one at this place from 1 is one of those
-- asked for, and none listed after it is; at 0, none is.
pub record ListedLast (asked : ℕ → Bool) (count place : ℕ) : Type 0 where
  pub none : place ≡ 0 → (j : ℕ) → j < count → asked j ≡ false
  pub one_of_them : (k : ℕ) → place ≡ k + 1 → (k < count) × (asked k ≡ true)
  pub listed_last : (k j : ℕ) → place ≡ k + 1 → k < j → j < count → asked j ≡ false
