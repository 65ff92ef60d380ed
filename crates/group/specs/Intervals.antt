-- Document 01, 'Group intervals': "0 initialization, 50 ticks; 1 pre-metering non-green (dark); 2 pre-metering green; 3 green startup
-- warning; 4 startup green; 5 startup yellow; 6 startup red; 7 metering; 8 closing; 9 shutdown red."
use Rattle.std.specs.Prelude.{ℕ, ◌+◌, ◌*◌, Bool, cond, ltb, leb, eqb}
use Rattle.timings.specs.declared.Timings.{Timings}
use Rattle.wanted.specs.declared.wish.Wish.{Wish}
use Rattle.wanted.specs.declared.wish.Wish.TheVariants.{Dark, Green, Metering, Clear}

-- "At each tick the interval's age rises by one, to 36000 at most."
unfoldable pub age_of : ℕ → ℕ
age_of age = cond (ltb age 36000) (age + 1) 36000

-- The time that an interval runs at least; 0 for one that has none.
unfoldable pub time_of : Timings → ℕ → ℕ
time_of t interval =
    cond (eqb interval 0) 50
    (cond (eqb interval 2) t.minpregreen
    (cond (eqb interval 3) t.warning
    (cond (eqb interval 4) t.startgreen
    (cond (eqb interval 5) t.startyellow (cond (eqb interval 6) t.startred (cond (eqb interval 9) t.shutdown 0))))))

-- "1 leads to 2 if green or metering is wanted."
abbrev pub from_dark : Wish → ℕ
from_dark Dark = 1
from_dark Green = 2
from_dark (Metering rate) = 2
from_dark Clear = 1

-- "From 2, its minimum being up: to 3 if metering is wanted, to 1 if dark is; its maximum being up, to 1 if clear."
abbrev pub from_green : Wish → Bool → ℕ
from_green Dark over = 1
from_green Green over = 2
from_green (Metering rate) over = 3
from_green Clear over = cond over 1 2

-- "7 becomes 8 at a tick whose wish is not metering."
abbrev pub from_metering : Wish → ℕ
from_metering Dark = 8
from_metering Green = 8
from_metering (Metering rate) = 7
from_metering Clear = 8

-- Where an interval leads once its time is up. "0 leads to 1." "3, 4, 5, 6 and 9 run their times whatever is wanted and lead to 4, 5, 6, 7
-- and 2." "Maximum pre-metering green 1-60 minutes (600 ticks each)." "8 becomes 9 at the first later tick that finds all lanes red as the
-- tick before left them; it never returns to 7."
unfoldable pub successor_of : Timings → Wish → ℕ → Bool → ℕ → ℕ
successor_of t wish age red interval =
    cond (eqb interval 0) 1
    (cond (eqb interval 1) (from_dark wish)
    (cond (eqb interval 2) (from_green wish (leb (600 * t.maxpregreen) age))
    (cond (eqb interval 3) 4
    (cond (eqb interval 4) 5
    (cond (eqb interval 5) 6
    (cond (eqb interval 6) 7
    (cond (eqb interval 7) (from_metering wish) (cond (eqb interval 8) (cond red 9 8) (cond (eqb interval 9) 2 interval)))))))))

-- The interval after a tick, at this age. "A time is up at that age or beyond." At most one change.
unfoldable pub next_interval : Timings → Wish → ℕ → Bool → ℕ → ℕ
next_interval t wish age red interval = cond (leb (time_of t interval) age) (successor_of t wish age red interval) interval
