-- Document 01, 'Poll record': "Serial of the last completed period in four bytes, from 1, staying at 4294967295; then count n and each
-- lane's passages and greens begun; then count m and each mainline lane's vehicles, occupied ms and good 0 or 1. Lanes not working add
-- nothing. Two-byte numbers as above." The serial's four bytes, highest first, are its two halves as such numbers. Lanes are counted from 0.
use Rattle.std.specs.Prelude.{ℕ, zero, suc, ◌+◌, ◌/◌, ◌%◌, cond, List, [], ◌∷◌, ◌++◌, eqb, get_or, Option, Some, None}
use Rattle.refusals.specs.declared.Refusal.{Refusal}
use Rattle.refusals.specs.declared.Refusal.TheVariants.{NoPeriod, SpoiltState, SpoiltSite}
use Rattle.numbers.specs.Words.{bytes}
use Rattle.site.specs.declared.Site.{Site}
use Rattle.site.specs.Record.{spoilt_site}
use Rattle.site.specs.Named.{metered_lanes, mainline_lanes, shape_of}
use Rattle.period.specs.declared.Counts.{Counts}
use Rattle.period.specs.declared.Periods.{Periods}
use Rattle.period.specs.Counts.{lane_of, good_of}
use Rattle.state.specs.declared.State.{State}
use Rattle.state.specs.State.{state_spoilt}

-- A metered lane's numbers, and a mainline lane's.
abbrev pub metered_row : Counts → ℕ → List ℕ
metered_row c i = get_or c.passages i 0 ∷ get_or c.greens i 0 ∷ []

abbrev pub mainline_row : Counts → ℕ → List ℕ
mainline_row c j = (lane_of c j).vehicles ∷ (lane_of c j).occupied ∷ cond (good_of (lane_of c j)) 1 0 ∷ []

-- The numbers of the next k lanes from i on.
abbrev pub rows_from : (ℕ → List ℕ) → ℕ → ℕ → List ℕ
rows_from row i zero = []
rows_from row i (suc k) = row i ++ rows_from row (i + 1) k

-- The record's numbers, at a site of n metered and m mainline lanes.
unfoldable pub poll_words : Periods → ℕ → ℕ → List ℕ
poll_words p n m =
    (p.serial / 65536) ∷ (p.serial % 65536) ∷ n ∷ (rows_from (metered_row p.last) 0 n ++ (m ∷ rows_from (mainline_row p.last) 0 m))

-- The record.
abbrev pub poll_of : Site → State → List ℕ
poll_of x s = bytes (poll_words s.periods (metered_lanes x) (mainline_lanes x))

-- "A poll record checks 14, 13, 12, 11": these are the first three.
unfoldable pub refusal_of : Site → State → Option Refusal
refusal_of x s =
    cond (spoilt_site x) (Some SpoiltSite) (cond (state_spoilt s (shape_of x)) (Some SpoiltState) (cond (eqb s.periods.serial 0) (Some NoPeriod) None))
