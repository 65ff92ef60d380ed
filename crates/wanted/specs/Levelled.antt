-- Document 01, 'What is wanted', and document 02, A8: the level that decides and what it gives, by the counts of the last completed period and in
-- whole numbers alone. `decide` and the tick promise it where they refuse nothing.
use Rattle.std.specs.Prelude.{ℕ, ◌+◌, ◌≤◌, ◌≡◌}
use Rattle.site.specs.declared.Site.{Site}
use Rattle.site.specs.Named.{mainline_lanes}
use Rattle.inputs.specs.declared.Command.{Command}
use Rattle.period.specs.declared.Periods.{Periods}
use Rattle.levels.specs.declared.measure.Totals.{Totals}
use Rattle.levels.specs.Measures.{totals_of}
use Rattle.levels.specs.Levels.{level_of, ListedLast}
use Rattle.levels.specs.ByCounts.{decides_by_counts}
use Rattle.wanted.specs.declared.wish.Wish.{Wish}
use Rattle.wanted.specs.declared.wish.Wish.TheVariants.{Metering, Clear}

-- The totals over the good lanes of the last completed period.
abbrev pub last_totals : Site → Periods → Totals
last_totals x p = totals_of p.last (mainline_lanes x)

-- The place from 1 of the level that decides under the command in force, 0 for none, and what is then wished.
pub record Levelled (x : Site) (c : Command) (p : Periods) (level : ℕ) (wish : Wish) : Type 0 where
  -- "A responsive one looks at the last completed period." Where it has a good lane, "the level of its table listed last among those met
  -- decides,
  pub responsive : c.kind ≡ 4 → 1 ≤ p.serial → 1 ≤ (last_totals x p).lanes
      → ListedLast (λ j. decides_by_counts (level_of x.tables j) c.table (last_totals x p)) x.levels level
  -- and gives metering at its rate;
  pub metering : c.kind ≡ 4 → 1 ≤ p.serial → 1 ≤ (last_totals x p).lanes → (k : ℕ) → level ≡ k + 1 → wish ≡ Metering (level_of x.tables k).rate
  -- none met gives clear."
  pub clear : c.kind ≡ 4 → 1 ≤ p.serial → 1 ≤ (last_totals x p).lanes → level ≡ 0 → wish ≡ Clear
  -- "No period: clear. No good lane: metering at the command's or entry's rate."
  pub no_period : c.kind ≡ 4 → p.serial ≡ 0 → (level ≡ 0) × (wish ≡ Clear)
  pub no_good_lane : c.kind ≡ 4 → 1 ≤ p.serial → (last_totals x p).lanes ≡ 0 → (level ≡ 0) × (wish ≡ Metering c.rate)
  -- Under any other command no level decides.
  pub other : (c.kind ≡ 4 → ⊥) → level ≡ 0
