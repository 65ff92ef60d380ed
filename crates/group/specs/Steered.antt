-- Document 02, A1, in its own words: the interval after one tick, with the fire service's call on and without it.
use Rattle.std.specs.Prelude.{ℕ, ◌≡◌, false}
use Rattle.timings.specs.declared.Timings.{Timings}
use Rattle.wanted.specs.declared.wish.Wish.{Wish}
use Rattle.group.specs.declared.Group.{Group}
use Rattle.group.specs.Preemption.{is_pre_metering}
use Rattle.group.specs.Group.{ordinary_interval}

-- While the call is on:
pub record Preempted (t : Timings) (g : Group) (now : ℕ) : Type 0 where
  -- "A dark meter is held dark."
  pub dark : g.interval ≡ 1 → now ≡ 1
  -- "A pre-metering green is held however old it is."
  pub green : g.interval ≡ 2 → now ≡ 2
  -- "Metering under preemption turns to closing."
  pub metering : g.interval ≡ 7 → now ≡ 8
  -- "From any other interval the group advances by the ordinary path", whatever is wanted; initialization too "finishes that".
  pub other : is_pre_metering g.interval ≡ false → (g.interval ≡ 7 → ⊥) → (wish : Wish) → now ≡ ordinary_interval t wish g

-- And "when the call ends, what is wanted rules again".
pub record Steered (t : Timings) (preemption : ℕ) (wish : Wish) (g : Group) (now : ℕ) : Type 0 where
  pub called : preemption ≡ 1 → Preempted t g now
  pub free : (preemption ≡ 1 → ⊥) → now ≡ ordinary_interval t wish g
