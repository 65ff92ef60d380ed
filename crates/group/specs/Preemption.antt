-- Document 02, A1: the fire service's preemption call, 0 or 1, steers the group's interval.
use Rattle.std.specs.Prelude.{ℕ, Bool, cond, ◌&&◌, ◌||◌, eqb}
use Rattle.wanted.specs.declared.wish.Wish.{Wish}
use Rattle.wanted.specs.declared.wish.Wish.TheVariants.{Clear}

-- Pre-metering dark or pre-metering green.
unfoldable pub is_pre_metering : ℕ → Bool
is_pre_metering interval = eqb interval 1 || eqb interval 2

-- "A dark meter is held dark. A pre-metering green is held however old it is."
unfoldable pub is_held : ℕ → ℕ → Bool
is_held preemption interval = eqb preemption 1 && is_pre_metering interval

-- "From any other interval the group advances by the ordinary path": that of a wish not to meter, so that "metering under preemption turns
-- to closing". The other intervals that are not held look at no wish.
unfoldable pub steered_wish : ℕ → Wish → Wish
steered_wish preemption wish = cond (eqb preemption 1) Clear wish
