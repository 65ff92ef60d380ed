-- Document 02, A14: "Removing the one in turn passes the turn at the next tick, whose answer is ignored, even if it is enrolled again
-- first."
use Rattle.std.specs.Prelude.{ℕ, ◌≡◌, true, List}
use Rattle.desk.specs.declared.Desk.{Desk}
use Rattle.desk.specs.Desk.{enrolled_at}
use Rattle.desk.specs.Tick.{tick_of}
use Rattle.desk.specs.Calls.{Call, ticks, is_accepted, desk_after, accepted_ticks}
use Rattle.desk.specs.InWords.{PassesOn}

-- Whatever calls without an accepted tick come after, the next accepted tick, whatever its answer, passes the turn on from the cabinet that
-- had it, if any is then enrolled.
unfoldable pub NextPasses : ℕ → Desk → Type 0
NextPasses from d =
    (calls : List Call) → accepted_ticks d calls ≡ 0
    → ((desk_after d calls).turn ≡ from)
    × ((answer k : ℕ) → is_accepted (desk_after d calls) (ticks answer) ≡ true → enrolled_at (desk_after d calls) k ≡ true
    → PassesOn (desk_after d calls) (tick_of (desk_after d calls) answer))
