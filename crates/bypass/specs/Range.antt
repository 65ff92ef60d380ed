-- Document 02, A4: "a bypass kept outside metering or without a priority lane, or a timer above 2550, or not 0 without a bypass, is the old
-- 13."
use Rattle.std.specs.Prelude.{ℕ, Bool, false, cond, not, ◌||◌, ltb, eqb}
use Rattle.bypass.specs.declared.Bypass.{Bypass}

-- At power-up no bypass is kept, and no mark.
abbrev pub no_bypass : Bypass
no_bypass = record { kept = false; mark = false; timer = 0 }

unfoldable pub bypass_spoilt : Bool → ℕ → Bypass → Bool
bypass_spoilt metering priority b = cond b.kept (eqb priority 0 || (ltb 2550 b.timer || not metering)) (ltb 0 b.timer)
