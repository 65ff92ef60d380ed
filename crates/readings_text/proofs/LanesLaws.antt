-- The lanes that are left: all at the start; the next one's text, and that of those behind it; none at the end.
use Prim.Native.Nat.{ℕ, suc, ◌+◌, ◌-◌, ◌≤◌, ◌<◌}
use mathlib.Core.Path.{◌≡◌}
use mathlib.Core.List.{[], ◌++◌}
use native.Mathlib.Omega.{arith}
use Rattle.readings.specs.declared.Readings.{Readings}
use Rattle.readings.specs.Readings.{lane_in}
use Rattle.readings_text.specs.Line.{lane_text, lanes_text}

pub lanes_start : (r : Readings) (m : ℕ) → lanes_text r 0 (m - 0) ≡ lanes_text r 0 m
lanes_start r m = let e : m - 0 ≡ m = omega arith in rw e

pub lanes_turn : (r : Readings) (j m : ℕ) → j < m → lanes_text r j (m - j) ≡ lane_text (lane_in r j) ++ lanes_text r (j + 1) (m - (j + 1))
lanes_turn r j m h = let e : m - j ≡ suc (m - (j + 1)) = omega arith in rw e

pub lanes_end : (r : Readings) (j m : ℕ) → m ≤ j → lanes_text r j (m - j) ≡ []
lanes_end r j m h = let e : m - j ≡ 0 = omega arith in rw e
