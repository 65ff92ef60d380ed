-- No line of readings is longer than the longest: no speed has more than five digits before its point.
use Prim.Native.Nat.{ℕ, zero, suc, ◌+◌, ◌*◌, ◌/◌, ◌%◌, ◌≤◌}
use native.Mathlib.Omega.{arith}
use lib.ListN.{length, length-append}
use lib.Ieee.{Float}
use Rattle.text.proofs.DecimalLaws.{decimal_most}
use Rattle.speed.specs.Tenths.{tenths_of}
use Rattle.speed.proofs.TenthsLaws.{most}
use Rattle.lane_speeds.specs.declared.reading.Reading.{Reading}
use Rattle.lane_speeds.specs.declared.reading.Reading.TheVariants.{Absent, Measured, Carried}
use Rattle.lane_speeds.specs.Reading.{speed_in}
use Rattle.readings.specs.declared.LaneReading.{LaneReading}
use Rattle.readings.specs.declared.Readings.{Readings}
use Rattle.readings.specs.Readings.{lane_in}
use Rattle.readings_text.specs.Line.{speed_text, case_text, lane_text, lanes_text, speeds_line, longest_speeds}

speed_most : (x : Float) → length (speed_text x) ≤ 8
unfolding speed_text
speed_most x =
    let t = most x in
    let a = decimal_most 4 (tenths_of x / 10) (omega arith) in
    let b = decimal_most 0 (tenths_of x % 10) (omega arith) in
    simp length-append (omega arith)

case_most : (r : Reading) → length (case_text r) ≤ 2
case_most Absent = omega arith
case_most (Measured x) = omega arith
case_most (Carried x) = omega arith

lane_most : (l : LaneReading) → length (lane_text l) ≤ 26
unfolding lane_text
lane_most l =
    let a = case_most l.reading in
    let b = speed_most (speed_in l.reading) in
    let c = speed_most l.speeds.latest in
    let d = speed_most l.speeds.slowest in
    simp length-append (omega arith)

lanes_most : (r : Readings) (j k : ℕ) → length (lanes_text r j k) ≤ k * 26
lanes_most r j zero = omega arith
lanes_most r j (suc k) = let a = lane_most (lane_in r j) in let b = lanes_most r (j + 1) k in simp length-append (omega arith)

pub speeds_most : (r : Readings) (m : ℕ) → m ≤ 6 → length (speeds_line r m) ≤ longest_speeds
unfolding speeds_line
speeds_most r m h = let a = lanes_most r 0 m in simp length-append (omega arith)
