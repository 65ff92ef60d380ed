-- `first_from` a turn at a time, for a loop that has come to i and ends before n.
use Prim.Native.Nat.{ℕ, suc, ◌+◌, ◌-◌, ◌≤◌, ◌<◌}
use mathlib.Core.Path.{◌≡◌, ◌∙◌}
use Rattle.std.specs.Prelude.{Option, Some, None}
use native.Mathlib.Omega.{arith}
use Rattle.tick_diagnosis.specs.declared.number.Number.{Number}
use Rattle.tick_diagnosis.specs.Numbers.{first_from}

-- A loop that looks for the first that is out of range of the first n, and has come to i: it is the first of those left.
pub record FirstLeft (f : ℕ → Option Number) (n : ℕ) (rest : Option Number) (i : ℕ) : Type 0 where
  pub up_to : i ≤ n
  pub left : first_from f i (n - i) rest ≡ first_from f 0 n rest

pub first_at_start : (f : ℕ → Option Number) (n : ℕ) (rest : Option Number) → FirstLeft f n rest 0
first_at_start f n rest = let e : n - 0 ≡ n = omega arith in record { up_to = omega arith; left = rw e }

module _ {f : ℕ → Option Number} {n : ℕ} {rest : Option Number} {i : ℕ} (l : FirstLeft f n rest i) where
  pub first_found : i < n → {x : Number} → f i ≡ Some x → Some x ≡ first_from f 0 n rest
  first_found h {x} b =
      let e : n - i ≡ suc (n - (i + 1)) = omega arith in
      let here : Some x ≡ first_from f i (n - i) rest = rw (e, b) in
      here ∙ l.left

  pub first_turn : i < n → f i ≡ None → FirstLeft f n rest (i + 1)
  first_turn h b =
      let e : n - i ≡ suc (n - (i + 1)) = omega arith in
      let past : first_from f (i + 1) (n - (i + 1)) rest ≡ first_from f i (n - i) rest = rw (e, b) in
      record { up_to = omega arith; left = past ∙ l.left }

  pub first_none : n ≤ i → rest ≡ first_from f 0 n rest
  first_none h =
      let e : n - i ≡ 0 = omega arith in
      let end : rest ≡ first_from f i (n - i) rest = rw e in
      end ∙ l.left
