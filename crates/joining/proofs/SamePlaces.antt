-- Which entries of the first remain is settled: as many, from the same places, one place after the other.
use Prim.Native.Nat.{ℕ, zero, suc, ◌+◌, ◌≤◌, ◌<◌}
use mathlib.Core.Path.{◌≡◌, ap}
use mathlib.Core.Logic.{⊎_elim}
use native.Mathlib.Nat.{eq-or-lt_of_le}
use native.Mathlib.Omega.{arith}
use borrow.Author.Count.{below_more}
use borrow.Author.Tests.{ltb-true, ltb-false}
use lib.Dec.{ltb}
use Rattle.loops.proofs.Cases.{by_test}
use Rattle.joining.specs.declared.PlanList.{PlanList}
use Rattle.joining.specs.InWords.{Remain}

module _ {first second : PlanList} where
  -- Where the places before n agree, place n of the one is reached by the other, and no later.
  reaches : {m o : ℕ} {f g : ℕ → ℕ} (j : Remain first second m f) (q : Remain first second o g) (n : ℕ)
      → ((k : ℕ) → k < n → k < o → (k < m) × (f k ≡ g k))
      → n < m → (n < o) × (g n ≤ f n)
  reaches {f = f} {g = g} j q n same h =
      let w = q.each (f n) (j.of_first n h) (j.none_dropped n h) in
      by_test (ltb w.0 n)
      (λ t. let l = ltb-true w.0 n t in
      let s = same w.0 l w.1.0 in
      absurd (omega (arith, j.in_order w.0 n l h, s.1, w.1.1)))
      (λ t. let l = ltb-false w.0 n t in (
        omega (arith, w.1.0),
        ⊎_elim
            (λ (e : n ≡ w.0). let s = ap g e in omega (arith, w.1.1, s))
            (λ (e : n < w.0). omega (arith, q.in_order n w.0 e w.1.0, w.1.1))
            (eq-or-lt_of_le l),
      ))

  module _ {m o : ℕ} {f g : ℕ → ℕ} (j : Remain first second m f) (q : Remain first second o g) where
    Agree : ℕ → Type 0
    Agree k = (k < m → (k < o) × (g k ≡ f k)) × (k < o → (k < m) × (f k ≡ g k))

    agree_here : (n : ℕ) → ((k : ℕ) → k < n → Agree k) → Agree n
    unfolding Agree
    agree_here n ih = (
      (λ h. let a = reaches j q n (λ k l. (ih k l).1) h in let b = reaches q j n (λ k l. (ih k l).0) a.0 in (a.0, omega (arith, a.1, b.1))),
      (λ h. let b = reaches q j n (λ k l. (ih k l).0) h in let a = reaches j q n (λ k l. (ih k l).1) b.0 in (b.0, omega (arith, a.1, b.1))),
    )

    agree_below : (n k : ℕ) → k < n → Agree k
    agree_below zero k h = absurd (omega arith)
    agree_below (suc n) k h =
        let s : suc n ≡ n + 1 = omega arith in below_more Agree n (agree_below n) (agree_here n (agree_below n)) k (rw s at h)

    pub same_place : (k : ℕ) → k < m → (k < o) × (g k ≡ f k)
    unfolding Agree
    same_place k h = (agree_below (suc k) k (omega arith)).0 h

    no_fewer : m ≤ o
    no_fewer =
        by_test (ltb o m) (λ t. absurd (omega (arith, (same_place o (ltb-true o m t)).0))) (λ t. ltb-false o m t)

  pub as_many : {m o : ℕ} {f g : ℕ → ℕ} → Remain first second m f → Remain first second o g → m ≡ o
  as_many j q = omega (arith, no_fewer j q, no_fewer q j)
