-- The search goes round: where the test holds of i one is found, and it is i or fewer turns behind the one that had the turn last than i.
use Prim.Native.Nat.{ℕ, zero, suc, ◌+◌, ◌-◌, ◌≤◌, ◌<◌}
use mathlib.Core.Path.{◌≡◌, sym, ◌∙◌, subst}
use mathlib.Core.Bool.{Bool, true, false, true≢false}
use native.Mathlib.Omega.{arith}
use borrow.Author.Tests.{ltb-true, ltb-false, lt-ltb, le-ltb, eqb-false, ne_eqb}
use lib.Dec.{ltb, eqb}
use Rattle.loops.proofs.Cases.{by_test}
use Rattle.turns.specs.Turn.{next_of, first_after, turns}
use Rattle.turns.proofs.FirstLaws.{next_from_1}

next_most : (n k : ℕ) → 1 ≤ n → next_of n k ≤ n
unfolding next_of
next_most n k h = by_test (ltb k n) (λ e. rw e (omega (arith, ltb-true k n e))) (λ e. rw e (omega arith))

pub turns_in : (n k i : ℕ) → 1 ≤ k → k ≤ n → 1 ≤ i → i ≤ n → (1 ≤ turns n k i) × (turns n k i ≤ n)
unfolding turns
turns_in n k i a b c d = by_test (ltb k i) (λ e. rw e (omega (arith, ltb-true k i e))) (λ e. rw e (omega (arith, ltb-false k i e)))

-- Only k itself is n turns behind k.
pub turns_most : (n k i : ℕ) → 1 ≤ k → k ≤ n → 1 ≤ i → i ≤ n → eqb k i ≡ false → turns n k i < n
unfolding turns
turns_most n k i a b c d ne =
    by_test (ltb k i) (λ e. rw e (omega (arith, ltb-true k i e))) (λ e. rw e (omega (arith, ltb-false k i e, eqb-false k i ne)))

-- Where r is fewer turns behind k than i is, i is fewer turns behind r than behind k.
pub nearer : (n k r i : ℕ) → 1 ≤ k → k ≤ n → 1 ≤ r → r ≤ n → 1 ≤ i → i ≤ n → turns n k r < turns n k i → turns n r i < turns n k i
unfolding turns
nearer n k r i a b c d f g less =
    by_test (ltb k i)
    (λ e. by_test (ltb k r)
    (λ q. let l : r - k < i - k = rw (e, q) at less in rw (e, lt-ltb r i (omega arith)) (omega (arith, ltb-true k r q)))
    (λ q. let l : r + n - k < i - k = rw (e, q) at less in absurd (omega arith)))
    (λ e. by_test (ltb r i)
    (λ q. rw (e, q) (omega (arith, ltb-true r i q)))
    (λ q. by_test (ltb k r)
    (λ w. rw (e, q) (omega (arith, ltb-true k r w)))
    (λ w. let l : r + n - k < i + n - k = rw (e, w) at less in absurd (omega (arith, ltb-false r i q)))))

-- The next one is one turn behind;
turns_next : (n k : ℕ) → 1 ≤ k → k ≤ n → turns n k (next_of n k) ≡ 1
unfolding turns next_of
turns_next n k a b =
    by_test (ltb k n)
    (λ e. rw (e, lt-ltb k (k + 1) (omega arith)) (omega arith))
    (λ e. rw (e, le-ltb k 1 (omega arith)) (omega (arith, ltb-false k n e)))

-- and, unless it is i, one turn nearer to i.
pub turn_step : (n k i : ℕ) → 1 ≤ k → k ≤ n → 1 ≤ i → i ≤ n → eqb (next_of n k) i ≡ false → turns n (next_of n k) i + 1 ≡ turns n k i
unfolding turns next_of
turn_step n k i a b c d ne =
    by_test (ltb k n)
    (λ e. let f = eqb-false (k + 1) i (rw e at ne) in
    rw e (by_test (ltb (k + 1) i)
    (λ g. by_test (ltb k i)
    (λ h. rw (g, h) (omega (arith, ltb-true (k + 1) i g)))
    (λ h. absurd (omega (arith, ltb-true (k + 1) i g, ltb-false k i h))))
    (λ g. by_test (ltb k i)
    (λ h. absurd (f (omega (arith, ltb-false (k + 1) i g, ltb-true k i h))))
    (λ h. rw (g, h) (omega (arith, ltb-true k n e, ltb-false (k + 1) i g, ltb-false k i h))))))
    (λ e. let f = eqb-false 1 i (rw e at ne) in
    rw e (by_test (ltb 1 i)
    (λ g. by_test (ltb k i)
    (λ h. absurd (omega (arith, ltb-false k n e, ltb-true k i h)))
    (λ h. rw (g, h) (omega (arith, ltb-false k n e, ltb-true 1 i g))))
    (λ g. absurd (f (omega (arith, ltb-false 1 i g))))))

-- What is found is one of the n, or 0, and the test holds of it.
pub first_in_lem : (p : ℕ → Bool) (n k m : ℕ) → 1 ≤ n → first_after p n k m ≤ n
first_in_lem p n k zero h = omega arith
first_in_lem p n k (suc m) h =
    by_test (p (next_of n k)) (λ e. rw e (next_most n k h)) (λ e. rw e (first_in_lem p n (next_of n k) m h))

pub first_holds : (p : ℕ → Bool) (n k m : ℕ) → eqb (first_after p n k m) 0 ≡ false → p (first_after p n k m) ≡ true
first_holds p n k zero h = absurd (true≢false h)
first_holds p n k (suc m) h =
    by_test (p (next_of n k)) (λ e. rw e e) (λ e. rw e (first_holds p n (next_of n k) m (rw e at h)))

-- r is a number from 1, and i itself or fewer turns behind k than i is.
pub record First (n k i r : ℕ) : Type 0 where
  pub some : 1 ≤ r
  pub first : eqb r i ≡ false → turns n k r < turns n k i

pub first_of : (p : ℕ → Bool) (n k i m : ℕ) → 1 ≤ k → k ≤ n → 1 ≤ i → i ≤ n → p i ≡ true → turns n k i ≤ m → First n k i (first_after p n k m)
first_of p n k i zero a b c d r h = absurd (omega (arith, (turns_in n k i a b c d).0))
first_of p n k i (suc m) a b c d r h =
    let next = next_of n k in
    let least = next_from_1 n k in
    let most = next_most n k (omega arith) in
    by_test (p next)
    (λ e. rw e (record { some = least; first = λ ne. omega (arith, turns_next n k a b, turn_step n k i a b c d ne, (turns_in n next i least most c d).0) }))
    (λ e. let v = first_of p n next i m least most c d r (omega (arith, turn_step n k i a b c d (other next i e r))) in
    let found = first_after p n next m in
    let holds = first_holds p n next m (ne_eqb found 0 (λ z. omega (arith, v.some))) in
    let behind = turn_step n k found a b v.some (first_in_lem p n next m (omega arith)) (other next found e holds) in
    rw e (record { some = v.some; first = λ x. omega (arith, v.first x, behind, turn_step n k i a b c d (other next i e r)) }))
  where
    other : (x y : ℕ) → p x ≡ false → p y ≡ true → eqb x y ≡ false
    other x y e f = ne_eqb x y (λ z. true≢false (sym f ∙ subst (λ (w : ℕ). p w ≡ false) z e))
