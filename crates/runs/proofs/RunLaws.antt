-- It happens in time: where something is kept by every call, refused ones change nothing, and a rank falls at each accepted call at which
-- it does not happen, it happens within more accepted calls than the rank. And what it brings about, if every call keeps that, lasts.
use Prim.Native.Nat.{ℕ, zero, suc, ◌+◌, ◌≤◌, ◌<◌}
use mathlib.Core.Path.{◌≡◌, sym}
use mathlib.Core.Bool.{Bool, true, false, cond, ◌&&◌, true≢false}
use mathlib.Core.List.{List, [], ◌∷◌, ◌++◌}
use native.Mathlib.Omega.{arith}
use Rattle.loops.proofs.Cases.{by_test, or_else}
use Rattle.runs.specs.Runs.{after, AtEach, accepted_in, happens_within}

pub one_less : {k y : ℕ} → suc k ≤ 1 + y → k ≤ y
one_less h = omega arith

no_less : {k y : ℕ} → suc k ≤ 0 + y → suc k ≤ y
no_less h = omega arith

module _ {Course Call : Type 0} (onward : Course → Call → Course) (accepted : Course → Call → Bool) where
  -- Something at each accepted call of two lists, one behind the other.
  pub split_run : (P : Course → Call → Type 0) (c : Course) (before run : List Call) → AtEach onward accepted P c (before ++ run)
      → AtEach onward accepted P c before × AtEach onward accepted P (after onward c before) run
  split_run P c [] run a = (tt, a)
  split_run P c (call ∷ before) run a =
      let p = split_run P (onward c call) before run a.1 in
      ((a.0, p.0), p.1)

  -- Two things at each accepted call.
  pub both_run : (P Q : Course → Call → Type 0) (c : Course) (calls : List Call) → AtEach onward accepted P c calls → AtEach onward accepted Q c calls
      → AtEach onward accepted (λ c call. P c call × Q c call) c calls
  both_run P Q c [] a b = tt
  both_run P Q c (call ∷ calls) a b = ((λ e. (a.0 e, b.0 e)), both_run P Q (onward c call) calls a.1 b.1)

  module _ (Holds : Course → Type 0) (Waits : Course → Call → Type 0) (happens : Course → Call → Bool) (rank : Course → ℕ)
      (stays : (c : Course) (call : Call) → accepted c call ≡ false → onward c call ≡ c)
      (falls : (c : Course) (call : Call) → Holds c → accepted c call ≡ true → Waits c call → happens c call ≡ false → Holds (onward c call) × (rank (onward c call) < rank c)) where
    -- What holds need only be kept until it happens.
    pub until : (k : ℕ) (c : Course) (calls : List Call) → Holds c → AtEach onward accepted Waits c calls
        → rank c < k → k ≤ accepted_in onward accepted c calls → happens_within onward accepted happens k c calls ≡ true
    until k c [] holds waiting r l = absurd (omega arith)
    until zero c (call ∷ calls) holds waiting r l = absurd (omega arith)
    until (suc k) c (call ∷ calls) holds waiting r l =
        by_test (accepted c call)
        (λ e. by_test (happens c call)
        (λ hit. rw (e, hit))
        (λ miss. let on = falls c call holds e (waiting.0 e) miss in
        rw e (or_else (happens c call) (until k (onward c call) calls on.0 waiting.1 (omega (arith, on.1)) (one_less (rw e at l))))))
        (λ e. rw e (until (suc k) (onward c call) calls (rw (stays c call e) holds) waiting.1 (rw (stays c call e) r) (no_less (rw e at l))))

  module _ (Going : Course → Type 0) (Given : Course → Call → Type 0)
      (keeps : (c : Course) (call : Call) → Going c → (accepted c call ≡ true → Given c call) → Going (onward c call)) where
    -- What every call keeps holds after a list of them.
    pub reached : (c : Course) (calls : List Call) → Going c → AtEach onward accepted Given c calls → Going (after onward c calls)
    reached c [] going given = going
    reached c (call ∷ calls) going given = reached (onward c call) calls (keeps c call going given.0) given.1

    -- So does what every call keeps besides.
    pub endures : (Holds : Course → Type 0)
        → ((c : Course) (call : Call) → Going c → (accepted c call ≡ true → Given c call) → Holds c → Holds (onward c call))
        → (c : Course) (calls : List Call) → Going c → AtEach onward accepted Given c calls → Holds c → Holds (after onward c calls)
    endures Holds holds c [] going given h = h
    endures Holds holds c (call ∷ calls) going given h =
        endures Holds holds (onward c call) calls (keeps c call going given.0) given.1 (holds c call going given.0 h)

    -- What something brings about, and every call then keeps, holds after a list in which it happens.
    pub lasts : (Holds : Course → Type 0) (happens : Course → Call → Bool)
        → ((c : Course) (call : Call) → happens c call ≡ true → Holds (onward c call))
        → ((c : Course) (call : Call) → Going c → (accepted c call ≡ true → Given c call) → Holds c → Holds (onward c call))
        → (k : ℕ) (c : Course) (calls : List Call) → Going c → AtEach onward accepted Given c calls
        → happens_within onward accepted happens k c calls ≡ true → Holds (after onward c calls)
    lasts Holds happens begins holds k c [] going given e = absurd (true≢false (sym e))
    lasts Holds happens begins holds zero c (call ∷ calls) going given e = absurd (true≢false (sym e))
    lasts Holds happens begins holds (suc k) c (call ∷ calls) going given e =
        let on = keeps c call going given.0 in
        by_test (accepted c call && happens c call)
        (λ hit. endures Holds holds (onward c call) calls on given.1 (begins c call (second (accepted c call) hit)))
        (λ miss. lasts Holds happens begins holds (cond (accepted c call) k (suc k)) (onward c call) calls on given.1 (rw miss at e))
      where
        second : (a : Bool) {b : Bool} → (a && b) ≡ true → b ≡ true
        second true e = e
        second false e = absurd (true≢false (sym e))

    module _ (Waits : Course → Call → Type 0) (happens : Course → Call → Bool) (rank : Course → ℕ)
        (stays : (c : Course) (call : Call) → accepted c call ≡ false → onward c call ≡ c)
        (falls : (c : Course) (call : Call) → Going c → accepted c call ≡ true → Given c call → Waits c call → happens c call ≡ false → rank (onward c call) < rank c) where
      pub within : (k : ℕ) (c : Course) (calls : List Call) → Going c → AtEach onward accepted Given c calls → AtEach onward accepted Waits c calls
          → rank c < k → k ≤ accepted_in onward accepted c calls → happens_within onward accepted happens k c calls ≡ true
      within k c calls going given waiting =
          until Going (λ c call. Given c call × Waits c call) happens rank stays
          (λ c call going e both miss. (keeps c call going (λ _. both.0), falls c call going e both.0 both.1 miss))
          k c calls going (both_run Given Waits c calls given waiting)
