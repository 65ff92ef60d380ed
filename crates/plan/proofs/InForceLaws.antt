-- What the search finds is the entry in force in the paper's words: kept from each entry tried to the next.
use Prim.Native.Nat.{ℕ, zero, suc, ◌+◌, ◌≤◌, ◌<◌}
use mathlib.Core.Path.{◌≡◌, refl, sym, subst, ◌∙◌}
use mathlib.Core.Bool.{Bool, true, false, true≢false}
use mathlib.Core.List.{List}
use native.Mathlib.Omega.{arith}
use borrow.Author.Count.{below_more}
use borrow.Author.Tests.{leb-true, leb-false, eqb-true, eqb-false}
use lib.Dec.{leb, eqb}
use Rattle.plan.specs.declared.Entry.{Entry}
use Rattle.plan.specs.Entry.{entry_of}
use Rattle.plan.specs.InForce.{takes_over, in_force_from, in_force_of, applies, InForce}

-- What has been found among the first i entries, and its start.
record Found (rows : List ℕ) (day minute i best start : ℕ) : Type 0 where
  is : InForce rows i day minute best
  its_start : (k : ℕ) → best ≡ k + 1 → start ≡ (entry_of rows k).start

module _ (rows : List ℕ) (day minute i best start : ℕ) (f : Found rows day minute i best start) where
  abbrev s : ℕ → ℕ
  s j = (entry_of rows j).start

  -- where an entry before i applies, one has been found, and starts no earlier
  before : (j : ℕ) → j < i → applies (entry_of rows j) day minute ≡ true → (best ≡ 0 → ⊥) × (s j ≤ start)
  before j h a = case best refl
    where
      case : (b : ℕ) → best ≡ b → (best ≡ 0 → ⊥) × (s j ≤ start)
      case zero e = absurd (true≢false (sym a ∙ f.is.none e j h))
      case (suc k) e =
          let q : best ≡ k + 1 = omega arith in (λ z. omega arith, omega (arith, f.is.latest_start k j q h a, f.its_start k q))

  -- an entry that takes over is in force among those up to it
  taken : applies (entry_of rows i) day minute ≡ true → ((best ≡ 0 → ⊥) → start ≤ s i) → Found rows day minute (i + 1) (i + 1) (s i)
  taken a l = record {
    is = record {
      none = λ z. absurd (omega arith);
      one_of_them = λ k e. let q : i ≡ k = omega arith in (omega arith, subst (λ (x : ℕ). applies (entry_of rows x) day minute ≡ true) q a);
      latest_start = λ k j e h b. let q : i ≡ k = omega arith in subst (λ (x : ℕ). s j ≤ s x) q (upto j h b);
      filed_last = λ k j e h b r. omega arith;
    };
    its_start = λ k e. let q : i ≡ k = omega arith in subst (λ (x : ℕ). s i ≡ s x) q refl;
  }
    where
      upto : (j : ℕ) → j < i + 1 → applies (entry_of rows j) day minute ≡ true → s j ≤ s i
      upto =
          below_more (λ (j : ℕ). applies (entry_of rows j) day minute ≡ true → s j ≤ s i) i
          (λ j h b. omega (arith, (before j h b).1, l (before j h b).0))
          (λ b. omega arith)

  -- one that does not leaves what was found
  passed : (applies (entry_of rows i) day minute ≡ true → (best ≡ 0 → ⊥) × (s i < start)) → Found rows day minute (i + 1) best start
  passed p = record {
    is = record {
      none = λ z. below_more (λ (j : ℕ). applies (entry_of rows j) day minute ≡ false) i (f.is.none z) (not_here _ refl z);
      one_of_them = λ k e. (omega (arith, (f.is.one_of_them k e).0), (f.is.one_of_them k e).1);
      latest_start = λ k j e h b. below_more (λ (m : ℕ). applies (entry_of rows m) day minute ≡ true → s m ≤ s k) i (λ m g c. f.is.latest_start k m e g c) (λ c. omega (arith, (p c).1, f.its_start k e)) j h b;
      filed_last = λ k j e h b r. below_more (λ (m : ℕ). applies (entry_of rows m) day minute ≡ true → s m ≡ s k → m ≤ k) i (λ m g c q. f.is.filed_last k m e g c q) (λ c q. absurd (omega (arith, (p c).1, f.its_start k e))) j h b r;
    };
    its_start = f.its_start;
  }
    where
      not_here : (b : Bool) → applies (entry_of rows i) day minute ≡ b → best ≡ 0 → applies (entry_of rows i) day minute ≡ false
      not_here true e z = absurd ((p e).0 z)
      not_here false e z = e

-- The code's test in those words.
takes_is : (e : Entry) (day minute best start : ℕ) (a b c : Bool)
    → applies e day minute ≡ a
    → eqb best 0 ≡ b
    → leb start e.start ≡ c
    → (takes_over e day minute best start ≡ true → (applies e day minute ≡ true) × ((best ≡ 0 → ⊥) → start ≤ e.start))
    × (takes_over e day minute best start ≡ false → applies e day minute ≡ true → (best ≡ 0 → ⊥) × (e.start < start))
unfolding takes_over
takes_is e day minute best start true true c ea eb ec =
    (λ z. (ea, λ n. absurd (n (eqb-true best 0 eb))), λ z. absurd (true≢false (simp (ea, eb) at z)))
takes_is e day minute best start true false true ea eb ec =
    (λ z. (ea, λ n. leb-true start e.start ec), λ z. absurd (true≢false (simp (ea, eb, ec) at z)))
takes_is e day minute best start true false false ea eb ec =
    (λ z. absurd (true≢false (sym (simp (ea, eb, ec) at z))), λ z y. (eqb-false best 0 eb, leb-false start e.start ec))
takes_is e day minute best start false b c ea eb ec =
    (λ z. absurd (true≢false (sym (simp ea at z))), λ z y. absurd (true≢false (sym y ∙ ea)))

-- One turn of the search, from what the rest of it gives.
turn : (rows : List ℕ) (day minute n i best start : ℕ) (b : Bool) → takes_over (entry_of rows i) day minute best start ≡ b
    → Found rows day minute i best start
    → ((best' start' : ℕ) → Found rows day minute (i + 1) best' start' → InForce rows (i + 1 + n) day minute (in_force_from rows day minute best' start' (i + 1) n))
    → InForce rows (i + 1 + n) day minute (in_force_from rows day minute best start i (suc n))
turn rows day minute n i best start true e f rest =
    let l = (takes_is (entry_of rows i) day minute best start _ _ _ refl refl refl).0 e in
    rw e (rest (i + 1) (entry_of rows i).start (taken rows day minute i best start f l.0 l.1))
turn rows day minute n i best start false e f rest =
    rw e (rest best start (passed rows day minute i best start f ((takes_is (entry_of rows i) day minute best start _ _ _ refl refl refl).1 e)))

searched : (rows : List ℕ) (day minute n i best start : ℕ) → Found rows day minute i best start → InForce rows (i + n) day minute (in_force_from rows day minute best start i n)
searched rows day minute zero i best start f = let e : i + 0 ≡ i = omega arith in rw e f.is
searched rows day minute (suc n) i best start f =
    let e : i + suc n ≡ i + 1 + n = omega arith in
    rw e (turn rows day minute n i best start _ refl f (λ b s g. searched rows day minute n (i + 1) b s g))

pub is_in_force : (rows : List ℕ) (count day minute : ℕ) → InForce rows count day minute (in_force_of rows count day minute)
unfolding in_force_of
is_in_force rows count day minute =
    let e : 0 + count ≡ count = omega arith in
    rw e at (searched rows day minute count 0 0 0 (record {
      is = record { none = λ z j h. absurd (omega arith); one_of_them = λ k q. absurd (omega arith); latest_start = λ k j q. absurd (omega arith); filed_last = λ k j q. absurd (omega arith) };
      its_start = λ k q. absurd (omega arith);
    }))

-- The entry in force is one of the plan's.
pub in_force_in : (rows : List ℕ) (count day minute : ℕ) → in_force_of rows count day minute ≤ count
in_force_in rows count day minute = case (in_force_of rows count day minute) refl
  where
    case : (r : ℕ) → in_force_of rows count day minute ≡ r → in_force_of rows count day minute ≤ count
    case zero e = omega arith
    case (suc k) e =
        let q : in_force_of rows count day minute ≡ k + 1 = omega arith in
        omega (arith, ((is_in_force rows count day minute).one_of_them k q).0)
