-- The definition's answer is what the words say, and no other is.
use Prim.Native.Nat.{ℕ, ◌+◌, ◌-◌, ◌*◌, ◌/◌, ◌%◌, ◌≤◌, ◌<◌}
use mathlib.Core.Path.{◌≡◌, refl, sym, ap, ap₂, ◌∙◌}
use mathlib.Core.Bool.{true}
use mathlib.Core.List.{List, [], ◌∷◌}
use mathlib.Core.Logic.{◌⊎◌, inl, inr}
use native.Mathlib.Omega.{arith}
use borrow.Author.Tests.{leb-true, leb-false, ltb-true, ltb-false}
use lib.Dec.{leb, ltb}
use lib.ListN.{length, get_or}
use lib.Seq.{ext_get_or}
use Rattle.loops.proofs.Cases.{by_test}
use Rattle.plan.specs.declared.Entry.{Entry}
use Rattle.plan.specs.Entry.{entry_of}
use Rattle.joining.specs.declared.PlanList.{PlanList}
use Rattle.std.specs.Prelude.{Result, Ok, Err, IfOk, IsOk, is_ok}
use Rattle.refusals.specs.declared.Refusal.{Refusal}
use Rattle.refusals.specs.declared.Refusal.TheVariants.{SpoiltSite, TooManyEntries}
use Rattle.joining.specs.Joining.{numbers_of, spoilt_list, joined_of}
use Rattle.joining.specs.InWords.{Joins, BothFiled, Answers}
use Rattle.joining.proofs.EntryRows.{number_of, zeros_behind}
use Rattle.joining.proofs.JoinLaws.{spoilt_first, spoilt_second, too_many, joins_if}
use Rattle.joining.proofs.Words.{remain, many_kept, joins_in_words}

-- Lists with the same entries, and 0 behind them, are the same.
same_list : (l m : PlanList) → l.count ≡ m.count
    → ((k : ℕ) → k < l.count → entry_of l.rows k ≡ entry_of m.rows k)
    → ((i : ℕ) → l.count * 5 ≤ i → get_or l.rows i 0 ≡ 0)
    → ((i : ℕ) → m.count * 5 ≤ i → get_or m.rows i 0 ≡ 0)
    → length l.rows ≡ 80 → length m.rows ≡ 80 → l ≡ m
same_list l m c f g h a b =
    let number : (i : ℕ) → get_or l.rows i 0 ≡ get_or m.rows i 0 =
    λ i. by_test (leb (l.count * 5) i)
    (λ t. let n = leb-true (l.count * 5) i t in g i n ∙ sym (h i (omega arith)))
    (λ t. let n = leb-false (l.count * 5) i t in
    let k = i / 5 in
    let j = i % 5 in
    let e : i ≡ k * 5 + j = omega arith in
    ap (λ (x : ℕ). get_or l.rows x 0) e
    ∙ number_of l.rows k j (omega arith)
    ∙ ap (λ (x : Entry). get_or (numbers_of (x ∷ [])) j 0) (f k (omega arith))
    ∙ sym (number_of m.rows k j (omega arith))
    ∙ sym (ap (λ (x : ℕ). get_or m.rows x 0) e)) in
    ap₂ (λ (x : List ℕ) (y : ℕ). record { rows = x; count = y }) (ext_get_or 0 l.rows m.rows (a ∙ sym b) (λ i n. number i)) c

same_joins : {first second l m : PlanList} {many : ℕ} {from : ℕ → ℕ} → Joins first second many from l → Joins first second many from m
    → length l.rows ≡ 80 → length m.rows ≡ 80 → l ≡ m
same_joins {first} {second} {l} {m} {many} j o a b =
    same_list l m (j.nothing_else ∙ sym o.nothing_else) entry j.zeros_beyond o.zeros_beyond a b
  where
    entry : (k : ℕ) → k < l.count → entry_of l.rows k ≡ entry_of m.rows k
    entry k h =
        by_test (ltb k many)
        (λ t. let n = ltb-true k many t in j.of_first k n ∙ sym (o.of_first k n))
        (λ t. let n = ltb-false k many t in
        let i = k - many in
        let e : k ≡ many + i = omega arith in
        let n : i < second.count = omega (arith, j.nothing_else) in
        ap (entry_of l.rows) e ∙ j.then_second i n ∙ sym (o.then_second i n) ∙ sym (ap (entry_of m.rows) e))

module _ (first second : PlanList) where
  no_file : (spoilt_list first ≡ true) ⊎ (spoilt_list second ≡ true) → joined_of first second ≡ Err SpoiltSite
  no_file (inl h) = sym (spoilt_first first second h)
  no_file (inr h) =
      by_test (spoilt_list first)
      (λ t. sym (spoilt_first first second t))
      (λ f. sym (spoilt_second first second f h))

  pub answers : Answers first second (joined_of first second)
  answers = record {
    no_file = no_file;
    too_many = λ b many from r l. sym (too_many first second b.of_first b.of_second _ refl (omega (arith, many_kept first second r)));
    joined = λ b many from r l. (
      _,
      (sym (joins_if first second b.of_first b.of_second (omega (arith, many_kept first second r))), joins_in_words first second r),
    );
    empty = λ refusal e. rw e (refl, λ i. zeros_behind [] i (omega arith));
  }

  -- Where a file could give both lists, 17 is the one refusal.
  pub filed_refusal : BothFiled first second → IsOk (joined_of first second) ⊎ (joined_of first second ≡ Err TooManyEntries)
  filed_refusal f =
      let w = remain first second in
      by_test (leb (_ + second.count) 16)
      (λ t. inl (ap is_ok (answers.joined f _ _ w (leb-true _ 16 t)).1.0))
      (λ t. inr (answers.too_many f _ _ w (leb-false _ 16 t)))

  -- Two answers that fit the words are the same: each is refused for the same reason or has the same entries, and 0 behind them.
  module _ (r q : Result PlanList Refusal) (a : Answers first second r) (b : Answers first second q)
      (m : IfOk r (λ list. length list.rows ≡ 80)) (n : IfOk q (λ list. length list.rows ≡ 80)) where
    both_filed : BothFiled first second → r ≡ q
    both_filed f =
        let w = remain first second in
        by_test (leb (_ + second.count) 16)
        (λ t. let c = a.joined f _ _ w (leb-true _ 16 t) in
        let d = b.joined f _ _ w (leb-true _ 16 t) in
        c.1.0 ∙ ap Ok (same_joins c.1.1 d.1.1 (rw c.1.0 at m) (rw d.1.0 at n)) ∙ sym d.1.0)
        (λ t. let l = leb-false _ 16 t in a.too_many f _ _ w l ∙ sym (b.too_many f _ _ w l))

    pub no_other_answer : r ≡ q
    no_other_answer =
        by_test (spoilt_list first)
        (λ t. a.no_file (inl t) ∙ sym (b.no_file (inl t)))
        (λ f. by_test (spoilt_list second)
        (λ t. a.no_file (inr t) ∙ sym (b.no_file (inr t)))
        (λ g. both_filed (record { of_first = f; of_second = g })))
