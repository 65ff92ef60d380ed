-- What enrolling and removing do to the desk, in words, and that no other desk fits these.
use Prim.Native.Nat.{ℕ, ◌≤◌, ◌<◌}
use mathlib.Core.Path.{◌≡◌, refl, sym, ◌∙◌, ap}
use mathlib.Core.Bool.{Bool, true, false, cond, true≢false}
use native.Mathlib.Omega.{arith}
use borrow.Author.Tests.{eq-eqb, eqb-true, eqb-false, ne_eqb, lt-ltb}
use lib.Dec.{ltb, eqb}
use lib.ListN.{length, get_or, set}
use lib.Seq.{get_or-set_same, get_or-set_other, ext_get_or}
use Rattle.loops.proofs.Cases.{by_test}
use Rattle.desk.specs.declared.Desk.{Desk}
use Rattle.desk.specs.Desk.{enrolled_at, with_cabinet, tries_without, without_cabinet}
use Rattle.desk.specs.InWords.{InRange, InTurn, Enrols, Removes}
use Rattle.desk.proofs.DeskLaws.{positive}

module _ (d : Desk) (k : ℕ) (small : k ≤ 31) (whole : length d.enrolled ≡ 32) where
  -- With the array's element k set.
  abbrev set_to : Bool → ℕ → Desk
  set_to b tries = record { enrolled = set d.enrolled k b; turn = d.turn; tries = tries }

  own_set : (b : Bool) (tries : ℕ) → enrolled_at (set_to b tries) k ≡ b
  unfolding enrolled_at
  own_set b tries = rw (lt-ltb k 32 (omega arith)) (get_or-set_same d.enrolled k b false (omega (arith, whole)))

  others_set : (b : Bool) (tries j : ℕ) → (j ≡ k → ⊥) → enrolled_at (set_to b tries) j ≡ enrolled_at d j
  unfolding enrolled_at
  others_set b tries j other = ap (λ x. cond (ltb j 32) x false) (get_or-set_other d.enrolled k j b false other)

  pub enrols : Enrols d k (with_cabinet d k)
  unfolding with_cabinet
  enrols =
      by_test (enrolled_at d k)
      (λ e. rw e (record { own = e; others = λ _ _. refl; repeated = λ _. refl; turn = refl; tries = refl }))
      (λ e. rw e (record { own = own_set true _; others = others_set true _; repeated = λ t. absurd (true≢false (sym t ∙ e)); turn = refl; tries = refl }))

  tries_in_turn : InTurn d k → tries_without d k ≡ 3
  unfolding tries_without
  tries_in_turn t = rw (eq-eqb k d.turn t.last_polled, ne_eqb d.tries 0 (λ z. omega (arith, z, t.polled)))

  tries_of_other : enrolled_at d k ≡ true → (InTurn d k → ⊥) → tries_without d k ≡ d.tries
  unfolding tries_without
  tries_of_other there never =
      by_test (eqb k d.turn)
      (λ e. by_test (eqb d.tries 0)
      (λ z. rw (e, z) (sym (eqb-true d.tries 0 z)))
      (λ z. absurd (never (record { enrolled = there; last_polled = eqb-true _ _ e; polled = positive _ (eqb-false d.tries 0 z) }))))
      (λ e. rw e)

  pub removes : Removes d k (without_cabinet d k)
  unfolding without_cabinet
  removes =
      by_test (enrolled_at d k)
      (λ e. rw e (record {
        own = own_set false _;
        others = others_set false _;
        repeated = λ t. absurd (true≢false (sym e ∙ t));
        turn = refl;
        in_turn = tries_in_turn;
        not_in_turn = tries_of_other e;
      }))
      (λ e. rw e (record {
        own = e;
        others = λ _ _. refl;
        repeated = λ _. refl;
        turn = refl;
        in_turn = λ t. absurd (true≢false (sym t.enrolled ∙ e));
        not_in_turn = λ _. refl;
      }))

-- Two desks with the same cabinets, turn and tries are the same.
at_array : (d : Desk) (i : ℕ) → i < 32 → enrolled_at d i ≡ get_or d.enrolled i false
unfolding enrolled_at
at_array d i h = rw (lt-ltb i 32 h)

same_desk : (x y : Desk) → length x.enrolled ≡ 32 → length y.enrolled ≡ 32 → ((i : ℕ) → enrolled_at x i ≡ enrolled_at y i)
    → x.turn ≡ y.turn → x.tries ≡ y.tries → x ≡ y
same_desk x y a b same turn tries =
    let list = ext_get_or false x.enrolled y.enrolled (a ∙ sym b) (λ i h. sym (at_array x i (omega (arith, h, a))) ∙ same i ∙ at_array y i (omega (arith, h, a))) in
    λ j. record { enrolled = list j; turn = turn j; tries = tries j }

-- A cabinet is in turn, or it is not.
in_turn_or_not : {A : Type 0} (d : Desk) (k : ℕ) → (InTurn d k → A) → ((InTurn d k → ⊥) → A) → A
in_turn_or_not d k is is-not =
    by_test (enrolled_at d k)
    (λ there. by_test (eqb k d.turn)
    (λ e. by_test (eqb d.tries 0)
    (λ z. is-not (λ t. omega (arith, t.polled, eqb-true d.tries 0 z)))
    (λ z. is (record { enrolled = there; last_polled = eqb-true _ _ e; polled = positive _ (eqb-false d.tries 0 z) })))
    (λ e. is-not (λ t. eqb-false k d.turn e t.last_polled)))
    (λ out. is-not (λ t. true≢false (sym t.enrolled ∙ out)))

module _ (d x y : Desk) (k : ℕ) (a : length x.enrolled ≡ 32) (b : length y.enrolled ≡ 32) where
  same_places : {t : Bool} → enrolled_at x k ≡ t → enrolled_at y k ≡ t
      → ((j : ℕ) → (j ≡ k → ⊥) → enrolled_at x j ≡ enrolled_at d j) → ((j : ℕ) → (j ≡ k → ⊥) → enrolled_at y j ≡ enrolled_at d j)
      → (i : ℕ) → enrolled_at x i ≡ enrolled_at y i
  same_places own own' others others' i =
      by_test (eqb i k)
      (λ e. let is = eqb-true i k e in ap (enrolled_at x) is ∙ own ∙ sym (ap (enrolled_at y) is ∙ own'))
      (λ e. let no = eqb-false i k e in others i no ∙ sym (others' i no))

  pub enrols_once : Enrols d k x → Enrols d k y → x ≡ y
  enrols_once p q =
      same_desk x y a b (same_places p.own q.own p.others q.others) (p.turn ∙ sym q.turn) (p.tries ∙ sym q.tries)

  pub removes_once : Removes d k x → Removes d k y → x ≡ y
  removes_once p q =
      same_desk x y a b (same_places p.own q.own p.others q.others) (p.turn ∙ sym q.turn)
      (in_turn_or_not d k (λ t. p.in_turn t ∙ sym (q.in_turn t)) (λ t. p.not_in_turn t ∙ sym (q.not_in_turn t)))

-- A desk in range stays so.
pub enrols_in_range : {d x : Desk} {k : ℕ} → Enrols d k x → InRange d → InRange x
enrols_in_range p r = record { turn_most = omega (arith, p.turn, r.turn_most); tries_most = omega (arith, p.tries, r.tries_most) }

pub removes_in_range : {d x : Desk} {k : ℕ} → Removes d k x → InRange d → InRange x
removes_in_range {d} {x} {k} p r = record {
  turn_most = omega (arith, p.turn, r.turn_most);
  tries_most = in_turn_or_not d k (λ t. omega (arith, p.in_turn t)) (λ t. omega (arith, p.not_in_turn t, r.tries_most));
}
