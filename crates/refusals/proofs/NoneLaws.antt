-- Whether there is no refusal, as a test and as an equation.
use mathlib.Core.Path.{◌≡◌, refl, sym}
use mathlib.Core.Bool.{true, false, true≢false}
use Rattle.std.specs.Prelude.{Option, Some, None}
use Rattle.std.proofs.lemmas.Option.{none-some}
use Rattle.std.specs.Option.{is_none, is_some}

module _ {A : Type 0} where
  pub no_refusal : (o : Option A) → is_none o ≡ true → o ≡ None
  no_refusal None e = refl
  no_refusal (Some x) e = absurd (true≢false (sym e))

  pub some_none : {x : A} → Some x ≡ None → ⊥
  some_none {x} e = none-some x (sym e)

  pub accepted_test : (o : Option A) → o ≡ None → is_none o ≡ true
  accepted_test None e = refl
  accepted_test (Some x) e = absurd (some_none e)

  pub refused_test : (o : Option A) → (o ≡ None → ⊥) → is_none o ≡ false
  refused_test None never = absurd (never refl)
  refused_test (Some x) never = refl

  -- The same from the test for one.
  pub refused : (o : Option A) → is_some o ≡ true → is_none o ≡ false
  refused None e = absurd (true≢false (sym e))
  refused (Some x) e = refl

  pub accepted : (o : Option A) → is_some o ≡ false → is_none o ≡ true
  accepted None e = refl
  accepted (Some x) e = absurd (true≢false e)
