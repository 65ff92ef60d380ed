-- The line says of the input what `Diagnosed` asks: it is that of a number whose refusal is the checks' own.
use Prim.Native.Nat.{ℕ}
use mathlib.Core.Path.{◌≡◌, refl, ap, sym, ◌∙◌}
use mathlib.Core.List.{◌++◌}
use Rattle.std.specs.Prelude.{Option, Some, None}
use Rattle.std.proofs.lemmas.Option.{none-some}
use Rattle.refusals.specs.declared.Refusal.{Refusal}
use Rattle.refusals.specs.Numbers.{number_of}
use Rattle.phrases.specs.Wrong.{opening_text}
use Rattle.timings.specs.declared.Shape.{Shape}
use Rattle.tick.specs.declared.Input.{Input}
use Rattle.tick.specs.Checks.{input_refusal}
use Rattle.tick_diagnosis.specs.declared.number.Number.{Number}
use Rattle.tick_diagnosis.specs.Numbers.{first_bad}
use Rattle.tick_diagnosis.specs.Names.{refusal_of}
use Rattle.tick_diagnosis.specs.Diagnosis.{place_text, out_of_range_text, number_line, wrong_line, diagnosis_line, Diagnosed}
use Rattle.tick_diagnosis.proofs.RefusalLaws.{told, told_is}

module _ (line : ℕ) (h : Shape) (i : Input) where
  says : (x : Option Number) → told x ≡ input_refusal h i → Diagnosed line h i (wrong_line line x)
  unfolding number_line
  says None e = record { silent = λ _. refl; says = λ refusal is. absurd (none-some refusal (e ∙ is)) }
  says (Some x) e = record {
    silent = λ z. absurd (none-some (refusal_of x.part) (sym (e ∙ z)));
    says = λ refusal is.
        let same : refusal_of x.part ≡ refusal = inside (e ∙ is) in
        (out_of_range_text x, ap (λ (r : Refusal). opening_text (number_of r) ++ (out_of_range_text x ++ place_text line)) same);
  }
    where
      inside : {r q : Refusal} → Some r ≡ Some q → r ≡ q
      inside e = cc

  pub diagnosed : Diagnosed line h i (diagnosis_line line h i)
  unfolding diagnosis_line
  diagnosed = says (first_bad h i) (told_is h i)
