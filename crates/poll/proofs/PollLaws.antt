-- How long the record is, what its four parts leave that are stored one behind the other, and what it tells that no check refuses.
use Prim.Native.Nat.{ℕ, ◌+◌, ◌*◌, ◌/◌, ◌%◌}
use mathlib.Core.Path.{◌≡◌, refl, ap, sym, ◌∙◌}
use mathlib.Core.Bool.{false}
use mathlib.Core.List.{List, [], ◌∷◌, ◌++◌}
use native.Mathlib.Omega.{arith}
use Rattle.std.specs.Prelude.{None}
use Rattle.std.proofs.lemmas.Option.{none-some}
use lib.ListN.{length, length-append}
use lib.Seq.{sets}
use Rattle.numbers.specs.Words.{bytes}
use Rattle.numbers.proofs.StoreLaws.{bytes_append}
use Rattle.output.proofs.SetsLaws.{sets_append}
use Rattle.site.specs.declared.Site.{Site}
use Rattle.site.specs.Record.{spoilt_site}
use Rattle.site.specs.Named.{shape_of}
use Rattle.period.specs.declared.Periods.{Periods}
use Rattle.state.specs.declared.State.{State}
use Rattle.state.specs.State.{state_spoilt}
use Rattle.loops.proofs.Cases.{by_test}
use Rattle.poll.specs.Poll.{metered_row, mainline_row, rows_from, poll_words, refusal_of}
use Rattle.poll.proofs.RowLaws.{length_rows}

module _ (p : Periods) (n m : ℕ) where
  abbrev head : List ℕ
  head = (p.serial / 65536) ∷ (p.serial % 65536) ∷ n ∷ []

  abbrev metered : List ℕ
  metered = rows_from (metered_row p.last) 0 n

  abbrev mainline : List ℕ
  mainline = rows_from (mainline_row p.last) 0 m

  length_metered : length (bytes metered) ≡ n * 4
  length_metered = length_rows (metered_row p.last) 4 (λ i. refl) 0 n

  length_mainline : length (bytes mainline) ≡ m * 6
  length_mainline = length_rows (mainline_row p.last) 6 (λ i. refl) 0 m

  is_parts : bytes (poll_words p n m) ≡ bytes head ++ (bytes metered ++ (bytes (m ∷ []) ++ bytes mainline))
  unfolding poll_words
  is_parts = rw (bytes_append metered)

  pub length_poll : length (bytes (poll_words p n m)) ≡ 8 + n * 4 + m * 6
  length_poll = let a = length_metered in let b = length_mainline in ap length is_parts ∙ simp length-append (omega arith)

  -- The four parts, each stored where the one before it ended.
  pub parts_stored : (o : List ℕ) (a b : ℕ) → a ≡ 6 + n * 4 → b ≡ a + 2
      → sets (sets (sets (sets o 0 (bytes head)) 6 (bytes metered)) a (bytes (m ∷ []))) b (bytes mainline)
      ≡ sets o 0 (bytes (poll_words p n m))
  parts_stored o a b ea eb =
      sets_append (sets (sets o 0 (bytes head)) 6 (bytes metered)) a b (bytes (m ∷ [])) (bytes mainline) eb
      ∙ sets_append (sets o 0 (bytes head)) 6 a (bytes metered) (bytes (m ∷ []) ++ bytes mainline) (omega (arith, length_metered))
      ∙ sets_append o 0 6 (bytes head) (bytes metered ++ (bytes (m ∷ []) ++ bytes mainline)) refl
      ∙ ap (sets o 0) (sym is_parts)

-- A poll that no check refuses has a site that is not spoilt, and a state in range.
pub site_sound : (x : Site) (s : State) → refusal_of x s ≡ None → spoilt_site x ≡ false
unfolding refusal_of
site_sound x s h = by_test (spoilt_site x) (λ a. absurd (none-some _ (sym (rw a at h)))) (λ a. a)

pub state_sound : (x : Site) (s : State) → refusal_of x s ≡ None → state_spoilt s (shape_of x) ≡ false
unfolding refusal_of
state_sound x s h =
    by_test (state_spoilt s (shape_of x)) (λ b. absurd (none-some _ (sym (rw (site_sound x s h, b) at h)))) (λ b. b)
