-- The word by its first byte.
use Prim.Native.Nat.{ℕ}
use mathlib.Core.Path.{sym, ◌∙◌, ap}
use mathlib.Core.Bool.{true, false}
use mathlib.Core.List.{List}
use borrow.Author.Rules.{rules}
use lib.ListN.{drop}
use Rattle.word_value.specs.Digits.{digits_read}
use Rattle.word_value.specs.Signed.{kept_word, of_digits}
use Rattle.word_value.proofs.WordLaws.{rest, value_kept, from_digits, of_none, of_many, behind_minus, behind_plus, behind_none}
use Rattle.word_value.proofs.signed.read.Goals as goal

pub returns-then-is_empty : goal.returns-then-is_empty
returns-then-is_empty c = rw (of_none c.args.word.now (search rules))

pub returns-then-word-gt-LONGEST_WORD : goal.returns-then-word-gt-LONGEST_WORD
returns-then-word-gt-LONGEST_WORD c = rw (of_many c.args.word.now c.if-word-gt-LONGEST_WORD.true)

pub of_digits-requires : goal.of_digits-requires
of_digits-requires c = rw c.digits_read.ensures (value_kept _)

pub returns-then-first-eq45 : goal.returns-then-first-eq45
returns-then-first-eq45 c =
    let word = c.args.word.now in
    c.of_digits.ensures
    ∙ ap (of_digits true) c.digits_read.ensures
    ∙ ap (λ (w : List ℕ). of_digits true (digits_read w)) (rest word)
    ∙ from_digits true (drop 1 word)
    ∙ sym (ap kept_word (behind_minus word c.if-word-gt-LONGEST_WORD.false c.if-first-eq45.true))

pub of_digits-requires-then-first-eq43 : goal.of_digits-requires-then-first-eq43
of_digits-requires-then-first-eq43 c = rw c.digits_read-then-first-eq43.ensures (value_kept _)

pub returns-then-first-eq43 : goal.returns-then-first-eq43
returns-then-first-eq43 c =
    let word = c.args.word.now in
    c.of_digits-then-first-eq43.ensures
    ∙ ap (of_digits false) c.digits_read-then-first-eq43.ensures
    ∙ ap (λ (w : List ℕ). of_digits false (digits_read w)) (rest word)
    ∙ from_digits false (drop 1 word)
    ∙ sym (ap kept_word (behind_plus word c.if-word-gt-LONGEST_WORD.false c.if-first-eq43.true))

pub of_digits-requires-2 : goal.of_digits-requires-2
of_digits-requires-2 c = rw c.digits_read-2.ensures (value_kept _)

pub returns : goal.returns
returns c =
    let word = c.args.word.now in
    c.of_digits-2.ensures
    ∙ ap (of_digits false) c.digits_read-2.ensures
    ∙ from_digits false word
    ∙ sym (ap kept_word (behind_none word (search rules) c.if-word-gt-LONGEST_WORD.false c.if-first-eq45.false c.if-first-eq43.false))
