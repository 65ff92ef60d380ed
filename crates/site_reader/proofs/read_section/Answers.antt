-- Each return is one case of `section_of`, by its law in `SectionLaws`. The numbers loaded into the front of dst are the section's.
use Rattle.site.proofs.SectionLaws.{no_count, bad_count, no_rows, bad_number, good}
use Rattle.site.proofs.Sizes.{fits}
use Rattle.site.specs.Reading.{numbers_of}
use Rattle.ranges.specs.Sections.{allowed_of, size_of, first_bad}
use Rattle.numbers.proofs.WordLaws.{words_low, words_high}
use Rattle.numbers.specs.Words.{words}
use lib.Seq.{length-take-le, take_at}
use lib.ListN.{length, get_or, take, drop, length-append}
use borrow.Author.Tests.{not-true, not-false}
use Prim.Native.Nat.{ℕ, ◌+◌, ◌≤◌}
use mathlib.Core.List.{List, ◌++◌}
use mathlib.Core.Bool.{true}
use mathlib.Core.Path.{◌≡◌, ap, ap₂, sym, ◌∙◌}
use native.Mathlib.Omega.{arith}
use Rattle.site_reader.proofs.read_section.Goals as goal
use Rattle.site_reader.proofs.read_section.Goals.{After-first_bad-bad, After-load, After-size-k, Else-not-allowed}

-- Past the second test the count is allowed,
is-allowed : (c : Else-not-allowed) → allowed_of c.args.section c.word-count.result ≡ true
is-allowed c = sym c.allowed.ensures ∙ not-false _ c.if-not-allowed.false-raw

-- Past the second test the count is allowed,
is-allowed_at_after_size_k : (c : After-size-k) → allowed_of c.args.section c.word-count.result ≡ true
is-allowed_at_after_size_k c = sym c.allowed.ensures ∙ not-false _ c.if-not-allowed.false-raw

-- so that dst has room for the section.
has_room : (c : After-size-k) → c.size-k.result ≤ length c.args.dst.now
has_room c =
    omega (arith, c.size-k.ensures, fits c.args.section c.word-count.result (is-allowed_at_after_size_k c), c.requires)

size_is : (c : After-size-k)
    → c.size-k.result ≡ size_of c.args.section (get_or (words c.args.src.now) c.args.at 0)
size_is c = c.size-k.ensures ∙ ap (size_of c.args.section) c.word-count.ensures

-- Past the second test the count is allowed,
is-allowed_at_after_load : (c : After-load) → allowed_of c.args.section c.word-count.result ≡ true
is-allowed_at_after_load c = sym c.allowed.ensures ∙ not-false _ c.if-not-allowed.false-raw

-- so that dst has room for the section.
has_room_at_after_load : (c : After-load) → c.size-k.result ≤ length c.args.dst.now
has_room_at_after_load c =
    omega (arith, c.size-k.ensures, fits c.args.section c.word-count.result (is-allowed_at_after_load c), c.requires)

size_is_at_after_load : (c : After-load)
    → c.size-k.result ≡ size_of c.args.section (get_or (words c.args.src.now) c.args.at 0)
size_is_at_after_load c = c.size-k.ensures ∙ ap (size_of c.args.section) c.word-count.ensures

-- What was loaded is the section's numbers,
loaded : (c : After-load)
    → let a = c.args in
    (length c.load.new.dst ≡ c.size-k.result) × (c.load.new.dst ≡ numbers_of a.section (words a.src.now) a.at)
loaded c =
    let a = c.args in
    let l : length (take c.size-k.result a.dst.now) ≡ c.size-k.result = length-take-le _ _ (has_room_at_after_load c) in (
      c.load.auto.dst ∙ l,
      c.load.ensures ∙ ap (λ (m : ℕ). take m (drop (a.at + 1) (words a.src.now))) (l ∙ size_is_at_after_load c),
    )

-- Past the second test the count is allowed,
is-allowed_at_after_first_bad_bad : (c : After-first_bad-bad) → allowed_of c.args.section c.word-count.result ≡ true
is-allowed_at_after_first_bad_bad c = sym c.allowed.ensures ∙ not-false _ c.if-not-allowed.false-raw

-- so that dst has room for the section.
has_room_at_after_first_bad_bad : (c : After-first_bad-bad) → c.size-k.result ≤ length c.args.dst.now
has_room_at_after_first_bad_bad c =
    omega (arith, c.size-k.ensures, fits c.args.section c.word-count.result (is-allowed_at_after_first_bad_bad c), c.requires)

size_is_at_after_first_bad_bad : (c : After-first_bad-bad)
    → c.size-k.result ≡ size_of c.args.section (get_or (words c.args.src.now) c.args.at 0)
size_is_at_after_first_bad_bad c = c.size-k.ensures ∙ ap (size_of c.args.section) c.word-count.ensures

-- What was loaded is the section's numbers,
loaded_at_after_first_bad_bad : (c : After-first_bad-bad)
    → let a = c.args in
    (length c.load.new.dst ≡ c.size-k.result) × (c.load.new.dst ≡ numbers_of a.section (words a.src.now) a.at)
loaded_at_after_first_bad_bad c =
    let a = c.args in
    let l : length (take c.size-k.result a.dst.now) ≡ c.size-k.result = length-take-le _ _ (has_room_at_after_first_bad_bad c) in (
      c.load.auto.dst ∙ l,
      c.load.ensures ∙ ap (λ (m : ℕ). take m (drop (a.at + 1) (words a.src.now))) (l ∙ size_is_at_after_first_bad_bad c),
    )

-- and so is what was looked through.
looked : (c : After-first_bad-bad)
    → let a = c.args in
    let v : List ℕ = numbers_of a.section (words a.src.now) a.at in
    c.first_bad-bad.result ≡ first_bad a.section v 0 (length v)
looked c =
    let a = c.args in
    c.first_bad-bad.ensures
    ∙ ap (λ (v : List ℕ). first_bad a.section v 0 (length v)) (take_at c.load.new.dst _ _ (loaded_at_after_first_bad_bad c).0 ∙ (loaded_at_after_first_bad_bad c).1)

pub returns-then-total-at : goal.returns-then-total-at
returns-then-total-at c =
    let a = c.args in (record { found = sym (no_count a.section _ (words a.src.now) a.at (omega (arith, words_low a.src.now))); filled = tt })

pub returns-then-not-allowed : goal.returns-then-not-allowed
returns-then-not-allowed c =
    let a = c.args in (record {
      found = sym (bad_count a.section _ (words a.src.now) a.at (omega (arith, words_high a.src.now)) _ c.word-count.ensures (sym c.allowed.ensures ∙ not-true _ c.if-not-allowed.true-raw));
      filled = tt;
    })

pub returns-then-total-at-2 : goal.returns-then-total-at-2
returns-then-total-at-2 c =
    let a = c.args in (record {
      found = sym (no_rows a.section _ (words a.src.now) a.at (omega (arith, words_high a.src.now)) _ c.word-count.ensures (is-allowed (goal.at.returns-then-total-at-2 c).Else-not-allowed) _ c.size-k.ensures (omega (arith, words_low a.src.now)));
      filled = tt;
    })

pub slice_bounds-load-end : goal.slice_bounds-load-end
slice_bounds-load-end c = has_room (goal.at.slice_bounds-load-end c).After-size-k

pub slice_bounds-load-end-2 : goal.slice_bounds-load-end-2
slice_bounds-load-end-2 c = sym (length-take-le _ _ (has_room (goal.at.slice_bounds-load-end-2 c).After-size-k))

pub load-requires : goal.load-requires
load-requires c = rw (length-take-le _ _ (has_room (goal.at.load-requires c).After-size-k)) (omega arith)

pub slice_bounds-first_bad-end : goal.slice_bounds-first_bad-end
slice_bounds-first_bad-end c = let l = (loaded (goal.at.slice_bounds-first_bad-end c).After-load).0 in simp length-append (omega arith)

pub slice_bounds-first_bad-end-2 : goal.slice_bounds-first_bad-end-2
slice_bounds-first_bad-end-2 c = sym (ap length (take_at c.load.new.dst _ _ (loaded (goal.at.slice_bounds-first_bad-end-2 c).After-load).0) ∙ (loaded (goal.at.slice_bounds-first_bad-end-2 c).After-load).0)

pub returns-then-bad-k : goal.returns-then-bad-k
returns-then-bad-k c =
    let a = c.args in (record {
      found = rw c.bad_number.ensures
          (sym (bad_number a.section _ (words a.src.now) a.at (omega (arith, words_high a.src.now)) _ c.word-count.ensures (is-allowed (goal.at.returns-then-bad-k c).Else-not-allowed) _ c.size-k.ensures
          (omega (arith, words_high a.src.now)) _ (looked (goal.at.returns-then-bad-k c).After-first_bad-bad) c.if-bad-k.true));
      filled = tt;
    })

pub returns : goal.returns
returns c =
    let a = c.args in (record {
      found = sym (good a.section _ (words a.src.now) a.at (omega (arith, words_high a.src.now)) _ c.word-count.ensures (is-allowed (goal.at.returns c).Else-not-allowed) _ c.size-k.ensures
          (omega (arith, words_high a.src.now)) _ (looked (goal.at.returns c).After-first_bad-bad) c.if-bad-k.false);
      filled = ap₂ (λ (x : List ℕ) (k : ℕ). x ++ drop k a.dst.now) (loaded (goal.at.returns c).After-load).1 (size_is (goal.at.returns c).After-size-k);
    })
