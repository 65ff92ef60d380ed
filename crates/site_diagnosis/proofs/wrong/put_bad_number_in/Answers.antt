-- What is loaded into the front of v is the section, as in `site_reader::read_section`.
use Rattle.site.proofs.Sizes.{fits}
use Rattle.site.specs.Reading.{numbers_of}
use Rattle.ranges.specs.Sections.{size_of}
use Rattle.numbers.proofs.WordLaws.{words_low}
use Rattle.numbers.specs.Words.{words}
use lib.Seq.{length-take-le, take_at}
use lib.ListN.{length, get_or, take, drop, length-append}
use Prim.Native.Nat.{ℕ, ◌+◌, ◌≤◌}
use mathlib.Core.Path.{◌≡◌, ap, sym, ◌∙◌}
use native.Mathlib.Omega.{arith}
use Rattle.site_diagnosis.proofs.wrong.put_bad_number_in.Goals as goal
use Rattle.site_diagnosis.proofs.wrong.put_bad_number_in.Goals.{After-load, After-size-n}

size_is : (c : After-size-n) → let a = c.args in c.size-n.result ≡ size_of a.section (get_or (words a.file.now) a.q 0)
size_is c = c.size-n.ensures ∙ ap (size_of c.args.section) c.word.ensures

-- The count is allowed, so that v has room for the section.
has_room : (c : After-size-n) → c.size-n.result ≤ length c.args.v.now
has_room c =
    omega (arith, size_is c, fits c.args.section (get_or (words c.args.file.now) c.args.q 0) c.requires.1, c.requires.0)

size_is_at_after_load : (c : After-load) → let a = c.args in c.size-n.result ≡ size_of a.section (get_or (words a.file.now) a.q 0)
size_is_at_after_load c = c.size-n.ensures ∙ ap (size_of c.args.section) c.word.ensures

-- The count is allowed, so that v has room for the section.
has_room_at_after_load : (c : After-load) → c.size-n.result ≤ length c.args.v.now
has_room_at_after_load c =
    omega (arith, size_is_at_after_load c, fits c.args.section (get_or (words c.args.file.now) c.args.q 0) c.requires.1, c.requires.0)

loaded : (c : After-load)
    → let a = c.args in
    (length c.load.new.dst ≡ c.size-n.result) × (c.load.new.dst ≡ numbers_of a.section (words a.file.now) a.q)
loaded c =
    let a = c.args in
    let l : length (take c.size-n.result a.v.now) ≡ c.size-n.result = length-take-le _ _ (has_room_at_after_load c) in (
      c.load.auto.dst ∙ l,
      c.load.ensures ∙ ap (λ (m : ℕ). take m (drop (a.q + 1) (words a.file.now))) (l ∙ size_is_at_after_load c),
    )

pub overflow_add-q : goal.overflow_add-q
overflow_add-q c = omega (arith, c.requires.2, words_low c.args.file.now)

pub slice_bounds-load-end : goal.slice_bounds-load-end
slice_bounds-load-end c = has_room c

pub slice_bounds-load-end-2 : goal.slice_bounds-load-end-2
slice_bounds-load-end-2 c = sym (length-take-le _ _ (has_room (goal.at.slice_bounds-load-end-2 c).After-size-n))

pub load-requires : goal.load-requires
load-requires c =
    rw (length-take-le _ _ (has_room (goal.at.load-requires c).After-size-n)) (omega (arith, size_is (goal.at.load-requires c).After-size-n, c.requires.2, words_low c.args.file.now))

pub slice_bounds-put_bad_number-end : goal.slice_bounds-put_bad_number-end
slice_bounds-put_bad_number-end c = let l = (loaded (goal.at.slice_bounds-put_bad_number-end c).After-load).0 in simp length-append (omega arith)

pub slice_bounds-put_bad_number-end-2 : goal.slice_bounds-put_bad_number-end-2
slice_bounds-put_bad_number-end-2 c = sym (ap length (take_at c.load.new.dst _ _ (loaded (goal.at.slice_bounds-put_bad_number-end-2 c).After-load).0) ∙ (loaded (goal.at.slice_bounds-put_bad_number-end-2 c).After-load).0)

pub returns : goal.returns
returns c =
    let a = c.args in
    rw (take_at c.load.new.dst (drop c.size-n.result a.v.now) _ (loaded (goal.at.returns c).After-load).0 ∙ (loaded (goal.at.returns c).After-load).1) at c.put_bad_number.ensures
