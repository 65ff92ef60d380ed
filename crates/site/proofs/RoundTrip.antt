-- Writing and reading undo each other. Both directions rest on one law per section, whatever stands before and behind it in the file.
use Prim.Native.Nat.{ℕ, zero, suc, ◌+◌, ◌*◌, ◌≤◌, ◌<◌}
use mathlib.Core.Path.{◌≡◌, refl, ap, ap₂, sym, subst, ◌∙◌}
use mathlib.Core.Bool.{Bool, true, false, not, false≢true}
use mathlib.Core.List.{List, [], ◌∷◌, ◌++◌, append-nil}
use native.Mathlib.Omega.{arith}
use native.Mathlib.Nat.{add-zero}
use native.Mathlib.Numerals.{add-one}
use borrow.Author.Tests.{eqb-true}
use lib.Dec.{eqb, eqb-suc-zero}
use lib.ListN.{length, get_or, take, drop, replicate, length-append, length-drop, take-append-drop, drop_of_length-le}
use lib.Seq.{drop-cons, drop-drop, get_or-drop, take_at, drop_at, length-take-le}
use Rattle.std.specs.Prelude.{Result, Ok, Err, IfOk, cond}
use Rattle.numbers.specs.Words.{words, bytes}
use Rattle.numbers.proofs.WordLaws.{words_low, words_bytes, bytes_words}
use Rattle.ranges.specs.declared.Section.{Section}
use Rattle.ranges.specs.declared.Section.TheVariants.{Timings, Entries, Holidays, Levels}
use Rattle.ranges.specs.Sections.{size_of, most_of, first_bad, zeros}
use Rattle.site.specs.declared.Found.{Found}
use Rattle.site.specs.declared.Site.{Site}
use Rattle.site.specs.declared.Misread.{Misread}
use Rattle.site.specs.Record.{spoilt_of, spoilt_site}
use Rattle.site.specs.Reading.{refused, numbers_of, filled_of, section_of, none_of, after, read_of}
use Rattle.refusals.specs.declared.Refusal.TheVariants.{LongFile}
use Rattle.site.specs.Writing.{part_of, words_of, bytes_of}
use Rattle.site.proofs.Sizes.{fits, Sized}
use Rattle.site.proofs.SpoiltLaws.{Sound, SoundSite, sound_site, spoilt_rest}
use Rattle.site.proofs.SectionLaws.{good, one_found, Accepted, accepted}
use Rattle.site.proofs.ReadLaws.{whole}
use Rattle.site.proofs.WriteLaws.{length_file}

-- Zeros are what stands at their places in a list of zeros.
zeros_are : (w : ℕ) (v : List ℕ) → zeros (drop w v) ≡ true → drop w v ≡ drop w (replicate (length v) 0)
zeros_are zero [] z = refl
zeros_are zero (zero ∷ v) z = ap (λ (l : List ℕ). 0 ∷ l) (zeros_are 0 v z)
zeros_are zero (suc x ∷ v) z = absurd (false≢true (simp eqb-suc-zero at z))
zeros_are (suc w) [] z = refl
zeros_are (suc w) (x ∷ v) z = zeros_are w v z

zeros_all : (w m : ℕ) → zeros (drop w (replicate m 0)) ≡ true
zeros_all zero zero = refl
zeros_all zero (suc m) = zeros_all zero m
zeros_all (suc w) zero = refl
zeros_all (suc w) (suc m) = zeros_all w m

-- A sound section that stands in the file's numbers ws from number q on is accepted there, and gives back its rows.
module _ (k : Section) (n : ℕ) (v : List ℕ) (ok : Sound k n v) (lv : length v ≡ most_of k) (ws : List ℕ) (q : ℕ) (rest : List ℕ)
    (e : drop q ws ≡ part_of k n v ++ rest) where
  abbrev rows : List ℕ
  rows = take (size_of k n) v

  size_is : length rows ≡ size_of k n
  size_is = length-take-le _ _ (let f = fits k n ok.allowed in omega arith)

  count_is : n ≡ get_or ws q 0
  count_is = ap (λ (l : List ℕ). get_or l 0 0) (sym e) ∙ get_or-drop q ws 0 0 ∙ ap (λ (m : ℕ). get_or ws m 0) (add-zero q)

  behind : drop (q + 1) ws ≡ rows ++ rest
  behind = sym (drop-drop 1 q ws) ∙ ap (drop 1) e

  numbers_are : numbers_of k ws q ≡ rows
  numbers_are =
      ap₂ (λ (m : ℕ) (l : List ℕ). take m l) (ap (size_of k) (sym count_is)) behind ∙ take_at rows rest (size_of k n) size_is

  room : q + 1 + size_of k n ≤ length ws
  room = let h = length-drop q ws in let s = size_is in let b = length-append rows rest in omega (arith, ap length behind, length-drop (q + 1) ws, ap length e)

  pub section_back : (len : ℕ) → section_of k len ws q ≡ Ok (record { count = n; next = q + 1 + size_of k n })
  section_back len =
      good k len ws q (let r = room in omega arith) n count_is ok.allowed (size_of k n) refl room (first_bad k rows 0 (length rows))
      (ap (λ (l : List ℕ). first_bad k l 0 (length l)) (sym numbers_are)) ok.in_range

  pub rows_back : filled_of k ws q (replicate (most_of k) 0) ≡ v
  rows_back =
      ap₂ (λ (l : List ℕ) (m : ℕ). l ++ drop (size_of k m) (replicate (most_of k) 0)) numbers_are (sym count_is)
      ∙ ap (λ (m : ℕ). rows ++ drop (size_of k n) (replicate m 0)) (sym lv)
      ∙ ap (λ (l : List ℕ). rows ++ l) (sym (zeros_are (size_of k n) v ok.rest))
      ∙ take-append-drop (size_of k n) v

  pub next_back : drop (q + 1 + size_of k n) ws ≡ rest
  next_back = sym (drop-drop (size_of k n) (q + 1) ws) ∙ ap (drop (size_of k n)) behind ∙ drop_at rows rest (size_of k n) size_is

-- A record that is not spoilt is what its file gives.
module _ (x : Site) (sized : Sized x) (ok : spoilt_site x ≡ false) where
  abbrev ws : List ℕ
  ws = words_of x

  abbrev q₂ : ℕ
  q₂ = 18 + 1 + size_of Entries x.entries

  abbrev q₃ : ℕ
  q₃ = q₂ + 1 + size_of Holidays x.holidays

  abbrev levels : List ℕ
  levels = part_of Levels x.levels x.tables

  abbrev from_holidays : List ℕ
  from_holidays = part_of Holidays x.holidays x.dates ++ levels

  abbrev from_entries : List ℕ
  from_entries = part_of Entries x.entries x.plan ++ from_holidays

  s : SoundSite x
  s = sound_site x ok

  at₀ : drop 0 ws ≡ part_of Timings 17 x.timings ++ from_entries
  unfolding words_of
  at₀ = refl

  at₁ : drop 18 ws ≡ part_of Entries x.entries x.plan ++ from_holidays
  at₁ = next_back Timings 17 x.timings s.timings sized.timings ws 0 from_entries at₀

  at₂ : drop q₂ ws ≡ part_of Holidays x.holidays x.dates ++ levels
  at₂ = next_back Entries x.entries x.plan s.plan sized.plan ws 18 from_holidays at₁

  at₃ : drop q₃ ws ≡ part_of Levels x.levels x.tables ++ []
  at₃ = next_back Holidays x.holidays x.dates s.dates sized.dates ws q₂ levels at₂ ∙ sym (append-nil levels)

  file_end : (q₃ + 1 + size_of Levels x.levels) * 2 ≡ length (bytes_of x)
  file_end = sym (length_file x sized ok ∙ omega arith)

  abbrev given : List ℕ → List ℕ → List ℕ → List ℕ → Site
  given t e h l = record { timings = t; entries = x.entries; plan = e; holidays = x.holidays; dates = h; levels = x.levels; tables = l }

  rows_given : given (filled_of Timings ws 0 (none_of Timings)) (filled_of Entries ws 18 (none_of Entries)) (filled_of Holidays ws q₂ (none_of Holidays)) (filled_of Levels ws q₃ (none_of Levels))
      ≡ x
  rows_given =
      rw (
        rows_back Timings 17 x.timings s.timings sized.timings ws 0 from_entries at₀,
        rows_back Entries x.entries x.plan s.plan sized.plan ws 18 from_holidays at₁,
        rows_back Holidays x.holidays x.dates s.dates sized.dates ws q₂ levels at₂,
        rows_back Levels x.levels x.tables s.tables sized.tables ws q₃ [] at₃,
      )

  pub reads_back : read_of (bytes_of x) ≡ Ok x
  reads_back =
      let f : List ℕ = bytes_of x in
      let w : words f ≡ ws = words_bytes ws in
      let back : (k : Section) (q : ℕ) (r : Found) → section_of k (length f) ws q ≡ Ok r → section_of k (length f) (words f) q ≡ Ok r =
      λ k q r e. ap (λ (l : List ℕ). section_of k (length f) l q) w ∙ e in
      whole f _ (back Timings 0 _ (section_back Timings 17 x.timings s.timings sized.timings ws 0 from_entries at₀ (length f)))
      _ (back Entries 18 _ (section_back Entries x.entries x.plan s.plan sized.plan ws 18 from_holidays at₁ (length f)))
      _ (back Holidays q₂ _ (section_back Holidays x.holidays x.dates s.dates sized.dates ws q₂ levels at₂ (length f)))
      _ (back Levels q₃ _ (section_back Levels x.levels x.tables s.tables sized.tables ws q₃ [] at₃ (length f)))
      file_end
      ∙ ap (λ (l : List ℕ). Ok (given (filled_of Timings l 0 (none_of Timings)) (filled_of Entries l 18 (none_of Entries)) (filled_of Holidays l q₂ (none_of Holidays)) (filled_of Levels l q₃ (none_of Levels)))) w
      ∙ ap Ok rows_given

-- The numbers of an accepted section, with 0 after them, are written as they stood, and are not spoilt.
module _ (k : Section) (len : ℕ) (ws : List ℕ) (q m : ℕ) (g : Accepted k len ws q) where
  abbrev n : ℕ
  n = get_or ws q 0

  abbrev kept : List ℕ
  kept = filled_of k ws q (replicate m 0)

  numbers_long : length (numbers_of k ws q) ≡ size_of k n
  numbers_long = length-take-le _ _ (let h = length-drop (q + 1) ws in omega (arith, g.whole))

  front : take (size_of k n) kept ≡ numbers_of k ws q
  front = take_at (numbers_of k ws q) _ _ numbers_long

  pub part_again : part_of k n kept ++ drop (q + 1 + size_of k n) ws ≡ drop q ws
  part_again =
      ap (λ (l : List ℕ). n ∷ l ++ drop (q + 1 + size_of k n) ws) front
      ∙ sym
      (drop-cons ws q 0 g.present
      ∙ ap (λ (j : ℕ). n ∷ drop j ws) (sym (add-one q))
      ∙ ap (λ (l : List ℕ). n ∷ l) (sym (take-append-drop (size_of k n) (drop (q + 1) ws)) ∙ ap (λ (l : List ℕ). numbers_of k ws q ++ l) (drop-drop (size_of k n) (q + 1) ws)))

  pub unspoilt : spoilt_of k n kept ≡ false
  unspoilt =
      sym (spoilt_rest k n kept g.allowed _ refl _ refl (rw front g.in_range))
      ∙ ap (λ (l : List ℕ). not (zeros l)) (drop_at (numbers_of k ws q) _ _ numbers_long)
      ∙ ap not (zeros_all (size_of k n) m)

-- A record with four sections that are not spoilt is not.
four_sound : (x : Site) → spoilt_of Timings 17 x.timings ≡ false → spoilt_of Entries x.entries x.plan ≡ false
    → spoilt_of Holidays x.holidays x.dates ≡ false
    → spoilt_of Levels x.levels x.tables ≡ false
    → spoilt_site x ≡ false
unfolding spoilt_site
four_sound x t e h l = rw (t, e, h, l)

-- Where reading has an end, a section was accepted, and reading went on behind it.
went_on : {A B : Type 0} (r : Result A Misread) (f : A → Result B Misread) {x : B} → after r f ≡ Ok x → (a : A) × ((r ≡ Ok a) × (f a ≡ Ok x))
went_on (Ok a) f e = (a, (refl, e))
went_on (Err m) f e = absurd (cc)

-- What an accepted file tells.
module _ (f : List ℕ) where
  record Whole : Type 0 where
    t : Found
    e : Found
    h : Found
    l : Found
    first : section_of Timings (length f) (words f) 0 ≡ Ok t
    second : section_of Entries (length f) (words f) t.next ≡ Ok e
    third : section_of Holidays (length f) (words f) e.next ≡ Ok h
    fourth : section_of Levels (length f) (words f) h.next ≡ Ok l
    end : l.next * 2 ≡ length f

  end_case : (l : Found) (x y : Site) (b : Bool) → eqb (l.next * 2) (length f) ≡ b → cond (eqb (l.next * 2) (length f)) (Ok x) (refused LongFile (l.next * 2)) ≡ Ok y
      → l.next * 2 ≡ length f
  end_case l x y true e z = eqb-true _ _ e
  end_case l x y false e z = let w = rw e at z in absurd (cc)

  is_whole : {x : Site} → read_of f ≡ Ok x → Whole
  unfolding read_of
  is_whole z =
      let p = went_on _ _ z in
      let q = went_on _ _ p.1.1 in
      let r = went_on _ _ q.1.1 in
      let s = went_on _ _ r.1.1 in
      record { t = p.0; e = q.0; h = r.0; l = s.0; first = p.1.0; second = q.1.0; third = r.1.0; fourth = s.1.0; end = end_case s.0 _ _ _ refl s.1.1 }

  module _ (w : Whole) where
    abbrev t : Found
    t = w.t

    abbrev e : Found
    e = w.e

    abbrev h : Found
    h = w.h

    abbrev l : Found
    l = w.l

    g₀ : Accepted Timings (length f) (words f) 0
    g₀ = accepted Timings (length f) (words f) 0 w.first

    g₁ : Accepted Entries (length f) (words f) t.next
    g₁ = accepted Entries (length f) (words f) t.next w.second

    g₂ : Accepted Holidays (length f) (words f) e.next
    g₂ = accepted Holidays (length f) (words f) e.next w.third

    g₃ : Accepted Levels (length f) (words f) h.next
    g₃ = accepted Levels (length f) (words f) h.next w.fourth

    abbrev back : Site
    back = record {
      timings = filled_of Timings (words f) 0 (none_of Timings);
      entries = e.count;
      plan = filled_of Entries (words f) t.next (none_of Entries);
      holidays = h.count;
      dates = filled_of Holidays (words f) e.next (none_of Holidays);
      levels = l.count;
      tables = filled_of Levels (words f) h.next (none_of Levels);
    }

    is_back : read_of f ≡ Ok back
    is_back = whole f t w.first e w.second h w.third l w.fourth w.end

    count₀ : 17 ≡ get_or (words f) 0 0
    count₀ = sym (eqb-true _ _ g₀.allowed)

    is₀ : t ≡ record { count = get_or (words f) 0 0; next = 1 + size_of Timings (get_or (words f) 0 0) }
    is₀ = one_found _ w.first g₀.is

    is₁ : e ≡ record { count = get_or (words f) t.next 0; next = t.next + 1 + size_of Entries (get_or (words f) t.next 0) }
    is₁ = one_found _ w.second g₁.is

    is₂ : h ≡ record { count = get_or (words f) e.next 0; next = e.next + 1 + size_of Holidays (get_or (words f) e.next 0) }
    is₂ = one_found _ w.third g₂.is

    is₃ : l ≡ record { count = get_or (words f) h.next 0; next = h.next + 1 + size_of Levels (get_or (words f) h.next 0) }
    is₃ = one_found _ w.fourth g₃.is

    count₁ : e.count ≡ get_or (words f) t.next 0
    count₁ = ap (λ (y : Found). y.count) is₁

    count₂ : h.count ≡ get_or (words f) e.next 0
    count₂ = ap (λ (y : Found). y.count) is₂

    count₃ : l.count ≡ get_or (words f) h.next 0
    count₃ = ap (λ (y : Found). y.count) is₃

    end_is : length (words f) * 2 ≡ length f
    end_is = omega (arith, words_low f, g₃.whole, w.end, ap (λ (y : Found). y.next) is₃)

    nothing_left : drop (h.next + 1 + size_of Levels (get_or (words f) h.next 0)) (words f) ≡ []
    nothing_left = drop_of_length-le (words f) {i = h.next + 1 + size_of Levels (get_or (words f) h.next 0)} (omega (arith, end_is, w.end, ap (λ (y : Found). y.next) is₃))

    -- from a section on, the file's numbers are that section and those behind it
    from : (k : Section) (n q m : ℕ) (next : ℕ) (rest : List ℕ) → (g : Accepted k (length f) (words f) q) → n ≡ get_or (words f) q 0
        → next ≡ q + 1 + size_of k (get_or (words f) q 0)
        → rest ≡ drop next (words f)
        → part_of k n (filled_of k (words f) q (replicate m 0)) ++ rest ≡ drop q (words f)
    from k n q m next rest g en ex er =
        ap₂ (λ (a : ℕ) (r : List ℕ). part_of k a (filled_of k (words f) q (replicate m 0)) ++ r) en (er ∙ ap (λ (j : ℕ). drop j (words f)) ex)
        ∙ part_again k (length f) (words f) q m g

    words_again : words_of back ≡ words f
    unfolding words_of
    words_again =
        from Timings 17 0 (most_of Timings) t.next _ g₀ count₀ (ap (λ (y : Found). y.next) is₀)
        (from Entries e.count t.next (most_of Entries) e.next _ g₁ count₁ (ap (λ (y : Found). y.next) is₁)
        (from Holidays h.count e.next (most_of Holidays) h.next _ g₂ count₂ (ap (λ (y : Found). y.next) is₂)
        (sym (append-nil (part_of Levels l.count back.tables))
        ∙ from Levels l.count h.next (most_of Levels) (h.next + 1 + size_of Levels (get_or (words f) h.next 0)) [] g₃ count₃ refl (sym nothing_left))))

    not_spoilt : spoilt_site back ≡ false
    not_spoilt =
        four_sound back
        (ap (λ (n : ℕ). spoilt_of Timings n back.timings) count₀ ∙ unspoilt Timings (length f) (words f) 0 (most_of Timings) g₀)
        (ap (λ (n : ℕ). spoilt_of Entries n back.plan) count₁ ∙ unspoilt Entries (length f) (words f) t.next (most_of Entries) g₁)
        (ap (λ (n : ℕ). spoilt_of Holidays n back.dates) count₂ ∙ unspoilt Holidays (length f) (words f) e.next (most_of Holidays) g₂)
        (ap (λ (n : ℕ). spoilt_of Levels n back.tables) count₃ ∙ unspoilt Levels (length f) (words f) h.next (most_of Levels) g₃)

    -- The record of an accepted file is not spoilt, and its file is that file, byte for byte.
    back_rewritten : ((i : ℕ) → get_or f i 0 < 256) → (spoilt_site back ≡ false) × (bytes_of back ≡ f)
    back_rewritten b = (not_spoilt, ap bytes words_again ∙ bytes_words f b end_is)

  pub rewritten : ((i : ℕ) → get_or f i 0 < 256) → (r : Result Site Misread) → r ≡ read_of f → IfOk r (λ x. (spoilt_site x ≡ false) × (bytes_of x ≡ f))
  rewritten b (Err m) e = tt
  rewritten b (Ok x) e =
      let w = is_whole (sym e) in
      let same : back w ≡ x = let i = is_back w in cc in
      subst (λ (y : Site). (spoilt_site y ≡ false) × (bytes_of y ≡ f)) same (back_rewritten w b)

-- Whatever answers as `read_of` does keeps that promise.
pub keeps_rewritten : (f : List ℕ) → ((i : ℕ) → get_or f i 0 < 256) → (r : Result Site Misread) → r ≡ read_of f
    → (r ≡ read_of f) × IfOk r (λ x. (spoilt_site x ≡ false) × (bytes_of x ≡ f))
keeps_rewritten f b r e = (e, rewritten f b r e)
