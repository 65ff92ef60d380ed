-- `diagnosis_line` from the facts that the code finds, section by section, with what it says of the file.
use Prim.Native.Nat.{ℕ, ◌*◌}
use mathlib.Core.Path.{◌≡◌, refl}
use mathlib.Core.List.{List, [], ◌++◌}
use borrow.Author.Tests.{eq-eqb, ne_eqb}
use lib.ListN.{length}
use Rattle.refusals.specs.Numbers.{number_of}
use Rattle.phrases.specs.Wrong.{opening_text}
use Rattle.numbers.specs.Words.{words}
use Rattle.text.specs.Ascii.{ascii}
use Rattle.ranges.specs.declared.Section.{Section}
use Rattle.ranges.specs.declared.Section.TheVariants.{Timings, Entries, Holidays, Levels}
use Rattle.site.specs.declared.Found.{Found}
use Rattle.std.specs.Prelude.{Ok, Err}
use Rattle.refusals.specs.declared.Refusal.TheVariants.{ShortFile, WrongCount, LongFile}
use Rattle.refusals.specs.declared.Refusal.{Refusal}
use Rattle.site.specs.declared.Misread.{Misread}
use Rattle.site.specs.Reading.{numbers_of, section_of, read_of, refused}
use Rattle.site.proofs.ReadLaws.{refused_0, refused_1, refused_2, refused_3, too_long, whole}
use Rattle.site_diagnosis.specs.Wrong.{bad_number_text, wrong_text}
use Rattle.site_diagnosis.specs.Diagnosis.{place_text, section_line, long_line, diagnosis_line, Diagnosed}

-- What is wrong where no count is.
pub other_wrong : (k : Section) (ws : List ℕ) (q : ℕ) (r : Refusal) → (r ≡ ShortFile → ⊥) → (r ≡ WrongCount → ⊥) → wrong_text k ws q r ≡ bad_number_text k (numbers_of k ws q)
unfolding wrong_text
other_wrong k ws q ShortFile n m = absurd (n refl)
other_wrong k ws q WrongCount n m = absurd (m refl)
other_wrong k ws q r n m = refl

-- The line of this file, and what it says.
pub record Line (name s line : List ℕ) : Type 0 where
  pub is : diagnosis_line name s ≡ line
  pub diagnosed : Diagnosed name s (diagnosis_line name s)

refused_line_lem : (name s wrong : List ℕ) (m : Misread) → read_of s ≡ Err m
    → diagnosis_line name s ≡ opening_text (number_of m.refusal) ++ (wrong ++ place_text name m.place)
    → Line name s (opening_text (number_of m.refusal) ++ (wrong ++ place_text name m.place))
refused_line_lem name s wrong m e l =
    record { is = l; diagnosed = record { silent = λ z. let y = rw e at z in absurd (cc); says = rw e (wrong, l) } }

section_line_lem : (name s : List ℕ) (k : Section) (q : ℕ) (m : Misread) → read_of s ≡ Err m
    → diagnosis_line name s ≡ section_line name k (words s) q m
    → Line name s (section_line name k (words s) q m)
unfolding section_line
section_line_lem name s k q m = refused_line_lem name s (wrong_text k (words s) q m.refusal) m

long_line_lem : (name s : List ℕ) (place : ℕ) → read_of s ≡ refused LongFile place → diagnosis_line name s ≡ long_line name place → Line name s (long_line name place)
unfolding long_line
long_line_lem name s place e = refused_line_lem name s (ascii "nothing may follow the levels") (record { refusal = LongFile; place = place }) e

module _ (name s : List ℕ) where
  pub in_timings : (m : Misread) → section_of Timings (length s) (words s) 0 ≡ Err m → Line name s (section_line name Timings (words s) 0 m)
  unfolding diagnosis_line
  in_timings m n = section_line_lem name s Timings 0 m (refused_0 s n) (rw n)

  module _ (t : Found) (et : section_of Timings (length s) (words s) 0 ≡ Ok t) where
    pub in_entries : (m : Misread) → section_of Entries (length s) (words s) t.next ≡ Err m → Line name s (section_line name Entries (words s) t.next m)
    unfolding diagnosis_line
    in_entries m n = section_line_lem name s Entries t.next m (refused_1 s t et n) (rw (et, n))

    module _ (e : Found) (ee : section_of Entries (length s) (words s) t.next ≡ Ok e) where
      pub in_holidays : (m : Misread) → section_of Holidays (length s) (words s) e.next ≡ Err m → Line name s (section_line name Holidays (words s) e.next m)
      unfolding diagnosis_line
      in_holidays m n = section_line_lem name s Holidays e.next m (refused_2 s t et e ee n) (rw (et, ee, n))

      module _ (h : Found) (eh : section_of Holidays (length s) (words s) e.next ≡ Ok h) where
        pub in_levels : (m : Misread) → section_of Levels (length s) (words s) h.next ≡ Err m → Line name s (section_line name Levels (words s) h.next m)
        unfolding diagnosis_line
        in_levels m n = section_line_lem name s Levels h.next m (refused_3 s t et e ee h eh n) (rw (et, ee, eh, n))

        module _ (l : Found) (el : section_of Levels (length s) (words s) h.next ≡ Ok l) where
          pub behind_levels : (l.next * 2 ≡ length s → ⊥) → Line name s (long_line name (l.next * 2))
          unfolding diagnosis_line
          behind_levels n = long_line_lem name s (l.next * 2) (too_long s t et e ee h eh l el n) (rw (et, ee, eh, el, ne_eqb _ _ n))

          pub nothing_wrong : l.next * 2 ≡ length s → Line name s []
          unfolding diagnosis_line
          nothing_wrong z =
              let line : diagnosis_line name s ≡ [] = rw (et, ee, eh, el, eq-eqb _ _ z) in
              record { is = line; diagnosed = record { silent = λ _. line; says = rw (whole s t et e ee h eh l el z) tt } }
