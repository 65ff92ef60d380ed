-- `read_of` from the facts that the code finds, section by section.
use Prim.Native.Nat.{ℕ, ◌*◌}
use mathlib.Core.Path.{◌≡◌}
use mathlib.Core.List.{List}
use borrow.Author.Tests.{eq-eqb, ne_eqb}
use lib.ListN.{length}
use Rattle.std.specs.Prelude.{Ok, Err}
use Rattle.numbers.specs.Words.{words}
use Rattle.ranges.specs.declared.Section.TheVariants.{Timings, Entries, Holidays, Levels}
use Rattle.refusals.specs.declared.Refusal.TheVariants.{LongFile}
use Rattle.site.specs.declared.Misread.{Misread}
use Rattle.site.specs.declared.Found.{Found}
use Rattle.site.specs.Reading.{section_of, none_of, refused, filled_of, read_of}

module _ (s : List ℕ) where
  pub refused_0 : {m : Misread} → section_of Timings (length s) (words s) 0 ≡ Err m → read_of s ≡ Err m
  unfolding read_of
  refused_0 e = rw e

  module _ (t : Found) (et : section_of Timings (length s) (words s) 0 ≡ Ok t) where
    pub refused_1 : {m : Misread} → section_of Entries (length s) (words s) t.next ≡ Err m → read_of s ≡ Err m
    unfolding read_of
    refused_1 e = rw (et, e)

    module _ (e : Found) (ee : section_of Entries (length s) (words s) t.next ≡ Ok e) where
      pub refused_2 : {m : Misread} → section_of Holidays (length s) (words s) e.next ≡ Err m → read_of s ≡ Err m
      unfolding read_of
      refused_2 q = rw (et, ee, q)

      module _ (h : Found) (eh : section_of Holidays (length s) (words s) e.next ≡ Ok h) where
        pub refused_3 : {m : Misread} → section_of Levels (length s) (words s) h.next ≡ Err m → read_of s ≡ Err m
        unfolding read_of
        refused_3 q = rw (et, ee, eh, q)

        module _ (l : Found) (el : section_of Levels (length s) (words s) h.next ≡ Ok l) where
          pub too_long : (l.next * 2 ≡ length s → ⊥) → read_of s ≡ refused LongFile (l.next * 2)
          unfolding read_of
          too_long n = rw (et, ee, eh, el, ne_eqb _ _ n)

          pub whole : l.next * 2 ≡ length s
              → read_of s
              ≡ Ok (record {
                timings = filled_of Timings (words s) 0 (none_of Timings);
                entries = e.count;
                plan = filled_of Entries (words s) t.next (none_of Entries);
                holidays = h.count;
                dates = filled_of Holidays (words s) e.next (none_of Holidays);
                levels = l.count;
                tables = filled_of Levels (words s) h.next (none_of Levels);
              })
          unfolding read_of
          whole q = rw (et, ee, eh, el, eq-eqb _ _ q)
