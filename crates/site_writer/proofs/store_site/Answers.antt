-- The four sections, each stored where the one before it ended; p₁ to p₄ are the places after each.
use Rattle.site.proofs.WriteLaws.{entries_bytes, holidays_bytes, levels_bytes, length_file, four_stores}
use Rattle.site.proofs.SpoiltLaws.{SoundSite, sound_site}
use Rattle.site.proofs.Sizes.{fits, Sized}
use Rattle.ranges.specs.declared.Section.TheVariants.{Entries, Holidays, Levels}
use lib.Seq.{sets}
use Prim.Native.Nat.{ℕ}
use mathlib.Core.List.{List}
use mathlib.Core.Path.{ap, ◌∙◌}
use native.Mathlib.Omega.{arith}
use borrow.Author.Rules.{rules}
use Rattle.site_writer.proofs.store_site.Goals as goal
use Rattle.site_writer.proofs.store_site.Goals.{Start}

sized : (s : Start) → Sized s.args.site
sized s = record { timings = search rules; plan = search rules; dates = search rules; tables = search rules }

sound : (s : Start) → SoundSite s.args.site
sound s = sound_site s.args.site s.requires.0

pub store_section-entries-requires : goal.store_section-entries-requires
store_section-entries-requires c =
    (omega (arith, (sized (goal.at.store_section-entries-requires c).Start).timings), omega (arith, c.requires.1, length_file c.args.site (sized (goal.at.store_section-entries-requires c).Start) c.requires.0))

pub store_section-holidays-requires : goal.store_section-holidays-requires
store_section-holidays-requires c = (
  omega (arith, (sized (goal.at.store_section-holidays-requires c).Start).plan, fits Entries c.args.site.entries (sound (goal.at.store_section-holidays-requires c).Start).plan.allowed),
  omega (arith, c.requires.1, length_file c.args.site (sized (goal.at.store_section-holidays-requires c).Start) c.requires.0, c.store_section-entries.ensures.next, c.store_section-entries.auto.dst),
)

pub store_section-levels-requires : goal.store_section-levels-requires
store_section-levels-requires c = (
  omega (arith, (sized (goal.at.store_section-levels-requires c).Start).dates, fits Holidays c.args.site.holidays (sound (goal.at.store_section-levels-requires c).Start).dates.allowed),
  omega (arith, c.requires.1, length_file c.args.site (sized (goal.at.store_section-levels-requires c).Start) c.requires.0, c.store_section-entries.ensures.next, c.store_section-entries.auto.dst, c.store_section-holidays.ensures.next, c.store_section-holidays.auto.dst),
)

pub store_section-requires : goal.store_section-requires
store_section-requires c = (
  omega (arith, (sized (goal.at.store_section-requires c).Start).tables, fits Levels c.args.site.levels (sound (goal.at.store_section-requires c).Start).tables.allowed),
  omega (arith, c.requires.1, length_file c.args.site (sized (goal.at.store_section-requires c).Start) c.requires.0, c.store_section-entries.ensures.next, c.store_section-entries.auto.dst, c.store_section-holidays.ensures.next, c.store_section-holidays.auto.dst, c.store_section-levels.ensures.next, c.store_section-levels.auto.dst),
)

pub returns : goal.returns
returns c =
    let x = c.args.site in
    let a = c.store_section-entries.result in
    let b = c.store_section-holidays.result in
    let e = c.store_section-levels.result in (
      omega (arith, length_file x (sized (goal.at.returns c).Start) c.requires.0, c.store_section-entries.ensures.next, c.store_section-holidays.ensures.next, c.store_section-levels.ensures.next, c.store_section.ensures.next),
      c.store_section.ensures.stored
          ∙ ap (λ (l : List ℕ). sets l e (levels_bytes x))
          (c.store_section-levels.ensures.stored ∙ ap (λ (l : List ℕ). sets l b (holidays_bytes x)) (c.store_section-holidays.ensures.stored ∙ ap (λ (l : List ℕ). sets l a (entries_bytes x)) c.store_section-entries.ensures.stored))
          ∙ four_stores x (sized (goal.at.returns c).Start) c.requires.0 c.args.out.now a b e c.store_section-entries.ensures.next c.store_section-holidays.ensures.next c.store_section-levels.ensures.next c.requires.1,
    )
