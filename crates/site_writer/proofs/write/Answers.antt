-- The three outcomes of a write. What is written reads back, by `reads_back`; no file is longer than the longest, by `file_most`.
use Rattle.site.proofs.RoundTrip.{reads_back}
use Rattle.site.proofs.Sizes.{Sized}
use Rattle.site.proofs.WriteLaws.{file_most}
use Rattle.site.specs.Writing.{bytes_of}
use Rattle.site.specs.Record.{spoilt_site}
use Rattle.output.proofs.OutputLaws.{earlier_refused, too_small, accepted}
use Rattle.refusals.specs.declared.Refusal.TheVariants.{SpoiltSite}
use lib.Seq.{take_at}
use lib.ListN.{length}
use Prim.Native.Nat.{◌≤◌, ◌<◌}
use mathlib.Core.Bool.{false}
use mathlib.Core.Path.{◌≡◌, refl, sym, ◌∙◌}
use native.Mathlib.Omega.{arith}
use borrow.Author.Rules.{rules}
use Rattle.site_writer.proofs.write.Goals as goal
use Rattle.site_writer.proofs.write.Goals.{Else-spoilt, Start}

sized : (s : Start) → Sized s.args.site
sized s = record { timings = search rules; plan = search rules; dates = search rules; tables = search rules }

not_spoilt : (c : Else-spoilt) → spoilt_site c.args.site ≡ false
not_spoilt c = sym c.spoilt.ensures ∙ c.if-spoilt.false

pub returns-then-spoilt : goal.returns-then-spoilt
returns-then-spoilt c =
    let a = c.args in
    let o = earlier_refused SpoiltSite (bytes_of a.site) a.out.now in
    rw (sym c.spoilt.ensures ∙ c.if-spoilt.true) (record { answer = o.answers; buffer = o.leaves; back = tt; room = (λ z. absurd (cc)) })

pub file_size-requires : goal.file_size-requires
file_size-requires c = not_spoilt c

pub returns-then-out-file_size : goal.returns-then-out-file_size
returns-then-out-file_size c =
    let a = c.args in
    let n = not_spoilt (goal.at.returns-then-out-file_size c).Else-spoilt in
    let short : length a.out.now < length (bytes_of a.site) = omega (arith, c.file_size.ensures) in
    let o = too_small (bytes_of a.site) a.out.now short in
    rw n (record { answer = o.answers; buffer = o.leaves; back = tt; room = (λ z. omega (arith, short, file_most a.site (sized (goal.at.returns-then-out-file_size c).Start) n)) })

pub store_site-requires : goal.store_site-requires
store_site-requires c = (not_spoilt (goal.at.store_site-requires c).Else-spoilt, omega (arith, c.file_size.ensures))

pub returns : goal.returns
returns c =
    let n = not_spoilt (goal.at.returns c).Else-spoilt in
    let x = c.args.site in
    let fits : length (bytes_of x) ≤ length c.args.out.now = omega (arith, c.file_size.ensures) in
    let o = accepted (bytes_of x) c.args.out.now fits in
    rw (n, c.store_site.ensures.0) (record { answer = o.answers; buffer = c.store_site.ensures.1 ∙ o.leaves; back = rw (c.store_site.ensures.1, take_at (bytes_of x) _ (length (bytes_of x)) refl) (reads_back x (sized (goal.at.returns c).Start) n); room = (λ z. absurd (cc)) })
