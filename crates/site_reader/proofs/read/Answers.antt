-- Each return is one case of `read_of`, by its law in `ReadLaws`.
use Rattle.site.proofs.RoundTrip.{keeps_rewritten}
use Rattle.site.proofs.ReadLaws.{refused_0, refused_1, refused_2, refused_3, too_long, whole}
use Rattle.site.proofs.SectionLaws.{one_found, accepted}
use Rattle.site.specs.declared.Found.{Found}
use Rattle.ranges.specs.declared.Section.TheVariants.{Levels}
use Rattle.numbers.proofs.WordLaws.{words_low}
use Rattle.numbers.specs.Words.{words}
use lib.ListN.{length}
use Rattle.std.proofs.lemmas.Result.{err_from_is_err_and}
use mathlib.Core.Path.{ap, sym}
use native.Mathlib.Omega.{arith}
use Rattle.site_reader.proofs.read.Goals as goal

pub returns-in_err-t-clause-is : goal.returns-in_err-t-clause-is
returns-in_err-t-clause-is c = let p = err_from_is_err_and c.from_residual.result c.from_residual.ensures.1 in rw (p.1, p.2) (sym (refused_0 c.args.src.now (sym c.in_err-t.ensures.found)))

pub returns-in_err-e-clause-is : goal.returns-in_err-e-clause-is
returns-in_err-e-clause-is c =
    let p = err_from_is_err_and c.from_residual-in_err-e.result c.from_residual-in_err-e.ensures.1 in
    rw (p.1, p.2) (sym (refused_1 c.args.src.now _ (sym c.in_ok-t.ensures.found) (sym c.in_err-e.ensures.found)))

pub returns-in_err-h-clause-is : goal.returns-in_err-h-clause-is
returns-in_err-h-clause-is c =
    let p = err_from_is_err_and c.from_residual-in_err-h.result c.from_residual-in_err-h.ensures.1 in
    rw (p.1, p.2) (sym (refused_2 c.args.src.now _ (sym c.in_ok-t.ensures.found) _ (sym c.in_ok-e.ensures.found) (sym c.in_err-h.ensures.found)))

pub returns-in_err-l-clause-is : goal.returns-in_err-l-clause-is
returns-in_err-l-clause-is c =
    let p = err_from_is_err_and c.from_residual-in_err-l.result c.from_residual-in_err-l.ensures.1 in
    rw (p.1, p.2) (sym (refused_3 c.args.src.now _ (sym c.in_ok-t.ensures.found) _ (sym c.in_ok-e.ensures.found) _ (sym c.in_ok-h.ensures.found) (sym c.in_err-l.ensures.found)))

pub overflow_mul-end : goal.overflow_mul-end
overflow_mul-end c =
    let f = c.args.src.now in
    let g = accepted Levels (length f) (words f) c.in_ok-h.h.next (sym c.in_ok-l.ensures.found) in
    omega (arith, words_low f, g.whole, ap (λ (x : Found). x.next) (one_found _ (sym c.in_ok-l.ensures.found) g.is))

pub returns-then-end-src-clause-is : goal.returns-then-end-src-clause-is
returns-then-end-src-clause-is c =
    sym (too_long c.args.src.now _ (sym c.in_ok-t.ensures.found) _ (sym c.in_ok-e.ensures.found) _ (sym c.in_ok-h.ensures.found) _ (sym c.in_ok-l.ensures.found) c.if-end-src.true)

pub returns : goal.returns
returns c =
    let f = c.args.src.now in
    let all = keeps_rewritten f (λ i. (c.type_inv.src i).fits) _
    (rw (c.in_ok-t.ensures.filled, c.in_ok-e.ensures.filled, c.in_ok-h.ensures.filled, c.in_ok-l.ensures.filled)
    (sym (whole f _ (sym c.in_ok-t.ensures.found) _ (sym c.in_ok-e.ensures.found) _ (sym c.in_ok-h.ensures.found) _ (sym c.in_ok-l.ensures.found) c.if-end-src.false))) in record { is = all.0; rewritten = all.1 }
