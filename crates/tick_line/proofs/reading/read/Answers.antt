-- The two calls give the definition's, which is what the words say: law `line_by_words`.
use mathlib.Core.Path.{◌≡◌, ap, ◌∙◌}
use Rattle.tick_line.specs.declared.scan.Scan.{Scan}
use Rattle.tick_line.specs.Scan.{closed}
use Rattle.tick_line.specs.Reading.{tick_read}
use Rattle.tick_line.proofs.WordLaws.{line_by_words}
use Rattle.tick_line.proofs.reading.read.Goals as goal

pub returns : goal.returns
returns c =
    let a = c.args in
    let is : c.tick_read.result ≡ tick_read (closed a.s) a.shape.lanes a.shape.mainline = simp (c.tick_read.ensures, c.closed.ensures) in (record { is = is; words = λ line l e. is ∙ ap (λ (s : Scan). tick_read (closed s) a.shape.lanes a.shape.mainline) e ∙ line_by_words a.shape.lanes a.shape.mainline line l })
