-- Where one is noted it is kept.
use mathlib.Core.Path.{◌≡◌, refl, sym, ◌∙◌}
use mathlib.Core.Bool.{true, true≢false}
use Rattle.std.specs.Prelude.{Option, Some, None}
use Rattle.std.specs.Option.{is_some}
use Rattle.replay_lines.specs.declared.run.Refused.{Refused}
use Rattle.replay_lines.specs.declared.run.Line.{Line}
use Rattle.replay_lines.specs.Replay.{noted}
use Rattle.replay_lines.proofs.run.noted.Goals as goal

kept : (refused : Option Refused) (line : Line) → is_some refused ≡ true → refused ≡ noted refused line
kept (Some refused) line e = refl
kept None line e = absurd (true≢false (sym e))

pub returns-then-is_some : goal.returns-then-is_some
returns-then-is_some c = kept c.args.refused c.args.line (sym c.is_some.ensures ∙ c.if-is_some.true)
