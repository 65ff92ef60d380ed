-- The table is the definition's.
use Rattle.std.proofs.lemmas.Grind.{common_steps}
use Rattle.phrases.proofs.DayNames.{named, no_name}
use Rattle.phrases.specs.Phrases.{day_names}
use Prim.Native.Nat.{◌<◌}
use lib.ListN.{get_or}
use mathlib.Core.List.{[]}
use mathlib.Core.Path.{◌≡◌}
use native.Mathlib.Omega.{arith}
use Rattle.phrases.proofs.put_day_name.Goals as goal

pub returns-in-Some : goal.returns-in-Some
returns-in-Some c =
    let l : c.args.day < 8 = grind (arith, common_steps, c.in-Some.ensures.lookup) in
    let e : c.in-Some.name.now ≡ get_or day_names c.args.day [] = grind (arith, common_steps, c.in-Some.ensures.lookup) in
    rw (named c.args.day l, ← e) c.put.ensures

pub returns-in-None : goal.returns-in-None
returns-in-None c = rw (no_name c.args.day (omega (arith, c.in-None.ensures.lookup))) c.put_byte.ensures
