-- The loop's invariant: storing what is left of the bytes, from its place on, leaves what storing all of them leaves.
use Prim.Native.Nat.{◌≤◌}
use mathlib.Core.Path.{◌≡◌}
use mathlib.Core.List.{[], ◌∷◌, ◌++◌}
use lib.ListN.{length, take}
use lib.Seq.{sets, slice}
use Rattle.many_ticks.proofs.lay.Given as goal

abbrev pub invariant-loop-i : goal.invariant-loop-i
invariant-loop-i l =
    (l.i ≤ l.n)
    × (length l.out ≡ length l.initial.out)
    × (sets l.out l.i (slice l.i l.n l.shown.colours ++ (l.shown.sign ∷ [])) ≡ sets l.initial.out 0 (take l.n l.shown.colours ++ (l.shown.sign ∷ [])))
