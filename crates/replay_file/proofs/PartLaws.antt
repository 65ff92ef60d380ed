-- What is left of the bytes of a read: taking a part of it leaves the rest of it.
use Prim.Native.Nat.{ℕ, ◌+◌, ◌-◌}
use mathlib.Core.Path.{◌≡◌, sym, ◌∙◌, ap}
use mathlib.Core.List.{List}
use native.Mathlib.Omega.{arith}
use lib.ListN.{length, take, drop, length-drop, take-append-drop}
use lib.Seq.{take_all, drop-drop}
use Rattle.site.specs.declared.Site.{Site}
use Rattle.replay_lines.specs.declared.run.Run.{Run}
use Rattle.replay_lines.specs.Replay.{run_after}
use Rattle.replay_lines.proofs.ReplayLaws.{run_in_parts}

pub rest : (b : List ℕ) (from : ℕ) → take (length b - from) (drop from b) ≡ drop from b
rest b from = take_all (length b - from) (drop from b) (omega (arith, length-drop from b))

pub part_taken : (x : Site) (b : List ℕ) (from k : ℕ) (run run' : Run) → run' ≡ run_after x (take k (drop from b)) run
    → run_after x (drop (from + k) b) run' ≡ run_after x (drop from b) run
part_taken x b from k run run' e =
    rw (e, ← drop-drop k from b) (sym (run_in_parts x (take k (drop from b)) (drop k (drop from b)) run) ∙ ap (λ (l : List ℕ). run_after x l run) (take-append-drop k (drop from b)))
