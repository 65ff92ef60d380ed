-- No record is empty, and each has its size.
use Prim.Native.Nat.{ℕ, ◌≤◌}
use mathlib.Core.Path.{◌≡◌}
use mathlib.Core.Bool.{true}
use mathlib.Core.List.{List}
use native.Mathlib.Omega.{arith}
use borrow.Author.Tests.{eqb-true}
use lib.Dec.{eqb}
use lib.ListN.{length}
use Rattle.loops.proofs.Cases.{both_true}
use Rattle.tick_record.specs.Record.{record_size, is_record}

pub some_record : (n m : ℕ) → 36 ≤ record_size n m
unfolding record_size
some_record n m = omega arith

pub is_whole : (r : List ℕ) (n m : ℕ) → is_record r n m ≡ true → length r ≡ record_size n m
unfolding is_record
is_whole r n m e = eqb-true _ _ (both_true (eqb (length r) (record_size n m)) _ e).0
