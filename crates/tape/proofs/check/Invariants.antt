use Rattle.tape.specs.Tapes.{check_from, check_of}
use lib.ListN.{drop}
use Prim.Native.Nat.{◌≤◌}
use mathlib.Core.Path.{◌≡◌}
use Rattle.tape.proofs.check.Given as goal

abbrev pub invariant-loop-place : goal.invariant-loop-place
invariant-loop-place l = (l.seen ≤ l.place) × (check_from l.place l.seen (drop l.place l.tape) ≡ check_of l.tape)
