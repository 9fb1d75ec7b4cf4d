use Rattle.tape.specs.Tapes.{landed_all}
use Rattle.page_sums.specs.PageSums.{sums_after}
use lib.ListN.{length, drop}
use mathlib.Core.Path.{◌≡◌}
use Rattle.tape.proofs.land_all.Given as goal

abbrev pub invariant-loop-place : goal.invariant-loop-place
invariant-loop-place l = (length l.memory ≡ length l.initial.memory)
    × (landed_all (drop l.place l.tape) l.memory ≡ landed_all l.tape l.initial.memory)
    × (l.sums ≡ sums_after l.initial.sums l.initial.memory l.memory)
