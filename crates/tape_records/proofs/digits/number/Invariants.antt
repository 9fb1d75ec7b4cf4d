use Rattle.tape_records.specs.Digits.{number_from, number_of}
use lib.ListN.{drop}
use mathlib.Core.Path.{◌≡◌}
use Rattle.tape_records.proofs.digits.number.Given as goal

abbrev pub invariant-loop-c : goal.invariant-loop-c
invariant-loop-c l = number_from l.n (drop l.c-index l.digits) ≡ number_of l.digits
