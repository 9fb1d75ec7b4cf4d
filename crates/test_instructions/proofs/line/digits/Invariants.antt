use Rattle.test_instructions.proofs.Hex.{Reading}
use Rattle.test_instructions.proofs.line.digits.Given as goal

abbrev pub invariant-loop-c : goal.invariant-loop-c
invariant-loop-c l = Reading l.text 0 l.c-index l.n
