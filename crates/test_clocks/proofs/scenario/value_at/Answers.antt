use Rattle.std.proofs.Common.{arith}
use Rattle.tape_records.proofs.DigitLaws.{value_most}
use Rattle.test_clocks.proofs.scenario.value_at.Goals as goal

pub overflow_cast-result : goal.overflow_cast-result
overflow_cast-result c = omega (arith, c.value.ensures, value_most)

pub returns-in-Some : goal.returns-in-Some
returns-in-Some c = omega (arith, c.value.ensures, value_most)
