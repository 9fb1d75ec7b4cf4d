use Rattle.std.proofs.Common.{arith}
use Rattle.test_instructions.proofs.Hex.{decimal_digit, letter_digit}
use Rattle.test_instructions.proofs.line.value.Goals as goal

pub returns-in-48-to-57-clause-c_value : goal.returns-in-48-to-57-clause-c_value
returns-in-48-to-57-clause-c_value c = decimal_digit _ (omega arith) (omega arith)

pub returns-in-65-to-70-clause-c_value : goal.returns-in-65-to-70-clause-c_value
returns-in-65-to-70-clause-c_value c = letter_digit _ (omega arith)
