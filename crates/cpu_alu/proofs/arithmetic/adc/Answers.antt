use Rattle.cpu_alu.specs.Arithmetic.{adc_of}
use Rattle.cpu_alu.proofs.arithmetic.adc.Goals as goal

pub returns-then-status : goal.returns-then-status
unfolding adc_of
returns-then-status c = rw (← c.add_decimal.ensures, c.if-status.true)

pub returns-else-status : goal.returns-else-status
unfolding adc_of
returns-else-status c = rw (← c.add_binary.ensures, c.if-status.false)
