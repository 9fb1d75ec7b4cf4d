use Rattle.r6501q_registers.specs.Read.{port_value}
use Rattle.r6501q_registers.proofs.read.port_value.Goals as goal

pub returns-then-modify : goal.returns-then-modify
unfolding port_value
returns-then-modify c = rw c.if-modify.true

pub returns-else-modify : goal.returns-else-modify
unfolding port_value
returns-else-modify c = rw c.if-modify.false
