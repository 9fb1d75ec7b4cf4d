use Rattle.r6501q_cpu.specs.Asking.{put_register}
use Rattle.r6501q_cpu.proofs.put_register.Goals as goal

pub returns-then-is_register : goal.returns-then-is_register
unfolding put_register
returns-then-is_register c = rw (← c.is_register.ensures, ← c.write.ensures, c.if-is_register.true)

pub returns : goal.returns
unfolding put_register
returns c = rw (← c.is_register.ensures, c.if-is_register.false)
