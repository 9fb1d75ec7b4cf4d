use Rattle.r6501q_cpu.specs.Processor.{byte_put}
use mathlib.Core.Path.{refl}
use Rattle.cpu_access.specs.Accesses.{peripherals_written}
use Rattle.r6501q_cpu.specs.Asking.{put_register}
use Rattle.r6501q_process.proofs.put_byte.Goals as goal

pub returns : goal.returns
unfolding byte_put put_register peripherals_written
returns c = rw (c.put_register-peripherals.ensures, c.one_write-writes.ensures, c.waiting_at-cpu.ensures) refl
