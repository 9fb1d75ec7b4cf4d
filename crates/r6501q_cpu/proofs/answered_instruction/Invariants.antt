use mathlib.Core.Path.{◌≡◌}
use Prim.Native.Nat.{◌-◌}
use lib.ListN.{length, take}
use Rattle.std.specs.Prelude.{Err}
use Rattle.stops.specs.declared.Stop.TheVariants.{Undefined}
use Rattle.r6501q_cpu.specs.Asking.{instruction_from, answered_instruction}
use Rattle.r6501q_cpu.proofs.answered_instruction.Given as goal

abbrev pub invariant-loop-count : goal.invariant-loop-count
invariant-loop-count l = (length l.answers ≡ 6)
    × (instruction_from (Err Undefined) (6 - l.count) l.s l.peripherals (take l.count l.answers) l.memory
    ≡ answered_instruction l.s l.memory)
