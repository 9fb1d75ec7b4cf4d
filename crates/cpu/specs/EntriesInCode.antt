-- Interrupt entries (01, One clock, 4) as the code works them: reset, NMI, IRQ. By their accesses they stand in
-- `InstructionAccesses.antt`.
use Rattle.std.specs.Prelude.{true, false, List, ℕ}
use Rattle.cpu_alu.specs.Status.{pushed, with_i}
use Rattle.cpu_access.specs.declared.CpuRegisters.{CpuRegisters}
use Rattle.cpu_access.specs.Bus.{reset_vector, vector_of}
use Rattle.cpu_effects.specs.declared.Worked.{Worked}
use Rattle.cpu_effects.specs.declared.Writing.TheVariants.{Nothing}
use Rattle.cpu_effects.specs.Effects.{with_pc, with_status, interrupted}

-- "reset pushes nothing and keeps SP"
unfoldable pub reset_entry : List ℕ → CpuRegisters → Worked
reset_entry memory r = record {
  registers = with_pc (vector_of memory reset_vector) (with_status (with_i true r.status) r);
  writing = Nothing;
  length = 7;
}

-- NMI and IRQ: 01, Machine state, "a push sets bit 5 in the byte", and not bit 4
unfoldable pub interrupt_entry : List ℕ → ℕ → CpuRegisters → Worked
interrupt_entry memory vector r = interrupted memory vector (pushed r.status false) r
