-- One register as given, or with the flags, the others kept.
use Rattle.std.specs.Prelude.{ℕ}
use Rattle.cpu_alu.specs.Status.{with_nz}
use Rattle.cpu_alu.specs.declared.Status.{Status}
use Rattle.cpu_alu.specs.declared.Computed.{Computed}
use Rattle.cpu_access.specs.declared.CpuRegisters.{CpuRegisters}

abbrev pub with_sp : ℕ → CpuRegisters → CpuRegisters
with_sp v r = record { a = r.a; x = r.x; y = r.y; sp = v; pc = r.pc; status = r.status }

abbrev pub with_pc : ℕ → CpuRegisters → CpuRegisters
with_pc v r = record { a = r.a; x = r.x; y = r.y; sp = r.sp; pc = v; status = r.status }

abbrev pub with_status : Status → CpuRegisters → CpuRegisters
with_status s r = record { a = r.a; x = r.x; y = r.y; sp = r.sp; pc = r.pc; status = s }

-- what was computed goes into a register, with the flags
abbrev pub into_a : Computed → CpuRegisters → CpuRegisters
into_a k r = record { a = k.value; x = r.x; y = r.y; sp = r.sp; pc = r.pc; status = k.status }

abbrev pub into_x : Computed → CpuRegisters → CpuRegisters
into_x k r = record { a = r.a; x = k.value; y = r.y; sp = r.sp; pc = r.pc; status = k.status }

abbrev pub into_y : Computed → CpuRegisters → CpuRegisters
into_y k r = record { a = r.a; x = r.x; y = k.value; sp = r.sp; pc = r.pc; status = k.status }

-- loads and transfers: N and Z of the byte
abbrev pub load_a : ℕ → CpuRegisters → CpuRegisters
load_a v r = record { a = v; x = r.x; y = r.y; sp = r.sp; pc = r.pc; status = with_nz v r.status }

abbrev pub load_x : ℕ → CpuRegisters → CpuRegisters
load_x v r = record { a = r.a; x = v; y = r.y; sp = r.sp; pc = r.pc; status = with_nz v r.status }

abbrev pub load_y : ℕ → CpuRegisters → CpuRegisters
load_y v r = record { a = r.a; x = r.x; y = v; sp = r.sp; pc = r.pc; status = with_nz v r.status }
