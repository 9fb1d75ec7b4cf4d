-- AND, ORA, EOR and BIT.
use Rattle.std.specs.Prelude.{ℕ, eqb}
use Rattle.std.specs.Int.Bits.{bit_and, bit_or, bit_xor}
use Rattle.bits.specs.Bits.{bit}
use Rattle.cpu_alu.specs.Status.{computed}
use Rattle.cpu_alu.specs.declared.Status.{Status}
use Rattle.cpu_alu.specs.declared.Computed.{Computed}

unfoldable pub and_of : ℕ → ℕ → Status → Computed
and_of a m s = computed (bit_and a m) s

unfoldable pub ora_of : ℕ → ℕ → Status → Computed
ora_of a m s = computed (bit_or a m) s

unfoldable pub eor_of : ℕ → ℕ → Status → Computed
eor_of a m s = computed (bit_xor a m) s

-- BIT: N and V are bits 7 and 6 of memory, Z of the AND with the accumulator
unfoldable pub bit_of : ℕ → ℕ → Status → Status
bit_of a m s = record { n = bit 7 m; v = bit 6 m; d = s.d; i = s.i; z = eqb (bit_and a m) 0; c = s.c }
