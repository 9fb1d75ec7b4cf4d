-- The instructions that read, modify and write a byte: shifts, counts by one, single bits.
use Rattle.std.specs.Prelude.{true, false, ℕ, ◌+◌, ◌*◌, ◌/◌, ◌%◌}
use Rattle.bits.specs.Bits.{bit, one_where, with_bit, wrapping8}
use Rattle.cpu_alu.specs.Status.{with_c, computed}
use Rattle.cpu_alu.specs.declared.Status.{Status}
use Rattle.cpu_alu.specs.declared.Computed.{Computed}

-- C gets the bit that is shifted out; a rotation brings the old C in
unfoldable pub asl_of : ℕ → Status → Computed
asl_of x s = computed (x * 2 % 256) (with_c (bit 7 x) s)

unfoldable pub lsr_of : ℕ → Status → Computed
lsr_of x s = computed (x / 2) (with_c (bit 0 x) s)

unfoldable pub rol_of : ℕ → Status → Computed
rol_of x s = computed (x * 2 % 256 + one_where s.c) (with_c (bit 7 x) s)

unfoldable pub ror_of : ℕ → Status → Computed
ror_of x s = computed (x / 2 + one_where s.c * 128) (with_c (bit 0 x) s)

-- INC, INX, INY and DEC, DEX, DEY
unfoldable pub increment_of : ℕ → Status → Computed
increment_of x s = computed (wrapping8 x 1) s

unfoldable pub decrement_of : ℕ → Status → Computed
decrement_of x s = computed (wrapping8 x 255) s

-- RMB m and SMB m; of a number m above 7 its last three bits count
unfoldable pub reset_bit_of : ℕ → ℕ → ℕ
reset_bit_of x m = with_bit (m % 8) false x

unfoldable pub set_bit_of : ℕ → ℕ → ℕ
set_bit_of x m = with_bit (m % 8) true x
