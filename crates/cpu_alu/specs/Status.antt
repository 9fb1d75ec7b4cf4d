-- The processor status: its six flags, and the byte P that holds them.
use Rattle.std.specs.Prelude.{Bool, ℕ, ◌+◌, ◌*◌, eqb}
use Rattle.bits.specs.Bits.{bit, one_where}
use Rattle.cpu_alu.specs.declared.Status.{Status}
use Rattle.cpu_alu.specs.declared.Computed.{Computed}

-- 01, Machine state: "Bits 4 and 5 of P are 0"
unfoldable pub packed : Status → ℕ
packed s =
    one_where s.n * 128 + one_where s.v * 64 + one_where s.d * 8 + one_where s.i * 4 + one_where s.z * 2
    + one_where s.c

-- "a pull drops both"
unfoldable pub unpacked : ℕ → Status
unpacked p = record { n = bit 7 p; v = bit 6 p; d = bit 3 p; i = bit 2 p; z = bit 1 p; c = bit 0 p }

-- "a push sets bit 5 in the byte, PHP and BRK bit 4 too"
unfoldable pub pushed : Status → Bool → ℕ
pushed s brk = packed s + 32 + one_where brk * 16

-- N is bit 7 of a byte, Z says that it is 0; the others are kept
abbrev pub with_nz : ℕ → Status → Status
with_nz x s = record { n = bit 7 x; v = s.v; d = s.d; i = s.i; z = eqb x 0; c = s.c }

-- one flag as given, the others kept
abbrev pub with_v : Bool → Status → Status
with_v on s = record { n = s.n; v = on; d = s.d; i = s.i; z = s.z; c = s.c }

abbrev pub with_d : Bool → Status → Status
with_d on s = record { n = s.n; v = s.v; d = on; i = s.i; z = s.z; c = s.c }

abbrev pub with_i : Bool → Status → Status
with_i on s = record { n = s.n; v = s.v; d = s.d; i = on; z = s.z; c = s.c }

abbrev pub with_c : Bool → Status → Status
with_c on s = record { n = s.n; v = s.v; d = s.d; i = s.i; z = s.z; c = on }

-- a value with N and Z of it, the other flags as in the status
abbrev pub computed : ℕ → Status → Computed
computed x s = record { value = x; status = with_nz x s }
