-- Bounds of what the specifications compute.
use Prim.Native.Nat.{◌≤◌}
use native.Mathlib.Omega.{arith}
use Rattle.bits.proofs.Cond.{one_where_le}
use Rattle.cpu_alu.specs.Status.{packed}
use Rattle.cpu_alu.specs.declared.Status.{Status}

-- with bits 4 and 5 clear, there is room for both
pub packed_le : (s : Status) → packed s ≤ 207
unfolding packed
packed_le s =
    omega (
      arith,
      one_where_le s.n,
      one_where_le s.v,
      one_where_le s.d,
      one_where_le s.i,
      one_where_le s.z,
      one_where_le s.c,
    )
