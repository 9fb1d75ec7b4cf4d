-- The binary difference, stated as a sum with the complement, is a - m less borrow, and C says that none is left to
-- borrow.
use mathlib.Core.Path.{◌≡◌}
use mathlib.Core.Bool.{not}
use Prim.Native.Nat.{ℕ, ◌+◌, ◌-◌, ◌%◌, ◌<◌}
use native.Mathlib.Omega.{arith}
use borrow.Author.Tests.{le-leb, lt-leb}
use lib.Dec.{leb}
use Rattle.bits.specs.Bits.{one_where}
use Rattle.cpu_alu.specs.Arithmetic.{sum, add_binary, subtract_binary}
use Rattle.cpu_alu.specs.declared.Status.{Status}
use Rattle.cpu_alu.proofs.Integers.{by_less}
use Rattle.bits.proofs.Cond.{one_where_not}

pub subtract_value : (a m : ℕ) (s : Status) → m < 256
    → (subtract_binary a m s).value ≡ (a + 256 - (m + one_where (not s.c))) % 256
unfolding add_binary
subtract_value a m s h = let o = one_where_not s.c in omega arith

pub subtract_carry : (a m : ℕ) (s : Status) → m < 256
    → (subtract_binary a m s).status.c ≡ leb (m + one_where (not s.c)) a
unfolding add_binary
subtract_carry a m s h =
    let o = one_where_not s.c in
    by_less a (m + one_where (not s.c))
    (λ p. rw (lt-leb (m + one_where (not s.c)) a p) (lt-leb 256 (sum a (255 - m) s.c) (omega arith)))
    (λ p. rw (le-leb (m + one_where (not s.c)) a p) (le-leb 256 (sum a (255 - m) s.c) (omega arith)))
