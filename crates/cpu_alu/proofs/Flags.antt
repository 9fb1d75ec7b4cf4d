-- The flags and the byte that holds them: pulled or unpacked, they come back; packed again, a byte loses bits 4 and 5
-- alone.
use mathlib.Core.Path.{◌≡◌, ◌∙◌, ap}
use mathlib.Core.Bool.{Bool, true, false}
use Prim.Native.Nat.{ℕ, ◌+◌, ◌*◌, ◌/◌, ◌%◌, ◌^◌, ◌<◌}
use native.Mathlib.Nat.{zero-mul}
use native.Mathlib.Omega.{arith}
use borrow.Author.Tests.{eqb-false}
use lib.Dec.{eqb, eqb→eq}
use Rattle.bits.specs.Bits.{bit, one_where, with_bit}
use Rattle.bits.proofs.Tables.{below}
use Rattle.cpu_alu.specs.Status.{packed, unpacked, pushed}
use Rattle.cpu_alu.specs.declared.Status.{Status}
use Rattle.bits.proofs.Cond.{one_where_le}

-- a 1 or 0 says which flag it came from
flag : (b : Bool) (x : ℕ) → x ≡ one_where b → eqb x 1 ≡ b
flag true x h = rw h
flag false x h = rw h

-- bits 4 and 5 say nothing of the flags
pub unpacked_over : (s : Status) (k : ℕ) → k < 4 → unpacked (packed s + 16 * k) ≡ s
unfolding packed unpacked
unpacked_over s k h =
    let n = one_where_le s.n in
    let v = one_where_le s.v in
    let d = one_where_le s.d in
    let i = one_where_le s.i in
    let z = one_where_le s.z in
    let c = one_where_le s.c in
    let p = packed s + 16 * k in
    rw (
      flag s.n (p / 128 % 2) (omega arith),
      flag s.v (p / 64 % 2) (omega arith),
      flag s.d (p / 8 % 2) (omega arith),
      flag s.i (p / 4 % 2) (omega arith),
      flag s.z (p / 2 % 2) (omega arith),
      flag s.c (p / 1 % 2) (omega arith),
    )

pub unpacked_packed : (s : Status) → unpacked (packed s) ≡ s
unpacked_packed s = ap unpacked (omega arith) ∙ unpacked_over s 0 (omega arith)

pub unpacked_pushed : (s : Status) (brk : Bool) → unpacked (pushed s brk) ≡ s
unfolding pushed
unpacked_pushed s brk =
    let b = one_where_le brk in
    let e : packed s + 32 + one_where brk * 16 ≡ packed s + 16 * (2 + one_where brk) = omega arith in
    ap unpacked e ∙ unpacked_over s (2 + one_where brk) (omega arith)

-- a byte packed again has bits 4 and 5 cleared, and its other bits as they were
again_at : ℕ → Bool
again_at p = eqb (packed (unpacked p)) (with_bit 4 false (with_bit 5 false p))

pub packed_unpacked : (p : ℕ) → p < 256 → packed (unpacked p) ≡ with_bit 4 false (with_bit 5 false p)
unfolding again_at packed unpacked with_bit
packed_unpacked p h = eqb→eq (packed (unpacked p)) (with_bit 4 false (with_bit 5 false p)) (below again_at 256 tt p h)

-- a bit that is clear is cleared by nothing
cleared : (k p : ℕ) → bit k p ≡ false → with_bit k false p ≡ p
unfolding with_bit
cleared k p h =
    let o = eqb-false (p / 2 ^ k % 2) 1 h in
    let z : p / 2 ^ k % 2 ≡ 0 = omega arith in
    rw (z, zero-mul) (omega arith)

-- so P, whose bits 4 and 5 are 0, stays as it is
pub packed_same : (p : ℕ) → p < 256 → bit 4 p ≡ false → bit 5 p ≡ false → packed (unpacked p) ≡ p
packed_same p h four five = packed_unpacked p h ∙ ap (with_bit 4 false) (cleared 5 p five) ∙ cleared 4 p four
