-- Which clock ends a span: one that writes a register or the halt address.
use Rattle.std.proofs.Common.{◌≡◌, false, refl, Option, ℕ}
use Rattle.bits.proofs.Cond.{either_false}
use Rattle.cpu_access.specs.declared.stack.Writes.{Writes}
use Rattle.cpu_access.specs.Stack.{no_writes}
use Rattle.cpu_access.specs.Halt.{halts, writes_register, ends_span}
use Rattle.cpu_access.proofs.Told.{unwritten}

pub ends_not : (halt : Option ℕ) (w : Writes) → writes_register w ≡ false → halts halt w ≡ false → ends_span halt w ≡ false
unfolding ends_span
ends_not halt w e h = rw (e, h)

pub ends_neither : (halt : Option ℕ) (w : Writes) → ends_span halt w ≡ false
    → (writes_register w ≡ false) × (halts halt w ≡ false)
unfolding ends_span
ends_neither halt w e = either_false (writes_register w) (halts halt w) e

-- a clock that writes nothing ends none
pub no_writes_end : (halt : Option ℕ) → ends_span halt no_writes ≡ false
unfolding writes_register
no_writes_end halt = ends_not halt no_writes refl (unwritten halt no_writes refl)
