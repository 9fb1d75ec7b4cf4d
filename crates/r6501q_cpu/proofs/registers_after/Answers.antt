use Rattle.std.proofs.Common.{lt-ltb, arith, refl}
use Rattle.r6501q_cpu.specs.Asking.{put_register, registers_after}
use Rattle.r6501q_cpu.proofs.registers_after.Goals as goal

pub returns-then-w-eq0 : goal.returns-then-w-eq0
unfolding registers_after put_register
returns-then-w-eq0 c = rw c.if-w-eq0.true refl

pub returns-then-w-eq1 : goal.returns-then-w-eq1
unfolding registers_after put_register
returns-then-w-eq1 c = rw (c.put_register-first.ensures, c.if-w-eq1.true) refl

pub returns-then-w-eq2 : goal.returns-then-w-eq2
unfolding registers_after put_register
returns-then-w-eq2 c = rw (c.put_register-second.ensures, c.put_register-first.ensures, c.if-w-eq2.true) refl

pub returns : goal.returns
unfolding registers_after
returns c =
    let count = c.args.w.count in
    rw (
      lt-ltb 0 count (omega arith),
      lt-ltb 1 count (omega arith),
      lt-ltb 2 count (omega arith),
      c.put_register.ensures,
      c.put_register-second.ensures,
      c.put_register-first.ensures,
    ) refl
