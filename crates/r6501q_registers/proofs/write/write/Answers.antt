use Rattle.r6501q_registers.specs.Write.{write_of}
use mathlib.Core.Path.{refl}
use borrow.Author.Tests.{ne_eqb}
use Rattle.r6501q_registers.proofs.write.write.Goals as goal

pub returns-in-30 : goal.returns-in-30
unfolding write_of
returns-in-30 c = rw (c.start_b.ensures, c.in-30.is) refl

pub returns-in-29 : goal.returns-in-29
unfolding write_of
returns-in-29 c = rw (c.copy_latch-counter.ensures, c.with_upper.ensures, c.in-29.is) refl

pub returns-in-28 : goal.returns-in-28
unfolding write_of
returns-in-28 c = rw (c.with_lower-counter.ensures, c.in-28.is) refl

pub returns-in-26 : goal.returns-in-26
unfolding write_of
returns-in-26 c = rw (c.start_a.ensures, c.in-26.is) refl

pub returns-in-25 : goal.returns-in-25
unfolding write_of
returns-in-25 c = rw (c.with_upper-counter.ensures, c.in-25.is) refl

pub returns-in-24 : goal.returns-in-24
unfolding write_of
returns-in-24 c = rw (c.with_lower-counter-in-24.ensures, c.in-24.is) refl

pub returns-in-23 : goal.returns-in-23
unfolding write_of
returns-in-23 c = rw (c.write_data.ensures, c.in-23.is) refl

pub returns-in-22 : goal.returns-in-22
unfolding write_of
returns-in-22 c = rw (c.write_scsr.ensures, c.in-22.is) refl

pub returns-in-21 : goal.returns-in-21
unfolding write_of
returns-in-21 c = rw (c.write_sccr.ensures, c.in-21.is) refl

pub returns-in-20 : goal.returns-in-20
unfolding write_of
returns-in-20 c = rw (c.write_mcr.ensures, c.in-20.is) refl

pub returns-in-18 : goal.returns-in-18
unfolding write_of
returns-in-18 c = rw c.in-18.is refl

pub returns-in-16 : goal.returns-in-16
unfolding write_of
returns-in-16 c = rw (c.kept_flags-flags.ensures, c.in-16.is) refl

pub returns-in-3 : goal.returns-in-3
unfolding write_of
returns-in-3 c = rw c.in-3.is refl

pub returns-in-2 : goal.returns-in-2
unfolding write_of
returns-in-2 c = rw c.in-2.is refl

pub returns-in-1 : goal.returns-in-1
unfolding write_of
returns-in-1 c = rw c.in-1.is refl

pub returns-in-0 : goal.returns-in-0
unfolding write_of
returns-in-0 c = rw c.in-0.is refl

pub returns-in_default : goal.returns-in_default
unfolding write_of
returns-in_default c =
    let r = c.in_default.in_default-own.rest in
    rw (
      ne_eqb _ _ r.0.0.0.0.0.0.0.0.0.0.0.0.0.0.0.1,
      ne_eqb _ _ r.0.0.0.0.0.0.0.0.0.0.0.0.0.0.1,
      ne_eqb _ _ r.0.0.0.0.0.0.0.0.0.0.0.0.0.1,
      ne_eqb _ _ r.0.0.0.0.0.0.0.0.0.0.0.0.1,
      ne_eqb _ _ r.0.0.0.0.0.0.0.0.0.0.0.1,
      ne_eqb _ _ r.0.0.0.0.0.0.0.0.0.0.1,
      ne_eqb _ _ r.0.0.0.0.0.0.0.0.0.1,
      ne_eqb _ _ r.0.0.0.0.0.0.0.0.1,
      ne_eqb _ _ r.0.0.0.0.0.0.0.1,
      ne_eqb _ _ r.0.0.0.0.0.0.1,
      ne_eqb _ _ r.0.0.0.0.0.1,
      ne_eqb _ _ r.0.0.0.0.1,
      ne_eqb _ _ r.0.0.0.1,
      ne_eqb _ _ r.0.0.1,
      ne_eqb _ _ r.0.1,
      ne_eqb _ _ r.1,
    )
