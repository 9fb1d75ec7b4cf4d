use Rattle.r6501q_registers.specs.Read.{register_value}
use mathlib.Core.Path.{refl}
use borrow.Author.Tests.{ne_eqb}
use Rattle.r6501q_registers.proofs.read.value.Goals as goal

pub returns-in-30 : goal.returns-in-30
unfolding register_value
returns-in-30 c = rw (c.low_byte.ensures, c.in-30.is) refl

pub returns-in-29 : goal.returns-in-29
unfolding register_value
returns-in-29 c = rw (c.high_byte.ensures, c.in-29.is) refl

pub returns-in-28 : goal.returns-in-28
unfolding register_value
returns-in-28 c = rw (c.low_byte-in-28.ensures, c.in-28.is) refl

pub returns-in-26 : goal.returns-in-26
unfolding register_value
returns-in-26 c = rw (c.low_byte-in-26.ensures, c.in-26.is) refl

pub returns-in-25 : goal.returns-in-25
unfolding register_value
returns-in-25 c = rw (c.high_byte-in-25.ensures, c.in-25.is) refl

pub returns-in-24 : goal.returns-in-24
unfolding register_value
returns-in-24 c = rw (c.low_byte-in-24.ensures, c.in-24.is) refl

pub returns-in-23 : goal.returns-in-23
unfolding register_value
returns-in-23 c = rw c.in-23.is refl

pub returns-in-22 : goal.returns-in-22
unfolding register_value
returns-in-22 c = rw c.in-22.is refl

pub returns-in-21 : goal.returns-in-21
unfolding register_value
returns-in-21 c = rw c.in-21.is refl

pub returns-in-20 : goal.returns-in-20
unfolding register_value
returns-in-20 c = rw c.in-20.is refl

pub returns-in-18 : goal.returns-in-18
unfolding register_value
returns-in-18 c = rw c.in-18.is refl

pub returns-in-17 : goal.returns-in-17
unfolding register_value
returns-in-17 c = rw (c.flags.ensures, c.in-17.is) refl

pub returns-in-16 : goal.returns-in-16
unfolding register_value
returns-in-16 c = rw c.in-16.is refl

pub returns-in-3 : goal.returns-in-3
unfolding register_value
returns-in-3 c = rw (c.port_value.ensures, c.in-3.is) refl

pub returns-in-2 : goal.returns-in-2
unfolding register_value
returns-in-2 c = rw (c.port_value-in-2.ensures, c.in-2.is) refl

pub returns-in-1 : goal.returns-in-1
unfolding register_value
returns-in-1 c = rw (c.port_value-in-1.ensures, c.in-1.is) refl

pub returns-in-0 : goal.returns-in-0
unfolding register_value
returns-in-0 c = rw (c.port_value-in-0.ensures, c.in-0.is) refl

pub returns-in_default : goal.returns-in_default
unfolding register_value
returns-in_default c =
    let r = c.in_default.in_default-own.rest in
    rw (
      ne_eqb _ _ r.0.0.0.0.0.0.0.0.0.0.0.0.0.0.0.0.1,
      ne_eqb _ _ r.0.0.0.0.0.0.0.0.0.0.0.0.0.0.0.1,
      ne_eqb _ _ r.0.0.0.0.0.0.0.0.0.0.0.0.0.0.1,
      ne_eqb _ _ r.0.0.0.0.0.0.0.0.0.0.0.0.0.1,
      ne_eqb _ _ r.0.0.0.0.0.0.0.0.0.0.0.0.1,
      ne_eqb _ _ r.0.0.0.0.0.0.0.0.0.0.0.1,
      ne_eqb _ _ r.0.0.0.0.0.0.0.0.0.0.1,
      ne_eqb _ _ r.0.0.0.0.0.0.0.0.0.1,
      ne_eqb _ _ r.0.0.0.0.0.0.0.0.1,
      ne_eqb _ _ r.0.0.0.0.0.0.0.1,
      ne_eqb _ _ r.0.0.0.0.0.0.1,
      ne_eqb _ _ r.0.0.0.0.0.1,
      ne_eqb _ _ r.0.0.0.0.1,
      ne_eqb _ _ r.0.0.0.1,
      ne_eqb _ _ r.0.0.1,
      ne_eqb _ _ r.0.1,
      ne_eqb _ _ r.1,
    )
