use Rattle.r6501q_registers.specs.Read.{after_read}
use borrow.Author.Tests.{eq-eqb, ne_eqb}
use Rattle.r6501q_registers.proofs.read.after_read.Goals as goal

pub returns-then-address-eq-LOWER_B : goal.returns-then-address-eq-LOWER_B
unfolding after_read
returns-then-address-eq-LOWER_B c = rw (← c.with_bit-flags.ensures, eq-eqb _ _ c.if-address-eq-LOWER_B.true)

pub returns-then-address-eq-LOWER_A : goal.returns-then-address-eq-LOWER_A
unfolding after_read
returns-then-address-eq-LOWER_A c = rw (
  ← c.with_bit-flags-then-address-eq-LOWER_A.ensures,
  eq-eqb _ _ c.if-address-eq-LOWER_A.true,
  ne_eqb _ _ c.if-address-eq-LOWER_B.false,
)

pub returns-then-address-eq-SERIAL_DATA : goal.returns-then-address-eq-SERIAL_DATA
unfolding after_read
returns-then-address-eq-SERIAL_DATA c = rw (
  ← c.received_read-status.ensures,
  eq-eqb _ _ c.if-address-eq-SERIAL_DATA.true,
  ne_eqb _ _ c.if-address-eq-LOWER_A.false,
  ne_eqb _ _ c.if-address-eq-LOWER_B.false,
)

pub returns : goal.returns
unfolding after_read
returns c = rw (
  ne_eqb _ _ c.if-address-eq-SERIAL_DATA.false,
  ne_eqb _ _ c.if-address-eq-LOWER_A.false,
  ne_eqb _ _
      c.if-address-eq-LOWER_B.false,
)
