use mathlib.Core.Path.{refl}
use Rattle.cpu_kinds.specs.Kinds.{with_read}
use Rattle.cpu_kinds.proofs.kinds.with_read.Goals as goal

pub returns-in-Adc : goal.returns-in-Adc
unfolding with_read
returns-in-Adc c = rw (c.into_a.ensures, c.adc.ensures, c.in-Adc.is) refl

pub returns-in-And : goal.returns-in-And
unfolding with_read
returns-in-And c = rw (c.into_a-in-And.ensures, c.and.ensures, c.in-And.is) refl

pub returns-in-Bit : goal.returns-in-Bit
unfolding with_read
returns-in-Bit c = rw (c.with_status.ensures, c.bit_test.ensures, c.in-Bit.is) refl

pub returns-in-Cmp : goal.returns-in-Cmp
unfolding with_read
returns-in-Cmp c = rw (c.with_status-in-Cmp.ensures, c.compare.ensures, c.in-Cmp.is) refl

pub returns-in-Cpx : goal.returns-in-Cpx
unfolding with_read
returns-in-Cpx c = rw (c.with_status-in-Cpx.ensures, c.compare-in-Cpx.ensures, c.in-Cpx.is) refl

pub returns-in-Cpy : goal.returns-in-Cpy
unfolding with_read
returns-in-Cpy c = rw (c.with_status-in-Cpy.ensures, c.compare-in-Cpy.ensures, c.in-Cpy.is) refl

pub returns-in-Eor : goal.returns-in-Eor
unfolding with_read
returns-in-Eor c = rw (c.into_a-in-Eor.ensures, c.eor.ensures, c.in-Eor.is) refl

pub returns-in-Lda : goal.returns-in-Lda
unfolding with_read
returns-in-Lda c = rw (c.load_a.ensures, c.in-Lda.is) refl

pub returns-in-Ldx : goal.returns-in-Ldx
unfolding with_read
returns-in-Ldx c = rw (c.load_x.ensures, c.in-Ldx.is) refl

pub returns-in-Ldy : goal.returns-in-Ldy
unfolding with_read
returns-in-Ldy c = rw (c.load_y.ensures, c.in-Ldy.is) refl

pub returns-in-Ora : goal.returns-in-Ora
unfolding with_read
returns-in-Ora c = rw (c.into_a-in-Ora.ensures, c.ora.ensures, c.in-Ora.is) refl

pub returns-in-Sbc : goal.returns-in-Sbc
unfolding with_read
returns-in-Sbc c = rw (c.into_a-in-Sbc.ensures, c.sbc.ensures, c.in-Sbc.is) refl
