use mathlib.Core.Path.{refl}
use Rattle.cpu_kinds.specs.Kinds.{with_flag}
use Rattle.cpu_kinds.proofs.kinds.with_flag.Goals as goal

pub returns-in-Clc : goal.returns-in-Clc
unfolding with_flag
returns-in-Clc c = rw (c.with_c.ensures, c.in-Clc.is) refl

pub returns-in-Cld : goal.returns-in-Cld
unfolding with_flag
returns-in-Cld c = rw (c.with_d.ensures, c.in-Cld.is) refl

pub returns-in-Cli : goal.returns-in-Cli
unfolding with_flag
returns-in-Cli c = rw (c.with_i.ensures, c.in-Cli.is) refl

pub returns-in-Clv : goal.returns-in-Clv
unfolding with_flag
returns-in-Clv c = rw (c.with_v.ensures, c.in-Clv.is) refl

pub returns-in-Sec : goal.returns-in-Sec
unfolding with_flag
returns-in-Sec c = rw (c.with_c-in-Sec.ensures, c.in-Sec.is) refl

pub returns-in-Sed : goal.returns-in-Sed
unfolding with_flag
returns-in-Sed c = rw (c.with_d-in-Sed.ensures, c.in-Sed.is) refl

pub returns-in-Sei : goal.returns-in-Sei
unfolding with_flag
returns-in-Sei c = rw (c.with_i-in-Sei.ensures, c.in-Sei.is) refl
