use mathlib.Core.Path.{refl}
use Rattle.cpu_kinds.specs.Kinds.{changed_by}
use Rattle.cpu_kinds.proofs.kinds.changed.Goals as goal

pub returns-in-Asl : goal.returns-in-Asl
unfolding changed_by
returns-in-Asl c = rw (c.asl.ensures, c.in-Asl.is) refl

pub returns-in-Dec : goal.returns-in-Dec
unfolding changed_by
returns-in-Dec c = rw (c.decrement.ensures, c.in-Dec.is) refl

pub returns-in-Inc : goal.returns-in-Inc
unfolding changed_by
returns-in-Inc c = rw (c.increment.ensures, c.in-Inc.is) refl

pub returns-in-Lsr : goal.returns-in-Lsr
unfolding changed_by
returns-in-Lsr c = rw (c.lsr.ensures, c.in-Lsr.is) refl

pub returns-in-Rol : goal.returns-in-Rol
unfolding changed_by
returns-in-Rol c = rw (c.rol.ensures, c.in-Rol.is) refl

pub returns-in-Ror : goal.returns-in-Ror
unfolding changed_by
returns-in-Ror c = rw (c.ror.ensures, c.in-Ror.is) refl

pub returns-in-Rmb : goal.returns-in-Rmb
unfolding changed_by
returns-in-Rmb c = rw (c.flags_kept.ensures, c.reset_bit.ensures, c.in-Rmb.is)
    refl

pub returns-in-Smb : goal.returns-in-Smb
unfolding changed_by
returns-in-Smb c = rw (c.flags_kept-in-Smb.ensures, c.set_bit.ensures, c.in-Smb.is)
    refl
