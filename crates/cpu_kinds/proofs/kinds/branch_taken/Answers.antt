use mathlib.Core.Path.{refl}
use Rattle.cpu_kinds.specs.Kinds.{branch_taken}
use Rattle.cpu_kinds.proofs.kinds.branch_taken.Goals as goal

pub returns-in-Bcc : goal.returns-in-Bcc
unfolding branch_taken
returns-in-Bcc c = rw c.in-Bcc.is refl

pub returns-in-Bcs : goal.returns-in-Bcs
unfolding branch_taken
returns-in-Bcs c = rw c.in-Bcs.is refl

pub returns-in-Beq : goal.returns-in-Beq
unfolding branch_taken
returns-in-Beq c = rw c.in-Beq.is refl

pub returns-in-Bmi : goal.returns-in-Bmi
unfolding branch_taken
returns-in-Bmi c = rw c.in-Bmi.is refl

pub returns-in-Bne : goal.returns-in-Bne
unfolding branch_taken
returns-in-Bne c = rw c.in-Bne.is refl

pub returns-in-Bpl : goal.returns-in-Bpl
unfolding branch_taken
returns-in-Bpl c = rw c.in-Bpl.is refl

pub returns-in-Bvc : goal.returns-in-Bvc
unfolding branch_taken
returns-in-Bvc c = rw c.in-Bvc.is refl

pub returns-in-Bvs : goal.returns-in-Bvs
unfolding branch_taken
returns-in-Bvs c = rw c.in-Bvs.is refl
