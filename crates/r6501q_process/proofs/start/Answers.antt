use Rattle.r6501q_cpu.specs.Processor.{start_of}
use mathlib.Core.Path.{ap}
use Rattle.bits.proofs.Cond.{cond_yes, cond_no}
use Rattle.r6501q_cpu.proofs.Answered.{instruction_answered}
use Rattle.std.specs.Prelude.{Ok}
use borrow.Author.Rules.{rules}
use Rattle.r6501q_process.proofs.start.Goals as goal

pub returns-then-s : goal.returns-then-s
unfolding start_of
returns-then-s c = rw (cond_yes _ _ _ c.if-s.true) (ap Ok (search rules))

pub returns-then-s-2 : goal.returns-then-s-2
unfolding start_of
returns-then-s-2 c = rw (cond_no _ _ _ c.if-s.false, cond_yes _ _ _ c.if-s-2.true) (ap Ok (search rules))

pub returns-then-irq_due : goal.returns-then-irq_due
unfolding start_of
returns-then-irq_due c = rw (
  ← c.irq_due.ensures,
  ← c.start_irq.ensures,
  c.if-irq_due.true,
  c.if-s-2.false,
  c.if-s.false,
)

pub returns : goal.returns
unfolding start_of
returns c = rw (
  ← c.irq_due.ensures,
  instruction_answered,
  ← c.answered_instruction.ensures,
  c.if-irq_due.false,
  c.if-s-2.false,
  c.if-s.false,
)
