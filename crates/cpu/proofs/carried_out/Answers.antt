use Rattle.cpu.specs.InstructionInCode.{carried_out}
use Rattle.cpu.proofs.carried_out.Goals as goal

pub returns : goal.returns
unfolding carried_out
returns c = rw (
  ← c.locate-place.ensures,
  ← c.requires.access_value,
  ← c.operand_byte-got.ensures,
  ← c.operand_of-operand.ensures,
  ← c.with_pc-moved.ensures,
  ← c.operate.ensures,
)
