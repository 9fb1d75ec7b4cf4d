-- The operand of an instruction, its byte read where the operation reads one; of a branch the address is the target.
use Rattle.std.specs.Prelude.{ℕ, Bool}
use Rattle.cpu_access.specs.declared.Bus.{Bus}
use Rattle.cpu_effects.specs.declared.operands.Operand.{Operand as InCode}

pub record Operand : Type 0 where
  pub address : ℕ
  pub value : ℕ
  pub crossed : Bool
  pub accumulator : Bool
  pub length : ℕ
  pub bus : Bus

-- that of the code, which is short
abbrev pub operand : InCode → Operand
operand o = record {
  address = o.address;
  value = o.value;
  crossed = o.crossed;
  accumulator = o.accumulator;
  length = o.length;
  bus = o.bus;
}
