use mathlib.Core.Path.{◌≡◌, sym, ◌∙◌}
use mathlib.Core.Bool.{false}
use mathlib.Core.List.{List}
use Prim.Native.Nat.{ℕ}
use Rattle.std.specs.Prelude.{Option, Some, None}
use Rattle.cpu_opcodes.specs.Decode.{decode_of}
use Rattle.cpu_opcodes.specs.declared.Entry.{Entry}
use Rattle.cpu_opcodes.proofs.Laws.{length_fits_lem}
use Rattle.cpu_access.specs.declared.Fetched.{Fetched}
use Rattle.cpu_access.specs.declared.CpuRegisters.{CpuRegisters}
use Rattle.cpu_effects.specs.Effects.{with_pc}
use Rattle.cpu.specs.InstructionInCode.{opcode_fetched, decoded_to, instruction_of}
use Rattle.cpu.proofs.instruction.Goals as goal

-- an opcode that need not be asked for: what it decodes to decides
opcodeFetched-as : (answers memory : List ℕ) (r : CpuRegisters) (f : Fetched ℕ) (d : Option Entry) → f.bus.missing ≡ false
    → decode_of f.value ≡ d
    → decoded_to answers memory (with_pc f.pc r) f.bus d ≡ opcode_fetched answers memory r f
opcodeFetched-as answers memory r f d m e = rw (m, e)

pub returns-then-bus : goal.returns-then-bus
unfolding instruction_of
returns-then-bus c = rw (
  ← c.unasked.ensures,
  ← c.fetch-opcode.ensures,
  ← c.no_writes.ensures,
  ← c.ask_with.ensures,
  c.if-bus.true,
)

pub returns-in_default : goal.returns-in_default
unfolding instruction_of
returns-in_default c =
    let at = c.args in
    rw (
      ← c.unasked.ensures,
      ← c.fetch-opcode.ensures,
    )
    (opcodeFetched-as at.answers.now at.memory.now at.registers
    c.fetch-opcode.result None
    c.if-bus.false
    (sym c.decode.ensures ∙ c.in_default.is))

pub execute-requires : goal.execute-requires
execute-requires c = (length_fits_lem _ _
    (sym c.decode.ensures ∙ c.in-Some.is)).most

pub returns : goal.returns
unfolding instruction_of
returns c =
    let at = c.args in
    rw (
      c.execute.ensures,
      c.with_pc.ensures,
      ← c.unasked.ensures,
      ← c.fetch-opcode.ensures,
    )
    (opcodeFetched-as at.answers.now at.memory.now at.registers
    c.fetch-opcode.result _
    c.if-bus.false
    (sym c.decode.ensures
    ∙ c.in-Some.is))
