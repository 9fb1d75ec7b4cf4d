-- How the code works an instruction: it asks for a register, is answered, and is worked again from its start with one
-- answer more. That this is the instruction of `Processor.antt` is `instruction_answered`.
use Rattle.std.specs.Prelude.{Ok, Err, Bool, ◌&&◌, cond, List, [], ◌∷◌, ◌++◌, ℕ, zero, suc, ◌-◌}
use Rattle.std.specs.declared.ops.ControlFlow.{ControlFlow}
use Rattle.std.specs.declared.ops.ControlFlow.TheVariants.{Continue, Break}
use Rattle.stops.specs.declared.Stop.TheVariants.{Undefined}
use Rattle.r6501q_state.specs.declared.state.Due.{Due}
use Rattle.r6501q_state.specs.declared.state.Peripherals.{Peripherals}
use Rattle.r6501q_state.specs.declared.state.State.{State}
use Rattle.r6501q_registers.specs.declared.read.Reading.{Reading}
use Rattle.r6501q_registers.specs.Read.{register_value, after_read}
use Rattle.r6501q_registers.specs.Write.{write_of}
use Rattle.cpu_access.specs.declared.stack.Write.{Write}
use Rattle.cpu_access.specs.declared.stack.Writes.{Writes}
use Rattle.memory.specs.Memory.{is_register}
use Rattle.cpu_access.specs.Stack.{each_write}
use Rattle.cpu_effects.specs.declared.Worked.{Worked}
use Rattle.cpu_effects.specs.Effects.{pushes_of, waiting_of}
use Rattle.cpu.specs.declared.Ask.{Ask}
use Rattle.cpu.specs.declared.Outcome.{Outcome}
use Rattle.cpu.specs.declared.Outcome.TheVariants as outcome
use Rattle.cpu.specs.InstructionInCode.{instruction_of}
use Rattle.r6501q_cpu.specs.declared.Next.{Next}
use Rattle.r6501q_cpu.specs.Processor.{Processed, registers_of, cpu_of}

-- a write at a register's address, where there is one
unfoldable pub put_register : Bool → Write → Peripherals → Peripherals
put_register there w p = cond (there && is_register w.address) (write_of p w.address w.value) p

-- the writes of an instruction that are register writes, in their order
unfoldable pub registers_after : Peripherals → Writes → Peripherals
registers_after p w = each_write put_register w p

-- An answer: the register's value as the writes so far leave it, and the effect of the read. The writes come again with
-- the end of the instruction, so that they are looked at here and not kept; reads' effects and writes commute
-- (`read_write_commute` of `r6501q_registers/proofs/Order.antt`).
unfoldable pub answer_of : Peripherals → ℕ → Ask → Reading
answer_of p levels ask = record {
  value = register_value (registers_after p ask.writes) levels ask.modify ask.address;
  peripherals = after_read p ask.address;
}

-- the state after the first clock of an entry or an instruction, and its pushes, which are done with its end
abbrev pub next_of : State → Due → Peripherals → Worked → Next
next_of s due p w = record {
  state = record {
    cpu = cpu_of w.registers (w.length - 1) (waiting_of w.writing);
    due = due;
    peripherals = registers_after p (pushes_of w.writing);
    external = s.external;
    last = s.last;
    clock = s.clock;
  };
  writes = pushes_of w.writing;
}

-- an instruction with the answers so far: it is over, or one more answer is given
abbrev pub Round : Type 0
Round = ControlFlow Processed Reading

-- what an instruction comes to with the answers so far: it is undefined, it is done, or it asks, and is answered
abbrev pub round_by : State → Peripherals → Outcome → Round
round_by s p outcome.Undefined = Break (Err Undefined)
round_by s p (outcome.Asked ask) = Continue (answer_of p s.last.ports ask)
round_by s p (outcome.Done w) = Break (Ok (next_of s s.due p w))

unfoldable pub round_of : State → Peripherals → List ℕ → List ℕ → Round
round_of s p answers memory = round_by s p (instruction_of (registers_of s.cpu) answers memory)

abbrev pub after_round : (Reading → Processed) → Round → Processed
after_round go_on (Break x) = x
after_round go_on (Continue r) = go_on r

-- Each question is answered in turn, and the instruction worked on with the answer. No instruction asks more than five
-- times (`asks_end` of `cpu/proofs/Laws.antt`): what stands for a sixth question, `spent`, is never met, and may be
-- anything (`bound_unmet` of `r6501q_cpu/proofs/Asks.antt`).
unfoldable pub instruction_from : Processed → ℕ → State → Peripherals → List ℕ → List ℕ → Processed
instruction_from spent zero s p answers memory = spent
instruction_from spent (suc n) s p answers memory =
    after_round (λ (r : Reading). instruction_from spent n s r.peripherals (answers ++ (r.value ∷ [])) memory)
    (round_of s p answers memory)

-- one whole instruction
unfoldable pub answered_instruction : State → List ℕ → Processed
answered_instruction s memory = instruction_from (Err Undefined) 6 s s.peripherals [] memory
