-- A read of a register in a span: its value stays, and the read leaves all as it was.
use mathlib.Core.Path.{◌≡◌, refl}
use mathlib.Core.Bool.{Bool, true, false}
use mathlib.Core.List.{List, []}
use Prim.Native.Nat.{ℕ}
use native.Mathlib.Omega.{arith}
use lib.Dec.{eqb}
use borrow.Author.Tests.{eqb-true}
use Rattle.bits.proofs.Cond.{and_left, and_right}
use Rattle.cpu_access.specs.declared.CpuRegisters.{CpuRegisters}
use Rattle.cpu_access.specs.declared.stack.Writes.{Writes}
use Rattle.cpu_effects.specs.declared.Worked.{Worked}
use Rattle.cpu.specs.declared.Ask.{Ask}
use Rattle.cpu.specs.declared.Outcome.{Outcome}
use Rattle.cpu.specs.declared.Outcome.TheVariants.{Undefined, Asked, Done}
use Rattle.cpu.specs.InstructionInCode.{instruction_of}
use Rattle.r6501q_state.specs.declared.state.Peripherals.{Peripherals}
use Rattle.r6501q_state.specs.declared.state.State.{State}
use Rattle.r6501q_registers.specs.Read.{register_value, after_read}
use Rattle.r6501q_cpu.specs.Asking.{put_register, registers_after, answer_of}
use Rattle.r6501q_unseen.specs.Unseen.{SameSeen}
use Rattle.r6501q_span_reads.specs.Steady.{steady_at, steady_ask, outcome_within}
use Rattle.r6501q_span_reads.proofs.SteadyAddresses.{not_at}

abbrev pub is_done : Outcome → Bool
is_done Undefined = false
is_done (Asked ask) = false
is_done (Done worked) = true

-- an instruction that asks for no register
pub within_done : (s : State) (r : CpuRegisters) (memory : List ℕ) (worked : Worked)
    → instruction_of r [] memory ≡ Done worked → outcome_within s r memory ≡ Done worked
unfolding outcome_within
within_done s r memory worked e = rw e refl

steady_read : (p : Peripherals) (a : ℕ) → steady_at a ≡ true → after_read p a ≡ p
unfolding after_read
steady_read p a e =
    rw (
      not_at a 0x1C e (omega arith) (omega arith),
      not_at a 0x18 e (omega arith) (omega arith),
      not_at a 0x17 e (omega arith) (omega arith),
    )

steady_value : (p q : Peripherals) → SameSeen p q → (levels : ℕ) (modify : Bool) (a : ℕ) → steady_at a ≡ true
    → register_value q levels modify a ≡ register_value p levels modify a
unfolding register_value
steady_value p q same levels modify a e =
    rw (
      not_at a 0x1E e (omega arith) (omega arith),
      not_at a 0x1D e (omega arith) (omega arith),
      not_at a 0x1C e (omega arith) (omega arith),
      not_at a 0x1A e (omega arith) (omega arith),
      not_at a 0x19 e (omega arith) (omega arith),
      not_at a 0x18 e (omega arith) (omega arith),
      same.serial,
      same.control,
      same.ports,
    )

no_writes : (p : Peripherals) (w : Writes) → eqb w.count 0 ≡ true → registers_after p w ≡ p
unfolding registers_after put_register
no_writes p w e = rw (eqb-true w.count 0 e)

-- the answer, and what is left, on any clock of the span
pub steady_answer_lem : (p q : Peripherals) → SameSeen p q → (levels : ℕ) (ask : Ask) → steady_ask ask ≡ true
    → answer_of q levels ask
    ≡ record { value = register_value p levels ask.modify ask.address; peripherals = q }
unfolding answer_of steady_ask
steady_answer_lem p q same levels ask e =
    let first = and_left (eqb ask.writes.count 0) (steady_at ask.address) e in
    let steady = and_right (eqb ask.writes.count 0) (steady_at ask.address) e in
    rw (
      no_writes q ask.writes first,
      steady_value p q same levels ask.modify ask.address steady,
      steady_read q ask.address steady,
    )
