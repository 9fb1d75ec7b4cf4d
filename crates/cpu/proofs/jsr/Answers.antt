use mathlib.Core.Path.{◌≡◌, refl}
use mathlib.Core.List.{List}
use Prim.Native.Nat.{ℕ}
use Rattle.cpu_access.specs.declared.Bus.{Bus}
use Rattle.cpu_access.specs.declared.CpuRegisters.{CpuRegisters}
use Rattle.cpu_access.specs.declared.Fetched.{Fetched}
use Rattle.cpu_access.specs.declared.Got.{Got}
use Rattle.cpu_access.specs.declared.stack.Writes.{Writes}
use Rattle.cpu_access.specs.Bus.{fetch_of}
use Rattle.cpu_access.specs.Stack.{push_address, read_after}
use Rattle.cpu.specs.InstructionInCode.{outcome_of, writes_asked, jsr_to, jsr_outcome}
use Rattle.cpu.proofs.jsr.Goals as goal

-- the low byte l, the pushes w and the high byte h, each as it should be
jsr-as : (answers memory : List ℕ) (r : CpuRegisters) (n : ℕ) (b : Bus) (l : Fetched ℕ) (w : Writes) (h : Got ℕ)
    → l ≡ fetch_of answers memory r.pc b → w ≡ push_address r.sp l.pc
    → h ≡ read_after answers memory w l.pc l.bus
    → outcome_of (writes_asked l.bus w) (jsr_to r n l w h) ≡ jsr_outcome answers memory r n b
unfolding jsr_outcome
jsr-as answers memory r n b l w h e p q = rw (q, p, e) refl

pub returns : goal.returns
returns c =
    let at = c.args in
    rw (
      c.outcome_of.ensures,
      c.writes_asked.ensures,
      c.executed_with-executed.ensures,
      c.with_pc-called.ensures,
      c.with_sp.ensures,
      c.down-2.ensures,
      c.down.ensures,
      c.word16-target.ensures,
    )
    (jsr-as at.answers.now at.memory.now at.registers at.length at.bus
    c.fetch-lower.result
    c.push_address-writes.result
    c.read_after-upper.result
    c.fetch-lower.ensures
    c.push_address-writes.ensures
    c.read_after-upper.ensures)
