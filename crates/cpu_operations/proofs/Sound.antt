-- What an operation may leave, by kind: at most three writes, 2 to 7 clocks, and a bus after so many reads.
use mathlib.Core.Path.{◌≡◌}
use mathlib.Core.Bool.{Bool, true}
use mathlib.Core.List.{List}
use Prim.Native.Nat.{ℕ, suc, ◌+◌, ◌≤◌}
use native.Mathlib.Omega.{arith}
use lib.Dec.{lit≤}
use Rattle.bits.specs.Bits.{one_where}
use Rattle.bits.proofs.Cond.{cond_both, one_where_le}
use Rattle.cpu_opcodes.specs.declared.operation.Operation.{Operation}
use Rattle.cpu_opcodes.specs.declared.operation.Operation.TheVariants as operation
use Rattle.cpu_opcodes.specs.declared.operation.PullOperation.{PullOperation}
use Rattle.cpu_alu.specs.declared.Computed.{Computed}
use Rattle.cpu_access.specs.declared.Bus.{Bus}
use Rattle.cpu_access.specs.declared.CpuRegisters.{CpuRegisters}
use Rattle.cpu_modes.specs.declared.Place.{Place}
use Rattle.cpu_access.specs.Bus.{ask_of, fetch_of}
use Rattle.memory.specs.Memory.{is_register}
use Rattle.cpu_access.specs.Stack.{push_interrupt, pull_of}
use Rattle.cpu_modes.specs.Modes.{relative_to}
use Rattle.cpu_modes.proofs.Accesses.{fetch_keeps, pull_keeps, pull_address_keeps, relative_keeps}
use Rattle.cpu_effects.specs.Operand.{Operand}
use Rattle.cpu_effects.specs.declared.Executed.{Executed}
use Rattle.cpu_effects.specs.Effects.{with_pc, with_status, into_a, read_only, completed, stored, modified}
use Rattle.cpu_effects.specs.Effects.{branched}
use Rattle.cpu_effects.specs.Effects.{branch_operand, bit_branched, jumped, pushed_byte, pulled_byte, returned}
use Rattle.cpu_effects.specs.Effects.{returned_from_interrupt, interrupted, break_taken, pushes_of}
use Rattle.cpu_operations.specs.Operations.{operate_of}

-- the reads so far, with those of an operation, and the clocks that it may add to its entry's length
pub record Cost : Type 0 where
  pub reads : ℕ → ℕ
  pub extra : ℕ

abbrev pub plain : Cost
plain = record { reads = λ k. k; extra = 0 }

abbrev pub settling : Cost
settling = record { reads = λ k. k; extra = 1 }

abbrev pub branching : Cost
branching = record { reads = λ k. k; extra = 2 }

abbrev pub bit_branching : Cost
bit_branching = record { reads = λ k. suc k; extra = 2 }

abbrev pub pulling : Cost
pulling = record { reads = λ k. suc k; extra = 0 }

abbrev pub returning : Cost
returning = record { reads = λ k. suc (suc k); extra = 0 }

abbrev pub resuming : Cost
resuming = record { reads = λ k. suc (suc (suc k)); extra = 0 }

abbrev pub cost_of : Operation → Cost
cost_of (operation.Read p) = settling
cost_of (operation.Modify p) = plain
cost_of (operation.Store p) = plain
cost_of (operation.Branch p) = branching
cost_of (operation.BitBranch p) = bit_branching
cost_of (operation.Push p) = plain
cost_of (operation.Pull p) = pulling
cost_of (operation.Register p) = settling
cost_of (operation.Flag p) = settling
cost_of operation.Brk = plain
cost_of operation.Jmp = plain
cost_of operation.Jsr = settling
cost_of operation.Nop = settling
cost_of operation.Rti = resuming
cost_of operation.Rts = returning

-- n: the length of the opcode's entry
pub record Sound (P : ℕ → Bus → Type 0) (k n : ℕ) (c : Cost) (e : Executed) : Type 0 where
  pub bus : P (c.reads k) e.bus
  pub writes : (pushes_of e.worked.writing).count ≤ 3
  pub least : 2 ≤ n → 2 ≤ e.worked.length
  pub most : n + c.extra ≤ 7 → e.worked.length ≤ 7

module _ (P : ℕ → Bus → Type 0) (answers memory : List ℕ)
    (more : (k : ℕ) (b : Bus) → P k b → P (suc k) b)
    (asks : (k a : ℕ) (modify : Bool) (b : Bus) → is_register a ≡ true → P k b
    → P (suc k) (ask_of answers a modify b).bus) where
  completed_sound : (k : ℕ) (o : Operand) (r : CpuRegisters) → P k o.bus
      → Sound P k o.length settling (completed o r)
  unfolding completed pushes_of
  completed_sound k o r h =
      let d = one_where_le o.crossed in
      record { bus = h; writes = lit≤ tt; least = λ l. omega arith; most = λ l. omega arith }

  stored_sound : (k : ℕ) (o : Operand) (r : CpuRegisters) (v : ℕ) → P k o.bus
      → Sound P k o.length plain (stored o r v)
  unfolding stored pushes_of
  stored_sound k o r v h = record { bus = h; writes = lit≤ tt; least = λ l. l; most = λ l. omega arith }

  read_only_sound : (k n : ℕ) (r : CpuRegisters) (b : Bus) → P k b → Sound P k n plain (read_only r n b)
  unfolding pushes_of
  read_only_sound k n r b h = record { bus = h; writes = lit≤ tt; least = λ l. l; most = λ l. omega arith }

  modified_sound : (k : ℕ) (o : Operand) (r : CpuRegisters) (v : Computed) → P k o.bus
      → Sound P k o.length plain (modified o r v)
  unfolding modified
  modified_sound k o r v h =
      cond_both (Sound P k o.length plain) o.accumulator (read_only (into_a v r) o.length o.bus)
      (stored o (with_status v.status r) v.value)
      (λ t. read_only_sound k o.length (into_a v r) o.bus h)
      (λ t. stored_sound k o (with_status v.status r) v.value h)

  branched_sound : (k : ℕ) (o : Operand) (r : CpuRegisters) (taken : Bool) → P k o.bus
      → Sound P k o.length branching (branched o r taken)
  unfolding branched pushes_of
  branched_sound k o r taken h =
      let d = one_where_le o.crossed in
      cond_both (Sound P k o.length branching) taken
      (read_only (with_pc o.address r) (o.length + 1 + one_where o.crossed) o.bus)
      (read_only r o.length o.bus)
      (λ t. record { bus = h; writes = lit≤ tt; least = λ l. omega arith; most = λ l. omega arith })
      (λ t. record { bus = h; writes = lit≤ tt; least = λ l. l; most = λ l. omega arith })

  bit_branched_sound : (k : ℕ) (o : Operand) (r : CpuRegisters) (taken : Bool) → P k o.bus
      → Sound P k o.length bit_branching (bit_branched answers memory o r taken)
  unfolding bit_branched
  bit_branched_sound k o r taken h =
      let f = fetch_of answers memory r.pc o.bus in
      let p : Place = relative_to f in
      let q = relative_keeps P answers memory more asks (suc k) f
      (fetch_keeps P answers memory more asks k r.pc o.bus h) in
      let s = branched_sound (suc k) (branch_operand o p) (with_pc p.pc r) taken q in
      record { bus = s.bus; writes = s.writes; least = s.least; most = s.most }

  jumped_sound : (k : ℕ) (o : Operand) (r : CpuRegisters) → P k o.bus → Sound P k o.length plain (jumped o r)
  unfolding jumped
  jumped_sound k o r h = read_only_sound k o.length (with_pc o.address r) o.bus h

  pushed_sound : (k : ℕ) (o : Operand) (r : CpuRegisters) (v : ℕ) → P k o.bus
      → Sound P k o.length plain (pushed_byte o r v)
  unfolding pushed_byte pushes_of
  pushed_sound k o r v h = record { bus = h; writes = lit≤ tt; least = λ l. l; most = λ l. omega arith }

  pulled_sound : (k : ℕ) (p : PullOperation) (o : Operand) (r : CpuRegisters) → P k o.bus
      → Sound P k o.length pulling (pulled_byte answers memory p o r)
  unfolding pulled_byte pushes_of
  pulled_sound k p o r h =
      record {
        bus = pull_keeps P answers memory more asks k r.sp o.bus h;
        writes = lit≤ tt;
        least = λ l. l;
        most = λ l. omega arith;
      }

  returned_sound : (k : ℕ) (o : Operand) (r : CpuRegisters) → P k o.bus
      → Sound P k o.length returning (returned answers memory o r)
  unfolding returned pushes_of
  returned_sound k o r h =
      record {
        bus = pull_address_keeps P answers memory more asks k r.sp o.bus h;
        writes = lit≤ tt;
        least = λ l. l;
        most = λ l. omega arith;
      }

  returned_from_interrupt_sound : (k : ℕ) (o : Operand) (r : CpuRegisters) → P k o.bus
      → Sound P k o.length resuming (returned_from_interrupt answers memory o r)
  unfolding returned_from_interrupt pushes_of
  returned_from_interrupt_sound k o r h =
      let p = pull_of answers memory r.sp o.bus in
      record {
        bus =
            pull_address_keeps P answers memory more asks (suc k) p.sp p.bus
            (pull_keeps P answers memory more asks k r.sp o.bus h);
        writes = lit≤ tt;
        least = λ l. l;
        most = λ l. omega arith;
      }

  break_taken_sound : (k : ℕ) (o : Operand) (r : CpuRegisters) → P k o.bus
      → Sound P k o.length plain (break_taken memory o r)
  unfolding break_taken interrupted push_interrupt pushes_of
  break_taken_sound k o r h = record { bus = h; writes = lit≤ tt; least = λ l. lit≤ tt; most = λ l. lit≤ tt }

  pub operate_sound : (op : Operation) (k : ℕ) (r : CpuRegisters) (o : Operand) → P k o.bus
      → Sound P k o.length (cost_of op) (operate_of answers memory op r o)
  unfolding operate_of
  operate_sound (operation.Read p) k r o h = completed_sound k o _ h
  operate_sound (operation.Modify p) k r o h = modified_sound k o r _ h
  operate_sound (operation.Store p) k r o h = stored_sound k o r _ h
  operate_sound (operation.Branch p) k r o h = branched_sound k o r _ h
  operate_sound (operation.BitBranch p) k r o h = bit_branched_sound k o r _ h
  operate_sound (operation.Push p) k r o h = pushed_sound k o r _ h
  operate_sound (operation.Pull p) k r o h = pulled_sound k p o r h
  operate_sound (operation.Register p) k r o h = completed_sound k o _ h
  operate_sound (operation.Flag p) k r o h = completed_sound k o _ h
  operate_sound operation.Brk k r o h = break_taken_sound k o r h
  operate_sound operation.Jmp k r o h = jumped_sound k o r h
  operate_sound operation.Jsr k r o h = completed_sound k o _ h
  operate_sound operation.Nop k r o h = completed_sound k o _ h
  operate_sound operation.Rti k r o h = returned_from_interrupt_sound k o r h
  operate_sound operation.Rts k r o h = returned_sound k o r h
