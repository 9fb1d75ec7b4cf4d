-- An instruction worked with the answers so far is its accesses, asked: one lemma for each part of it, by the bus and
-- by its accesses.
use Rattle.std.specs.Prelude.{None, Option, Some}
use mathlib.Core.Path.{◌≡◌, refl, sym, ap, ◌∙◌}
use mathlib.Core.Bool.{Bool, true, false, cond}
use mathlib.Core.List.{List, [], ◌∷◌}
use Prim.Native.Nat.{ℕ, ◌<◌, ◌≤◌}
use native.Mathlib.Omega.{arith}
use lib.Dec.{ltb, eqb}
use lib.ListN.{length, drop}
use borrow.Author.Tests.{ne_eqb}
use Rattle.std.specs.Prelude.{Option, Some, None}
use Rattle.bits.specs.Bits.{low_byte, high_byte, word16}
use Rattle.bits.proofs.Cond.{cond_map, cond_along}
use Rattle.memory.specs.Memory.{is_register}
use Rattle.cpu_opcodes.specs.Decode.{decode_of}
use Rattle.cpu_opcodes.specs.declared.Entry.{Entry}
use Rattle.cpu_opcodes.specs.declared.Mode.{Mode}
use Rattle.cpu_opcodes.specs.declared.operation.Operation.{Operation}
use Rattle.cpu_opcodes.specs.declared.operation.Operation.TheVariants as operation
use Rattle.cpu_opcodes.specs.declared.operation.ModifyOperation.{ModifyOperation}
use Rattle.cpu_opcodes.specs.declared.operation.PullOperation.{PullOperation}
use Rattle.cpu_alu.specs.Status.{pushed, unpacked}
use Rattle.cpu_access.specs.declared.Bus.{Bus}
use Rattle.cpu_access.specs.declared.Got.{Got}
use Rattle.cpu_access.specs.declared.CpuRegisters.{CpuRegisters}
use Rattle.cpu_modes.specs.declared.Place.{Place}
use Rattle.cpu_access.specs.declared.stack.Write.{Write}
use Rattle.cpu_access.specs.declared.stack.Writes.{Writes}
use Rattle.cpu_access.specs.Bus.{memory_byte, next_address, vector_of, unasked, got, answered, asking, ask_of}
use Rattle.cpu_access.specs.Bus.{read_of, fetch_of}
use Rattle.cpu_access.specs.Stack.{no_writes, stack_address, down, up, push_high, push_low, push_at, push_address}
use Rattle.cpu_access.specs.Stack.{push_interrupt, pull_of, pull_address, written_over, read_after}
use Rattle.cpu_modes.specs.Modes.{relative_to, locate_of}
use Rattle.cpu_access.specs.Accesses.{Accesses, ends, reads, writes, ◌>>=◌, byte_after, in_order}
use Rattle.cpu_modes.specs.ModeAccesses.{Located, located}
use Rattle.cpu_access.proofs.Asked.{Reply, asks, over, asked, onwards, onwards_unasked}
use Rattle.cpu_modes.proofs.Follows.{then_then, located_at, read_on, read_after_on, fetch_on, pull_on, pull_address_on}
use Rattle.cpu_modes.proofs.Follows.{locate_on}
use Rattle.cpu_effects.specs.declared.Worked.{Worked}
use Rattle.cpu_effects.specs.Operand.{Operand}
use Rattle.cpu_effects.specs.declared.Writing.{Writing}
use Rattle.cpu_effects.specs.declared.Writing.TheVariants as writing
use Rattle.cpu_kinds.specs.Updates.{with_sp, with_pc, with_status, into_a}
use Rattle.cpu_kinds.specs.Kinds.{changed_by}
use Rattle.cpu_effects.specs.Effects.{pushes_of, waiting_of, executed, read_only, completed, stored, modified, branched}
use Rattle.cpu_effects.specs.Effects.{branch_operand, bit_branched, jumped, pushed_byte, pulled_byte, returned}
use Rattle.cpu_effects.specs.Effects.{returned_from_interrupt, interrupted, break_taken}
use Rattle.cpu_operations.specs.Operations.{operate_of}
use Rattle.cpu.specs.declared.Outcome.{Outcome}
use Rattle.cpu.specs.declared.Outcome.TheVariants.{Undefined, Asked, Done}
use Rattle.cpu.specs.InstructionInCode.{ask_with, outcome_of, operand_byte, operand_of, carried_out, writes_asked}
use Rattle.cpu.specs.InstructionInCode.{jsr_outcome, execute_of, decoded_to, instruction_of}
use Rattle.cpu.specs.InstructionAccesses.{Conclusion, Ending, undefined, leaves, conclusion}
use Rattle.cpu.specs.InstructionAccesses.{completion}
use Rattle.cpu.specs.InstructionAccesses.{store_at, store_back, modify_accesses, branch_on, bit_branch_accesses, jump_to}
use Rattle.cpu.specs.InstructionAccesses.{push_accesses, pull_accesses, return_accesses, interrupt_return_accesses}
use Rattle.cpu.specs.InstructionAccesses.{entry_accesses}
use Rattle.cpu.specs.InstructionAccesses.{break_accesses, jsr_accesses, operation_accesses}
use Rattle.cpu.specs.InstructionAccesses.{opcode_accesses}
use Rattle.cpu.specs.InstructionAccesses.{instruction_accesses}

-- What was asked, or how it ended, as the code has it. Of an instruction that pushes and stores the code has no words,
-- and there is none: four pushes stand for it, and no instruction has so many (`done_fits`).
abbrev pub writing_as : Option Write → List Write → Writing
writing_as None [] = writing.Nothing
writing_as None (w ∷ ws) = writing.Pushed (in_order (w ∷ ws))
writing_as (Some x) [] = writing.Stored x
writing_as (Some x) (w ∷ ws) = writing.Pushed (in_order (w ∷ w ∷ w ∷ w ∷ ws))

pub pushes_as : (store : Option Write) (pushes : List Write) → (pushes_of (writing_as store pushes)).count ≤ 3
    → pushes_of (writing_as store pushes) ≡ in_order pushes
unfolding pushes_of in_order
pushes_as None [] h = refl
pushes_as None (w ∷ ws) h = refl
pushes_as (Some x) [] h = refl
pushes_as (Some x) (w ∷ ws) h = absurd (omega (arith, h))

pub waiting_as : (store : Option Write) (pushes : List Write) → (pushes_of (writing_as store pushes)).count ≤ 3
    → waiting_of (writing_as store pushes) ≡ store
unfolding pushes_of waiting_of in_order
waiting_as None [] h = refl
waiting_as None (w ∷ ws) h = refl
waiting_as (Some x) [] h = refl
waiting_as (Some x) (w ∷ ws) h = absurd (omega (arith, h))

abbrev pub worked_of : Conclusion → List Write → Worked
worked_of l pushes = record { registers = l.registers; writing = writing_as l.waiting pushes; length = l.clocks }

abbrev pub outcome_from : Reply Ending → Outcome
outcome_from (asks modify a ws) = Asked (record { address = a; modify = modify; writes = in_order ws })
outcome_from (over undefined ws) = Undefined
outcome_from (over (leaves l) ws) = Done (worked_of l ws)

abbrev left : Accesses Conclusion → Accesses Ending
left t = t >>= (λ l. ends (leaves l))

-- an operand as its accesses have it; pc is not looked at
abbrev place_of : Operand → ℕ → Located
place_of o pc = record { address = o.address; crossed = o.crossed; accumulator = o.accumulator; pc = pc }

-- ---- vectors lie above the stack

above_stack : (sp a : ℕ) → 255 < a → eqb (stack_address sp) a ≡ false
above_stack sp a h = ne_eqb (stack_address sp) a (λ e. omega (arith, e, h))

-- the pushes of an entry
abbrev pub entry_pushes : ℕ → CpuRegisters → List Write
entry_pushes p r = push_high r.sp r.pc ∷ push_low r.sp r.pc ∷ push_at (down (down r.sp)) p ∷ []

pub unpushed : (p : ℕ) (r : CpuRegisters) (a v : ℕ) → 255 < a → byte_after (entry_pushes p r) a v ≡ v
unfolding byte_after
unpushed p r a v h = rw (above_stack r.sp a h, above_stack (down r.sp) a h, above_stack (down (down r.sp)) a h)

module _ (answers memory : List ℕ) where
  abbrev Same : Bus → Accesses Ending → Outcome → Type 0
  Same b t o = outcome_from (onwards answers memory [] b t) ≡ o

  -- no register is read
  done_on : (b : Bus) (t : Accesses Ending) (w : Worked)
      → ((rest : List ℕ) → outcome_from (asked memory rest [] t) ≡ Done w)
      → Same b t (outcome_of no_writes (record { worked = w; bus = b }))
  unfolding onwards outcome_of in_order
  done_on b t w h =
      cond_along outcome_from b.missing (asks b.modify b.address []) _ refl (h (drop b.used answers))

  ends_after : (before : List Write) (b : Bus) (l : Conclusion)
      → outcome_from (onwards answers memory before b (ends (leaves l)))
      ≡ outcome_of (in_order before) (record { worked = worked_of l before; bus = b })
  unfolding onwards asked outcome_of
  ends_after before b l =
      cond_map outcome_from b.missing (asks b.modify b.address before) (over (leaves l) before)

  ends_on : (b : Bus) (l : Conclusion)
      → Same b (ends (leaves l)) (outcome_of no_writes (record { worked = worked_of l []; bus = b }))
  unfolding in_order
  ends_on b l = ends_after [] b l

  -- ---- the operations, by kind

  completed_on : (o : Operand) (r : CpuRegisters) (pc : ℕ)
      → Same o.bus (left (completion o.length (place_of o pc) r)) (outcome_of no_writes (completed o r))
  unfolding completion completed in_order
  completed_on o r pc = ends_on o.bus _

  stored_on : (o : Operand) (r : CpuRegisters) (v pc : ℕ)
      → Same o.bus (left (store_at o.length (place_of o pc) r v)) (outcome_of no_writes (stored o r v))
  unfolding store_at stored in_order
  stored_on o r v pc = ends_on o.bus _

  branched_on : (o : Operand) (r : CpuRegisters) (taken : Bool) (pc : ℕ)
      → Same o.bus (left (branch_on o.length (place_of o pc) r taken)) (outcome_of no_writes (branched o r taken))
  unfolding branch_on branched in_order
  branched_on o r true pc = ends_on o.bus _
  branched_on o r false pc = ends_on o.bus _

  bit_branched_on : (o : Operand) (r : CpuRegisters) (taken : Bool)
      → Same o.bus (left (bit_branch_accesses o.length r taken))
      (outcome_of no_writes (bit_branched answers memory o r taken))
  unfolding bit_branch_accesses bit_branched relative_to fetch_of
  bit_branched_on o r taken =
      let f = fetch_of answers memory r.pc o.bus in
      ap outcome_from (fetch_on answers memory r.pc o.bus _)
      ∙ branched_on (branch_operand o (relative_to f)) (with_pc f.pc r) taken f.pc

  jumped_on : (o : Operand) (r : CpuRegisters) (pc : ℕ)
      → Same o.bus (left (jump_to o.length (place_of o pc) r)) (outcome_of no_writes (jumped o r))
  unfolding jump_to jumped in_order
  jumped_on o r pc = ends_on o.bus _

  pushed_on : (o : Operand) (r : CpuRegisters) (v : ℕ)
      → Same o.bus (left (push_accesses o.length r v)) (outcome_of no_writes (pushed_byte o r v))
  unfolding push_accesses pushed_byte asked in_order
  pushed_on o r v = done_on o.bus _ _ (λ rest. refl)

  pulled_on : (operation : PullOperation) (o : Operand) (r : CpuRegisters)
      → Same o.bus (left (pull_accesses operation o.length r))
      (outcome_of no_writes (pulled_byte answers memory operation o r))
  unfolding pull_accesses pulled_byte pull_of
  pulled_on operation o r = ap outcome_from (pull_on answers memory r.sp o.bus _) ∙ ends_on _ _

  returned_on : (o : Operand) (r : CpuRegisters)
      → Same o.bus (left (return_accesses o.length r)) (outcome_of no_writes (returned answers memory o r))
  unfolding return_accesses returned pull_address pull_of in_order
  returned_on o r =
      ap outcome_from (pull_address_on answers memory r.sp o.bus
      (λ pc. ends (leaves (conclusion (with_pc (next_address pc) (with_sp (up (up r.sp)) r)) o.length))))
      ∙ ends_on _ _

  resumed_on : (o : Operand) (r : CpuRegisters)
      → Same o.bus (left (interrupt_return_accesses o.length r))
      (outcome_of no_writes (returned_from_interrupt answers memory o r))
  unfolding interrupt_return_accesses returned_from_interrupt pull_address pull_of in_order
  resumed_on o r =
      let p = pull_of answers memory r.sp o.bus in
      ap outcome_from (pull_on answers memory r.sp o.bus _
      ∙ pull_address_on answers memory p.sp p.bus
      (λ pc. ends (leaves (conclusion
      (with_pc pc (with_status (unpacked p.value) (with_sp (up (up (up r.sp))) r))) o.length))))
      ∙ ends_on _ _

  -- BRK reads its vector after the pushes, which do not reach it
  break_on : (o : Operand) (r : CpuRegisters)
      → Same o.bus (left (break_accesses r)) (outcome_of no_writes (break_taken memory o r))
  unfolding break_accesses break_taken entry_accesses interrupted push_interrupt vector_of asked in_order
  break_on o r =
      let next = with_pc (next_address r.pc) r in
      done_on o.bus _ _ (λ rest. rw (
        unpushed (pushed r.status true) next 0xFFFE _ (omega arith),
        unpushed (pushed r.status true) next 0xFFFF _ (omega arith),
      ))

  -- ---- the operand and the operation

  -- the accumulator, or a byte in memory
  modified_on : (operation : ModifyOperation) (n : ℕ) (r : CpuRegisters) (p : Place)
      → (let g : Got ℕ = cond p.accumulator (got r.a p.bus) (read_of answers memory p.address true p.bus) in
      Same p.bus (left (modify_accesses operation n (located_at p) r))
      (outcome_of no_writes (modified (operand_of n p g) r (changed_by operation g.value r.status))))
  unfolding modify_accesses modified
  modified_on operation n r p = by_test p.accumulator
    where
      by_test : (t : Bool)
          → (let g : Got ℕ = cond t (got r.a p.bus) (read_of answers memory p.address true p.bus) in
          Same p.bus
          (left (cond t (ends (conclusion (into_a (changed_by operation r.a r.status) r) n))
          (reads true p.address (λ v. store_back n (located_at p) r (changed_by operation v r.status)))))
          (outcome_of no_writes (cond t
          (read_only (into_a (changed_by operation g.value r.status) r) n g.bus)
          (stored (operand_of n p g) (with_status (changed_by operation g.value r.status).status r)
          (changed_by operation g.value r.status).value))))
      by_test true = ends_on p.bus _
      by_test false =
          let g = read_of answers memory p.address true p.bus in
          let k = changed_by operation g.value r.status in
          ap outcome_from (read_on answers memory p.address true p.bus _)
          ∙ stored_on (operand_of n p g) (with_status k.status r) k.value p.pc

  -- the operand's place comes first
  located_first : (mode : Mode) (r : CpuRegisters) (b : Bus) (next : Located → Accesses Conclusion) (o : Outcome)
      → (let p : Place = locate_of answers memory mode r b in Same p.bus (left (next (located_at p))) o)
      → Same b (left (located mode r >>= next)) o
  located_first mode r b next o same =
      ap (λ t. outcome_from (onwards answers memory [] b t)) (then_then (located mode r) next _)
      ∙ ap outcome_from (locate_on answers memory mode r b (λ p. left (next p))) ∙ same

  -- ---- JSR

  -- a bus that misses an answer goes on missing it
  missed : (x w : Writes) (worked : Worked) (a : ℕ) (b : Bus) → b.missing ≡ true
      → Asked (ask_with x b) ≡ outcome_of x (record { worked = worked; bus = (read_after answers memory w a b).bus })
  unfolding outcome_of read_after ask_of
  missed x w worked a b m = by_tests (is_register a) (ltb b.used (length answers))
    where
      by_tests : (t u : Bool) → Asked (ask_with x b)
          ≡ (let c : Bus = (cond t (cond u (answered answers b) (got 0 (asking a false b)))
          (got (written_over w a (memory_byte memory a)) b)).bus in
          cond c.missing (Asked (ask_with x c)) (Done worked))
      by_tests true true = rw m
      by_tests true false = rw m
      by_tests false u = rw m

  none_missing : (before : List Write) (b : Bus) (t : Accesses Ending) → b.missing ≡ false
      → onwards answers memory before b t ≡ asked memory (drop b.used answers) before t
  unfolding onwards
  none_missing before b t m = rw m

  -- the pushes, and the high byte after them
  pushed_jsr : (r : CpuRegisters) (n l next : ℕ) (b : Bus)
      → (let w : Writes = push_address r.sp next in let h : Got ℕ = read_after answers memory w next b in
      Same b
      (writes (stack_address r.sp) (high_byte next) (writes (stack_address (down r.sp)) (low_byte next)
      (reads false next (λ v. ends (leaves (conclusion (with_pc (word16 v l) (with_sp (down (down r.sp)) r)) n))))))
      (outcome_of (writes_asked b w)
      (executed (with_pc (word16 h.value l) (with_sp (down (down r.sp)) r)) (writing.Pushed w) n h.bus)))
  unfolding onwards asked writes_asked in_order byte_after written_over push_address
  pushed_jsr r n l next b = by_answer b.missing refl
    where
      by_answer : (t : Bool) → b.missing ≡ t
          → (let w : Writes = push_address r.sp next in let h : Got ℕ = read_after answers memory w next b in
          outcome_from (cond t (asks b.modify b.address [])
          (asked memory (drop b.used answers) (push_high r.sp next ∷ push_low r.sp next ∷ [])
          (reads false next
          (λ v. ends (leaves (conclusion (with_pc (word16 v l) (with_sp (down (down r.sp)) r)) n))))))
          ≡ outcome_of (cond t no_writes w)
          (executed (with_pc (word16 h.value l) (with_sp (down (down r.sp)) r)) (writing.Pushed w) n h.bus))
      by_answer true m = missed no_writes (push_address r.sp next) _ next b m
      by_answer false m =
          let w = push_address r.sp next in
          let h = read_after answers memory w next b in
          let pushes : List Write = push_high r.sp next ∷ push_low r.sp next ∷ [] in
          let go : ℕ → Accesses Ending =
          λ v. ends (leaves (conclusion (with_pc (word16 v l) (with_sp (down (down r.sp)) r)) n)) in
          ap outcome_from
          (sym (none_missing pushes b (reads false next go) m) ∙ read_after_on answers memory pushes w next b go refl)
          ∙ ends_after pushes h.bus (conclusion (with_pc (word16 h.value l) (with_sp (down (down r.sp)) r)) n)

  jsr_on : (r : CpuRegisters) (n : ℕ) (b : Bus)
      → Same b (left (jsr_accesses n r)) (jsr_outcome answers memory r n b)
  unfolding jsr_accesses jsr_outcome fetch_of
  jsr_on r n b =
      let l = fetch_of answers memory r.pc b in
      ap outcome_from (fetch_on answers memory r.pc b _) ∙ pushed_jsr r n l.value l.pc l.bus

  -- an operand whose byte is not read
  abbrev unread : ℕ → Place → Operand
  unread n p = operand_of n p (got 0 p.bus)

  execute_on : (operation : Operation) (mode : Mode) (n : ℕ) (r : CpuRegisters) (b : Bus)
      → (let e : Entry = record { operation = operation; mode = mode; length = n } in
      Same b (left (operation_accesses operation mode n r)) (execute_of answers memory e r b))
  unfolding operation_accesses execute_of carried_out operand_byte operate_of
  execute_on (operation.Read o) mode n r b =
      let p = locate_of answers memory mode r b in
      let g = read_of answers memory p.address false p.bus in
      located_first mode r b _ _
      (ap outcome_from (read_on answers memory p.address false p.bus _) ∙ completed_on (operand_of n p g) _ p.pc)
  execute_on (operation.Modify o) mode n r b =
      let p = locate_of answers memory mode r b in
      located_first mode r b _ _ (modified_on o n (with_pc p.pc r) p)
  execute_on (operation.Store o) mode n r b =
      let p = locate_of answers memory mode r b in located_first mode r b _ _ (stored_on (unread n p) _ _ p.pc)
  execute_on (operation.Branch o) mode n r b =
      let p = locate_of answers memory mode r b in located_first mode r b _ _ (branched_on (unread n p) _ _ p.pc)
  execute_on (operation.BitBranch o) mode n r b =
      let p = locate_of answers memory mode r b in
      let g = read_of answers memory p.address false p.bus in
      located_first mode r b _ _
      (ap outcome_from (read_on answers memory p.address false p.bus _) ∙ bit_branched_on (operand_of n p g) _ _)
  execute_on (operation.Push o) mode n r b =
      let p = locate_of answers memory mode r b in located_first mode r b _ _ (pushed_on (unread n p) _ _)
  execute_on (operation.Pull o) mode n r b =
      let p = locate_of answers memory mode r b in located_first mode r b _ _ (pulled_on o (unread n p) _)
  execute_on (operation.Register o) mode n r b =
      let p = locate_of answers memory mode r b in located_first mode r b _ _ (completed_on (unread n p) _ p.pc)
  execute_on (operation.Flag o) mode n r b =
      let p = locate_of answers memory mode r b in located_first mode r b _ _ (completed_on (unread n p) _ p.pc)
  execute_on operation.Brk mode n r b =
      let p = locate_of answers memory mode r b in located_first mode r b _ _ (break_on (unread n p) _)
  execute_on operation.Jmp mode n r b =
      let p = locate_of answers memory mode r b in located_first mode r b _ _ (jumped_on (unread n p) _ p.pc)
  execute_on operation.Jsr mode n r b = jsr_on r n b
  execute_on operation.Nop mode n r b =
      let p = locate_of answers memory mode r b in located_first mode r b _ _ (completed_on (unread n p) _ p.pc)
  execute_on operation.Rti mode n r b =
      let p = locate_of answers memory mode r b in located_first mode r b _ _ (resumed_on (unread n p) _)
  execute_on operation.Rts mode n r b =
      let p = locate_of answers memory mode r b in located_first mode r b _ _ (returned_on (unread n p) _)

  decoded_on : (d : Option Entry) (r : CpuRegisters) (b : Bus) → b.missing ≡ false
      → Same b (opcode_accesses r d) (decoded_to answers memory r b d)
  unfolding onwards asked
  decoded_on None r b m = rw m
  decoded_on (Some e) r b m = execute_on e.operation e.mode e.length r b

  -- the opcode is fetched, and goes its way
  opcode_on : (r : CpuRegisters) (b : Bus) (d : Option Entry)
      → Same b (opcode_accesses r d) (cond b.missing (Asked (ask_with no_writes b)) (decoded_to answers memory r b d))
  unfolding onwards in_order
  opcode_on r b d = by_answer b.missing refl
    where
      by_answer : (t : Bool) → b.missing ≡ t
          → Same b (opcode_accesses r d) (cond t (Asked (ask_with no_writes b)) (decoded_to answers memory r b d))
      by_answer true m = rw m
      by_answer false m = decoded_on d r b m

  pub instruction_asked : (r : CpuRegisters)
      → instruction_of r answers memory ≡ outcome_from (asked memory answers [] (instruction_accesses r))
  unfolding instruction_of instruction_accesses fetch_of
  instruction_asked r =
      let f = fetch_of answers memory r.pc unasked in
      sym (ap outcome_from
      (sym (onwards_unasked answers memory (instruction_accesses r)) ∙ fetch_on answers memory r.pc unasked _)
      ∙ opcode_on (with_pc f.pc r) f.bus (decode_of f.value))
