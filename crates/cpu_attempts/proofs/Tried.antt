-- What each kind of operation gives is one instruction whole, or leaves all as it was.
use mathlib.Core.Path.{◌≡◌, refl, sym, ap, subst, ◌∙◌}
use mathlib.Core.Bool.{Bool, true, false, ◌||◌, cond}
use mathlib.Core.List.{List, []}
use Prim.Native.Nat.{ℕ, ◌+◌, ◌-◌, ◌<◌}
use native.Mathlib.Nat.{add-zero}
use native.Mathlib.Omega.{arith}
use lib.Dec.{ltb}
use borrow.Author.Tests.{ltb-false}
use Rattle.memory.specs.Memory.{is_register}
use Rattle.cpu_opcodes.specs.Decode.{decode_of}
use Rattle.cpu_opcodes.specs.declared.Entry.{Entry}
use Rattle.cpu_opcodes.specs.declared.Mode.{Mode}
use Rattle.cpu_opcodes.specs.declared.Mode.TheVariants.{Implied, Accumulator, Immediate, ZeroPage, ZeroPageX}
use Rattle.cpu_opcodes.specs.declared.Mode.TheVariants.{ZeroPageY, Absolute, AbsoluteX, AbsoluteY, IndexedIndirect}
use Rattle.cpu_opcodes.specs.declared.Mode.TheVariants.{IndirectIndexed, Indirect, Relative, ZeroPageRelative}
use Rattle.cpu_opcodes.specs.declared.operation.Operation.{Operation}
use Rattle.cpu_opcodes.specs.declared.operation.Operation.TheVariants as operation
use Rattle.cpu_opcodes.specs.declared.operation.BitBranchOperation.{BitBranchOperation}
use Rattle.cpu_opcodes.specs.declared.operation.BranchOperation.{BranchOperation}
use Rattle.cpu_opcodes.specs.declared.operation.FlagOperation.{FlagOperation}
use Rattle.cpu_opcodes.specs.declared.operation.ModifyOperation.{ModifyOperation}
use Rattle.cpu_opcodes.specs.declared.operation.PullOperation.{PullOperation}
use Rattle.cpu_opcodes.specs.declared.operation.PushOperation.{PushOperation}
use Rattle.cpu_opcodes.specs.declared.operation.ReadOperation.{ReadOperation}
use Rattle.cpu_opcodes.specs.declared.operation.RegisterOperation.{RegisterOperation}
use Rattle.cpu_opcodes.specs.declared.operation.StoreOperation.{StoreOperation}
use Rattle.cpu_access.specs.declared.CpuRegisters.{CpuRegisters}
use Rattle.cpu_modes.specs.declared.Place.{Place}
use Rattle.cpu_access.specs.declared.stack.Write.{Write}
use Rattle.cpu_access.specs.declared.stack.Writes.{Writes}
use Rattle.cpu_access.specs.declared.Fetched.{Fetched}
use Rattle.cpu_access.specs.declared.stack.Pulled.{Pulled}
use Rattle.bits.specs.Bits.{one_where, word16}
use Rattle.cpu_alu.specs.Status.{unpacked}
use Rattle.std.specs.Prelude.{None, Option, Some}
use Rattle.cpu_attempts.specs.declared.Start.{Start}
use Rattle.cpu_attempts.specs.Attempts.{Attempt, behind_opcode, place_of}
use Rattle.cpu_access.specs.Bus.{unasked, next_address, memory_byte, read_of, fetch_of}
use Rattle.cpu_modes.specs.Modes.{locate_of, indexed_by, relative_to}
use Rattle.cpu_access.specs.Stack.{write_at, one_write, push_at, down, pull_of, pull_address}
use Rattle.cpu_effects.specs.declared.Worked.{Worked}
use Rattle.cpu_effects.specs.declared.Writing.TheVariants.{Nothing, Pushed, Stored}
use Rattle.cpu_effects.specs.Effects.{pushes_of, waiting_of, completed, stored, modified, branched, bit_branched}
use Rattle.cpu_effects.specs.Effects.{jumped, pushed_byte, pulled_byte, returned, returned_from_interrupt}
use Rattle.cpu_kinds.specs.Kinds.{with_read, byte_to_store, branch_taken, bit_branch_taken, byte_to_push}
use Rattle.cpu_kinds.specs.Kinds.{with_pulled, with_register, with_flag}
use Rattle.cpu_operations.specs.Operations.{operate_of}
use Rattle.cpu_kinds.specs.Updates.{with_pc, with_sp, with_status}
use Rattle.cpu_kinds.proofs.Bytes.{byte_stored, byte_pushed}
use Rattle.cpu.specs.declared.Outcome.TheVariants.{Done}
use Rattle.cpu.specs.declared.work.Work.{Work}
use Rattle.cpu.specs.InstructionInCode.{instruction_of, execute_of, outcome_of, carried_out, operand_byte, jsr_outcome}
use Rattle.cpu.specs.Work.{next_work}
use Rattle.page_sums.proofs.Sums.{sums_kept}
use Rattle.memory_writes.specs.Commit.{put_write, committed}
use Rattle.cpu_access.specs.Halt.{ends_span}
use Rattle.bits.proofs.Cond.{either_false}
use Rattle.cpu_access.proofs.Ends.{no_writes_end}
use Rattle.cpu_attempts.specs.Attempts.{Instructed, pushing, storing, Tries, unchanged, whole}
use Rattle.cpu_attempts.specs.Attempts.{worked_out, started_next, stored_whole, asks_for, store_deferred, read_tried}
use Rattle.cpu_attempts.specs.Attempts.{store_tried, store_memory, save_tried, save_memory, changed_at, change_tried}
use Rattle.cpu_attempts.specs.Attempts.{change_memory, accumulator_tried, branch_tried, bit_branch_tried, jump_tried}
use Rattle.cpu_attempts.specs.Attempts.{push_tried, push_memory, pull_tried, jsr_pushes, jsr_upper, jsr_tried}
use Rattle.cpu_attempts.specs.Attempts.{jsr_memory, return_tried, interrupt_return_tried, register_tried, flag_tried}

abbrev entry : Operation → Mode → ℕ → Entry
entry o m n = record { operation = o; mode = m; length = n }

-- a defined opcode at an address that is no register's: the instruction is what its entry executes
pub opcode_executes : (r : CpuRegisters) (memory : List ℕ) (e : Entry) → is_register r.pc ≡ false
    → decode_of (memory_byte memory r.pc) ≡ Some e
    → instruction_of r [] memory ≡ execute_of [] memory e (with_pc (next_address r.pc) r) unasked
unfolding instruction_of fetch_of read_of
opcode_executes r memory e free d = rw (free, d) refl

-- nothing is pushed: no span ends, and memory stays
nothing_ends : (halt : Option ℕ) → ends_span halt (pushes_of Nothing) ≡ false
unfolding pushes_of
nothing_ends = no_writes_end

nothing_committed : (memory : List ℕ) → committed memory (pushes_of Nothing) ≡ memory
unfolding committed put_write pushes_of
nothing_committed memory = refl

-- the mode whose operand is A
abbrev of_accumulator : Mode → Bool
of_accumulator Accumulator = true
of_accumulator m = false

module _ (start : Start) (memory : List ℕ) where
  abbrev w : Work
  w = start.work

  abbrev halt : Option ℕ
  halt = start.halt

  abbrev span : ℕ
  span = start.span.0

  -- the operand's place
  abbrev operand : Mode → Place
  operand m = place_of w memory m

  abbrev Decodes : Operation → Mode → ℕ → Type 0
  Decodes o m n = decode_of (memory_byte memory w.registers.pc) ≡ Some (entry o m n)

  abbrev Executes : Operation → Mode → ℕ → Worked → Type 0
  Executes o m n worked = execute_of [] memory (entry o m n) (behind_opcode w) unasked ≡ Done worked

  failed_or : (t : Bool) (a : Attempt) (memory' : List ℕ) → (t ≡ false → Tries halt span w memory a memory')
      → Tries halt span w memory (cond t None a) (cond t memory memory')
  failed_or true a memory' f = unchanged
  failed_or false a memory' f = f refl

  failed_or_same : (t : Bool) (a : Attempt) → (t ≡ false → Tries halt span w memory a memory)
      → Tries halt span w memory (cond t None a) memory
  failed_or_same true a f = unchanged
  failed_or_same false a f = f refl

  -- nothing is written
  read_only : (o : Operation) (m : Mode) (n : ℕ) → Decodes o m n → (r : CpuRegisters) (length : ℕ)
      → Executes o m n (worked_out r Nothing length) → Tries halt span w memory (started_next w r length) memory
  unfolding waiting_of
  read_only o m n d r length e =
      whole (subst (λ (memory' : List ℕ). Instructed halt span w memory (next_work w (worked_out r Nothing length))
      memory')
      (nothing_committed memory)
      (pushing (worked_out r Nothing length) start.within
      (opcode_executes w.registers memory (entry o m n) start.in_memory d ∙ e)
      refl (nothing_ends halt)))

  -- pushes
  pushes : (o : Operation) (m : Mode) (n : ℕ) → Decodes o m n → (r : CpuRegisters) (x : Writes) (length : ℕ)
      → Executes o m n (worked_out r (Pushed x) length) → ends_span halt x ≡ false
      → Tries halt span w memory (started_next w r length) (committed memory x)
  unfolding waiting_of pushes_of
  pushes o m n d r x length e q =
      whole (pushing (worked_out r (Pushed x) length) start.within
      (opcode_executes w.registers memory (entry o m n) start.in_memory d ∙ e) refl q)

  -- a store
  stores : (o : Operation) (m : Mode) (n : ℕ) → Decodes o m n → (r : CpuRegisters) (x : Write) → 1 < n
      → Executes o m n (worked_out r (Stored x) n)
      → Tries halt span w memory (store_tried halt span w r x n) (store_memory halt span w x n memory)
  unfolding store_tried store_memory
  stores o m n d r x long e =
      failed_or (store_deferred halt span w x n) (stored_whole w r n) (committed memory (one_write x))
      (λ t.
      let both = either_false (ends_span halt (one_write x)) (ltb (span - w.gone.0) (w.wait + n)) t in
      let fits = ltb-false (span - w.gone.0) (w.wait + n) both.1 in
      whole (storing (worked_out r (Stored x) n) x (omega (arith, fits, long)) long
      (opcode_executes w.registers memory (entry o m n) start.in_memory d ∙ e) refl both.0))

  -- a read
  read_done : (o : ReadOperation) (m : Mode) (n : ℕ) → (operand m).bus.missing ≡ false
      → is_register (operand m).address ≡ false
      → Executes (operation.Read o) m n
      (worked_out (with_read o (with_pc (operand m).pc w.registers) (memory_byte memory (operand m).address)) Nothing
      (n + one_where (operand m).crossed))
  unfolding execute_of carried_out operand_byte read_of outcome_of operate_of completed
  read_done o m n b a = rw (a, b) refl

  pub read_tries : {o : ReadOperation} {m : Mode} {n : ℕ} → Decodes (operation.Read o) m n
      → Tries halt span w memory (read_tried o w memory (operand m) n) memory
  unfolding read_tried
  read_tries {o} {m} {n} d =
      failed_or_same (asks_for (operand m)) _
      (λ t. let both = either_false (operand m).bus.missing (is_register (operand m).address) t in
      read_only (operation.Read o) m n d _ _ (read_done o m n both.0 both.1))

  -- STA, STX and STY
  save_done : (o : StoreOperation) (m : Mode) (n : ℕ) → (operand m).bus.missing ≡ false
      → Executes (operation.Store o) m n
      (worked_out (with_pc (operand m).pc w.registers)
      (Stored (write_at (operand m).address (byte_to_store o w.registers))) n)
  unfolding execute_of carried_out operand_byte outcome_of operate_of stored
  save_done o m n b = rw (byte_stored o (operand m).pc w.registers, b) refl

  pub save_tries : {o : StoreOperation} {m : Mode} {n : ℕ} → Decodes (operation.Store o) m n → 1 < n
      → Tries halt span w memory (save_tried halt span o w (operand m) n) (save_memory halt span o w (operand m) n memory)
  unfolding save_tried save_memory
  save_tries {o} {m} {n} d long =
      failed_or (asks_for (operand m)) _ _
      (λ t. let both = either_false (operand m).bus.missing (is_register (operand m).address) t in
      stores (operation.Store o) m n d _ _ long (save_done o m n both.0))

  -- a byte changed in memory
  change_done : (o : ModifyOperation) (m : Mode) (n : ℕ) → (operand m).accumulator ≡ false
      → (operand m).bus.missing ≡ false
      → is_register (operand m).address ≡ false
      → Executes (operation.Modify o) m n
      (worked_out (with_status (changed_at o w memory (operand m)).status (with_pc (operand m).pc w.registers))
      (Stored (write_at (operand m).address (changed_at o w memory (operand m)).value)) n)
  unfolding execute_of carried_out operand_byte read_of outcome_of operate_of modified stored
  change_done o m n c b a = rw (c, a, b) refl

  -- no mode but one has A for its operand
  beside_a : (m : Mode) → of_accumulator m ≡ false → (operand m).accumulator ≡ false
  unfolding locate_of indexed_by relative_to
  beside_a Implied z = refl
  beside_a Accumulator z = cc
  beside_a Immediate z = refl
  beside_a ZeroPage z = refl
  beside_a ZeroPageX z = refl
  beside_a ZeroPageY z = refl
  beside_a Absolute z = refl
  beside_a AbsoluteX z = refl
  beside_a AbsoluteY z = refl
  beside_a IndexedIndirect z = refl
  beside_a IndirectIndexed z = refl
  beside_a Indirect z = refl
  beside_a Relative z = refl
  beside_a ZeroPageRelative z = refl

  pub change_tries : {o : ModifyOperation} {m : Mode} {n : ℕ} → Decodes (operation.Modify o) m n
      → of_accumulator m ≡ false → 1 < n
      → Tries halt span w memory (change_tried halt span o w memory (operand m) n)
      (change_memory halt span o w memory (operand m) n)
  unfolding change_tried change_memory
  change_tries {o} {m} {n} d c long =
      failed_or (asks_for (operand m)) _ _
      (λ t. let both = either_false (operand m).bus.missing (is_register (operand m).address) t in
      stores (operation.Modify o) m n d _ _ long (change_done o m n (beside_a m c) both.0 both.1))

  -- A changed
  pub accumulator_tries : {o : ModifyOperation} {n : ℕ} → Decodes (operation.Modify o) Accumulator n
      → Tries halt span w memory (accumulator_tried o w (next_address w.registers.pc) n) memory
  unfolding accumulator_tried execute_of carried_out operand_byte outcome_of operate_of modified locate_of
  accumulator_tries {o} {n} d = read_only (operation.Modify o) Accumulator n d _ _ refl

  -- branches
  branch_done : (o : Operation) (m : Mode) (n : ℕ) → Decodes o m n → (taken : Bool) (p : Place)
      → p.bus.missing ≡ false
      → ((t : Bool) → t ≡ taken
      → Executes o m n (cond t (worked_out (with_pc p.address w.registers) Nothing (n + 1 + one_where p.crossed))
      (worked_out (with_pc p.pc w.registers) Nothing n)))
      → Tries halt span w memory (branch_tried taken w p n) memory
  unfolding branch_tried
  branch_done o m n d taken p b e = rw b (by_taken taken refl)
    where
      by_taken : (t : Bool) → t ≡ taken
          → Tries halt span w memory
          (cond t (started_next w (with_pc p.address w.registers) (n + 1 + one_where p.crossed))
          (started_next w (with_pc p.pc w.registers) n)) memory
      by_taken true z = read_only o m n d _ _ (e true z)
      by_taken false z = read_only o m n d _ _ (e false z)

  -- what a branch executes to, taken or not
  branch_executes : (o : BranchOperation) (n : ℕ) → (operand Relative).bus.missing ≡ false → (t : Bool)
      → t ≡ branch_taken o w.registers.status
      → Executes (operation.Branch o) Relative n
      (cond t (worked_out (with_pc (operand Relative).address w.registers) Nothing
      (n + 1 + one_where (operand Relative).crossed))
      (worked_out (with_pc (operand Relative).pc w.registers) Nothing n))
  unfolding execute_of carried_out operand_byte outcome_of operate_of branched
  branch_executes o n b true z = rw (sym z, b) refl
  branch_executes o n b false z = rw (sym z, b) refl

  missing_unchanged : (taken : Bool) (p : Place) (n : ℕ) → p.bus.missing ≡ true
      → Tries halt span w memory (branch_tried taken w p n) memory
  unfolding branch_tried
  missing_unchanged taken p n b = rw b unchanged

  pub branch_tries : {o : BranchOperation} {n : ℕ} → Decodes (operation.Branch o) Relative n
      → Tries halt span w memory (branch_tried (branch_taken o w.registers.status) w (operand Relative) n) memory
  branch_tries {o} {n} d = by_missing (operand Relative).bus.missing refl
    where
      by_missing : (t : Bool) → (operand Relative).bus.missing ≡ t
          → Tries halt span w memory (branch_tried (branch_taken o w.registers.status) w (operand Relative) n) memory
      by_missing true b = missing_unchanged _ (operand Relative) n b
      by_missing false b =
          branch_done (operation.Branch o) Relative n d (branch_taken o w.registers.status) (operand Relative) b
          (branch_executes o n b)

  -- BBR and BBS
  abbrev target : Place
  target = relative_to (fetch_of [] memory (operand ZeroPageRelative).pc (operand ZeroPageRelative).bus)

  bit_branch_executes : (o : BitBranchOperation) (n : ℕ) → is_register (operand ZeroPageRelative).address ≡ false
      → target.bus.missing ≡ false
      → (t : Bool) → t ≡ bit_branch_taken o (memory_byte memory (operand ZeroPageRelative).address)
      → Executes (operation.BitBranch o) ZeroPageRelative n
      (cond t (worked_out (with_pc target.address w.registers) Nothing (n + 1 + one_where target.crossed))
      (worked_out (with_pc target.pc w.registers) Nothing n))
  unfolding execute_of carried_out operand_byte read_of outcome_of operate_of bit_branched branched
  bit_branch_executes o n a b true z = rw (a, sym z, b) refl
  bit_branch_executes o n a b false z = rw (a, sym z, b) refl

  pub bit_branch_tries : {o : BitBranchOperation} {n : ℕ} → Decodes (operation.BitBranch o) ZeroPageRelative n
      → Tries halt span w memory (bit_branch_tried o w memory (operand ZeroPageRelative) n) memory
  unfolding bit_branch_tried
  bit_branch_tries {o} {n} d =
      failed_or_same (asks_for (operand ZeroPageRelative)) _
      (λ t. let both = either_false (operand ZeroPageRelative).bus.missing
      (is_register (operand ZeroPageRelative).address) t in
      by_missing both.1 target.bus.missing refl)
    where
      by_missing : is_register (operand ZeroPageRelative).address ≡ false → (t : Bool) → target.bus.missing ≡ t
          → Tries halt span w memory
          (branch_tried (bit_branch_taken o (memory_byte memory (operand ZeroPageRelative).address)) w target n) memory
      by_missing a true b = missing_unchanged _ target n b
      by_missing a false b =
          branch_done (operation.BitBranch o) ZeroPageRelative n d
          (bit_branch_taken o (memory_byte memory (operand ZeroPageRelative).address)) target b
          (bit_branch_executes o n a b)

  jump_done : (m : Mode) (n : ℕ) → (operand m).bus.missing ≡ false
      → Executes operation.Jmp m n (worked_out (with_pc (operand m).address w.registers) Nothing n)
  unfolding execute_of carried_out operand_byte outcome_of operate_of jumped
  jump_done m n b = rw b refl

  pub jump_tries : {m : Mode} {n : ℕ} → Decodes operation.Jmp m n
      → Tries halt span w memory (jump_tried w (operand m) n) memory
  unfolding jump_tried
  jump_tries {m} {n} d =
      failed_or_same (operand m).bus.missing _ (λ b. read_only operation.Jmp m n d _ _ (jump_done m n b))

  -- PHA and PHP
  push_done : (o : PushOperation) (n : ℕ)
      → Executes (operation.Push o) Implied n
      (worked_out (with_sp (down w.registers.sp) (behind_opcode w))
      (Pushed (one_write (push_at w.registers.sp (byte_to_push o w.registers)))) n)
  unfolding execute_of carried_out operand_byte outcome_of operate_of pushed_byte locate_of
  push_done o n = rw (byte_pushed o (next_address w.registers.pc) w.registers) refl

  pub push_tries : {o : PushOperation} {n : ℕ} → Decodes (operation.Push o) Implied n
      → Tries halt span w memory (push_tried halt w (byte_to_push o w.registers) (next_address w.registers.pc) n)
      (push_memory halt w (byte_to_push o w.registers) memory)
  unfolding push_tried push_memory
  push_tries {o} {n} d = failed_or _ _ _ (λ q. pushes (operation.Push o) Implied n d _ _ n (push_done o n) q)

  -- PLA and PLP
  pull_done : (o : PullOperation) (n : ℕ) → (pull_of [] memory w.registers.sp unasked).bus.missing ≡ false
      → Executes (operation.Pull o) Implied n
      (worked_out (with_pulled o (with_sp (pull_of [] memory w.registers.sp unasked).sp (behind_opcode w))
      (pull_of [] memory w.registers.sp unasked).value) Nothing n)
  unfolding execute_of carried_out operand_byte outcome_of operate_of pulled_byte locate_of
  pull_done o n b = rw b refl

  pub pull_tries : {o : PullOperation} {n : ℕ} → Decodes (operation.Pull o) Implied n
      → Tries halt span w memory (pull_tried o w memory (next_address w.registers.pc) n) memory
  unfolding pull_tried
  pull_tries {o} {n} d =
      failed_or_same (pull_of [] memory w.registers.sp unasked).bus.missing _
      (λ b. read_only (operation.Pull o) Implied n d _ _ (pull_done o n b))

  pub register_tries : {o : RegisterOperation} {n : ℕ} → Decodes (operation.Register o) Implied n
      → Tries halt span w memory (register_tried o w (next_address w.registers.pc) n) memory
  unfolding register_tried execute_of carried_out operand_byte outcome_of operate_of completed locate_of
  register_tries {o} {n} d =
      read_only (operation.Register o) Implied n d _ _
      (ap (λ (k : ℕ). Done (worked_out (with_register o (behind_opcode w)) Nothing k)) (add-zero n))

  pub flag_tries : {o : FlagOperation} {n : ℕ} → Decodes (operation.Flag o) Implied n
      → Tries halt span w memory (flag_tried o w (next_address w.registers.pc) n) memory
  unfolding flag_tried execute_of carried_out operand_byte outcome_of operate_of completed locate_of
  flag_tries {o} {n} d =
      read_only (operation.Flag o) Implied n d _ _
      (ap (λ (k : ℕ). Done (worked_out (with_status (with_flag o w.registers.status) (behind_opcode w)) Nothing k))
      (add-zero n))

  pub no_operation_tries : {n : ℕ} → Decodes operation.Nop Implied n
      → Tries halt span w memory (started_next w (behind_opcode w) n) memory
  unfolding execute_of carried_out operand_byte outcome_of operate_of completed locate_of
  no_operation_tries {n} d =
      read_only operation.Nop Implied n d _ _
      (ap (λ (k : ℕ). Done (worked_out (behind_opcode w) Nothing k)) (add-zero n))

  -- JSR
  abbrev lower : Fetched ℕ
  lower = fetch_of [] memory (next_address w.registers.pc) unasked

  jsr_done : (n : ℕ) → (jsr_upper memory w lower).bus.missing ≡ false
      → Executes operation.Jsr Absolute n
      (worked_out (with_pc (word16 (jsr_upper memory w lower).value lower.value)
      (with_sp (down (down w.registers.sp)) w.registers))
      (Pushed (jsr_pushes w lower)) n)
  unfolding execute_of jsr_outcome outcome_of
  jsr_done n b = rw b refl

  pub jsr_tries : {n : ℕ} → Decodes operation.Jsr Absolute n
      → Tries halt span w memory (jsr_tried halt w memory (next_address w.registers.pc) n)
      (jsr_memory halt w memory (next_address w.registers.pc))
  unfolding jsr_tried jsr_memory
  jsr_tries {n} d =
      failed_or ((jsr_upper memory w lower).bus.missing || ends_span halt (jsr_pushes w lower)) _ _
      (λ t. let both = either_false (jsr_upper memory w lower).bus.missing (ends_span halt (jsr_pushes w lower)) t in
      pushes operation.Jsr Absolute n d _ _ n (jsr_done n both.0) both.1)

  -- RTS and RTI
  return_done : (n : ℕ) → (pull_address [] memory w.registers.sp unasked).bus.missing ≡ false
      → Executes operation.Rts Implied n
      (worked_out (with_pc (next_address (pull_address [] memory w.registers.sp unasked).value)
      (with_sp (pull_address [] memory w.registers.sp unasked).sp w.registers))
      Nothing n)
  unfolding execute_of carried_out operand_byte outcome_of operate_of returned locate_of
  return_done n b = rw b refl

  pub return_tries : {n : ℕ} → Decodes operation.Rts Implied n
      → Tries halt span w memory (return_tried w memory n) memory
  unfolding return_tried
  return_tries {n} d =
      failed_or_same (pull_address [] memory w.registers.sp unasked).bus.missing _
      (λ b. read_only operation.Rts Implied n d _ _ (return_done n b))

  abbrev status : Pulled ℕ
  status = pull_of [] memory w.registers.sp unasked

  resume_done : (n : ℕ) → (pull_address [] memory status.sp status.bus).bus.missing ≡ false
      → Executes operation.Rti Implied n
      (worked_out (with_pc (pull_address [] memory status.sp status.bus).value
      (with_status (unpacked status.value)
      (with_sp (pull_address [] memory status.sp status.bus).sp w.registers))) Nothing n)
  unfolding execute_of carried_out operand_byte outcome_of operate_of returned_from_interrupt locate_of
  resume_done n b = rw b refl

  pub interrupt_return_tries : {n : ℕ} → Decodes operation.Rti Implied n
      → Tries halt span w memory (interrupt_return_tried w memory n) memory
  unfolding interrupt_return_tried
  interrupt_return_tries {n} d =
      failed_or_same (pull_address [] memory status.sp status.bus).bus.missing _
      (λ b. read_only operation.Rti Implied n d _ _ (resume_done n b))

-- what an opcode's attempt is, by the kind of its operation; with none, memory and its sums are as they were
pub ruleset laws = (
  unchanged,
  sums_kept,
  read_tries,
  save_tries,
  change_tries,
  accumulator_tries,
  branch_tries,
  bit_branch_tries,
  jump_tries,
  push_tries,
  pull_tries,
  register_tries,
  flag_tries,
  no_operation_tries,
  jsr_tries,
  return_tries,
  interrupt_return_tries,
)
