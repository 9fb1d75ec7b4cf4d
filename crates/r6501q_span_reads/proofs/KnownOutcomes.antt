-- An instruction whose operand is a register in the zero page: it asks for the operand, and no other question follows;
-- a store asks nothing.
use mathlib.Core.Path.{◌≡◌, refl, ap, ◌∙◌}
use mathlib.Core.Bool.{Bool, true, false, cond}
use mathlib.Core.List.{List, [], ◌∷◌}
use Prim.Native.Nat.{ℕ, ◌+◌}
use native.Mathlib.Nat.{add-zero}
use Rattle.bits.specs.Bits.{one_where}
use Rattle.cpu_opcodes.specs.declared.Entry.{Entry}
use Rattle.cpu_opcodes.specs.declared.Mode.TheVariants.{ZeroPage, ZeroPageRelative}
use Rattle.cpu_opcodes.specs.declared.operation.Operation.TheVariants as operation
use Rattle.cpu_opcodes.specs.declared.operation.BitBranchOperation.{BitBranchOperation}
use Rattle.cpu_opcodes.specs.declared.operation.ModifyOperation.{ModifyOperation}
use Rattle.cpu_opcodes.specs.declared.operation.ReadOperation.{ReadOperation}
use Rattle.cpu_opcodes.specs.declared.operation.StoreOperation.{StoreOperation}
use Rattle.cpu_access.specs.declared.CpuRegisters.{CpuRegisters}
use Rattle.cpu_modes.specs.declared.Place.{Place}
use Rattle.cpu_access.specs.Bus.{unasked, next_address, ask_of, read_of, fetch_of}
use Rattle.cpu_modes.specs.Modes.{locate_of, relative_to}
use Rattle.cpu_access.specs.Stack.{write_at, no_writes}
use Rattle.cpu_effects.specs.declared.Worked.{Worked}
use Rattle.cpu_effects.specs.declared.Writing.{Writing}
use Rattle.cpu_effects.specs.declared.Writing.TheVariants.{Nothing, Stored}
use Rattle.cpu_effects.specs.Effects.{completed, stored, modified, branched, bit_branched}
use Rattle.cpu_kinds.specs.Kinds.{with_read, changed_by, byte_to_store, bit_branch_taken}
use Rattle.cpu_operations.specs.Operations.{operate_of}
use Rattle.cpu_kinds.specs.Updates.{with_pc, with_status}
use Rattle.cpu_kinds.proofs.Bytes.{byte_stored}
use Rattle.cpu.specs.declared.Ask.{Ask}
use Rattle.cpu.specs.declared.Outcome.TheVariants.{Asked, Done}
use Rattle.cpu.specs.InstructionInCode.{instruction_of, execute_of, outcome_of, carried_out, operand_byte}
use Rattle.r6501q_state.specs.declared.state.State.{State}
use Rattle.r6501q_registers.specs.Read.{register_value}
use Rattle.r6501q_span_reads.specs.Steady.{steady_at, steady_ask, outcome_within}
use Rattle.r6501q_span_reads.specs.Known.{Encoded}
use Rattle.r6501q_span_reads.proofs.SteadyReads.{within_done}

abbrev worked_out : CpuRegisters → Writing → ℕ → Worked
worked_out r x n = record { registers = r; writing = x; length = n }

module _ (r : CpuRegisters) (memory : List ℕ) (e : Entry) (a : ℕ) (i : Encoded r memory e a) where
  abbrev behind : CpuRegisters
  behind = with_pc (next_address r.pc) r

  abbrev past : ℕ
  past = next_address (next_address r.pc)

  abbrev asked : Bool → Ask
  asked modify = record { address = a; modify = modify; writes = no_writes }

  executes : (answers : List ℕ) → instruction_of r answers memory ≡ execute_of answers memory e behind unasked
  unfolding instruction_of fetch_of read_of
  executes answers = rw (i.first, i.opcode) refl

  -- ---- reads

  read_asks : (o : ReadOperation) → e.operation ≡ operation.Read o → e.mode ≡ ZeroPage
      → execute_of [] memory e behind unasked ≡ Asked (asked false)
  unfolding execute_of carried_out locate_of fetch_of operand_byte read_of ask_of outcome_of operate_of completed
  read_asks o k m = rw (k, m, i.second, i.operand, i.register) refl

  read_ends : (o : ReadOperation) → e.operation ≡ operation.Read o → e.mode ≡ ZeroPage → (v : ℕ)
      → execute_of (v ∷ []) memory e behind unasked ≡ Done (worked_out (with_read o (with_pc past r) v) Nothing (e.length + 0))
  unfolding execute_of carried_out locate_of fetch_of operand_byte read_of ask_of outcome_of operate_of completed
  read_ends o k m v = rw (k, m, i.second, i.operand, i.register) refl

  -- ---- operations that change a byte

  change_asks : (o : ModifyOperation) → e.operation ≡ operation.Modify o → e.mode ≡ ZeroPage
      → execute_of [] memory e behind unasked ≡ Asked (asked true)
  unfolding execute_of carried_out locate_of fetch_of operand_byte read_of ask_of outcome_of operate_of modified stored
  change_asks o k m = rw (k, m, i.second, i.operand, i.register) refl

  change_ends : (o : ModifyOperation) → e.operation ≡ operation.Modify o → e.mode ≡ ZeroPage → (v : ℕ)
      → execute_of (v ∷ []) memory e behind unasked
      ≡ Done (worked_out (with_status (changed_by o v r.status).status (with_pc past r))
      (Stored (write_at a (changed_by o v r.status).value)) e.length)
  unfolding execute_of carried_out locate_of fetch_of operand_byte read_of ask_of outcome_of operate_of modified stored
  change_ends o k m v = rw (k, m, i.second, i.operand, i.register) refl

  -- ---- stores

  store_ends : (o : StoreOperation) → e.operation ≡ operation.Store o → e.mode ≡ ZeroPage
      → execute_of [] memory e behind unasked
      ≡ Done (worked_out (with_pc past r) (Stored (write_at a (byte_to_store o r))) e.length)
  unfolding execute_of carried_out locate_of fetch_of operand_byte read_of outcome_of operate_of stored
  store_ends o k m = rw (k, m, i.second, i.operand, byte_stored o past r) refl

  -- ---- BBR and BBS

  abbrev target : Place
  target = relative_to (fetch_of [] memory past unasked)

  abbrev branched_to : Bool → Worked
  branched_to taken =
      cond taken (worked_out (with_pc target.address r) Nothing (e.length + 1 + one_where target.crossed))
      (worked_out (with_pc target.pc r) Nothing e.length)

  branch_asks : (o : BitBranchOperation) → e.operation ≡ operation.BitBranch o → e.mode ≡ ZeroPageRelative
      → execute_of [] memory e behind unasked ≡ Asked (asked false)
  unfolding execute_of carried_out locate_of fetch_of operand_byte read_of ask_of outcome_of operate_of bit_branched branched
      relative_to
  branch_asks o k m = by_taken (bit_branch_taken o 0) refl
    where
      by_taken : (t : Bool) → bit_branch_taken o 0 ≡ t → execute_of [] memory e behind unasked ≡ Asked (asked false)
      by_taken true z = rw (k, m, i.second, i.operand, i.register, i.third, z) refl
      by_taken false z = rw (k, m, i.second, i.operand, i.register, i.third, z) refl

  branch_ends : (o : BitBranchOperation) → e.operation ≡ operation.BitBranch o → e.mode ≡ ZeroPageRelative
      → (v : ℕ) (t : Bool) → bit_branch_taken o v ≡ t
      → execute_of (v ∷ []) memory e behind unasked ≡ Done (branched_to t)
  unfolding execute_of carried_out locate_of fetch_of operand_byte read_of ask_of outcome_of operate_of bit_branched branched
      relative_to
  branch_ends o k m v true z = rw (k, m, i.second, i.operand, i.register, i.third, z) refl
  branch_ends o k m v false z = rw (k, m, i.second, i.operand, i.register, i.third, z) refl

  -- ---- in a span

  module _ (s : State) where
    abbrev answer : Bool → ℕ
    answer modify = register_value s.peripherals s.last.ports modify a

    -- a question that is answered
    answered_within : (modify : Bool) (worked : Worked) → steady_at a ≡ true
        → execute_of [] memory e behind unasked ≡ Asked (asked modify)
        → execute_of (answer modify ∷ []) memory e behind unasked ≡ Done worked → outcome_within s r memory ≡ Done worked
    unfolding outcome_within steady_ask
    answered_within modify worked steady asks ends =
        rw (executes [] ∙ asks, steady) (executes (answer modify ∷ []) ∙ ends)

    pub read_known : (o : ReadOperation) → e.operation ≡ operation.Read o → e.mode ≡ ZeroPage → steady_at a ≡ true
        → outcome_within s r memory ≡ Done (worked_out (with_read o (with_pc past r) (answer false)) Nothing e.length)
    read_known o k m steady =
        answered_within false _ steady (read_asks o k m)
        (read_ends o k m (answer false)
        ∙ ap (λ (n : ℕ). Done (worked_out (with_read o (with_pc past r) (answer false)) Nothing n)) (add-zero e.length))

    pub change_known : (o : ModifyOperation) → e.operation ≡ operation.Modify o → e.mode ≡ ZeroPage
        → steady_at a ≡ true
        → outcome_within s r memory
        ≡ Done (worked_out (with_status (changed_by o (answer true) r.status).status (with_pc past r))
        (Stored (write_at a (changed_by o (answer true) r.status).value)) e.length)
    change_known o k m steady =
        answered_within true _ steady (change_asks o k m) (change_ends o k m (answer true))

    pub store_known : (o : StoreOperation) → e.operation ≡ operation.Store o → e.mode ≡ ZeroPage
        → outcome_within s r memory
        ≡ Done (worked_out (with_pc past r) (Stored (write_at a (byte_to_store o r))) e.length)
    store_known o k m = within_done s r memory _ (executes [] ∙ store_ends o k m)

    pub branch_known : (o : BitBranchOperation) → e.operation ≡ operation.BitBranch o → e.mode ≡ ZeroPageRelative
        → steady_at a ≡ true → (t : Bool) → bit_branch_taken o (answer false) ≡ t
        → outcome_within s r memory ≡ Done (branched_to t)
    branch_known o k m steady t z =
        answered_within false _ steady (branch_asks o k m) (branch_ends o k m (answer false) t z)
