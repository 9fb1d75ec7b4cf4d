-- What holds of every instruction: at most three writes; 2 to 7 clocks, 3 to 7 with a store; only registers are asked
-- for, at most five times.
use mathlib.Core.Path.{◌≡◌, ◌∙◌, refl, sym, ap}
use mathlib.Core.Bool.{Bool, true, false, ◌&&◌, ◌||◌, not, false≢true}
use mathlib.Core.List.{List}
use Prim.Native.Nat.{ℕ, suc, ◌+◌, ◌≤◌, ◌<◌}
use native.Mathlib.Omega.{arith}
use lib.Dec.{T, leb, leb→le, lit≤}
use lib.ListN.{length}
use Rattle.std.specs.Prelude.{Option, Some, None}
use Rattle.bits.proofs.Cond.{cond_both, both_left, both_right}
use Rattle.cpu_opcodes.specs.InstructionSet.{rows}
use Rattle.cpu_opcodes.specs.Decode.{decode_of}
use Rattle.cpu_opcodes.specs.declared.Entry.{Entry}
use Rattle.cpu_opcodes.specs.declared.Mode.{Mode}
use Rattle.cpu_opcodes.specs.declared.Mode.TheVariants.{Implied, Accumulator, Immediate, ZeroPage, ZeroPageX}
use Rattle.cpu_opcodes.specs.declared.Mode.TheVariants.{ZeroPageY, Absolute, AbsoluteX, AbsoluteY, IndexedIndirect}
use Rattle.cpu_opcodes.specs.declared.Mode.TheVariants.{IndirectIndexed, Indirect, Relative, ZeroPageRelative}
use Rattle.cpu_opcodes.proofs.Laws.{passes, looked_up}
use Rattle.cpu_access.specs.declared.Bus.{Bus}
use Rattle.cpu_access.specs.declared.CpuRegisters.{CpuRegisters}
use Rattle.cpu_modes.specs.declared.Place.{Place}
use Rattle.cpu_access.specs.declared.stack.Write.{Write}
use Rattle.cpu_access.specs.declared.stack.Writes.{Writes}
use Rattle.cpu_access.specs.Bus.{unasked, got, ask_of, read_of, fetch_of}
use Rattle.memory.specs.Memory.{is_register}
use Rattle.cpu_access.specs.Stack.{no_writes, push_address, read_after}
use Rattle.cpu_modes.specs.Modes.{indexed_by, relative_to, locate_of}
use Rattle.cpu_modes.proofs.Accesses.{reads_of_mode, read_keeps, fetch_keeps, read_after_keeps, locate_keeps}
use Rattle.cpu_access.proofs.Asks.{AsksRegister, unasked_asks_register, register_more, register_asks, Answered, Within}
use Rattle.cpu_access.proofs.Asks.{unasked_answered, answered_more, answered_asks}
use Rattle.cpu.specs.declared.Ask.{Ask}
use Rattle.cpu_effects.specs.declared.Worked.{Worked}
use Rattle.cpu_effects.specs.declared.Writing.TheVariants.{Pushed, Stored}
use Rattle.cpu.specs.declared.Outcome.{Outcome}
use Rattle.cpu.specs.declared.Outcome.TheVariants.{Undefined, Asked, Done}
use Rattle.cpu_effects.specs.declared.Executed.{Executed}
use Rattle.cpu_operations.specs.declared.Access.{Access}
use Rattle.cpu_operations.specs.declared.Access.TheVariants.{Nothing, Read, Modify, Jsr}
use Rattle.cpu_effects.specs.Effects.{with_pc, pushes_of}
use Rattle.cpu_operations.specs.Operations.{access_of, is_jsr}
use Rattle.cpu.specs.InstructionInCode.{ask_with, outcome_of, operand_byte, operand_of, carried_out, writes_asked}
use Rattle.cpu.specs.InstructionInCode.{jsr_to}
use Rattle.cpu.specs.InstructionInCode.{jsr_outcome, execute_of, decoded_to, instruction_of}
use Rattle.cpu_operations.proofs.Sound.{cost_of, operate_sound}
use Rattle.cpu_operations.proofs.Stores.{is_store, stores, operate_stores}
use Rattle.cpu.proofs.Conclusions.{is_accumulator}

-- an instruction that is done
pub record Fits (w : Worked) : Type 0 where
  pub writes : (pushes_of w.writing).count ≤ 3
  pub least : 2 ≤ w.length
  pub most : w.length ≤ 7
  pub store : is_store w.writing ≡ true → 3 ≤ w.length

-- a question: it is that of a bus of which P holds after at most five reads
pub record AskedBy (P : ℕ → Bus → Type 0) (q : Ask) : Type 0 where
  pub reads : ℕ
  pub most : reads ≤ 5
  pub bus : Bus
  pub known : P reads bus
  pub missing : bus.missing ≡ true
  pub address : q.address ≡ bus.address
  pub writes : q.writes.count ≤ 3

abbrev pub Lawful : (ℕ → Bus → Type 0) → Outcome → Type 0
Lawful P Undefined = Unit
Lawful P (Asked q) = AskedBy P q
Lawful P (Done w) = Fits w

abbrev pub reads_of_access : Access → ℕ → ℕ
reads_of_access Nothing k = k
reads_of_access Read k = suc k
reads_of_access Modify k = suc k
reads_of_access Jsr k = k

-- the reads of an entry, the opcode's included
abbrev reads_of : Entry → ℕ
reads_of e = (cost_of e.operation).reads (reads_of_access (access_of e.operation) (reads_of_mode e.mode 1))

-- an entry that leaves a store
abbrev pub stores_of : Entry → Bool
stores_of e = stores e.operation (is_accumulator e.mode)

-- one test over the table: no instruction reads more than five bytes that can be asked for, nor takes more than 7
-- clocks, and one that stores takes 3 at least
cost_fits : Entry → Bool
cost_fits e =
    leb (reads_of e) 5 && (leb 2 e.length
    && (leb (e.length + (cost_of e.operation).extra) 7 && (not (stores_of e) || leb 3 e.length)))

pub record CostFits (e : Entry) : Type 0 where
  pub reads : reads_of e ≤ 5
  pub least : 2 ≤ e.length
  pub most : e.length + (cost_of e.operation).extra ≤ 7
  pub store : stores_of e ≡ true → 3 ≤ e.length

store_fits : (b : Bool) (n : ℕ) → T (not b || leb 3 n) → b ≡ true → 3 ≤ n
store_fits true n t e = leb→le 3 n t
store_fits false n t e = absurd (false≢true e)

cost_fits_lem : (e : Entry) → T (cost_fits e) → CostFits e
unfolding cost_fits
cost_fits_lem e t =
    let s = both_right (leb (reads_of e) 5) _ t in
    let u = both_right (leb 2 e.length) _ s in
    record {
      reads = leb→le (reads_of e) 5 (both_left (leb (reads_of e) 5) _ t);
      least = leb→le 2 e.length (both_left (leb 2 e.length) _ s);
      most =
          leb→le (e.length + (cost_of e.operation).extra) 7
          (both_left (leb (e.length + (cost_of e.operation).extra) 7) _ u);
      store = store_fits (stores_of e) e.length (both_right (leb (e.length + (cost_of e.operation).extra) 7) _ u);
    }

table_fits : (o : ℕ) → T (passes cost_fits (decode_of o))
unfolding decode_of cost_fits
table_fits o = looked_up cost_fits o rows tt

-- so of each entry of the table
pub entry_fits : (o : ℕ) (e : Entry) → decode_of o ≡ Some e → CostFits e
entry_fits o e d = cost_fits_lem e (rw d at (table_fits o))

pushed_writes : (sp pc : ℕ) → (push_address sp pc).count ≤ 3
unfolding push_address
pushed_writes sp pc = lit≤ tt

jsr_writes : (sp pc : ℕ) → (pushes_of (Pushed (push_address sp pc))).count ≤ 3
unfolding pushes_of
jsr_writes sp pc = pushed_writes sp pc

asking_writes : (b : Bus) (sp pc : ℕ) → (writes_asked b (push_address sp pc)).count ≤ 3
unfolding writes_asked
asking_writes b sp pc =
    cond_both (λ w. w.count ≤ 3) b.missing no_writes (push_address sp pc) (λ t. lit≤ tt) (λ t. pushed_writes sp pc)

-- an operand is the accumulator just in that mode
pub locate_accumulator : (answers memory : List ℕ) (mode : Mode) (r : CpuRegisters) (b : Bus)
    → (locate_of answers memory mode r b).accumulator ≡ is_accumulator mode
unfolding locate_of indexed_by relative_to
locate_accumulator answers memory Implied r b = refl
locate_accumulator answers memory Accumulator r b = refl
locate_accumulator answers memory Immediate r b = refl
locate_accumulator answers memory ZeroPage r b = refl
locate_accumulator answers memory ZeroPageX r b = refl
locate_accumulator answers memory ZeroPageY r b = refl
locate_accumulator answers memory Absolute r b = refl
locate_accumulator answers memory AbsoluteX r b = refl
locate_accumulator answers memory AbsoluteY r b = refl
locate_accumulator answers memory IndexedIndirect r b = refl
locate_accumulator answers memory IndirectIndexed r b = refl
locate_accumulator answers memory Indirect r b = refl
locate_accumulator answers memory Relative r b = refl
locate_accumulator answers memory ZeroPageRelative r b = refl

module _ (P : ℕ → Bus → Type 0) (answers memory : List ℕ)
    (more : (k : ℕ) (b : Bus) → P k b → P (suc k) b)
    (asks : (k a : ℕ) (modify : Bool) (b : Bus) → is_register a ≡ true → P k b
    → P (suc k) (ask_of answers a modify b).bus) where
  operand_keeps : (access : Access) (k a : ℕ) (p : Place) → P k p.bus
      → P (reads_of_access access k) (operand_byte answers memory access a p).bus
  unfolding operand_byte
  operand_keeps Nothing k a p h = h
  operand_keeps Read k a p h = read_keeps P answers memory more asks k p.address false p.bus h
  operand_keeps Modify k a p h =
      cond_both (λ g. P (suc k) g.bus) p.accumulator (got a p.bus)
      (read_of answers memory p.address true p.bus)
      (λ t. more k p.bus h)
      (λ t. read_keeps P answers memory more asks k p.address true p.bus h)
  operand_keeps Jsr k a p h = h

  asked_lawful : (k : ℕ) (w : Writes) (b : Bus) → k ≤ 5 → P k b → b.missing ≡ true → w.count ≤ 3
      → Lawful P (Asked (ask_with w b))
  asked_lawful k w b m h t l =
      record { reads = k; most = m; bus = b; known = h; missing = t; address = refl; writes = l }

  outcome_lawful : (k : ℕ) (w : Writes) (e : Executed) → k ≤ 5 → P k e.bus → w.count ≤ 3 → Fits e.worked
      → Lawful P (outcome_of w e)
  unfolding outcome_of
  outcome_lawful k w e m h l f =
      cond_both (Lawful P) e.bus.missing (Asked (ask_with w e.bus)) (Done e.worked)
      (λ t. asked_lawful k w e.bus m h t l)
      (λ t. f)

  carried_lawful : (e : Entry) (r : CpuRegisters) (b : Bus) → CostFits e → P 1 b
      → Lawful P (outcome_of no_writes (carried_out answers memory e r b))
  unfolding carried_out
  carried_lawful e r b c h =
      let p = locate_of answers memory e.mode r b in
      let j = reads_of_mode e.mode 1 in
      let i = reads_of_access (access_of e.operation) j in
      let g = operand_byte answers memory (access_of e.operation) r.a p in
      let q =
      operand_keeps (access_of e.operation) j r.a p (locate_keeps P answers memory more asks e.mode 1 r b h) in
      let s = operate_sound P answers memory more asks e.operation i (with_pc p.pc r) (operand_of e.length p g)
      q in
      let t = operate_stores answers memory e.operation (with_pc p.pc r) (operand_of e.length p g) in
      let k = sym t.stored in
      let a = ap (stores e.operation) (sym (locate_accumulator answers memory e.mode r b)) in
      outcome_lawful (reads_of e) no_writes _ c.reads s.bus (lit≤ tt)
      (record {
        writes = s.writes;
        least = s.least c.least;
        most = s.most c.most;
        store = λ h. rw (t.clocks (k ∙ h)) (c.store (a ∙ k ∙ h));
      })

  jsr_lawful : (r : CpuRegisters) (n : ℕ) (b : Bus) → 2 ≤ n → n ≤ 7 → P 1 b
      → Lawful P (jsr_outcome answers memory r n b)
  unfolding jsr_outcome
  jsr_lawful r n b l m h =
      let f = fetch_of answers memory r.pc b in
      let w = push_address r.sp f.pc in
      let g = read_after answers memory w f.pc f.bus in
      let q = read_after_keeps P answers memory more asks 2 w f.pc f.bus
      (fetch_keeps P answers memory more asks 1 r.pc b h) in
      outcome_lawful 3 (writes_asked f.bus w) (jsr_to r n f w g) (lit≤ tt) q (asking_writes f.bus r.sp f.pc)
      (record { writes = jsr_writes r.sp f.pc; least = l; most = m; store = λ e. absurd (false≢true e) })

  execute_lawful : (e : Entry) (r : CpuRegisters) (b : Bus) → CostFits e → P 1 b
      → Lawful P (execute_of answers memory e r b)
  unfolding execute_of
  execute_lawful e r b c h =
      cond_both (Lawful P) (is_jsr (access_of e.operation)) (jsr_outcome answers memory r e.length b)
      (outcome_of no_writes (carried_out answers memory e r b))
      (λ t. jsr_lawful r e.length b c.least (let m = c.most in omega arith) h)
      (λ t. carried_lawful e r b c h)

  decoded_lawful : (d : Option Entry) (r : CpuRegisters) (b : Bus) → T (passes cost_fits d) → P 1 b
      → Lawful P (decoded_to answers memory r b d)
  decoded_lawful None r b t h = tt
  decoded_lawful (Some e) r b t h = execute_lawful e r b (cost_fits_lem e t) h

  pub lawful : (r : CpuRegisters) → P 0 unasked → Lawful P (instruction_of r answers memory)
  unfolding instruction_of
  lawful r h =
      let f = fetch_of answers memory r.pc unasked in
      let q = fetch_keeps P answers memory more asks 0 r.pc unasked h in
      cond_both (Lawful P) f.bus.missing (Asked (ask_with no_writes f.bus))
      (decoded_to answers memory (with_pc f.pc r) f.bus (decode_of f.value))
      (λ t. asked_lawful 1 no_writes f.bus (lit≤ tt) q t (lit≤ tt))
      (λ t. decoded_lawful (decode_of f.value) (with_pc f.pc r) f.bus (table_fits f.value) q)

module _ (r : CpuRegisters) (answers memory : List ℕ) where
  by_register : Lawful AsksRegister (instruction_of r answers memory)
  by_register = lawful AsksRegister answers memory register_more (register_asks answers) r (unasked_asks_register 0)

  by_answers : Lawful (Answered answers) (instruction_of r answers memory)
  by_answers =
      lawful (Answered answers) answers memory (answered_more answers) (answered_asks answers) r
      (unasked_answered answers)

  -- an instruction that is done made at most three writes and takes 2 to 7 clocks
  pub done_fits : (w : Worked) → instruction_of r answers memory ≡ Done w → Fits w
  done_fits w e = rw e at by_register

  -- one that leaves a store takes 3 to 7 clocks
  pub store_length : (w : Worked) (x : Write) → instruction_of r answers memory ≡ Done w → w.writing ≡ Stored x
      → (3 ≤ w.length) × (w.length ≤ 7)
  store_length w x e s = let f = done_fits w e in (f.store (rw s), f.most)

  -- what is asked for is a register
  pub asked_address : (q : Ask) → instruction_of r answers memory ≡ Asked q → q.address < 0x40
  unfolding AsksRegister
  asked_address q e =
      let l : AskedBy AsksRegister q = rw e at by_register in
      rw l.address (l.known l.missing)

  -- the writes that go with a question are at most three
  pub asked_writes : (q : Ask) → instruction_of r answers memory ≡ Asked q → q.writes.count ≤ 3
  asked_writes q e = let l : AskedBy AsksRegister q = rw e at by_register in l.writes

  -- with five answers nothing is asked any more
  pub asks_end : 5 ≤ length answers → (q : Ask) → instruction_of r answers memory ≡ Asked q → ⊥
  unfolding Answered
  asks_end n q e =
      let l : AskedBy (Answered answers) q = rw e at by_answers in
      let m = l.most in
      let w : Within l.reads l.bus = l.known (omega arith) in
      false≢true (cc (w.given, l.missing))
