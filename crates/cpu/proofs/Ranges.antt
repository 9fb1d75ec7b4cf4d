-- Ranges kept: from registers, memory and answers within their ranges an instruction leaves registers and writes within
-- theirs (01, Machine state: "Well-formed: every field is within its range here").
use mathlib.Core.Path.{◌≡◌}
use mathlib.Core.Bool.{Bool, true, false, ◌&&◌, cond}
use mathlib.Core.List.{List}
use Prim.Native.Nat.{ℕ, ◌+◌, ◌-◌, ◌%◌, ◌<◌}
use native.Mathlib.Omega.{arith}
use lib.Bits.{and_lt, or_lt, xor_lt}
use lib.Dec.{ltb, eqb}
use lib.IntN.{ℤ, pos, negsuc}
use lib.ListN.{get_or, length}
use Rattle.std.specs.Prelude.{Option, Some, None}
use Rattle.bits.specs.Bits.{one_where, with_bit, word16, wrapping8, wrapping16}
use Rattle.bits.proofs.Bits.{bit_room}
use Rattle.bits.proofs.Cond.{cond_both, one_where_le}
use Rattle.cpu_opcodes.specs.Decode.{decode_of}
use Rattle.cpu_opcodes.specs.declared.Entry.{Entry}
use Rattle.cpu_opcodes.specs.declared.Mode.{Mode}
use Rattle.cpu_opcodes.specs.declared.Mode.TheVariants.{Implied, Accumulator, Immediate, ZeroPage, ZeroPageX}
use Rattle.cpu_opcodes.specs.declared.Mode.TheVariants.{ZeroPageY, Absolute, AbsoluteX, AbsoluteY, IndexedIndirect}
use Rattle.cpu_opcodes.specs.declared.Mode.TheVariants.{IndirectIndexed, Indirect, Relative, ZeroPageRelative}
use Rattle.cpu_opcodes.specs.declared.operation.Operation.{Operation}
use Rattle.cpu_opcodes.specs.declared.operation.Operation.TheVariants as operation
use Rattle.cpu_opcodes.specs.declared.operation.ReadOperation.{ReadOperation}
use Rattle.cpu_opcodes.specs.declared.operation.ReadOperation.TheVariants.{Adc, And, Bit, Cmp, Cpx, Cpy, Eor, Lda, Ldx}
use Rattle.cpu_opcodes.specs.declared.operation.ReadOperation.TheVariants.{Ldy, Ora, Sbc}
use Rattle.cpu_opcodes.specs.declared.operation.ModifyOperation.{ModifyOperation}
use Rattle.cpu_opcodes.specs.declared.operation.ModifyOperation.TheVariants.{Asl, Dec, Inc, Lsr, Rol, Ror, Rmb, Smb}
use Rattle.cpu_opcodes.specs.declared.operation.StoreOperation.{StoreOperation}
use Rattle.cpu_opcodes.specs.declared.operation.StoreOperation.TheVariants.{Sta, Stx, Sty}
use Rattle.cpu_opcodes.specs.declared.operation.PushOperation.{PushOperation}
use Rattle.cpu_opcodes.specs.declared.operation.PushOperation.TheVariants.{Pha, Php}
use Rattle.cpu_opcodes.specs.declared.operation.PullOperation.{PullOperation}
use Rattle.cpu_opcodes.specs.declared.operation.PullOperation.TheVariants.{Pla, Plp}
use Rattle.cpu_opcodes.specs.declared.operation.RegisterOperation.{RegisterOperation}
use Rattle.cpu_opcodes.specs.declared.operation.RegisterOperation.TheVariants.{Dex, Dey, Inx, Iny, Tax, Tay, Tsx, Txa}
use Rattle.cpu_opcodes.specs.declared.operation.RegisterOperation.TheVariants.{Txs, Tya}
use Rattle.cpu_alu.specs.Status.{pushed}
use Rattle.cpu_alu.specs.Arithmetic.{modulo, lowered, digit_difference, decimal_difference, subtract_binary, add_binary}
use Rattle.cpu_alu.specs.Arithmetic.{add_decimal, adc_of, sbc_of}
use Rattle.cpu_alu.specs.Logic.{and_of, ora_of, eor_of}
use Rattle.cpu_alu.specs.Shift.{asl_of, lsr_of, rol_of, ror_of, increment_of, decrement_of, reset_bit_of, set_bit_of}
use Rattle.cpu_alu.specs.declared.Status.{Status}
use Rattle.cpu_alu.specs.declared.Computed.{Computed}
use Rattle.cpu_alu.proofs.Bounds.{packed_le}
use Rattle.cpu_access.specs.declared.Bus.{Bus}
use Rattle.cpu_access.specs.declared.Fetched.{Fetched}
use Rattle.cpu_access.specs.declared.CpuRegisters.{CpuRegisters}
use Rattle.cpu_modes.specs.declared.Place.{Place}
use Rattle.cpu_access.specs.declared.stack.Write.{Write}
use Rattle.cpu_access.specs.declared.stack.Writes.{Writes}
use Rattle.cpu_access.specs.Bus.{next_address, memory_byte, vector_of, unasked, got, answered, asking, ask_of, read_of}
use Rattle.cpu_access.specs.Bus.{read_address, fetch_of, fetch_address, reset_vector}
use Rattle.memory.specs.Memory.{is_register}
use Rattle.cpu_access.specs.Stack.{no_writes, stack_address, up, push_address, push_interrupt, pull_of, pull_address}
use Rattle.cpu_access.specs.Stack.{written_over}
use Rattle.cpu_access.specs.Stack.{read_after}
use Rattle.cpu_modes.specs.Modes.{zero_page_address, zero_page_pointer, second_address, indexed_by, relative_to, locate_of}
use Rattle.cpu_operations.specs.declared.Access.{Access}
use Rattle.cpu_operations.specs.declared.Access.TheVariants.{Nothing, Read, Modify, Jsr}
use Rattle.cpu_effects.specs.declared.Worked.{Worked}
use Rattle.cpu_effects.specs.declared.Writing.{Writing}
use Rattle.cpu_effects.specs.declared.Writing.TheVariants as writing
use Rattle.cpu_effects.specs.Operand.{Operand}
use Rattle.cpu_effects.specs.declared.Executed.{Executed}
use Rattle.cpu_effects.specs.Effects.{with_pc, with_sp, with_status, into_a, into_x, into_y, load_a, load_x, load_y, read_only}
use Rattle.cpu_effects.specs.Effects.{completed, stored, modified, branched, branch_operand, bit_branched, jumped}
use Rattle.cpu_effects.specs.Effects.{pushed_byte, pulled_byte, returned, returned_from_interrupt, interrupted}
use Rattle.cpu_effects.specs.Effects.{break_taken}
use Rattle.cpu_kinds.specs.Kinds.{with_read, changed_by, byte_to_store, byte_to_push, with_pulled, with_register}
use Rattle.cpu_operations.specs.Operations.{access_of, is_jsr, operate_of}
use Rattle.cpu.specs.declared.Outcome.{Outcome}
use Rattle.cpu.specs.declared.Outcome.TheVariants.{Undefined, Asked, Done}
use Rattle.cpu.specs.EntriesInCode.{reset_entry, interrupt_entry}
use Rattle.cpu.specs.InstructionInCode.{ask_with, outcome_of, operand_byte, operand_of, carried_out, writes_asked}
use Rattle.cpu.specs.InstructionInCode.{jsr_to}
use Rattle.cpu.specs.InstructionInCode.{jsr_outcome, execute_of, decoded_to, instruction_of}

-- each element of a list is a byte
abbrev pub Bytes : List ℕ → Type 0
Bytes l = (k : ℕ) → get_or l k 0 < 256

pub record InRange (r : CpuRegisters) : Type 0 where
  pub a : r.a < 256
  pub x : r.x < 256
  pub y : r.y < 256
  pub sp : r.sp < 256
  pub pc : r.pc < 65536

pub record WriteFits (w : Write) : Type 0 where
  pub address : w.address < 65536
  pub value : w.value < 256

pub record WritesFit (w : Writes) : Type 0 where
  pub first : WriteFits w.first
  pub second : WriteFits w.second
  pub third : WriteFits w.third

abbrev pub WritingFits : Writing → Type 0
WritingFits writing.Nothing = Unit
WritingFits (writing.Pushed w) = WritesFit w
WritingFits (writing.Stored x) = WriteFits x

pub record WorkedFits (w : Worked) : Type 0 where
  pub registers : InRange w.registers
  pub writing : WritingFits w.writing

record PlaceFits (p : Place) : Type 0 where
  address : p.address < 65536
  pc : p.pc < 65536

record OperandFits (o : Operand) : Type 0 where
  address : o.address < 65536
  value : o.value < 256

word16_lt : (h l : ℕ) → h < 256 → l < 256 → word16 h l < 65536
word16_lt h l p q = omega arith

byte_wraps : (a b : ℕ) → wrapping8 a b < 256
byte_wraps a b = omega arith

address_wraps : (a b : ℕ) → wrapping16 a b < 65536
address_wraps a b = omega arith

byte_fits : (v : ℕ) → v < 256 → v < 65536
byte_fits v h = omega arith

-- the registers
pc_in : (v : ℕ) (r : CpuRegisters) → v < 65536 → InRange r → InRange (with_pc v r)
pc_in v r h i = record { a = i.a; x = i.x; y = i.y; sp = i.sp; pc = h }

sp_in : (v : ℕ) (r : CpuRegisters) → v < 256 → InRange r → InRange (with_sp v r)
sp_in v r h i = record { a = i.a; x = i.x; y = i.y; sp = h; pc = i.pc }

status_in : (s : Status) (r : CpuRegisters) → InRange r → InRange (with_status s r)
status_in s r i = record { a = i.a; x = i.x; y = i.y; sp = i.sp; pc = i.pc }

a_in : (k : Computed) (r : CpuRegisters) → k.value < 256 → InRange r → InRange (into_a k r)
a_in k r h i = record { a = h; x = i.x; y = i.y; sp = i.sp; pc = i.pc }

x_in : (k : Computed) (r : CpuRegisters) → k.value < 256 → InRange r → InRange (into_x k r)
x_in k r h i = record { a = i.a; x = h; y = i.y; sp = i.sp; pc = i.pc }

y_in : (k : Computed) (r : CpuRegisters) → k.value < 256 → InRange r → InRange (into_y k r)
y_in k r h i = record { a = i.a; x = i.x; y = h; sp = i.sp; pc = i.pc }

load_a_in : (v : ℕ) (r : CpuRegisters) → v < 256 → InRange r → InRange (load_a v r)
load_a_in v r h i = record { a = h; x = i.x; y = i.y; sp = i.sp; pc = i.pc }

load_x_in : (v : ℕ) (r : CpuRegisters) → v < 256 → InRange r → InRange (load_x v r)
load_x_in v r h i = record { a = i.a; x = h; y = i.y; sp = i.sp; pc = i.pc }

load_y_in : (v : ℕ) (r : CpuRegisters) → v < 256 → InRange r → InRange (load_y v r)
load_y_in v r h i = record { a = i.a; x = i.x; y = h; sp = i.sp; pc = i.pc }

-- what is computed is a byte
modulo_lt : (z : ℤ) → modulo z 256 < 256
modulo_lt (pos k) = omega arith
modulo_lt (negsuc k) = omega arith

binary_lt : (a m : ℕ) (s : Status) → (add_binary a m s).value < 256
unfolding add_binary
binary_lt a m s = omega arith

decimal_lt : (a m : ℕ) (s : Status) → (add_decimal a m s).value < 256
unfolding add_decimal
decimal_lt a m s = omega arith

adc_lt : (a m : ℕ) (s : Status) → (adc_of a m s).value < 256
unfolding adc_of
adc_lt a m s =
    cond_both (λ k. k.value < 256) s.d (add_decimal a m s) (add_binary a m s) (λ t. decimal_lt a m s)
    (λ t. binary_lt a m s)

difference_lt : (a m : ℕ) (c : Bool) → decimal_difference a m c < 256
unfolding decimal_difference
difference_lt a m c = modulo_lt (lowered (digit_difference a m c))

sbc_lt : (a m : ℕ) (s : Status) → (sbc_of a m s).value < 256
unfolding sbc_of
sbc_lt a m s =
    cond_both (λ k. k.value < 256) s.d
    (record { value = decimal_difference a m s.c; status = (subtract_binary a m s).status }) (subtract_binary a m s)
    (λ t. difference_lt a m s.c)
    (λ t. binary_lt a (255 - m) s)

and_of_lt : (a m : ℕ) (s : Status) → a < 256 → m < 256 → (and_of a m s).value < 256
unfolding and_of
and_of_lt a m s p q = and_lt 8 a m p q

ora_of_lt : (a m : ℕ) (s : Status) → a < 256 → m < 256 → (ora_of a m s).value < 256
unfolding ora_of
ora_of_lt a m s p q = or_lt 8 a m p q

eor_of_lt : (a m : ℕ) (s : Status) → a < 256 → m < 256 → (eor_of a m s).value < 256
unfolding eor_of
eor_of_lt a m s p q = xor_lt 8 a m p q

asl_lt : (x : ℕ) (s : Status) → (asl_of x s).value < 256
unfolding asl_of
asl_lt x s = omega arith

lsr_lt : (x : ℕ) (s : Status) → x < 256 → (lsr_of x s).value < 256
unfolding lsr_of
lsr_lt x s h = omega arith

rol_lt : (x : ℕ) (s : Status) → (rol_of x s).value < 256
unfolding rol_of
rol_lt x s = let d = one_where_le s.c in omega arith

ror_lt : (x : ℕ) (s : Status) → x < 256 → (ror_of x s).value < 256
unfolding ror_of
ror_lt x s h = let d = one_where_le s.c in omega arith

increment_lt : (x : ℕ) (s : Status) → (increment_of x s).value < 256
unfolding increment_of
increment_lt x s = omega arith

decrement_lt : (x : ℕ) (s : Status) → (decrement_of x s).value < 256
unfolding decrement_of
decrement_lt x s = omega arith

reset_bit_lt : (x m : ℕ) → x < 256 → reset_bit_of x m < 256
unfolding reset_bit_of with_bit
reset_bit_lt x m h = omega arith

set_bit_lt : (x m : ℕ) → x < 256 → set_bit_of x m < 256
unfolding set_bit_of with_bit
set_bit_lt x m h = bit_room 8 (m % 8) x (omega arith) h

pushed_lt : (s : Status) (brk : Bool) → pushed s brk < 256
unfolding pushed
pushed_lt s brk = omega (arith, packed_le s, one_where_le brk)

-- by kind
read_in : (p : ReadOperation) (r : CpuRegisters) (v : ℕ) → v < 256 → InRange r → InRange (with_read p r v)
unfolding with_read
read_in Adc r v h i = a_in _ r (adc_lt r.a v r.status) i
read_in And r v h i = a_in _ r (and_of_lt r.a v r.status i.a h) i
read_in Bit r v h i = status_in _ r i
read_in Cmp r v h i = status_in _ r i
read_in Cpx r v h i = status_in _ r i
read_in Cpy r v h i = status_in _ r i
read_in Eor r v h i = a_in _ r (eor_of_lt r.a v r.status i.a h) i
read_in Lda r v h i = load_a_in _ r h i
read_in Ldx r v h i = load_x_in _ r h i
read_in Ldy r v h i = load_y_in _ r h i
read_in Ora r v h i = a_in _ r (ora_of_lt r.a v r.status i.a h) i
read_in Sbc r v h i = a_in _ r (sbc_lt r.a v r.status) i

change_lt : (p : ModifyOperation) (v : ℕ) (s : Status) → v < 256 → (changed_by p v s).value < 256
unfolding changed_by
change_lt Asl v s h = asl_lt v s
change_lt Dec v s h = decrement_lt v s
change_lt Inc v s h = increment_lt v s
change_lt Lsr v s h = lsr_lt v s h
change_lt Rol v s h = rol_lt v s
change_lt Ror v s h = ror_lt v s h
change_lt (Rmb m) v s h = reset_bit_lt v m h
change_lt (Smb m) v s h = set_bit_lt v m h

store_lt : (p : StoreOperation) (r : CpuRegisters) → InRange r → byte_to_store p r < 256
unfolding byte_to_store
store_lt Sta r i = i.a
store_lt Stx r i = i.x
store_lt Sty r i = i.y

push_lt : (p : PushOperation) (r : CpuRegisters) → InRange r → byte_to_push p r < 256
unfolding byte_to_push
push_lt Pha r i = i.a
push_lt Php r i = pushed_lt r.status true

pulled_in : (p : PullOperation) (r : CpuRegisters) (v : ℕ) → v < 256 → InRange r → InRange (with_pulled p r v)
unfolding with_pulled
pulled_in Pla r v h i = load_a_in v r h i
pulled_in Plp r v h i = status_in _ r i

register_in : (p : RegisterOperation) (r : CpuRegisters) → InRange r → InRange (with_register p r)
unfolding with_register
register_in Dex r i = x_in _ r (decrement_lt r.x r.status) i
register_in Dey r i = y_in _ r (decrement_lt r.y r.status) i
register_in Inx r i = x_in _ r (increment_lt r.x r.status) i
register_in Iny r i = y_in _ r (increment_lt r.y r.status) i
register_in Tax r i = load_x_in _ r i.a i
register_in Tay r i = load_y_in _ r i.a i
register_in Tsx r i = load_x_in _ r i.sp i
register_in Txa r i = load_a_in _ r i.x i
register_in Txs r i = sp_in _ r i.x i
register_in Tya r i = load_a_in _ r i.y i

-- the writes
no_write : WriteFits no_writes.first
no_write = record { address = omega arith; value = omega arith }

address_writes : (sp pc : ℕ) → sp < 256 → WritesFit (push_address sp pc)
unfolding push_address
address_writes sp pc h = record {
  first = record { address = omega arith; value = omega arith };
  second = record { address = omega arith; value = omega arith };
  third = no_write;
}

interrupt_writes : (sp pc p : ℕ) → sp < 256 → p < 256 → WritesFit (push_interrupt sp pc p)
unfolding push_interrupt
interrupt_writes sp pc p h q = record {
  first = record { address = omega arith; value = omega arith };
  second = record { address = omega arith; value = omega arith };
  third = record { address = omega arith; value = q };
}

read_only_fits : (r : CpuRegisters) (n : ℕ) (b : Bus) → InRange r → WorkedFits (read_only r n b).worked
read_only_fits r n b i = record { registers = i; writing = tt }

completed_fits : (o : Operand) (r : CpuRegisters) → InRange r → WorkedFits (completed o r).worked
unfolding completed
completed_fits o r i = record { registers = i; writing = tt }

stored_fits : (o : Operand) (r : CpuRegisters) (v : ℕ) → OperandFits o → v < 256 → InRange r
    → WorkedFits (stored o r v).worked
unfolding stored
stored_fits o r v f h i = record { registers = i; writing = record { address = f.address; value = h } }

modified_fits : (o : Operand) (r : CpuRegisters) (k : Computed) → OperandFits o → k.value < 256 → InRange r
    → WorkedFits (modified o r k).worked
unfolding modified
modified_fits o r k f h i =
    cond_both (λ e. WorkedFits e.worked) o.accumulator (read_only (into_a k r) o.length o.bus)
    (stored o (with_status k.status r) k.value)
    (λ t. read_only_fits (into_a k r) o.length o.bus (a_in k r h i))
    (λ t. stored_fits o (with_status k.status r) k.value f h (status_in k.status r i))

branched_fits : (o : Operand) (r : CpuRegisters) (taken : Bool) → o.address < 65536 → InRange r
    → WorkedFits (branched o r taken).worked
unfolding branched
branched_fits o r taken h i =
    cond_both (λ e. WorkedFits e.worked) taken
    (read_only (with_pc o.address r) (o.length + 1 + one_where o.crossed) o.bus)
    (read_only r o.length o.bus)
    (λ t. read_only_fits (with_pc o.address r) (o.length + 1 + one_where o.crossed) o.bus
    (pc_in o.address r h i))
    (λ t. read_only_fits r o.length o.bus i)

jumped_fits : (o : Operand) (r : CpuRegisters) → OperandFits o → InRange r → WorkedFits (jumped o r).worked
unfolding jumped
jumped_fits o r f i = read_only_fits (with_pc o.address r) o.length o.bus (pc_in o.address r f.address i)

pushed_fits : (o : Operand) (r : CpuRegisters) (v : ℕ) → v < 256 → InRange r → WorkedFits (pushed_byte o r v).worked
unfolding pushed_byte
pushed_fits o r v h i =
    let s = i.sp in
    record {
      registers = sp_in _ r (byte_wraps r.sp 255) i;
      writing = record { first = record { address = omega arith; value = h }; second = no_write; third = no_write };
    }

-- what is done is in range; a question says nothing of registers
abbrev pub DoneFits : Outcome → Type 0
DoneFits Undefined = Unit
DoneFits (Asked q) = Unit
DoneFits (Done w) = WorkedFits w

module _ (answers memory : List ℕ) (given : Bytes answers) (bytes : Bytes memory) where
  memory_lt : (a : ℕ) → memory_byte memory a < 256
  unfolding memory_byte
  memory_lt a = bytes a

  vector_lt : (a : ℕ) → vector_of memory a < 65536
  unfolding vector_of
  vector_lt a =
      word16_lt (memory_byte memory (next_address a)) (memory_byte memory a) (memory_lt (next_address a)) (memory_lt a)

  ask_lt : (a : ℕ) (modify : Bool) (b : Bus) → (ask_of answers a modify b).value < 256
  unfolding ask_of
  ask_lt a modify b =
      cond_both (λ g. g.value < 256) (ltb b.used (length answers)) (answered answers b) (got 0 (asking a modify b))
      (λ t. given b.used) (λ t. omega arith)

  read_lt : (a : ℕ) (modify : Bool) (b : Bus) → (read_of answers memory a modify b).value < 256
  unfolding read_of
  read_lt a modify b =
      cond_both (λ g. g.value < 256) (is_register a) (ask_of answers a modify b) (got (memory_byte memory a) b)
      (λ t. ask_lt a modify b) (λ t. memory_lt a)

  read_address_lt : (a c : ℕ) (b : Bus) → (read_address answers memory a c b).value < 65536
  unfolding read_address
  read_address_lt a c b =
      let g = read_of answers memory a false b in
      word16_lt (read_of answers memory c false g.bus).value g.value (read_lt c false g.bus)
      (read_lt a false b)

  fetch_lt : (pc : ℕ) (b : Bus) → (fetch_of answers memory pc b).value < 256
  unfolding fetch_of
  fetch_lt pc b = read_lt pc false b

  fetch_pc : (pc : ℕ) (b : Bus) → (fetch_of answers memory pc b).pc < 65536
  unfolding fetch_of
  fetch_pc pc b = address_wraps pc 1

  fetch_address_lt : (pc : ℕ) (b : Bus) → (fetch_address answers memory pc b).value < 65536
  unfolding fetch_address
  fetch_address_lt pc b =
      let f = fetch_of answers memory pc b in
      word16_lt (fetch_of answers memory f.pc f.bus).value f.value (fetch_lt f.pc f.bus) (fetch_lt pc b)

  fetch_address_pc : (pc : ℕ) (b : Bus) → (fetch_address answers memory pc b).pc < 65536
  unfolding fetch_address
  fetch_address_pc pc b = let f = fetch_of answers memory pc b in fetch_pc f.pc f.bus

  pull_lt : (sp : ℕ) (b : Bus) → (pull_of answers memory sp b).value < 256
  unfolding pull_of
  pull_lt sp b = read_lt (stack_address (up sp)) false b

  pull_sp : (sp : ℕ) (b : Bus) → (pull_of answers memory sp b).sp < 256
  unfolding pull_of
  pull_sp sp b = byte_wraps sp 1

  pull_address_lt : (sp : ℕ) (b : Bus) → (pull_address answers memory sp b).value < 65536
  unfolding pull_address
  pull_address_lt sp b =
      let p = pull_of answers memory sp b in
      word16_lt (pull_of answers memory p.sp p.bus).value p.value (pull_lt p.sp p.bus) (pull_lt sp b)

  pull_address_sp : (sp : ℕ) (b : Bus) → (pull_address answers memory sp b).sp < 256
  unfolding pull_address
  pull_address_sp sp b = let p = pull_of answers memory sp b in pull_sp p.sp p.bus

  written_lt : (w : Writes) (a v : ℕ) → WritesFit w → v < 256 → written_over w a v < 256
  unfolding written_over
  written_lt w a v f h =
      let s = cond (ltb 0 w.count && eqb w.first.address a) w.first.value v in
      let t = cond (ltb 1 w.count && eqb w.second.address a) w.second.value s in
      cond_both (λ n. n < 256) (ltb 2 w.count && eqb w.third.address a) w.third.value t
      (λ e. f.third.value)
      (λ e. cond_both (λ n. n < 256) (ltb 1 w.count && eqb w.second.address a) w.second.value s
      (λ e. f.second.value)
      (λ e. cond_both (λ n. n < 256) (ltb 0 w.count && eqb w.first.address a) w.first.value v
      (λ e. f.first.value) (λ e. h)))

  read_after_lt : (w : Writes) (a : ℕ) (b : Bus) → WritesFit w → (read_after answers memory w a b).value < 256
  unfolding read_after
  read_after_lt w a b f =
      cond_both (λ g. g.value < 256) (is_register a) (ask_of answers a false b)
      (got (written_over w a (memory_byte memory a)) b)
      (λ t. ask_lt a false b)
      (λ t. written_lt w a (memory_byte memory a) f (memory_lt a))

  relative_fits : (f : Fetched ℕ) → f.pc < 65536 → PlaceFits (relative_to f)
  unfolding relative_to
  relative_fits f h = record { address = address_wraps _ _; pc = h }

  indexed_fits : (i base pc : ℕ) (b : Bus) → pc < 65536 → PlaceFits (indexed_by i base pc b)
  unfolding indexed_by
  indexed_fits i base pc b h = record { address = address_wraps base i; pc = h }

  pointer_lt : (z : ℕ) (b : Bus) → (zero_page_pointer answers memory z b).value < 65536
  unfolding zero_page_pointer
  pointer_lt z b = read_address_lt z (wrapping8 z 1) b

  locate_fits : (mode : Mode) (r : CpuRegisters) (b : Bus) → InRange r → PlaceFits (locate_of answers memory mode r b)
  unfolding locate_of
  locate_fits Implied r b i = record { address = omega arith; pc = i.pc }
  locate_fits Accumulator r b i = record { address = omega arith; pc = i.pc }
  locate_fits Immediate r b i = record { address = i.pc; pc = address_wraps r.pc 1 }
  locate_fits ZeroPage r b i = record { address = byte_fits _ (fetch_lt r.pc b); pc = fetch_pc r.pc b }
  locate_fits ZeroPageX r b i =
      record {
        address = byte_fits _ (byte_wraps (fetch_of answers memory r.pc b).value r.x);
        pc = fetch_pc r.pc b;
      }
  locate_fits ZeroPageY r b i =
      record {
        address = byte_fits _ (byte_wraps (fetch_of answers memory r.pc b).value r.y);
        pc = fetch_pc r.pc b;
      }
  locate_fits Absolute r b i = record { address = fetch_address_lt r.pc b; pc = fetch_address_pc r.pc b }
  locate_fits AbsoluteX r b i =
      let f = fetch_address answers memory r.pc b in
      indexed_fits r.x f.value f.pc f.bus (fetch_address_pc r.pc b)
  locate_fits AbsoluteY r b i =
      let f = fetch_address answers memory r.pc b in
      indexed_fits r.y f.value f.pc f.bus (fetch_address_pc r.pc b)
  locate_fits IndexedIndirect r b i =
      let f = fetch_of answers memory r.pc b in
      record { address = pointer_lt (zero_page_address f.value r.x) f.bus; pc = fetch_pc r.pc b }
  locate_fits IndirectIndexed r b i =
      let f = fetch_of answers memory r.pc b in
      let w = zero_page_pointer answers memory f.value f.bus in
      indexed_fits r.y w.value f.pc w.bus (fetch_pc r.pc b)
  locate_fits Indirect r b i =
      let f = fetch_address answers memory r.pc b in
      record {
        address = read_address_lt f.value (second_address f.value) f.bus;
        pc = fetch_address_pc r.pc b;
      }
  locate_fits Relative r b i = relative_fits (fetch_of answers memory r.pc b) (fetch_pc r.pc b)
  locate_fits ZeroPageRelative r b i = record { address = byte_fits _ (fetch_lt r.pc b); pc = fetch_pc r.pc b }

  bit_branched_fits : (o : Operand) (r : CpuRegisters) (taken : Bool) → InRange r
      → WorkedFits (bit_branched answers memory o r taken).worked
  unfolding bit_branched
  bit_branched_fits o r taken i =
      let f = fetch_of answers memory r.pc o.bus in
      let p : Place = relative_to f in
      let q = relative_fits f (fetch_pc r.pc o.bus) in
      branched_fits (branch_operand o p) (with_pc p.pc r) taken q.address (pc_in p.pc r q.pc i)

  pulled_fits : (p : PullOperation) (o : Operand) (r : CpuRegisters) → InRange r
      → WorkedFits (pulled_byte answers memory p o r).worked
  unfolding pulled_byte
  pulled_fits p o r i =
      let g = pull_of answers memory r.sp o.bus in
      record {
        registers = pulled_in p (with_sp g.sp r) g.value (pull_lt r.sp o.bus)
            (sp_in g.sp r (pull_sp r.sp o.bus) i);
        writing = tt;
      }

  returned_fits : (o : Operand) (r : CpuRegisters) → InRange r → WorkedFits (returned answers memory o r).worked
  unfolding returned
  returned_fits o r i =
      let w = pull_address answers memory r.sp o.bus in
      read_only_fits _ o.length w.bus
      (pc_in (next_address w.value) (with_sp w.sp r) (address_wraps w.value 1)
      (sp_in w.sp r (pull_address_sp r.sp o.bus) i))

  returned_from_interrupt_fits : (o : Operand) (r : CpuRegisters) → InRange r
      → WorkedFits (returned_from_interrupt answers memory o r).worked
  unfolding returned_from_interrupt
  returned_from_interrupt_fits o r i =
      let p = pull_of answers memory r.sp o.bus in
      let w = pull_address answers memory p.sp p.bus in
      read_only_fits _ o.length w.bus
      (pc_in w.value _ (pull_address_lt p.sp p.bus)
      (status_in _ (with_sp w.sp r) (sp_in w.sp r (pull_address_sp p.sp p.bus) i)))

  interrupted_fits : (vector p : ℕ) (r : CpuRegisters) → p < 256 → InRange r
      → WorkedFits (interrupted memory vector p r)
  unfolding interrupted
  interrupted_fits vector p r h i = record {
    registers = record { a = i.a; x = i.x; y = i.y; sp = byte_wraps _ 255; pc = vector_lt vector };
    writing = interrupt_writes r.sp r.pc p i.sp h;
  }

  break_taken_fits : (o : Operand) (r : CpuRegisters) → InRange r → WorkedFits (break_taken memory o r).worked
  unfolding break_taken
  break_taken_fits o r i =
      interrupted_fits 0xFFFE (pushed r.status true) (with_pc (next_address r.pc) r) (pushed_lt r.status true)
      (pc_in (next_address r.pc) r (address_wraps r.pc 1) i)

  operate_fits : (op : Operation) (r : CpuRegisters) (o : Operand) → OperandFits o → InRange r
      → WorkedFits (operate_of answers memory op r o).worked
  unfolding operate_of
  operate_fits (operation.Read p) r o f i = completed_fits o _ (read_in p r o.value f.value i)
  operate_fits (operation.Modify p) r o f i = modified_fits o r _ f (change_lt p o.value r.status f.value) i
  operate_fits (operation.Store p) r o f i = stored_fits o r _ f (store_lt p r i) i
  operate_fits (operation.Branch p) r o f i = branched_fits o r _ f.address i
  operate_fits (operation.BitBranch p) r o f i = bit_branched_fits o r _ i
  operate_fits (operation.Push p) r o f i = pushed_fits o r _ (push_lt p r i) i
  operate_fits (operation.Pull p) r o f i = pulled_fits p o r i
  operate_fits (operation.Register p) r o f i = completed_fits o _ (register_in p r i)
  operate_fits (operation.Flag p) r o f i = completed_fits o _ (status_in _ r i)
  operate_fits operation.Brk r o f i = break_taken_fits o r i
  operate_fits operation.Jmp r o f i = jumped_fits o r f i
  operate_fits operation.Jsr r o f i = completed_fits o r i
  operate_fits operation.Nop r o f i = completed_fits o r i
  operate_fits operation.Rti r o f i = returned_from_interrupt_fits o r i
  operate_fits operation.Rts r o f i = returned_fits o r i

  operand_lt : (access : Access) (a : ℕ) (p : Place) → a < 256 → (operand_byte answers memory access a p).value < 256
  unfolding operand_byte
  operand_lt Nothing a p h = omega arith
  operand_lt Read a p h = read_lt p.address false p.bus
  operand_lt Modify a p h =
      cond_both (λ g. g.value < 256) p.accumulator (got a p.bus)
      (read_of answers memory p.address true p.bus) (λ t. h) (λ t. read_lt p.address true p.bus)
  operand_lt Jsr a p h = omega arith

  carried_fits : (e : Entry) (r : CpuRegisters) (b : Bus) → InRange r
      → WorkedFits (carried_out answers memory e r b).worked
  unfolding carried_out
  carried_fits e r b i =
      let p = locate_of answers memory e.mode r b in
      let q = locate_fits e.mode r b i in
      let g = operand_byte answers memory (access_of e.operation) r.a p in
      operate_fits e.operation (with_pc p.pc r) (operand_of e.length p g)
      (record { address = q.address; value = operand_lt (access_of e.operation) r.a p i.a })
      (pc_in p.pc r q.pc i)

  outcome_fits : (w : Writes) (e : Executed) → WorkedFits e.worked → DoneFits (outcome_of w e)
  unfolding outcome_of
  outcome_fits w e f =
      cond_both DoneFits e.bus.missing (Asked (ask_with w e.bus)) (Done e.worked) (λ t. tt) (λ t. f)

  jsr_fits : (r : CpuRegisters) (n : ℕ) (b : Bus) → InRange r → DoneFits (jsr_outcome answers memory r n b)
  unfolding jsr_outcome
  jsr_fits r n b i =
      let l = fetch_of answers memory r.pc b in
      let w = push_address r.sp l.pc in
      let f = address_writes r.sp l.pc i.sp in
      let h = read_after answers memory w l.pc l.bus in
      outcome_fits (writes_asked l.bus w) (jsr_to r n l w h) (record {
        registers =
            pc_in (word16 h.value l.value) _
            (word16_lt h.value l.value (read_after_lt w l.pc l.bus f) (fetch_lt r.pc b))
            (sp_in _ r (byte_wraps _ 255) i);
        writing = f;
      })

  execute_fits : (e : Entry) (r : CpuRegisters) (b : Bus) → InRange r → DoneFits (execute_of answers memory e r b)
  unfolding execute_of
  execute_fits e r b i =
      cond_both DoneFits (is_jsr (access_of e.operation)) (jsr_outcome answers memory r e.length b)
      (outcome_of no_writes (carried_out answers memory e r b))
      (λ t. jsr_fits r e.length b i)
      (λ t. outcome_fits no_writes (carried_out answers memory e r b) (carried_fits e r b i))

  decoded_fits : (d : Option Entry) (r : CpuRegisters) (b : Bus) → InRange r
      → DoneFits (decoded_to answers memory r b d)
  decoded_fits None r b i = tt
  decoded_fits (Some e) r b i = execute_fits e r b i

  in_range : (r : CpuRegisters) → InRange r → DoneFits (instruction_of r answers memory)
  unfolding instruction_of
  in_range r i =
      let f = fetch_of answers memory r.pc unasked in
      cond_both DoneFits f.bus.missing (Asked (ask_with no_writes f.bus))
      (decoded_to answers memory (with_pc f.pc r) f.bus (decode_of f.value))
      (λ t. tt)
      (λ t. decoded_fits (decode_of f.value) (with_pc f.pc r) f.bus
      (pc_in f.pc r (fetch_pc r.pc unasked) i))

  -- an instruction that is done leaves registers and writes in range
  pub done_in_range : (r : CpuRegisters) (w : Worked) → InRange r → instruction_of r answers memory ≡ Done w
      → WorkedFits w
  done_in_range r w i e = rw e at (in_range r i)

  -- and so do the entries
  pub reset_in_range : (r : CpuRegisters) → InRange r → WorkedFits (reset_entry memory r)
  unfolding reset_entry
  reset_in_range r i = record { registers = pc_in _ _ (vector_lt reset_vector) (status_in _ r i); writing = tt }

  pub interrupt_in_range : (vector : ℕ) (r : CpuRegisters) → InRange r → WorkedFits (interrupt_entry memory vector r)
  unfolding interrupt_entry
  interrupt_in_range vector r i = interrupted_fits vector (pushed r.status false) r (pushed_lt r.status false) i
