-- What an instruction writes, and the stack. Nothing is written to memory here: the writes are handed on, in their
-- order.
use Rattle.std.specs.Prelude.{ℕ, ◌%◌, Bool, false, cond, ◌&&◌, List, ◌==◌, nat_lt}
use Rattle.bits.specs.Bits.{low_byte, high_byte, word16, wrapping8}
use Rattle.cpu_access.specs.declared.Bus.{Bus}
use Rattle.cpu_access.specs.declared.Got.{Got}
use Rattle.cpu_access.specs.declared.stack.Write.{Write}
use Rattle.cpu_access.specs.declared.stack.Writes.{Writes}
use Rattle.cpu_access.specs.declared.stack.Pulled.{Pulled}
use Rattle.cpu_access.specs.Bus.{ask_of, read_of, memory_byte, got}
use Rattle.memory.specs.Memory.{is_register}

abbrev pub write_at : ℕ → ℕ → Write
write_at a v = record { address = a; value = v }

abbrev pub no_write : Write
no_write = write_at 0 0

abbrev pub no_writes : Writes
no_writes = record { count = 0; first = no_write; second = no_write; third = no_write }

abbrev pub one_write : Write → Writes
one_write a = record { count = 1; first = a; second = no_write; third = no_write }

abbrev pub two_writes : Write → Write → Writes
two_writes a b = record { count = 2; first = a; second = b; third = no_write }

abbrev pub three_writes : Write → Write → Write → Writes
three_writes a b c = record { count = 3; first = a; second = b; third = c }

-- the writes in their order: `put` gets of each whether it is there
abbrev pub each_write : {A : Type 0} → (Bool → Write → A → A) → Writes → A → A
each_write put w a =
    put (nat_lt 2 w.count) w.third (put (nat_lt 1 w.count) w.second (put (nat_lt 0 w.count) w.first a))

-- 01, Machine state: "Stack page: as 001's stack pointer section says, zero if it allows two" (001, 3.1.3); SP is 8
-- bits wide
abbrev pub stack_address : ℕ → ℕ
stack_address sp = sp % 256

-- "zero-page indexing and SP wrap within 8 bits": SP after a push, and after a pull
abbrev pub down : ℕ → ℕ
down sp = wrapping8 sp 255

abbrev pub up : ℕ → ℕ
up sp = wrapping8 sp 1

-- a push writes at SP, and SP goes down
abbrev pub push_at : ℕ → ℕ → Write
push_at sp v = write_at (stack_address sp) v

-- PC pushed, high byte first
abbrev pub push_high : ℕ → ℕ → Write
push_high sp pc = push_at sp (high_byte pc)

abbrev pub push_low : ℕ → ℕ → Write
push_low sp pc = push_at (down sp) (low_byte pc)

unfoldable pub push_address : ℕ → ℕ → Writes
push_address sp pc = two_writes (push_high sp pc) (push_low sp pc)

-- PC pushed, then the byte p
unfoldable pub push_interrupt : ℕ → ℕ → ℕ → Writes
push_interrupt sp pc p = three_writes (push_high sp pc) (push_low sp pc) (push_at (down (down sp)) p)

-- SP goes up, and the pull reads there
abbrev pub pulled_at : ℕ → Got ℕ → Pulled ℕ
pulled_at sp g = record { value = g.value; sp = sp; bus = g.bus }

abbrev pub pull_from : List ℕ → List ℕ → ℕ → Bus → Pulled ℕ
pull_from answers memory sp b = pulled_at sp (read_of answers memory (stack_address sp) false b)

unfoldable pub pull_of : List ℕ → List ℕ → ℕ → Bus → Pulled ℕ
pull_of answers memory sp b = pull_from answers memory (up sp) b

-- PC pulled, low byte first
abbrev pub address_pulled : ℕ → Pulled ℕ → Pulled ℕ
address_pulled l p = record { value = word16 p.value l; sp = p.sp; bus = p.bus }

abbrev pub second_pulled : List ℕ → List ℕ → Pulled ℕ → Pulled ℕ
second_pulled answers memory p = address_pulled p.value (pull_of answers memory p.sp p.bus)

unfoldable pub pull_address : List ℕ → List ℕ → ℕ → Bus → Pulled ℕ
pull_address answers memory sp b = second_pulled answers memory (pull_of answers memory sp b)

-- what stands at address a after the writes, where v stood before
unfoldable pub written_over : Writes → ℕ → ℕ → ℕ
written_over w a v =
    each_write (λ (there : Bool) (x : Write) (before : ℕ). cond (there && x.address == a) x.value before) w v

-- a read at any address after writes: a register is asked for, with those writes; of memory they are seen
unfoldable pub read_after : List ℕ → List ℕ → Writes → ℕ → Bus → Got ℕ
read_after answers memory w a b =
    cond (is_register a) (ask_of answers a false b) (got (written_over w a (memory_byte memory a)) b)
