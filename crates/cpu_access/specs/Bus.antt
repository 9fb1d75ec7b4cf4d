-- What an instruction reads: the register file by asking, all else from the lent memory.
use Rattle.std.specs.Prelude.{ℕ, ◌+◌, Bool, true, false, cond, List, length, nat_lt, slice_index}
use Rattle.bits.specs.Bits.{word16, wrapping16}
use Rattle.memory.specs.Memory.{is_register}
use Rattle.cpu_access.specs.declared.Bus.{Bus}
use Rattle.cpu_access.specs.declared.Got.{Got}
use Rattle.cpu_access.specs.declared.Fetched.{Fetched}

-- 01, Machine state: "PC and pointers go from FFFFh to 0000h"
abbrev pub next_address : ℕ → ℕ
next_address a = wrapping16 a 1

-- a byte of the lent memory, 0 past its end
unfoldable pub memory_byte : List ℕ → ℕ → ℕ
memory_byte memory a = slice_index memory a

-- 01, One clock, 4: "vectors FFFCh, FFFAh, FFFEh", of reset, NMI, and IRQ and BRK
abbrev pub reset_vector : ℕ
reset_vector = 0xFFFC

abbrev pub nmi_vector : ℕ
nmi_vector = 0xFFFA

abbrev pub irq_vector : ℕ
irq_vector = 0xFFFE

-- a vector, at the end of memory: its low byte, and the high byte behind it
unfoldable pub vector_of : List ℕ → ℕ → ℕ
vector_of memory a = word16 (memory_byte memory (next_address a)) (memory_byte memory a)

-- nothing asked yet
abbrev pub unasked : Bus
unasked = record { used = 0; missing = false; modify = false; address = 0 }

abbrev pub got : ℕ → Bus → Got ℕ
got v b = record { value = v; bus = b }

-- the next answer, which is then used
abbrev pub answered : List ℕ → Bus → Got ℕ
answered answers b =
    got (slice_index answers b.used) (record {
      used =
          b.used + 1;
      missing = b.missing;
      modify = b.modify;
      address = b.address;
    })

-- what is asked first stays the question
abbrev pub asking : ℕ → Bool → Bus → Bus
asking a modify b = cond b.missing b (record { used = b.used; missing = true; modify = modify; address = a })

-- a read of the register at a; `modify`: it is the read of a read-modify-write instruction (001, 4.1)
unfoldable pub ask_of : List ℕ → ℕ → Bool → Bus → Got ℕ
ask_of answers a modify b = cond (nat_lt b.used (length answers)) (answered answers b) (got 0 (asking a modify b))

-- a read at any address
unfoldable pub read_of : List ℕ → List ℕ → ℕ → Bool → Bus → Got ℕ
read_of answers memory a modify b = cond (is_register a) (ask_of answers a modify b) (got (memory_byte memory a) b)

-- two reads: the low byte, then the high byte
abbrev pub address_with : ℕ → Got ℕ → Got ℕ
address_with l g = record { value = word16 g.value l; bus = g.bus }

abbrev pub high_byte_after : List ℕ → List ℕ → ℕ → Got ℕ → Got ℕ
high_byte_after answers memory a g = address_with g.value (read_of answers memory a false g.bus)

unfoldable pub read_address : List ℕ → List ℕ → ℕ → ℕ → Bus → Got ℕ
read_address answers memory a h b = high_byte_after answers memory h (read_of answers memory a false b)

-- the byte at PC, and PC past it
abbrev pub fetched_at : ℕ → Got ℕ → Fetched ℕ
fetched_at pc g = record { value = g.value; pc = next_address pc; bus = g.bus }

unfoldable pub fetch_of : List ℕ → List ℕ → ℕ → Bus → Fetched ℕ
fetch_of answers memory pc b = fetched_at pc (read_of answers memory pc false b)

-- the two bytes at PC, low byte first, and PC past them
abbrev pub address_fetched : ℕ → Fetched ℕ → Fetched ℕ
address_fetched l f = record { value = word16 f.value l; pc = f.pc; bus = f.bus }

abbrev pub second_fetched : List ℕ → List ℕ → Fetched ℕ → Fetched ℕ
second_fetched answers memory f = address_fetched f.value (fetch_of answers memory f.pc f.bus)

unfoldable pub fetch_address : List ℕ → List ℕ → ℕ → Bus → Fetched ℕ
fetch_address answers memory pc b = second_fetched answers memory (fetch_of answers memory pc b)
