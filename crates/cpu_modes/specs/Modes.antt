-- Addressing modes (001, appendix A): where the operand lies, whether finding it crossed a page, and PC past the
-- operand bytes.
use Rattle.std.specs.Prelude.{ℕ, ◌+◌, ◌/◌, Bool, true, false, cond, not, List, ◌==◌, nat_lt}
use Rattle.bits.specs.Bits.{low_byte, high_byte, word16, wrapping8, wrapping16}
use Rattle.cpu_opcodes.specs.declared.Mode.{Mode}
use Rattle.cpu_opcodes.specs.declared.Mode.TheVariants.{Implied, Accumulator, Immediate, ZeroPage, ZeroPageX}
use Rattle.cpu_opcodes.specs.declared.Mode.TheVariants.{ZeroPageY, Absolute, AbsoluteX, AbsoluteY, IndexedIndirect}
use Rattle.cpu_opcodes.specs.declared.Mode.TheVariants.{IndirectIndexed, Indirect, Relative, ZeroPageRelative}
use Rattle.cpu_access.specs.declared.Bus.{Bus}
use Rattle.cpu_access.specs.declared.Got.{Got}
use Rattle.cpu_access.specs.declared.Fetched.{Fetched}
use Rattle.cpu_access.specs.declared.CpuRegisters.{CpuRegisters}
use Rattle.cpu_modes.specs.declared.Place.{Place}
use Rattle.cpu_access.specs.Bus.{next_address, read_address, fetch_of, fetch_address}

-- an operand at an address
abbrev pub place_at : ℕ → ℕ → Bus → Place
place_at a pc b = record { address = a; crossed = false; accumulator = false; pc = pc; bus = b }

-- no operand in memory
abbrev pub no_place : Bool → ℕ → Bus → Place
no_place accumulator pc b = record { address = 0; crossed = false; accumulator = accumulator; pc = pc; bus = b }

-- two addresses in different pages
abbrev pub other_page : ℕ → ℕ → Bool
other_page a b = not (a / 256 == b / 256)

-- 01, Machine state: "zero-page indexing and SP wrap within 8 bits"
abbrev pub zero_page_address : ℕ → ℕ → ℕ
zero_page_address z i = wrapping8 z i

abbrev pub at_zero_page : Fetched ℕ → Place
at_zero_page f = place_at f.value f.pc f.bus

abbrev pub at_zero_page_indexed : ℕ → Fetched ℕ → Place
at_zero_page_indexed i f = place_at (zero_page_address f.value i) f.pc f.bus

abbrev pub at_absolute : Fetched ℕ → Place
at_absolute f = place_at f.value f.pc f.bus

-- an operand at a base plus an index, which may lie in another page than the base
abbrev pub crossing : ℕ → ℕ → ℕ → Bus → Place
crossing base a pc b = record { address = a; crossed = other_page base a; accumulator = false; pc = pc; bus = b }

unfoldable pub indexed_by : ℕ → ℕ → ℕ → Bus → Place
indexed_by i base pc b = crossing base (wrapping16 base i) pc b

abbrev pub at_indexed : ℕ → Fetched ℕ → Place
at_indexed i f = indexed_by i f.value f.pc f.bus

-- the pointer in the zero page at z; its high byte stays in the zero page
unfoldable pub zero_page_pointer : List ℕ → List ℕ → ℕ → Bus → Got ℕ
zero_page_pointer answers memory z b = read_address answers memory z (wrapping8 z 1) b

abbrev pub pointed : ℕ → Got ℕ → Place
pointed pc w = place_at w.value pc w.bus

abbrev pub pointed_indexed : ℕ → ℕ → Got ℕ → Place
pointed_indexed i pc w = indexed_by i w.value pc w.bus

-- (zp,X): the pointer stands at the indexed address
abbrev pub at_indexed_indirect : List ℕ → List ℕ → ℕ → Fetched ℕ → Place
at_indexed_indirect answers memory x f =
    pointed f.pc (zero_page_pointer answers memory (zero_page_address f.value x) f.bus)

-- (zp),Y: what the pointer gives is indexed
abbrev pub at_indirect_indexed : List ℕ → List ℕ → ℕ → Fetched ℕ → Place
at_indirect_indexed answers memory y f = pointed_indexed y f.pc (zero_page_pointer answers memory f.value f.bus)

-- 02, U5, JMP indirect: "the high byte comes from the start of that same page" where the pointer ends in FFh, else from
-- the pointer plus 1: the page stays, and the low byte wraps
abbrev pub second_address : ℕ → ℕ
second_address p = word16 (high_byte p) (wrapping8 (low_byte p) 1)

abbrev pub at_indirect : List ℕ → List ℕ → Fetched ℕ → Place
at_indirect answers memory f =
    pointed f.pc (read_address answers memory f.value (second_address f.value) f.bus)

-- a branch's offset as a 16-bit number: from 80h up it is negative
unfoldable pub displacement : ℕ → ℕ
displacement offset = cond (nat_lt offset 128) offset (offset + 0xFF00)

-- the target counts from the next instruction, whose page decides whether one is crossed
abbrev pub branch_to : ℕ → ℕ → Bus → Place
branch_to a pc b = crossing pc a pc b

unfoldable pub relative_to : Fetched ℕ → Place
relative_to f = branch_to (wrapping16 f.pc (displacement f.value)) f.pc f.bus

-- the place of an instruction's operand; PC stands behind the opcode
unfoldable pub locate_of : List ℕ → List ℕ → Mode → CpuRegisters → Bus → Place
locate_of answers memory Implied r b = no_place false r.pc b
locate_of answers memory Accumulator r b = no_place true r.pc b
locate_of answers memory Immediate r b = place_at r.pc (next_address r.pc) b
locate_of answers memory ZeroPage r b = at_zero_page (fetch_of answers memory r.pc b)
locate_of answers memory ZeroPageX r b = at_zero_page_indexed r.x (fetch_of answers memory r.pc b)
locate_of answers memory ZeroPageY r b = at_zero_page_indexed r.y (fetch_of answers memory r.pc b)
locate_of answers memory Absolute r b = at_absolute (fetch_address answers memory r.pc b)
locate_of answers memory AbsoluteX r b = at_indexed r.x (fetch_address answers memory r.pc b)
locate_of answers memory AbsoluteY r b = at_indexed r.y (fetch_address answers memory r.pc b)
locate_of answers memory IndexedIndirect r b = at_indexed_indirect answers memory r.x (fetch_of answers memory r.pc b)
locate_of answers memory IndirectIndexed r b = at_indirect_indexed answers memory r.y (fetch_of answers memory r.pc b)
locate_of answers memory Indirect r b = at_indirect answers memory (fetch_address answers memory r.pc b)
locate_of answers memory Relative r b = relative_to (fetch_of answers memory r.pc b)
locate_of answers memory ZeroPageRelative r b = at_zero_page (fetch_of answers memory r.pc b)
