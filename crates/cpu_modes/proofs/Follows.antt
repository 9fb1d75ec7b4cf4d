-- Reads, fetches, pulls and addressing modes by the bus, against their accesses: what follows them follows alike.
use Rattle.std.proofs.Common.{◌≡◌, ℕ, Bool, false, List, [], refl, ap, ◌∙◌}
use mathlib.Core.Path.{fun_ext}
use Rattle.bits.specs.Bits.{word16, wrapping8}
use Rattle.cpu_opcodes.specs.declared.Mode.{Mode}
use Rattle.cpu_opcodes.specs.declared.Mode.TheVariants.{Implied, Accumulator, Immediate, ZeroPage, ZeroPageX}
use Rattle.cpu_opcodes.specs.declared.Mode.TheVariants.{ZeroPageY, Absolute, AbsoluteX, AbsoluteY, IndexedIndirect}
use Rattle.cpu_opcodes.specs.declared.Mode.TheVariants.{IndirectIndexed, Indirect, Relative, ZeroPageRelative}
use Rattle.cpu_access.specs.declared.Bus.{Bus}
use Rattle.cpu_access.specs.declared.CpuRegisters.{CpuRegisters}
use Rattle.cpu_modes.specs.declared.Place.{Place}
use Rattle.cpu_access.specs.declared.stack.Write.{Write}
use Rattle.cpu_access.specs.declared.stack.Writes.{Writes}
use Rattle.cpu_access.specs.Bus.{memory_byte, next_address, read_of, read_address, fetch_of, fetch_address}
use Rattle.cpu_access.specs.Stack.{stack_address, up, pull_of, pull_address, written_over, read_after}
use Rattle.cpu_modes.specs.Modes.{zero_page_address, zero_page_pointer, second_address, indexed_by, relative_to}
use Rattle.cpu_modes.specs.Modes.{locate_of}
use Rattle.cpu_access.specs.Accesses.{Accesses, ends, reads, writes, ◌>>=◌, byte_at, address_at, byte_after}
use Rattle.cpu_modes.specs.ModeAccesses.{Located, operand_at, indexed_from, past_address, located}
use Rattle.cpu_access.proofs.Asked.{onwards, read_follows}

-- what follows what follows
pub then_then : {A B C : Type 0} (t : Accesses A) (f : A → Accesses B) (g : B → Accesses C)
    → (t >>= f) >>= g ≡ t >>= (λ x. f x >>= g)
then_then (ends x) f g = refl
then_then (reads modify a go) f g = ap (reads modify a) (fun_ext (λ v. then_then (go v) f g))
then_then (writes a v t) f g = ap (writes a v) (then_then t f g)

-- a place by its accesses, which know no bus
abbrev pub located_at : Place → Located
located_at p = record { address = p.address; crossed = p.crossed; accumulator = p.accumulator; pc = p.pc }

module _ {A : Type 0} (answers memory : List ℕ) where
  abbrev Onwards : Bus → Accesses A → Bus → Accesses A → Type 0
  Onwards b t c u = onwards answers memory [] b t ≡ onwards answers memory [] c u

  pub read_on : (a : ℕ) (modify : Bool) (b : Bus) (go : ℕ → Accesses A)
      → Onwards b (reads modify a go) (read_of answers memory a modify b).bus
      (go (read_of answers memory a modify b).value)
  unfolding read_of byte_after
  read_on a modify b go = read_follows answers memory [] modify a b go (memory_byte memory a) refl

  -- a read after writes
  pub read_after_on : (before : List Write) (w : Writes) (a : ℕ) (b : Bus) (go : ℕ → Accesses A)
      → written_over w a (memory_byte memory a) ≡ byte_after before a (memory_byte memory a)
      → onwards answers memory before b (reads false a go)
      ≡ onwards answers memory before (read_after answers memory w a b).bus (go (read_after answers memory w a b).value)
  unfolding read_after
  read_after_on before w a b go e =
      read_follows answers memory before false a b go (written_over w a (memory_byte memory a)) e

  pub address_on : (a h : ℕ) (b : Bus) (go : ℕ → Accesses A)
      → Onwards b (address_at a h >>= go) (read_address answers memory a h b).bus
      (go (read_address answers memory a h b).value)
  unfolding read_address
  address_on a h b go =
      let g = read_of answers memory a false b in
      read_on a false b _ ∙ read_on h false g.bus (λ v. go (word16 v g.value))

  pub fetch_on : (pc : ℕ) (b : Bus) (go : ℕ → Accesses A)
      → Onwards b (byte_at pc >>= go) (fetch_of answers memory pc b).bus (go (fetch_of answers memory pc b).value)
  unfolding fetch_of
  fetch_on pc b go = read_on pc false b go

  pub fetch_address_on : (pc : ℕ) (b : Bus) (go : ℕ → Accesses A)
      → Onwards b (address_at pc (next_address pc) >>= go) (fetch_address answers memory pc b).bus
      (go (fetch_address answers memory pc b).value)
  unfolding fetch_address fetch_of
  fetch_address_on pc b go =
      let f = fetch_of answers memory pc b in
      read_on pc false b _ ∙ read_on (next_address pc) false f.bus (λ v. go (word16 v f.value))

  pub pull_on : (sp : ℕ) (b : Bus) (go : ℕ → Accesses A)
      → Onwards b (byte_at (stack_address (up sp)) >>= go) (pull_of answers memory sp b).bus
      (go (pull_of answers memory sp b).value)
  unfolding pull_of
  pull_on sp b go = read_on (stack_address (up sp)) false b go

  pub pull_address_on : (sp : ℕ) (b : Bus) (go : ℕ → Accesses A)
      → Onwards b (address_at (stack_address (up sp)) (stack_address (up (up sp))) >>= go)
      (pull_address answers memory sp b).bus
      (go (pull_address answers memory sp b).value)
  unfolding pull_address pull_of
  pull_address_on sp b go =
      let p = pull_of answers memory sp b in
      read_on (stack_address (up sp)) false b _
      ∙ read_on (stack_address (up (up sp))) false p.bus (λ v. go (word16 v p.value))

  pointer_on : (z : ℕ) (b : Bus) (go : ℕ → Accesses A)
      → Onwards b (address_at z (wrapping8 z 1) >>= go) (zero_page_pointer answers memory z b).bus
      (go (zero_page_pointer answers memory z b).value)
  unfolding zero_page_pointer
  pointer_on z b go = address_on z (wrapping8 z 1) b go

  pub locate_on : (mode : Mode) (r : CpuRegisters) (b : Bus) (go : Located → Accesses A)
      → Onwards b (located mode r >>= go) (locate_of answers memory mode r b).bus
      (go (located_at (locate_of answers memory mode r b)))
  unfolding located locate_of fetch_of fetch_address indexed_by relative_to
  locate_on Implied r b go = refl
  locate_on Accumulator r b go = refl
  locate_on Immediate r b go = refl
  locate_on ZeroPage r b go = fetch_on r.pc b _
  locate_on ZeroPageX r b go = fetch_on r.pc b _
  locate_on ZeroPageY r b go = fetch_on r.pc b _
  locate_on Absolute r b go = fetch_address_on r.pc b (λ a. go (operand_at a (past_address r.pc)))
  locate_on AbsoluteX r b go = fetch_address_on r.pc b (λ a. go (indexed_from a r.x (past_address r.pc)))
  locate_on AbsoluteY r b go = fetch_address_on r.pc b (λ a. go (indexed_from a r.y (past_address r.pc)))
  locate_on IndexedIndirect r b go =
      let f = fetch_of answers memory r.pc b in
      fetch_on r.pc b _
      ∙ pointer_on (zero_page_address f.value r.x) f.bus (λ a. go (operand_at a (next_address r.pc)))
  locate_on IndirectIndexed r b go =
      let f = fetch_of answers memory r.pc b in
      fetch_on r.pc b _ ∙ pointer_on f.value f.bus (λ a. go (indexed_from a r.y (next_address r.pc)))
  locate_on Indirect r b go =
      let f = fetch_address answers memory r.pc b in
      let there : ℕ → Accesses A = λ a. go (operand_at a (past_address r.pc)) in
      fetch_address_on r.pc b (λ p. address_at p (second_address p) >>= there)
      ∙ address_on f.value (second_address f.value) f.bus there
  locate_on Relative r b go = fetch_on r.pc b _
  locate_on ZeroPageRelative r b go = fetch_on r.pc b _
