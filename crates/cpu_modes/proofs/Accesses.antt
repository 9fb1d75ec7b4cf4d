-- What each read may change of the bus. P k b: what is shown of a bus b after at most k reads. A read of memory leaves
-- the bus as it is; so P passes over every read if it passes over one question.
use Rattle.std.proofs.Common.{◌≡◌, ℕ, suc, Bool, true, false, List}
use Rattle.bits.specs.Bits.{wrapping8}
use Rattle.bits.proofs.Cond.{cond_both}
use Rattle.cpu_opcodes.specs.declared.Mode.{Mode}
use Rattle.cpu_opcodes.specs.declared.Mode.TheVariants.{Implied, Accumulator, Immediate, ZeroPage, ZeroPageX}
use Rattle.cpu_opcodes.specs.declared.Mode.TheVariants.{ZeroPageY, Absolute, AbsoluteX, AbsoluteY, IndexedIndirect}
use Rattle.cpu_opcodes.specs.declared.Mode.TheVariants.{IndirectIndexed, Indirect, Relative, ZeroPageRelative}
use Rattle.cpu_access.specs.declared.Bus.{Bus}
use Rattle.cpu_access.specs.declared.Fetched.{Fetched}
use Rattle.cpu_access.specs.declared.CpuRegisters.{CpuRegisters}
use Rattle.cpu_access.specs.declared.stack.Writes.{Writes}
use Rattle.cpu_access.specs.Bus.{memory_byte, got, ask_of, read_of, read_address, fetch_of, fetch_address}
use Rattle.memory.specs.Memory.{is_register}
use Rattle.cpu_access.specs.Stack.{stack_address, up, pull_of, pull_address, written_over, read_after}
use Rattle.cpu_modes.specs.Modes.{zero_page_address, zero_page_pointer, second_address, indexed_by, relative_to}
use Rattle.cpu_modes.specs.Modes.{locate_of}

-- the reads so far, with those of an addressing mode
abbrev pub reads_of_mode : Mode → ℕ → ℕ
reads_of_mode Implied k = k
reads_of_mode Accumulator k = k
reads_of_mode Immediate k = k
reads_of_mode ZeroPage k = suc k
reads_of_mode ZeroPageX k = suc k
reads_of_mode ZeroPageY k = suc k
reads_of_mode Absolute k = suc (suc k)
reads_of_mode AbsoluteX k = suc (suc k)
reads_of_mode AbsoluteY k = suc (suc k)
reads_of_mode IndexedIndirect k = suc (suc (suc k))
reads_of_mode IndirectIndexed k = suc (suc (suc k))
reads_of_mode Indirect k = suc (suc (suc (suc k)))
reads_of_mode Relative k = suc k
reads_of_mode ZeroPageRelative k = suc k

module _ (P : ℕ → Bus → Type 0) (answers memory : List ℕ)
    (more : (k : ℕ) (b : Bus) → P k b → P (suc k) b)
    (asks : (k a : ℕ) (modify : Bool) (b : Bus) → is_register a ≡ true → P k b
    → P (suc k) (ask_of answers a modify b).bus) where
  pub read_keeps : (k a : ℕ) (modify : Bool) (b : Bus) → P k b → P (suc k) (read_of answers memory a modify b).bus
  unfolding read_of
  read_keeps k a modify b h =
      cond_both (λ g. P (suc k) g.bus) (is_register a) (ask_of answers a modify b) (got (memory_byte memory a) b)
      (λ e. asks k a modify b e h)
      (λ e. more k b h)

  pub read_after_keeps : (k : ℕ) (w : Writes) (a : ℕ) (b : Bus) → P k b
      → P (suc k) (read_after answers memory w a b).bus
  unfolding read_after
  read_after_keeps k w a b h =
      cond_both (λ g. P (suc k) g.bus) (is_register a) (ask_of answers a false b)
      (got (written_over w a (memory_byte memory a)) b)
      (λ e. asks k a false b e h)
      (λ e. more k b h)

  pub read_address_keeps : (k a c : ℕ) (b : Bus) → P k b → P (suc (suc k)) (read_address answers memory a c b).bus
  unfolding read_address
  read_address_keeps k a c b h =
      read_keeps (suc k) c false (read_of answers memory a false b).bus (read_keeps k a false b h)

  pub fetch_keeps : (k pc : ℕ) (b : Bus) → P k b → P (suc k) (fetch_of answers memory pc b).bus
  unfolding fetch_of
  fetch_keeps k pc b h = read_keeps k pc false b h

  pub fetch_address_keeps : (k pc : ℕ) (b : Bus) → P k b → P (suc (suc k)) (fetch_address answers memory pc b).bus
  unfolding fetch_address
  fetch_address_keeps k pc b h =
      let f : Fetched ℕ = fetch_of answers memory pc b in
      fetch_keeps (suc k) f.pc f.bus (fetch_keeps k pc b h)

  pub pull_keeps : (k sp : ℕ) (b : Bus) → P k b → P (suc k) (pull_of answers memory sp b).bus
  unfolding pull_of
  pull_keeps k sp b h = read_keeps k (stack_address (up sp)) false b h

  pub pull_address_keeps : (k sp : ℕ) (b : Bus) → P k b → P (suc (suc k)) (pull_address answers memory sp b).bus
  unfolding pull_address
  pull_address_keeps k sp b h =
      pull_keeps (suc k) (pull_of answers memory sp b).sp (pull_of answers memory sp b).bus (pull_keeps k sp b h)

  pub relative_keeps : (k : ℕ) (f : Fetched ℕ) → P k f.bus → P k (relative_to f).bus
  unfolding relative_to
  relative_keeps k f h = h

  indexed_keeps : (k i base pc : ℕ) (b : Bus) → P k b → P k (indexed_by i base pc b).bus
  unfolding indexed_by
  indexed_keeps k i base pc b h = h

  pointer_keeps : (k z : ℕ) (b : Bus) → P k b → P (suc (suc k)) (zero_page_pointer answers memory z b).bus
  unfolding zero_page_pointer
  pointer_keeps k z b h = read_address_keeps k z (wrapping8 z 1) b h

  pub locate_keeps : (mode : Mode) (k : ℕ) (r : CpuRegisters) (b : Bus) → P k b
      → P (reads_of_mode mode k) (locate_of answers memory mode r b).bus
  unfolding locate_of
  locate_keeps Implied k r b h = h
  locate_keeps Accumulator k r b h = h
  locate_keeps Immediate k r b h = h
  locate_keeps ZeroPage k r b h = fetch_keeps k r.pc b h
  locate_keeps ZeroPageX k r b h = fetch_keeps k r.pc b h
  locate_keeps ZeroPageY k r b h = fetch_keeps k r.pc b h
  locate_keeps Absolute k r b h = fetch_address_keeps k r.pc b h
  locate_keeps AbsoluteX k r b h =
      let f = fetch_address answers memory r.pc b in
      indexed_keeps (suc (suc k)) r.x f.value f.pc f.bus (fetch_address_keeps k r.pc b h)
  locate_keeps AbsoluteY k r b h =
      let f = fetch_address answers memory r.pc b in
      indexed_keeps (suc (suc k)) r.y f.value f.pc f.bus (fetch_address_keeps k r.pc b h)
  locate_keeps IndexedIndirect k r b h =
      let f = fetch_of answers memory r.pc b in
      pointer_keeps (suc k) (zero_page_address f.value r.x) f.bus (fetch_keeps k r.pc b h)
  locate_keeps IndirectIndexed k r b h =
      let f = fetch_of answers memory r.pc b in
      let w = zero_page_pointer answers memory f.value f.bus in
      indexed_keeps (suc (suc (suc k))) r.y w.value f.pc w.bus
      (pointer_keeps (suc k) f.value f.bus (fetch_keeps k r.pc b h))
  locate_keeps Indirect k r b h =
      let f = fetch_address answers memory r.pc b in
      read_address_keeps (suc (suc k)) f.value (second_address f.value) f.bus
      (fetch_address_keeps k r.pc b h)
  locate_keeps Relative k r b h = relative_keeps (suc k) (fetch_of answers memory r.pc b) (fetch_keeps k r.pc b h)
  locate_keeps ZeroPageRelative k r b h = fetch_keeps k r.pc b h
