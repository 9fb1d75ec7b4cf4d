-- Accesses to memory and registers, one after the other: 01, One clock, 4, "All its reads and writes happen now, each
-- once, idle bus accesses none." First which they are, then what comes of them, with the register file of any chip.
use Rattle.std.specs.Prelude.{ℕ, ◌+◌, Bool, true, false, cond, List, [], ◌∷◌, ◌++◌, length, ◌==◌}
use Rattle.bits.specs.Bits.{word16}
use Rattle.memory.specs.Memory.{is_register}
use Rattle.cpu_access.specs.declared.stack.Write.{Write}
use Rattle.cpu_access.specs.declared.stack.Writes.{Writes}
use Rattle.cpu_access.specs.Bus.{memory_byte}
use Rattle.cpu_access.specs.Stack.{write_at, no_writes, one_write, two_writes, stack_address}

-- They are over, with what came of them; or a byte is read, and what follows depends on it; or a byte is written.
-- `modify`: it is the read of a read-modify-write instruction (001, 4.1).
pub data Accesses (A : Type 0) : Type 0 where
  ends : A → Accesses A
  reads : (modify : Bool) (address : ℕ) → (ℕ → Accesses A) → Accesses A
  writes : (address value : ℕ) → Accesses A → Accesses A

infixl 10 ◌>>=◌ ◌>>◌
-- In a `do`, `v ← t` is the accesses t, of which v comes; what stands below follows.
abbrev pub ◌>>=◌ : {A B : Type 0} → Accesses A → (A → Accesses B) → Accesses B
◌>>=◌ (ends x) next = next x
◌>>=◌ (reads modify a go) next = reads modify a (λ (v : ℕ). go v >>= next)
◌>>=◌ (writes a v t) next = writes a v (t >>= next)

abbrev pub ◌>>◌ : {A B : Type 0} → Accesses A → Accesses B → Accesses B
◌>>◌ t next = t >>= (λ _. next)

-- a byte read
abbrev pub byte_at : ℕ → Accesses ℕ
byte_at a = reads false a ends

-- and by a read-modify-write instruction
abbrev pub byte_to_modify : ℕ → Accesses ℕ
byte_to_modify a = reads true a ends

-- two bytes read, the low byte first
abbrev pub address_at : ℕ → ℕ → Accesses ℕ
address_at a b = do
  l ← byte_at a
  h ← byte_at b
  ends (word16 h l)

-- a byte written at SP
abbrev pub push : ℕ → ℕ → Accesses (Unit {0})
push sp v = writes (stack_address sp) v (ends tt)

-- ---- what comes of them

-- a chip's register file: what a read gives by its peripherals, what the read leaves of them, and what a write leaves
pub record RegisterFile (P : Type 0) : Type 0 where
  pub value : P → Bool → ℕ → ℕ
  pub after_read : P → ℕ → P
  pub after_write : P → ℕ → ℕ → P

-- what they end with, the peripherals after them, and the writes, in their order
pub record Performed (P A : Type 0) : Type 0 where
  pub end : A
  pub peripherals : P
  pub writes : List Write

-- what stands at address a after the writes, where v stood before
unfoldable pub byte_after : List Write → ℕ → ℕ → ℕ
byte_after [] a v = v
byte_after (w ∷ ws) a v = byte_after ws a (cond (w.address == a) w.value v)

module _ {P : Type 0} (file : RegisterFile P) where
  -- reads and writes below 40h have their effects
  unfoldable pub peripherals_read : P → ℕ → P
  peripherals_read p a = cond (is_register a) (file.after_read p a) p

  unfoldable pub peripherals_written : P → ℕ → ℕ → P
  peripherals_written p a v = cond (is_register a) (file.after_write p a v) p

  -- a read below 40h gives the register's value as it is then, any other the byte of memory as the writes before it
  -- leave it
  unfoldable pub value_read : List ℕ → P → List Write → Bool → ℕ → ℕ
  value_read memory p before modify a =
      cond (is_register a) (file.value p modify a) (byte_after before a (memory_byte memory a))

  -- one after the other; `before` are the writes so far, and every write is told
  unfoldable pub performed : {A : Type 0} → List ℕ → P → List Write → Accesses A → Performed P A
  performed memory p before (ends x) = record { end = x; peripherals = p; writes = before }
  performed memory p before (reads modify a go) =
      performed memory (peripherals_read p a) before (go (value_read memory p before modify a))
  performed memory p before (writes a v t) =
      performed memory (peripherals_written p a v) (before ++ (write_at a v ∷ [])) t

-- the writes as a clock hands them on: no instruction makes more than three (`done_fits` of `cpu/proofs/Laws.antt`)
unfoldable pub in_order : List Write → Writes
in_order [] = no_writes
in_order (a ∷ []) = one_write a
in_order (a ∷ b ∷ []) = two_writes a b
in_order (a ∷ b ∷ c ∷ more) = record { count = 3 + length more; first = a; second = b; third = c }
