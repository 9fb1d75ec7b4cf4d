-- Document 01, "Machine state": the lent memory, and its first addresses, which are the registers'.
use Rattle.std.specs.Prelude.{Bool, List, ◌++◌, ℕ, ltb, drop}

-- "Memory: a lent slice of 65,536 bytes."
abbrev pub memory_length : ℕ
memory_length = 65536

-- "Its bytes at 0 to 3Fh, the registers, are never touched": memory's bytes below this are the registers
abbrev pub register_end : ℕ
register_end = 0x40

abbrev pub is_register : ℕ → Bool
is_register a = ltb a register_end

-- a memory with other bytes at 0 to 3Fh, `first` being 40h of them
unfoldable pub with_untouched : List ℕ → List ℕ → List ℕ
with_untouched first memory = first ++ drop register_end memory
