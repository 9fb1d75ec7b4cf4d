-- JMP indirect's second address (document 02, U5), of pointers of 16 bits: laws, and its examples in one table under
-- one theorem.
use Rattle.std.proofs.Common.{◌≡◌, ℕ, ◌+◌, ◌-◌, ◌*◌, ◌/◌, ◌%◌, ◌<◌, refl, arith}
use Rattle.cpu_access.specs.Bus.{next_address}
use Rattle.cpu_modes.specs.Modes.{second_address}

pub record Examples : Type 0 where
  -- "pointer 02FFh takes 02FFh and 0200h"
  pub page_two : second_address 0x02FF ≡ 0x0200
  -- port A's register; the last page, and no register
  pub page_zero : second_address 0x00FF ≡ 0x0000
  pub last_page : second_address 0xFFFF ≡ 0xFF00
  -- from the last register into memory
  pub behind_the_registers : second_address 0x003F ≡ 0x0040

pub examples : Examples
examples = record { page_two = refl; page_zero = refl; last_page = refl; behind_the_registers = refl }

module _ (p : ℕ) (sixteen : p < 65536) where
  -- the page of the pointer, and its low byte plus 1
  pub same_page : second_address p ≡ p / 256 * 256 + (p + 1) % 256
  same_page = omega arith

  -- "other pointers being unaffected": the high byte is at the pointer plus 1
  pub inside_a_page : (p % 256 ≡ 255 → ⊥) → second_address p ≡ next_address p
  inside_a_page h = omega arith

  -- "from the start of that same page"
  pub at_a_pages_end : p % 256 ≡ 255 → second_address p ≡ p - 255
  at_a_pages_end h = omega arith
