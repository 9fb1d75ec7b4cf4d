-- What it means that a number was read off a line.
use Rattle.std.specs.Prelude.{◌≡◌, ℕ, ◌+◌, ◌^◌, ◌<◌, List, take, drop}
use Rattle.record_text.specs.Lines.{digits_of}

-- the `count` characters from `from` on are those that write the value in hex, and the line goes on at `rest`
pub record Read (line : List ℕ) (from count value rest : ℕ) : Type 0 where
  pub text : take count (drop from line) ≡ digits_of 16 count value
  pub small : value < 16 ^ count
  pub past : rest ≡ from + count
