-- Document 02, U6, "Stores appear on the last clock": "The state then holds one byte waiting, with its address, or
-- none."
use Rattle.std.specs.Prelude.{Bool, Option, is_some}
use Rattle.cpu_access.specs.declared.stack.Write.{Write}

abbrev pub byte_waits : Option Write → Bool
byte_waits = is_some
