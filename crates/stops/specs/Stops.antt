-- The numbers of what ends a call before all its clocks are done.
use Rattle.std.specs.Prelude.{ℕ, Option, None, Some}
use Rattle.stops.specs.declared.Stop.{Stop}
use Rattle.stops.specs.declared.Stop.TheVariants.{Undefined, Full, Halted}

-- 01, What is handed back: "6 | the next clock would start an undefined opcode", "7 | the next clock needs a record,
-- none free"; 02, U4: "12: halted at a write"
abbrev pub stop_number : Stop → ℕ
stop_number Undefined = 6
stop_number Full = 7
stop_number Halted = 12

-- 0 where nothing stopped
abbrev pub number_of : Option Stop → ℕ
number_of None = 0
number_of (Some stop) = stop_number stop
