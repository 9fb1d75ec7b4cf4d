-- Document 01, "Pin lists": the R6501Q's last pin, and the external level that an input sets.
use Rattle.std.specs.Prelude.{Bool, cond, ℕ, ltb, eqb}
use Rattle.bits.specs.Bits.{with_bit}
use Rattle.pin_lists.specs.PinLists.{pin_of, high_of}
use Rattle.r6501q_state.specs.declared.state.Levels.{Levels}

-- "33 RES"
abbrev pub last_pin : ℕ
last_pin = 33

-- RES high: "33 RES, plus 64 where the new level is high"
abbrev pub res_high : ℕ
res_high = 97

abbrev pub levels_at : ℕ → Bool → Bool → Levels
levels_at ports nmi res = record { ports = ports; nmi = nmi; res = res }

-- 01, One clock, 1: "inputs of that clock set external levels"; a pin list has only right codes, for which this is
-- meant
unfoldable pub with_input : Levels → ℕ → Levels
with_input l code =
    cond (ltb (pin_of code) 32) (levels_at (with_bit (pin_of code) (high_of code) l.ports) l.nmi l.res)
    (cond (eqb (pin_of code) 32) (levels_at l.ports (high_of code) l.res)
    (levels_at l.ports l.nmi (high_of code)))
