-- 01, Registers: "in mode 01, 1Ah inverts PA4's latch". It is the mode in force: SCCR's hold of counter A to mode 00
-- counts.
use mathlib.Core.Path.{◌≡◌, ap}
use mathlib.Core.Bool.{true}
use Prim.Native.Nat.{ℕ, ◌%◌}
use lib.Dec.{eqb}
use Rattle.bits.specs.Bits.{flip_where}
use Rattle.counters.specs.Counters.{in_force}
use Rattle.serial_format.specs.Format.{holds_a}
use Rattle.r6501q_state.specs.declared.state.Peripherals.{Peripherals}
use Rattle.r6501q_state.specs.Control.{mode_a}
use Rattle.r6501q_registers.specs.Write.{start_a}

-- while counter A is held, a write of 1Ah inverts nothing
pub held_start : (p : Peripherals) (v : ℕ) → holds_a p.control.sccr ≡ true → (start_a p v).ports.a ≡ p.ports.a
unfolding start_a mode_a in_force flip_where
held_start p v h = ap (λ held. flip_where 4 (eqb (in_force held (p.control.mcr % 4)) 1) p.ports.a) h
