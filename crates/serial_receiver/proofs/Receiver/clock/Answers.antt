use mathlib.Core.Path.{◌≡◌, sym}
use mathlib.Core.Bool.{Bool, true, false, ◌&&◌, not}
use Prim.Native.Nat.{ℕ}
use lib.Dec.{eqb}
use Rattle.counters.specs.declared.time.Ticks.{Ticks}
use Rattle.serial_receiver.specs.declared.Receiver.{Receiver}
use Rattle.serial_format.specs.Format.{receiver_asynchronous, receiver_shifting}
use Rattle.serial_receiver.specs.Receiver.{receive_rise}
use Rattle.serial_receiver.specs.Receiver.{receiver_clock}
use Rattle.serial_receiver.proofs.Receiver.clock.Goals as goal

-- a rise where no tick is taken
at-rise : (r : Receiver) (ticks : Ticks) (rise : Bool) (sccr scsr received : ℕ) (high : Bool)
    → (not (eqb ticks.0 0) && receiver_asynchronous sccr) ≡ false → (rise && receiver_shifting sccr) ≡ true
    → receiver_clock r ticks rise sccr scsr received high ≡ receive_rise r scsr received high
unfolding receiver_clock
at-rise r ticks rise sccr scsr received high e f = rw (e, f)

pub returns-then-asynchronous : goal.returns-then-asynchronous
unfolding receiver_clock
returns-then-asynchronous c = rw (← c.receiver_asynchronous.ensures, ← c.tick.ensures, c.if-asynchronous.true)

pub returns-then-shifting : goal.returns-then-shifting
unfolding receiver_clock
returns-then-shifting c =
    let a = c.args in
    rw c.rise.ensures
    (sym (at-rise a.self a.ticks a.rise a.sccr a.scsr a.received a.high
    (rw c.receiver_asynchronous.ensures at c.if-asynchronous.false)
    (rw c.receiver_shifting.ensures at c.if-shifting.true)))

pub returns : goal.returns
unfolding receiver_clock
returns c = rw (
  ← c.receiver_asynchronous.ensures,
  ← c.receiver_shifting.ensures,
  c.if-shifting.false,
  c.if-asynchronous.false,
)
