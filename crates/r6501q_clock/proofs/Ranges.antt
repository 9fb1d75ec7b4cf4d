-- Steps 1 to 3 take well-formed states to well-formed states: of the fields that `well_formed` tests. (The clock is
-- below its largest number where a clock is done.)
use mathlib.Core.Path.{◌≡◌, refl}
use mathlib.Core.Bool.{true}
use mathlib.Core.List.{List}
use Prim.Native.Nat.{ℕ, ◌+◌}
use native.Mathlib.Omega.{arith}
use Rattle.bits.specs.Bits.{bit}
use Rattle.bits.proofs.Cond.{cond_both}
use Rattle.counters.specs.declared.time.Ticks.{Ticks}
use Rattle.serial.proofs.Ranges.{transmitter_clock_fits, receiver_clock_fits}
use Rattle.r6501q_state.specs.declared.state.Peripherals.{Peripherals}
use Rattle.r6501q_state.specs.declared.state.State.{State}
use Rattle.r6501q_state.specs.State.{peripherals_fit, well_formed}
use Rattle.r6501q_state.specs.Pins.{levels_of, rose, with_edges, reset_of, sensed_at, sensed}
use Rattle.r6501q_state.proofs.Ranges.{InPeripherals, in_peripherals, fit_peripherals, set_lt, formed, formed_cpu}
use Rattle.r6501q_state.proofs.Ranges.{formed_peripherals, sensed_formed}
use Rattle.r6501q_clock.specs.Clock.{inputs_set, count_a, count_b, sent_by, heard_by, peripherals_clock}
use Rattle.r6501q_clock.specs.Clock.{before_cpu}

counted_a_in : (p : Peripherals) (before now : ℕ) → InPeripherals p → InPeripherals (count_a p before now).peripherals
unfolding count_a
counted_a_in p before now i =
    record {
      ifr = set_lt 4 p.control.ifr _ (omega arith) i.ifr;
      transmitter = i.transmitter;
      receiver = i.receiver;
    }

counted_b_in : (p : Peripherals) (before now : ℕ) → InPeripherals p → InPeripherals (count_b p before now)
unfolding count_b
counted_b_in p before now i =
    record {
      ifr = set_lt 5 p.control.ifr _ (omega arith) i.ifr;
      transmitter = i.transmitter;
      receiver = i.receiver;
    }

sent_in : (p : Peripherals) (ticks : Ticks) → InPeripherals p → InPeripherals (sent_by p ticks)
unfolding sent_by
sent_in p ticks i = record {
  ifr = i.ifr;
  receiver = i.receiver;
  transmitter =
      transmitter_clock_fits p.transmitter ticks p.control.sccr p.control.scsr p.serial.sent
      i.transmitter;
}

heard_in : (p : Peripherals) (ticks : Ticks) (before now : ℕ) → InPeripherals p
    → InPeripherals (heard_by p ticks before now)
unfolding heard_by
heard_in p ticks before now i = record {
  ifr = i.ifr;
  transmitter = i.transmitter;
  receiver =
      receiver_clock_fits p.receiver ticks (rose 4 before now) p.control.sccr p.control.scsr
      p.serial.received (bit 7 now) i.receiver;
}

-- steps 2 and 3
pub peripherals_clock_fits : (p : Peripherals) (before now : ℕ) → peripherals_fit p ≡ true
    → peripherals_fit (peripherals_clock p before now) ≡ true
unfolding peripherals_clock
peripherals_clock_fits p before now e =
    let a = count_a p before now in
    fit_peripherals _ (heard_in _ a.ticks before now
    (sent_in _ a.ticks (counted_b_in a.peripherals before now (counted_a_in p before now (in_peripherals p e)))))

-- steps 1 to 3
pub before_cpu_formed : (s : State) (codes : List ℕ) → well_formed s ≡ true → well_formed (before_cpu s codes) ≡ true
unfolding before_cpu
before_cpu_formed s codes e =
    let t = sensed (inputs_set s codes) in
    let f = sensed_formed (inputs_set s codes) (formed (inputs_set s codes) (formed_cpu s e) (formed_peripherals s e)) in
    formed (before_cpu s codes) (formed_cpu t f)
    (peripherals_clock_fits t.peripherals s.last.ports t.last.ports (formed_peripherals t f))

-- "Clock plus 1"
pub before_cpu_clock : (s : State) (codes : List ℕ) → (before_cpu s codes).clock ≡ s.clock + 1
unfolding before_cpu sensed sensed_at with_edges reset_of
before_cpu_clock s codes =
    cond_both (λ (t : State). t.clock ≡ s.clock + 1) (levels_of (inputs_set s codes)).res
    (with_edges (inputs_set s codes) (levels_of (inputs_set s codes)))
    (reset_of (with_edges (inputs_set s codes) (levels_of (inputs_set s codes)))) (λ _. refl) (λ _. refl)
