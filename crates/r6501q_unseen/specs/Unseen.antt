-- Clocks between which no port level changes, of which nothing can be seen but what counts: counters A and B go on, and
-- the serial channel's progress; flags, control registers, port latches, serial data and driven word stay.
use Rattle.std.specs.Prelude.{◌≡◌, Bool, true, ◌&&◌, cond, ℕ, zero, suc, ◌+◌, ◌-◌, ◌%◌, ◌≤◌, leb, eqb}
use Rattle.bits.specs.Bits.{one_where}
use Rattle.r6501q_state.specs.declared.state.Peripherals.{Peripherals}
use Rattle.r6501q_state.specs.Pins.{driven_word}
use Rattle.r6501q_clock.specs.Clock.{peripherals_clock}
use Rattle.r6501q_events.specs.Gaps.{counting_a, counting_b}
use Rattle.r6501q_unseen.specs.declared.Ticking.{Ticking}
use Rattle.r6501q_unseen.specs.Ticks.{unseen_ticks}

-- steps 2 and 3 of n clocks, one after the other
unfoldable pub peripherals_clocks : ℕ → ℕ → Peripherals → Peripherals
peripherals_clocks zero ports p = p
peripherals_clocks (suc n) ports p = peripherals_clocks n ports (peripherals_clock p ports ports)

-- the next clock has a tick: counter A counts, down from 0000h
unfoldable pub ticks_next : ℕ → Peripherals → Bool
ticks_next ports p = counting_a p.control ports && eqb p.countera.count 0

-- how many of the next n clocks have one
unfoldable pub ticks_in : ℕ → ℕ → Peripherals → ℕ
ticks_in zero ports p = 0
ticks_in (suc n) ports p = one_where (ticks_next ports p) + ticks_in n ports (peripherals_clock p ports ports)

-- all that the CPU, the pins and the records can see, but for the two counters' counts
pub record SameSeen (p q : Peripherals) : Type 0 where
  pub ports : q.ports ≡ p.ports
  pub control : q.control ≡ p.control
  pub serial : q.serial ≡ p.serial
  pub word : driven_word q ≡ driven_word p

-- of n clocks nothing is seen, and counter B does not underflow in them; nor have they more ticks than have a closed
-- form
pub record Unseen (n ports : ℕ) (p : Peripherals) : Type 0 where
  pub same : (k : ℕ) → k ≤ n → SameSeen p (peripherals_clocks k ports p)
  pub counter_b : counting_b p.control ≡ true → n ≤ p.counterb.count
  pub ticks : ticks_in n ports p ≤ unseen_ticks ports p

-- the clocks with a tick, the next one being clock 1: the first, and then one in each period
unfoldable pub on_tick : Ticking → ℕ → Bool
on_tick t g = leb t.first g && eqb ((g - t.first) % t.period) 0

-- those of counter A; where it does not count, none that clocks passed together reach
unfoldable pub ticking_of : ℕ → Peripherals → Ticking
ticking_of ports p =
    cond (counting_a p.control ports) (record { first = p.countera.count + 1; period = p.countera.latch + 1 })
    (record { first = 4294967295; period = 1 })
