-- Closed forms: counter A over clocks in all of which it counts, and each half of the serial channel over ticks that
-- cannot be seen, with a number of ticks up to which they cannot.
use Rattle.std.specs.Prelude.{Bool, ◌&&◌, not, cond, ℕ, zero, suc, ◌+◌, ◌-◌, ◌*◌, ◌/◌, ◌%◌, min, leb, eqb}
use Rattle.bits.specs.Bits.{bit, one_where}
use Rattle.counters.specs.declared.a.CounterA.{CounterA}
use Rattle.counters.specs.Counters.{at_a}
use Rattle.serial_transmitter.specs.declared.Transmitter.{Transmitter}
use Rattle.serial_receiver.specs.declared.Receiver.{Receiver}
use Rattle.serial_format.specs.Format.{transmitter_shifts, receiver_asynchronous}
use Rattle.serial_format.specs.ScsrBits.{transmitter_empty}
use Rattle.serial_receiver.specs.Receiver.{with_level}
use Rattle.r6501q_state.specs.declared.state.Control.{Control}
use Rattle.r6501q_state.specs.declared.state.Peripherals.{Peripherals}
use Rattle.r6501q_state.specs.Control.{mode_in_force}

-- counter A's underflows in n clocks: the first after its count of clocks, then one in each latch + 1
unfoldable pub underflows_in : ℕ → CounterA → ℕ
underflows_in n c = cond (leb n c.count) 0 ((n - c.count - 1) / (c.latch + 1) + 1)

-- its count after n clocks
unfoldable pub count_after : ℕ → CounterA → ℕ
count_after n c = cond (leb n c.count) (c.count - n) (c.latch - (n - c.count - 1) % (c.latch + 1))

abbrev pub counter_after : ℕ → Bool → CounterA → CounterA
counter_after n counting c = at_a c (cond counting (count_after n c) c.count)

-- the most ticks that are passed together: their clocks, each latch + 1 at most 65,536, stay below 2,147,483,648
abbrev pub most_ticks : ℕ
most_ticks = 32767

-- and the looks in them
abbrev pub most_looks : ℕ
most_looks = 16383

-- ticks of the transmitter that cannot be seen: before the register is shifted where bits are left; all where none are
-- and no data waits
unfoldable pub unseen_sends : Transmitter → ℕ → ℕ → ℕ
unseen_sends t sccr scsr =
    cond (bit 7 sccr)
    (cond (eqb t.left 0) (cond (bit transmitter_empty scsr) most_ticks 0)
    (cond (transmitter_shifts sccr) 0 (15 - t.phase)))
    most_ticks

abbrev pub at_phase : Transmitter → ℕ → Transmitter
at_phase t n = record { left = t.left; phase = n; register = t.register }

-- it is on and has bits left
abbrev pub sends : Transmitter → ℕ → Bool
sends t sccr = bit 7 sccr && not (eqb t.left 0)

-- the transmitter after such ticks
unfoldable pub sent_after : ℕ → Transmitter → ℕ → Transmitter
sent_after ticks t sccr = cond (sends t sccr) (at_phase t (t.phase + ticks)) t

-- looks of the receiver that cannot be seen: before a start, or before the last bit of a frame
unfoldable pub unseen_looks : Receiver → Bool → ℕ
unseen_looks r high =
    cond (eqb r.left 0) (cond high most_looks (3 - r.subinterval)) (r.left * 8 - r.subinterval - 1)

-- ticks of the receiver that cannot be seen: a look is at every second one. A sub-interval out of range counts as seen
unfoldable pub unseen_listens : Receiver → ℕ → Bool → ℕ
unseen_listens r sccr high =
    cond (receiver_asynchronous sccr)
    (cond (leb r.subinterval 7) (2 * unseen_looks r high + 1 - one_where r.half) 0)
    most_ticks

-- a level shifted in as often as bits end
unfoldable pub with_levels : ℕ → ℕ → Bool → ℕ
with_levels zero register high = register
with_levels (suc n) register high = with_levels n (with_level register high) high

-- looks with no bits left: a high zeroes the sub-interval, and lows count
unfoldable pub waited_looks : ℕ → ℕ → Bool → ℕ
waited_looks looks subinterval high = cond high (cond (eqb looks 0) subinterval 0) (subinterval + looks)

abbrev pub waited_for : ℕ → Bool → Receiver → Bool → Receiver
waited_for looks half r high = record {
  subinterval = waited_looks looks r.subinterval high;
  half = half;
  left = r.left;
  register = r.register;
}

-- looks in a frame, of which each eighth ends a bit
abbrev pub taken_for : ℕ → Bool → Receiver → Bool → Receiver
taken_for looks half r high = record {
  subinterval = (r.subinterval + looks) % 8;
  half = half;
  left = r.left - (r.subinterval + looks) / 8;
  register = with_levels ((r.subinterval + looks) / 8) r.register high;
}

unfoldable pub looked_for : ℕ → Bool → Receiver → Bool → Receiver
looked_for looks half r high = cond (eqb r.left 0) (waited_for looks half r high) (taken_for looks half r high)

-- the receiver after such ticks, counted from the last look
abbrev pub listened_for : ℕ → Receiver → Bool → Receiver
listened_for ticks r high = looked_for (ticks / 2) (eqb (ticks % 2) 1) r high

unfoldable pub heard_after : ℕ → Receiver → ℕ → Bool → Receiver
heard_after ticks r sccr high =
    cond (receiver_asynchronous sccr && leb r.subinterval 7) (listened_for (ticks + one_where r.half) r high) r

-- an underflow of counter A changes neither a flag nor a latch: IFR4 is set, and A is not in mode 01
unfoldable pub underflow_unseen : Control → Bool
underflow_unseen c = bit 4 c.ifr && not (eqb (mode_in_force c) 1)

-- ticks that cannot be seen, at least
unfoldable pub unseen_ticks : ℕ → Peripherals → ℕ
unseen_ticks ports p =
    cond (underflow_unseen p.control)
    (min (unseen_sends p.transmitter p.control.sccr p.control.scsr)
    (unseen_listens p.receiver p.control.sccr (bit 7 ports)))
    0
