-- Document 01, "One clock", 2: the counters. Modes are 01's bit pairs as numbers, 00 to 11 being 0 to 3.
use Rattle.std.specs.Prelude.{Bool, true, false, ◌&&◌, not, cond, ℕ, ◌-◌, ltb, eqb}
use Rattle.bits.specs.Bits.{low_byte, high_byte, word16, one_where}
use Rattle.counters.specs.declared.time.Clocks.{Clocks}
use Rattle.counters.specs.declared.time.Ticks.{Ticks}
use Rattle.counters.specs.declared.a.CounterA.{CounterA}
use Rattle.counters.specs.declared.b.CounterB.{CounterB}
use Rattle.counters.specs.declared.Counted.{Counted}

-- 01, One clock, 3: "at each underflow of A; that is a tick"
unfoldable pub ticks_of : Bool → Ticks
ticks_of underflow = record { 0 = one_where underflow }

-- "holds A to mode 00"
unfoldable pub in_force : Bool → ℕ → ℕ
in_force held mode = cond held 0 mode

-- "01 pulse, .. each underflow inverting PA4's (A) or PA5's latch (B)"
abbrev pub toggles : ℕ → Bool → Bool
toggles mode underflow = underflow && eqb mode 1

-- a counter after a clock, and whether it underflowed
abbrev pub CountedA : Type 0
CountedA = Counted CounterA

abbrev pub CountedB : Type 0
CountedB = Counted CounterB

abbrev pub counted_a : CounterA → Bool → CountedA
counted_a c u = record { counter = c; underflow = u }

abbrev pub at_a : CounterA → ℕ → CounterA
at_a c n = record { count = n; latch = c.latch }

-- "Going down from 0000h is an underflow: reload from the latch"
unfoldable pub down_a : CounterA → CountedA
down_a c = cond (eqb c.count 0) (counted_a (at_a c c.latch) true) (counted_a (at_a c (c.count - 1)) false)

-- "00 interval, a count each clock; 01 pulse, as 00, ..; 10 a count at each rise of PA4 or PA5; 11 for A a count each
-- clock with PA4 low"
unfoldable pub counts_a : ℕ → Bool → Bool → Bool
counts_a mode rise is_low = cond (ltb mode 2) true (cond (eqb mode 2) rise is_low)

unfoldable pub clock_a : CounterA → ℕ → Bool → Bool → CountedA
clock_a c mode rise is_low = cond (counts_a mode rise is_low) (down_a c) (counted_a c false)

-- 01, Run and leaps: "each counter that counts in all of it": in a gap no pin changes, so there is no rise
unfoldable pub counts_through_a : ℕ → Bool → Bool
counts_through_a mode is_low = counts_a mode false is_low

-- "the gap passed: .. each counter that counts in all of it minus gap"
unfoldable pub pass_a : CounterA → Bool → Clocks → CounterA
pass_a c counting gap = at_a c (cond counting (c.count - gap.0) c.count)

-- 001, 6.1: the latch's bytes, and "the contents of the 16-bit latch are transferred to Counter A"
unfoldable pub lower_a : CounterA → ℕ → CounterA
lower_a c v = record { count = c.count; latch = word16 (high_byte c.latch) v }

unfoldable pub upper_a : CounterA → ℕ → CounterA
upper_a c v = record { count = c.count; latch = word16 v (low_byte c.latch) }

unfoldable pub load_counter_a : CounterA → CounterA
load_counter_a c = at_a c c.latch

abbrev pub counted_b : CounterB → Bool → CountedB
counted_b c u = record { counter = c; underflow = u }

abbrev pub at_b : CounterB → ℕ → Bool → CounterB
at_b c n turn = record { count = n; latchb = c.latchb; latchc = c.latchc; turnc = turn }

-- "B in 01 reloads from latches C and B by turns"; in the other modes from latch B, and the turn stays
unfoldable pub reload_b : CounterB → ℕ → CounterB
reload_b c mode =
    cond (eqb mode 1) (at_b c (cond c.turnc c.latchc c.latchb) (not c.turnc))
    (at_b c c.latchb c.turnc)

unfoldable pub down_b : CounterB → ℕ → CountedB
down_b c mode =
    cond (eqb c.count 0) (counted_b (reload_b c mode) true) (counted_b (at_b c (c.count - 1) c.turnc) false)

-- 00, 01 and 10 as for A, with PA5; "11 .. for B interval with reload and no count at a rise of PA5"
unfoldable pub clock_b : CounterB → ℕ → Bool → CountedB
clock_b c mode rise =
    cond (ltb mode 2) (down_b c mode)
    (cond (eqb mode 2) (cond rise (down_b c mode) (counted_b c false))
    (cond rise (counted_b (reload_b c mode) false) (down_b c mode)))

unfoldable pub counts_through_b : ℕ → Bool
counts_through_b mode = not (eqb mode 2)

unfoldable pub pass_b : CounterB → Bool → Clocks → CounterB
pass_b c counting gap = at_b c (cond counting (c.count - gap.0) c.count) c.turnc

abbrev pub latches_b : CounterB → ℕ → ℕ → CounterB
latches_b c b c' = record { count = c.count; latchb = b; latchc = c'; turnc = c.turnc }

-- 001, 6.2: latch B's bytes, latch C a copy of it, the counter loaded from latch B
unfoldable pub lower_b : CounterB → ℕ → CounterB
lower_b c v = latches_b c (word16 (high_byte c.latchb) v) c.latchc

unfoldable pub upper_b : CounterB → ℕ → CounterB
upper_b c v = latches_b c (word16 v (low_byte c.latchb)) c.latchc

unfoldable pub copy_b : CounterB → CounterB
copy_b c = latches_b c c.latchb c.latchb

unfoldable pub load_counter_b : CounterB → CounterB
load_counter_b c = at_b c c.latchb c.turnc

-- 01, Registers: "makes the turn C"
unfoldable pub turn_to_c : CounterB → CounterB
turn_to_c c = at_b c c.count true
