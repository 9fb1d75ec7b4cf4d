-- Document 01, "Run and leaps": the gap and the gap passed.
use Rattle.std.specs.Prelude.{Bool, not, cond, List, [], ◌∷◌, ℕ, ◌+◌, ◌-◌, min}
use Rattle.bits.specs.Bits.{bit, one_where}
use Rattle.cpu_access.specs.Waiting.{byte_waits}
use Rattle.counters.specs.declared.time.Clocks.{Clocks}
use Rattle.counters.specs.Counters.{counts_through_a, counts_through_b, pass_a, pass_b}
use Rattle.r6501q_state.specs.declared.state.Control.{Control}
use Rattle.r6501q_state.specs.declared.state.Cpu.{Cpu}
use Rattle.r6501q_state.specs.declared.state.Peripherals.{Peripherals}
use Rattle.r6501q_state.specs.declared.state.State.{State}
use Rattle.r6501q_state.specs.Copies.{at_wait, with_counter_a, with_counter_b}
use Rattle.r6501q_state.specs.Control.{mode_a, mode_b}
use Rattle.r6501q_events.specs.Events.{levels_change, reset_changes}

abbrev pub clocks_of : ℕ → Clocks
clocks_of n = record { 0 = n }

-- a counter that "counts in all of" a gap: A by its mode in force and PA4's level
unfoldable pub counting_a : Control → ℕ → Bool
counting_a c ports = counts_through_a (mode_a c.mcr c.sccr) (not (bit 4 ports))

-- and B by its mode
unfoldable pub counting_b : Control → Bool
counting_b c = counts_through_b (mode_b c.mcr)

-- The clocks before the next event clock of each kind, where there is one to be seen, else the n that are left.
-- An input: of the rest of the input list, the first entry's clock
unfoldable pub to_input : ℕ → ℕ → List ℕ → ℕ
to_input n clock [] = n
to_input n clock (t ∷ ts) = t - clock - 1

-- "pin levels unlike the last ones": the next clock sees them
unfoldable pub to_change : ℕ → State → ℕ
to_change n s = cond (levels_change s) 0 n

-- "an underflow": from 0000h, so that a counter which counts has its count of clocks before it
unfoldable pub to_underflow_a : ℕ → State → ℕ
to_underflow_a n s = cond (counting_a s.peripherals.control s.last.ports) s.peripherals.countera.count n

unfoldable pub to_underflow_b : ℕ → State → ℕ
to_underflow_b n s = cond (counting_b s.peripherals.control) s.peripherals.counterb.count n

-- "RES low changes any field": the next clock does it
unfoldable pub to_reset : ℕ → State → ℕ
to_reset n s = cond (reset_changes s) 0 n

-- the clocks before the CPU acts, where RES is high: before it starts, its wait; before it puts a byte that waits, one
-- less (02, U6: "on its last clock")
unfoldable pub until_cpu : Cpu → ℕ
until_cpu c = c.wait - one_where (byte_waits c.waiting)

-- "the CPU starts"; 02, U6: "A last clock with a byte waiting"
unfoldable pub to_cpu : ℕ → State → ℕ
to_cpu n s = cond s.last.res (until_cpu s.cpu) n

-- "the gap (clocks before the next event clock, at most those left), the least over the kinds of event": n clocks are
-- left, and `clocks` are those of the rest of the input list
unfoldable pub gap_of : ℕ → State → List ℕ → Clocks
gap_of n s clocks =
    clocks_of (min n (min (to_input n s.clock clocks) (min (to_change n s)
    (min (to_underflow_a n s) (min (to_underflow_b n s) (min (to_reset n s) (to_cpu n s)))))))

-- "wait too if RES is high"
unfoldable pub wait_after : ℕ → Bool → Clocks → ℕ
wait_after wait high gap = cond high (wait - gap.0) wait

-- "each counter that counts in all of it minus gap"
abbrev pub pass_counters : Peripherals → ℕ → Clocks → Peripherals
pass_counters p ports gap =
    with_counter_b (with_counter_a p (pass_a p.countera (counting_a p.control ports) gap))
    (pass_b p.counterb (counting_b p.control) gap)

-- "the gap passed: clock plus gap, each counter that counts in all of it minus gap, wait too if RES is high, nothing
-- else"
unfoldable pub pass_of : State → Clocks → State
pass_of s gap = record {
  cpu = at_wait s.cpu (wait_after s.cpu.wait s.last.res gap);
  due = s.due;
  peripherals = pass_counters s.peripherals s.last.ports gap;
  external = s.external;
  last = s.last;
  clock = s.clock + gap.0;
}
