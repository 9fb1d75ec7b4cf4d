-- Spans that go on through ticks: clocks in which nothing but the CPU does what can be seen.
use Rattle.std.specs.Prelude.{◌≡◌, true, false, List, ℕ, ◌+◌, ◌≤◌}
use Rattle.cpu_alu.specs.Status.{packed, unpacked}
use Rattle.r6501q_state.specs.declared.state.State.{State}
use Rattle.r6501q_state.specs.Control.{pending}
use Rattle.r6501q_cpu.specs.Processor.{cpu_of}
use Rattle.r6501q_events.specs.Events.{levels_change}
use Rattle.r6501q_events.specs.Gaps.{to_input}
use Rattle.r6501q_unseen.specs.Unseen.{peripherals_clocks, Unseen}
use Rattle.r6501q_spans.specs.declared.Working.{Working}

-- what is known of a state at the start of a span, n clocks being left: RES is high, neither reset nor NMI is due, no
-- flag that is enabled is set, P is as the machine keeps it, and in the span there is no input, no level changes, and
-- nothing is seen of the counters and the serial channel
pub record AloneSeen (n : ℕ) (s : State) (clocks : List ℕ) (span : ℕ) : Type 0 where
  pub res : s.last.res ≡ true
  pub reset : s.due.reset ≡ false
  pub nmi : s.due.nmi ≡ false
  pub flags : pending s.peripherals.control ≡ false
  pub status : packed (unpacked s.cpu.p) ≡ s.cpu.p
  pub left : span ≤ n
  pub input : span ≤ to_input n s.clock clocks
  pub change : levels_change s ≡ false
  pub unseen : Unseen span s.last.ports s.peripherals

-- the state in a span that began with `s`: counters and serial channel have gone on clock by clock
abbrev pub ticked_state : State → Working → State
ticked_state s v = record {
  cpu = cpu_of v.work.registers v.work.wait v.waiting;
  due = s.due;
  peripherals = peripherals_clocks v.work.gone.0 s.last.ports s.peripherals;
  external = s.external;
  last = s.last;
  clock = s.clock + v.work.gone.0;
}
