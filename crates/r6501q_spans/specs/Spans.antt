-- Spans: clocks in which nothing but the CPU does what can be seen.
use Rattle.std.specs.Prelude.{Bool, ◌&&◌, not, eqb, None}
use Rattle.cpu_alu.specs.Status.{packed, unpacked}
use Rattle.r6501q_state.specs.declared.state.State.{State}
use Rattle.r6501q_state.specs.Control.{pending}
use Rattle.cpu_effects.specs.declared.Worked.{Worked}
use Rattle.cpu_effects.specs.Effects.{waiting_of}
use Rattle.cpu.specs.declared.work.Work.{Work}
use Rattle.cpu.specs.Work.{next_work, waited_out}
use Rattle.r6501q_cpu.specs.Processor.{registers_of}
use Rattle.r6501q_events.specs.Gaps.{clocks_of}
use Rattle.r6501q_spans.specs.declared.Working.{Working}

-- RES is high, neither reset nor NMI is due, and no flag that is enabled is set; P is as the machine keeps it (01,
-- Machine state: "Bits 4 and 5 of P are 0")
unfoldable pub only_cpu : State → Bool
only_cpu s =
    (s.last.res && not s.due.reset && not s.due.nmi)
    && not (pending s.peripherals.control)
    && eqb (packed (unpacked s.cpu.p)) s.cpu.p

abbrev pub begin_work : State → Working
begin_work s = record {
  work = record { registers = registers_of s.cpu; wait = s.cpu.wait; gone = clocks_of 0; leaps = 0 };
  waiting = s.cpu.waiting;
}

abbrev pub none_waiting : Work → Working
none_waiting w = record { work = w; waiting = None }

-- an instruction that was worked out
abbrev pub next_working : Work → Worked → Working
next_working w worked = record { work = next_work w worked; waiting = waiting_of worked.writing }

-- the clocks waited, on the last of which the byte is put
abbrev pub put_work : Work → Working
put_work w = none_waiting (waited_out w)
