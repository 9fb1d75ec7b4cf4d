-- Document 01, "Run and leaps": "An event clock is one with an input, with pin levels unlike the last ones, with an
-- underflow, where RES low changes any field, or where the CPU starts."
use Rattle.std.specs.Prelude.{Bool, true, false, ◌&&◌, not, List, [], ◌∷◌, ℕ, eqb}
use Rattle.std.specs.Bool.{beq}
use Rattle.bits.specs.Bits.{bit}
use Rattle.bits.specs.Lists.{any_of}
use Rattle.counters.specs.Counters.{clock_a, clock_b}
use Rattle.serial_transmitter.specs.declared.Transmitter.{Transmitter}
use Rattle.serial_receiver.specs.declared.Receiver.{Receiver}
use Rattle.r6501q_state.specs.declared.state.Ports.{Ports}
use Rattle.r6501q_state.specs.declared.state.Control.{Control}
use Rattle.r6501q_state.specs.declared.state.Levels.{Levels}
use Rattle.r6501q_state.specs.declared.state.State.{State}
use Rattle.cpu_access.specs.Waiting.{byte_waits}
use Rattle.r6501q_state.specs.Pins.{levels_of, rose, with_edges, sensed}
use Rattle.r6501q_state.specs.Control.{mode_a, mode_b}
use Rattle.r6501q_clock.specs.Clock.{inputs_set}

-- "with an input", given the codes of the clock's inputs
unfoldable pub has_input : List ℕ → Bool
has_input [] = false
has_input (code ∷ codes) = true

-- two levels of the 34 pins are the same (`same_levels_lem`, `levels_same` of `r6501q_events/proofs/Same.antt`)
unfoldable pub same_levels : Levels → Levels → Bool
same_levels a b = eqb a.ports b.ports && beq a.nmi b.nmi && beq a.res b.res

-- "with pin levels unlike the last ones", of a state whose external levels are this clock's
unfoldable pub levels_change : State → Bool
levels_change s = not (same_levels (levels_of s) s.last)

-- "with an underflow": counter A's in step 2, from the state that step 1 leaves; `before` are the port levels before
-- step 1
unfoldable pub underflows_a : ℕ → State → Bool
underflows_a before s =
    (clock_a s.peripherals.countera (mode_a s.peripherals.control.mcr s.peripherals.control.sccr)
    (rose 4 before s.last.ports) (not (bit 4 s.last.ports))).underflow

-- and counter B's, which A's part of step 2 leaves as it is
unfoldable pub underflows_b : ℕ → State → Bool
underflows_b before s =
    (clock_b s.peripherals.counterb (mode_b s.peripherals.control.mcr) (rose 5 before s.last.ports)).underflow

-- what RES low puts stands there already: "the fresh values of port latches, MCR, SCCR, SCSR, IER, IFR and serial
-- progress"
unfoldable pub ports_fresh : Ports → Bool
ports_fresh p = eqb p.a 0xFF && eqb p.b 0xFF && eqb p.c 0xFF && eqb p.d 0xFF

unfoldable pub control_fresh : Control → Bool
control_fresh c = eqb c.ifr 0 && eqb c.ier 0 && eqb c.mcr 0 && eqb c.sccr 0 && eqb c.scsr 0x40

unfoldable pub transmitter_idle : Transmitter → Bool
transmitter_idle t = eqb t.left 0 && eqb t.phase 0 && eqb t.register 0

unfoldable pub receiver_idle : Receiver → Bool
receiver_idle r = eqb r.subinterval 0 && not r.half && eqb r.left 0 && eqb r.register 0

-- RES low changes no field: those, and "drops NMI due, sets wait to 0 and makes reset due", and 02, U6: "drops a
-- waiting byte" (`reset_same`, `same_reset` of `r6501q_events/proofs/Same.antt`)
unfoldable pub is_reset : State → Bool
is_reset s =
    eqb s.cpu.wait 0 && not (byte_waits s.cpu.waiting) && s.due.reset && not s.due.nmi
    && ports_fresh s.peripherals.ports && control_fresh s.peripherals.control
    && transmitter_idle s.peripherals.transmitter && receiver_idle s.peripherals.receiver

-- "where RES low changes any field", of a state whose last levels are this clock's and whose edges are recorded
unfoldable pub reset_changes : State → Bool
reset_changes s = not s.last.res && not (is_reset s)

-- "where the CPU starts": 01, One clock, 4, "if RES is high", with no wait left
unfoldable pub cpu_starts : State → Bool
cpu_starts s = s.last.res && eqb s.cpu.wait 0

-- 02, U6: "A last clock with a byte waiting is an event clock."
unfoldable pub puts_byte : State → Bool
puts_byte s = s.last.res && byte_waits s.cpu.waiting && eqb s.cpu.wait 1

-- the kinds of event that are seen on the state, once the clock is counted and its inputs have set the external levels
abbrev pub event_tests : State → List Bool
event_tests b =
    levels_change b
    ∷ underflows_a b.last.ports (sensed b)
    ∷ underflows_b b.last.ports (sensed b)
    ∷ reset_changes (with_edges b (levels_of b))
    ∷ cpu_starts (sensed b)
    ∷ puts_byte (sensed b)
    ∷ []

-- the next clock of a state is an event clock, given the codes of that clock's inputs
unfoldable pub event_of : State → List ℕ → Bool
event_of s codes = any_of (λ (test : Bool). test) (has_input codes ∷ event_tests (inputs_set s codes))
