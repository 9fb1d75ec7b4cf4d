-- Everything here takes well-formed states to well-formed states.
use Rattle.std.specs.Prelude.{None, Some}
use mathlib.Core.Path.{◌≡◌, refl}
use mathlib.Core.Bool.{Bool, true, false, ◌&&◌, not}
use Prim.Native.Nat.{ℕ, ◌/◌, ◌%◌, ◌<◌}
use native.Mathlib.Omega.{arith}
use lib.Dec.{leb, ltb, eqb}
use borrow.Author.Tests.{ltb-true, lt-ltb, not-true}
use Rattle.bits.specs.Bits.{with_bit, set_where}
use Rattle.bits.proofs.Cond.{and_left, and_right, and_both, cond_both}
use Rattle.bits.proofs.Bits.{bit_room}
use Rattle.serial_transmitter.specs.Transmitter.{transmitter_fits}
use Rattle.serial_receiver.specs.Receiver.{receiver_fits}
use Rattle.cpu_access.specs.declared.stack.Write.{Write}
use Rattle.cpu_access.specs.Waiting.{byte_waits}
use Rattle.r6501q_state.specs.declared.state.Cpu.{Cpu}
use Rattle.r6501q_state.specs.declared.state.Peripherals.{Peripherals}
use Rattle.r6501q_state.specs.declared.state.Levels.{Levels}
use Rattle.r6501q_state.specs.declared.state.State.{State}
use Rattle.r6501q_state.specs.State.{fresh_cpu, fresh, cpu_fits, peripherals_fit, well_formed}
use Rattle.r6501q_state.specs.Copies.{waiting_at, with_cpu, flagged}
use Rattle.r6501q_state.specs.Pins.{rose, fell, edges, with_edges, reset_of, sensed_at, sensed, levels_of}
use Rattle.r6501q_state.specs.Inputs.{with_input}

-- the ranges as facts
pub record InPeripherals (p : Peripherals) : Type 0 where
  pub ifr : p.control.ifr < 64
  pub transmitter : transmitter_fits p.transmitter ≡ true
  pub receiver : receiver_fits p.receiver ≡ true

pub in_peripherals : (p : Peripherals) → peripherals_fit p ≡ true → InPeripherals p
in_peripherals p e = record {
  ifr =
      ltb-true _ _ (and_left _ _
      (and_left (ltb p.control.ifr 64 && transmitter_fits p.transmitter) (receiver_fits p.receiver) e));
  transmitter =
      and_right (ltb p.control.ifr 64) _
      (and_left (ltb p.control.ifr 64 && transmitter_fits p.transmitter) (receiver_fits p.receiver) e);
  receiver = and_right (ltb p.control.ifr 64 && transmitter_fits p.transmitter) (receiver_fits p.receiver) e;
}

pub fit_peripherals : (p : Peripherals) → InPeripherals p → peripherals_fit p ≡ true
fit_peripherals p i = and_both _ _ (and_both _ _ (lt-ltb _ _ i.ifr) i.transmitter) i.receiver

-- new flags within their range
pub flagged_in : (p : Peripherals) (v : ℕ) → v < 64 → InPeripherals p → InPeripherals (flagged p v)
flagged_in p v h i = record { ifr = h; transmitter = i.transmitter; receiver = i.receiver }

-- a well-formed state, taken apart and made
pub formed_cpu : (s : State) → well_formed s ≡ true → cpu_fits s.cpu ≡ true
unfolding well_formed
formed_cpu s e = and_left (cpu_fits s.cpu) (peripherals_fit s.peripherals) e

pub formed_peripherals : (s : State) → well_formed s ≡ true → peripherals_fit s.peripherals ≡ true
unfolding well_formed
formed_peripherals s e = and_right (cpu_fits s.cpu) (peripherals_fit s.peripherals) e

pub formed : (s : State) → cpu_fits s.cpu ≡ true → peripherals_fit s.peripherals ≡ true → well_formed s ≡ true
unfolding well_formed
formed s e f = and_both (cpu_fits s.cpu) (peripherals_fit s.peripherals) e f

-- the CPU's ranges one by one
pub record InCpu (c : Cpu) : Type 0 where
  pub status : eqb (c.p / 16 % 4) 0 ≡ true
  pub wait : leb c.wait 6 ≡ true
  pub waits : byte_waits c.waiting && eqb c.wait 0 ≡ false

pub in_cpu : (c : Cpu) → cpu_fits c ≡ true → InCpu c
in_cpu c e =
    let status = eqb (c.p / 16 % 4) 0 in
    let wait = leb c.wait 6 in
    let waits = byte_waits c.waiting && eqb c.wait 0 in
    let both = and_left (status && wait) (not waits) e in
    record {
      status = and_left status wait both;
      wait = and_right status wait both;
      waits = not-true waits (and_right (status && wait) (not waits) e);
    }

pub fit_cpu : (c : Cpu) → InCpu c → cpu_fits c ≡ true
fit_cpu c i = rw (i.status, i.wait, i.waits) refl

-- 01, Machine state: "Fresh"
pub fresh_formed : well_formed fresh ≡ true
unfolding well_formed fresh
fresh_formed = refl

-- 01, One clock, 1: an input sets an external level, on which the ranges do not hang
abbrev pub with_external : State → Levels → State
with_external s l =
    record { cpu = s.cpu; due = s.due; peripherals = s.peripherals; external = l; last = s.last; clock = s.clock }

pub input_formed : (s : State) (code : ℕ) → well_formed s ≡ true
    → well_formed (with_external s (with_input s.external code)) ≡ true
unfolding well_formed
input_formed s code e = e

-- a flag set within the range
pub set_lt : (k x : ℕ) (on : Bool) → k < 6 → x < 64 → set_where k on x < 64
unfolding set_where with_bit
set_lt k x true h l = bit_room 6 k x h l
set_lt k x false h l = l

edges_lt : (ifr before after : ℕ) → ifr < 64 → edges ifr before after < 64
unfolding edges
edges_lt ifr before after h =
    set_lt 3 _ (fell 3 before after) (omega arith) (set_lt 2 _ (fell 2 before after) (omega arith)
    (set_lt 1 _ (rose 1 before after) (omega arith) (set_lt 0 ifr (rose 0 before after) (omega arith) h)))

with_edges_formed : (s : State) (now : Levels) → well_formed s ≡ true → well_formed (with_edges s now) ≡ true
unfolding with_edges
with_edges_formed s now e =
    let i = in_peripherals s.peripherals (formed_peripherals s e) in
    formed (with_edges s now) (formed_cpu s e)
    (fit_peripherals (with_edges s now).peripherals
    (flagged_in s.peripherals _ (edges_lt s.peripherals.control.ifr s.last.ports now.ports i.ifr) i))

-- RES low
pub reset_formed : (s : State) → well_formed s ≡ true → well_formed (reset_of s) ≡ true
unfolding reset_of
reset_formed s e = let c = in_cpu s.cpu (formed_cpu s e) in formed (reset_of s) (rw c.status refl) refl

-- step 1
pub sensed_formed : (s : State) → well_formed s ≡ true → well_formed (sensed s) ≡ true
unfolding sensed sensed_at
sensed_formed s e =
    cond_both (λ (t : State). well_formed t ≡ true) (levels_of s).res (with_edges s (levels_of s))
    (reset_of (with_edges s (levels_of s)))
    (λ _. with_edges_formed s (levels_of s) e)
    (λ _. reset_formed (with_edges s (levels_of s)) (with_edges_formed s (levels_of s) e))

-- 01, One clock, 1: the levels are taken before RES low puts the latches, and so become the last levels
pub sensed_last : (s : State) → (sensed s).last ≡ levels_of s
unfolding sensed sensed_at with_edges reset_of
sensed_last s =
    let now = levels_of s in
    cond_both (λ (t : State). t.last ≡ now) now.res (with_edges s now) (reset_of (with_edges s now)) (λ _. refl)
    (λ _. refl)

-- ---- 02, U6

-- "RES low drops a waiting byte.": on the very clock
pub byte_dropped : (s : State) → (levels_of s).res ≡ false → (sensed s).cpu.waiting ≡ None
unfolding sensed sensed_at reset_of
byte_dropped s low = rw low refl

-- "A byte waiting with wait 0 isn't well-formed."; with wait 1 it is
abbrev pub waiting_for : ℕ → Write → State
waiting_for n w = with_cpu fresh (waiting_at fresh_cpu n (Some w))

pub waiting_zero : (w : Write) → well_formed (waiting_for 0 w) ≡ false
unfolding well_formed fresh
waiting_zero w = refl

pub waiting_one : (w : Write) → well_formed (waiting_for 1 w) ≡ true
unfolding well_formed fresh
waiting_one w = refl
