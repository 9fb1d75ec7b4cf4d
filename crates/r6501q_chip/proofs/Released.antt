-- 02, U8: "every test that relied on the old start now give RES high on clock 1": the first clock of a fresh chip with
-- that input is the first clock of the old start, in all but the one input more that is read.
use Rattle.std.specs.Prelude.{Option}
use mathlib.Core.Path.{◌≡◌, refl, sym, ap, ◌∙◌}
use mathlib.Core.Bool.{Bool, true, false, false≢true}
use mathlib.Core.List.{List, [], ◌∷◌, ◌++◌}
use Prim.Native.Nat.{ℕ, suc, ◌+◌, ◌≤◌}
use native.Mathlib.Omega.{arith}
use lib.Dec.{ltb}
use lib.ListN.{length, take}
use borrow.Author.Tests.{ltb-true, ltb-false, eq-eqb}
use Rattle.bits.specs.Bits.{with_bit, set_where, flip_where}
use Rattle.bits.proofs.Cond.{and_left, and_right}
use Rattle.pin_lists.specs.PinLists.{pin_of, high_of, input_count}
use Rattle.pin_lists.proofs.PinLists.{input_count_within}
use Rattle.refusals.specs.Refusals.{refusal_of}
use Rattle.r6501q_state.specs.declared.state.Levels.{Levels}
use Rattle.r6501q_state.specs.declared.state.State.{State}
use Rattle.r6501q_state.specs.State.{fresh_cpu, fresh_due, fresh_peripherals, fresh_levels, high_levels, fresh, well_formed}
use Rattle.r6501q_state.specs.Inputs.{last_pin, res_high, levels_at, with_input}
use Rattle.counters.specs.Counters.{ticks_of, in_force, down_a, counts_a, clock_a, down_b, clock_b}
use Rattle.serial_format.specs.Format.{transmitter_asynchronous, receiver_asynchronous, receiver_shifting, holds_a}
use Rattle.serial_receiver.specs.Receiver.{receiver_clock}
use Rattle.serial_transmitter.specs.Transmitter.{transmitter_clock}
use Rattle.cpu_access.specs.Accesses.{peripherals_read, performed}
use Rattle.cpu.specs.InstructionAccesses.{reset_accesses}
use Rattle.r6501q_cpu.specs.Processor.{reset_start, start_of, processor_of}
use Rattle.r6501q_state.specs.Control.{mode_a, mode_b}
use Rattle.r6501q_state.specs.Pins.{drive_a, drive_d, driven_word, levels_of, rose, fell, edges, with_edges, reset_of}
use Rattle.r6501q_state.specs.Pins.{sensed_at, sensed}
use Rattle.r6501q_clock.specs.Clock.{with_inputs, count_a, count_b, sent_by, heard_by, peripherals_clock}
use Rattle.r6501q_clock.specs.Clock.{with_peripherals_clock, before_cpu}
use Rattle.r6501q_clock.specs.Clock.{Clocked, finished, recorded, clock_of}
use Rattle.r6501q_clock.specs.Copies.{with_external}
use Rattle.r6501q_events.specs.Events.{has_input, same_levels, levels_change, underflows_a, underflows_b, reset_changes}
use Rattle.r6501q_events.specs.Events.{cpu_starts, puts_byte, event_of}
use Rattle.leaps.specs.Chip.{ClockOutcome, stopped, ended}
use Rattle.leaps.specs.World.{after, outcome_in, plain_of, is_done, done_in, event_in}
use Rattle.leaps.specs.Calls.{call_start, refusal_in}
use Rattle.r6501q_chip.specs.R6501q.{World, clock_outcome, r6501q, plain}
use Rattle.r6501q_chip.proofs.ReleaseLists.{release_clocks, release_codes, below_res, inserted_take, inserted_drop}
use Rattle.r6501q_chip.proofs.ReleaseLists.{inserted_length, input_count_inserted, suc_same, pins_same}

-- the old start: fresh with RES high in both its levels
abbrev pub released : State
released = record {
  cpu = fresh_cpu;
  due = fresh_due;
  peripherals = fresh_peripherals;
  external = high_levels;
  last = high_levels;
  clock = 0;
}

-- ---- levels

-- inputs below RES set the other levels, whatever RES is
abbrev ports_by : ℕ → Bool → List ℕ → ℕ
ports_by ports nmi codes = (with_inputs (levels_at ports nmi true) codes).ports

abbrev nmi_by : ℕ → Bool → List ℕ → Bool
nmi_by ports nmi codes = (with_inputs (levels_at ports nmi true) codes).nmi

below_set : (ports : ℕ) (nmi res : Bool) (codes : List ℕ) → below_res codes ≡ true
    → with_inputs (levels_at ports nmi res) codes ≡ levels_at (ports_by ports nmi codes) (nmi_by ports nmi codes) res
unfolding with_inputs with_input
below_set ports nmi res [] e = refl
below_set ports nmi res (code ∷ codes) e =
    by_test (ltb (pin_of code) 32) refl
    (below_set (with_bit (pin_of code) (high_of code) ports) nmi res codes later)
    (below_set ports (high_of code) res codes later)
  where
    later : below_res codes ≡ true
    later = and_right (ltb (pin_of code) last_pin) (below_res codes) e

    To : ℕ → Bool → Bool → Type 0
    To p n r = with_inputs (levels_at p n r) codes ≡ levels_at (ports_by p n codes) (nmi_by p n codes) r

    by_test : (t : Bool) → ltb (pin_of code) 32 ≡ t
        → To (with_bit (pin_of code) (high_of code) ports) nmi res → To ports (high_of code) res
        → with_inputs (with_input (levels_at ports nmi res) code) codes
        ≡ levels_at (with_inputs (with_input (levels_at ports nmi true) code) codes).ports
        (with_inputs (with_input (levels_at ports nmi true) code) codes).nmi res
    by_test true h a b = rw h a
    by_test false h a b =
        let below = ltb-true (pin_of code) last_pin (and_left (ltb (pin_of code) last_pin) (below_res codes) e) in
        let above = ltb-false (pin_of code) 32 h in
        rw (h, eq-eqb (pin_of code) 32 (omega (arith, below, above))) b

inputs_append : (l : Levels) (first later : List ℕ)
    → with_inputs l (first ++ later) ≡ with_inputs (with_inputs l first) later
unfolding with_inputs
inputs_append l [] later = refl
inputs_append l (code ∷ first) later = inputs_append (with_input l code) first later

-- RES high behind them: the levels of the old start after them
released_levels : (codes : List ℕ) → below_res codes ≡ true
    → with_inputs fresh_levels (codes ++ (res_high ∷ [])) ≡ with_inputs high_levels codes
unfolding with_inputs with_input
released_levels codes e =
    inputs_append fresh_levels codes (res_high ∷ [])
    ∙ ap (λ (l : Levels). with_input l res_high) (below_set 0xFFFFFFFF true false codes e)
    ∙ sym (below_set 0xFFFFFFFF true true codes e)

-- an input of RES behind them: the levels are the same whatever RES was
given_levels : (codes : List ℕ) (code : ℕ) → below_res codes ≡ true → pin_of code ≡ last_pin
    → with_inputs fresh_levels (codes ++ (code ∷ [])) ≡ with_inputs high_levels (codes ++ (code ∷ []))
unfolding with_inputs with_input
given_levels codes code e res =
    inputs_append fresh_levels codes (code ∷ [])
    ∙ ap (λ (l : Levels). with_input l code) (below_set 0xFFFFFFFF true false codes e)
    ∙ rw res refl ∙ ap (λ (l : Levels). with_input l code) (sym (below_set 0xFFFFFFFF true true codes e))
    ∙ sym (inputs_append high_levels codes (code ∷ []))

-- ---- the first clock

-- by the levels that its inputs leave; no edge hangs on RES
abbrev first_clock : Levels → List ℕ → Bool → Clocked
first_clock l memory free =
    recorded (driven_word fresh_peripherals) free
    (processor_of (with_peripherals_clock high_levels.ports (sensed (with_external released 1 l))) memory)

first_fresh : (codes memory : List ℕ) (free : Bool)
    → clock_of fresh codes memory free ≡ first_clock (with_inputs fresh_levels codes) memory free
unfolding clock_of before_cpu fresh sensed sensed_at with_edges reset_of levels_of
first_fresh codes memory free = refl

first_old : (codes memory : List ℕ) (free : Bool)
    → clock_of released codes memory free ≡ first_clock (with_inputs high_levels codes) memory free
unfolding clock_of before_cpu
first_old codes memory free = refl

clock_same : (codes codes' memory : List ℕ) (free : Bool) → with_inputs fresh_levels codes ≡ with_inputs high_levels codes'
    → clock_of fresh codes memory free ≡ clock_of released codes' memory free
clock_same codes codes' memory free e =
    first_fresh codes memory free ∙ ap (λ (l : Levels). first_clock l memory free) e ∙ sym (first_old codes' memory free)

-- it is done: the reset entry starts, or RES is low again, and no drive changes
done_at : (halt : Option ℕ) (ports : ℕ) (nmi res : Bool) (memory : List ℕ) (free : Bool)
    → is_done (clock_outcome halt memory (first_clock (levels_at ports nmi res) memory free)) ≡ true
unfolding sensed sensed_at levels_of with_edges reset_of peripherals_clock count_a count_b sent_by heard_by processor_of start_of
    reset_start reset_accesses performed peripherals_read driven_word drive_a drive_d finished clock_a counts_a down_a clock_b
    down_b set_where flip_where mode_a mode_b in_force holds_a transmitter_clock receiver_clock ticks_of transmitter_asynchronous
    receiver_asynchronous receiver_shifting
done_at halt ports nmi true memory free = refl
done_at halt ports nmi false memory free = refl

first_done : (halt : Option ℕ) (codes memory : List ℕ) (free : Bool)
    → is_done (clock_outcome halt memory (clock_of released codes memory free)) ≡ true
first_done halt codes memory free =
    let l = with_inputs high_levels codes in
    ap (λ (c : Clocked). is_done (clock_outcome halt memory c)) (first_old codes memory free)
    ∙ done_at halt l.ports l.nmi l.res memory free

-- and is an event clock: it has an input, or the CPU starts
event_old : (codes : List ℕ) → event_of released codes ≡ true
unfolding event_of has_input with_inputs levels_change same_levels levels_of driven_word drive_a drive_d sensed sensed_at
    with_edges edges set_where rose fell underflows_a underflows_b reset_changes cpu_starts puts_byte clock_a counts_a down_a
    clock_b down_b mode_a mode_b in_force holds_a receiver_asynchronous
event_old [] = refl
event_old (code ∷ codes) = refl

event_new : (codes : List ℕ) (code : ℕ) → event_of fresh (codes ++ (code ∷ [])) ≡ true
unfolding event_of has_input
event_new [] code = refl
event_new (first ∷ codes) code = refl

-- ---- the world after it

-- with one input more read
abbrev pub one_more_read : World → World
one_more_read w = record {
  state = w.state;
  memory = w.memory;
  input_clocks = w.input_clocks;
  input_codes = w.input_codes;
  output_clocks = w.output_clocks;
  output_words = w.output_words;
  read = w.read + 1;
  written = w.written;
  stop = w.stop;
}

-- a call's start: from fresh with that input, and from the old start
abbrev pub released_start : List ℕ → List ℕ → List ℕ → List ℕ → List ℕ → World
released_start memory clocks codes times words =
    call_start fresh memory (release_clocks clocks) (release_codes clocks codes) times words

abbrev pub old_start : List ℕ → List ℕ → List ℕ → List ℕ → List ℕ → World
old_start memory clocks codes times words = call_start released memory clocks codes times words

pub old_done : (halt : Option ℕ) (memory clocks codes times words : List ℕ)
    → done_in (r6501q halt) (old_start memory clocks codes times words) ≡ true
unfolding done_in
old_done halt memory clocks codes times words =
    first_done halt (take (input_count 1 clocks) codes) memory (ltb 0 (length times))

module _ (halt : Option ℕ) (memory clocks codes times words : List ℕ)
    (below : below_res (take (input_count 1 clocks) codes) ≡ true)
    (within : input_count 1 clocks ≤ length codes) where
  abbrev start : World
  start = released_start memory clocks codes times words

  abbrev old : World
  old = old_start memory clocks codes times words

  abbrev inputs : ℕ
  inputs = input_count 1 clocks

  codes_taken : take (input_count 1 (release_clocks clocks)) (release_codes clocks codes)
      ≡ take inputs codes ++ (res_high ∷ [])
  codes_taken = rw (input_count_inserted clocks) (inserted_take inputs res_high codes within)

  abbrev outcome : ClockOutcome State
  outcome = outcome_in (r6501q halt) old inputs

  outcome_same : outcome_in (r6501q halt) start (input_count 1 (release_clocks clocks)) ≡ outcome
  outcome_same =
      rw (
        codes_taken,
        clock_same (take inputs codes ++ (res_high ∷ [])) (take inputs codes) memory (ltb 0 (length times))
            (released_levels (take inputs codes) below),
      )

  outcome_done : is_done outcome ≡ true
  outcome_done = first_done halt (take inputs codes) memory (ltb 0 (length times))

  after_same : (o : ClockOutcome State) → is_done o ≡ true
      → after (r6501q halt) start (suc inputs) o ≡ one_more_read (after (r6501q halt) old inputs o)
  after_same (stopped number) e = absurd (false≢true e)
  after_same (ended end) e =
      let read : 0 + suc inputs ≡ 0 + inputs + 1 = omega arith in
      rw (inserted_drop inputs 1 clocks (input_count_within 1 clocks), inserted_drop inputs res_high codes within, read)

  pub first_plain : plain halt start ≡ one_more_read (plain halt old)
  unfolding plain_of fresh
  first_plain = rw (outcome_same, input_count_inserted clocks) (after_same outcome outcome_done)

  pub first_event : event_in (r6501q halt) start ≡ event_in (r6501q halt) old
  unfolding event_in fresh
  first_event = rw (codes_taken) (event_new (take inputs codes) res_high) ∙ sym (event_old (take inputs codes))

  pub start_done : done_in (r6501q halt) start ≡ true
  unfolding done_in fresh
  start_done = rw outcome_same outcome_done

-- A list that sets RES on clock 1 itself, the last of that clock's pins, needs no other input: the first clock is the
-- old start's in all
module _ (halt : Option ℕ) (memory clocks codes times words front : List ℕ) (code : ℕ)
    (given : take (input_count 1 clocks) codes ≡ front ++ (code ∷ []))
    (below : below_res front ≡ true) (res : pin_of code ≡ last_pin) where
  given_outcome : outcome_in (r6501q halt) (call_start fresh memory clocks codes times words) (input_count 1 clocks)
      ≡ outcome_in (r6501q halt) (old_start memory clocks codes times words) (input_count 1 clocks)
  given_outcome =
      rw (
        given,
        clock_same (front ++ (code ∷ [])) (front ++ (code ∷ [])) memory (ltb 0 (length times))
            (given_levels front code below res),
      )

  given_after : (o : ClockOutcome State) → is_done o ≡ true
      → after (r6501q halt) (call_start fresh memory clocks codes times words) (input_count 1 clocks) o
      ≡ after (r6501q halt) (old_start memory clocks codes times words) (input_count 1 clocks) o
  given_after (stopped number) e = absurd (false≢true e)
  given_after (ended end) e = refl

  pub given_plain : plain halt (call_start fresh memory clocks codes times words)
      ≡ plain halt (old_start memory clocks codes times words)
  unfolding plain_of fresh
  given_plain =
      rw given_outcome
      (given_after (outcome_in (r6501q halt) (old_start memory clocks codes times words) (input_count 1 clocks))
      (first_done halt (take (input_count 1 clocks) codes) memory (ltb 0 (length times))))

  pub given_event : event_in (r6501q halt) (call_start fresh memory clocks codes times words)
      ≡ event_in (r6501q halt) (old_start memory clocks codes times words)
  unfolding event_in fresh
  given_event = rw given (event_new front code ∙ sym (event_old (front ++ (code ∷ []))))

  pub given_done : done_in (r6501q halt) (call_start fresh memory clocks codes times words) ≡ true
  unfolding done_in fresh
  given_done = rw given_outcome (first_done halt (take (input_count 1 clocks) codes) memory (ltb 0 (length times)))

-- a call for any number of clocks is refused just where it was, with the same number
pub refusal_same : (halt : Option ℕ) (n : ℕ) (memory clocks codes times words : List ℕ)
    → below_res (take (input_count 1 clocks) codes) ≡ true
    → refusal_in (r6501q halt) n (released_start memory clocks codes times words)
    ≡ refusal_in (r6501q halt) n (old_start memory clocks codes times words)
unfolding refusal_of fresh well_formed
refusal_same halt n memory clocks codes times words below =
    rw (
      inserted_length (input_count 1 clocks) 1 clocks,
      inserted_length (input_count 1 clocks) res_high codes,
      suc_same (length clocks) (length codes),
      pins_same clocks codes below,
    )
