-- The R6501Q keeps the laws that a chip owes to the theory of leaps.
use Rattle.std.specs.Prelude.{Option}
use mathlib.Core.Path.{◌≡◌, refl}
use mathlib.Core.Bool.{Bool, true, false, cond}
use mathlib.Core.List.{List, []}
use Prim.Native.Nat.{ℕ, ◌+◌, ◌<◌}
use lib.ListN.{length}
use borrow.Author.Tests.{eq-eqb}
use Rattle.cpu_access.specs.Stack.{no_writes}
use Rattle.cpu_access.specs.Halt.{halts}
use Rattle.cpu_access.proofs.Told.{unwritten}
use Rattle.leaps.specs.Chip.{ClockEnd, ClockOutcome, stopped, ended}
use Rattle.leaps.specs.Calls.{is_stop, stop_of}
use Rattle.leaps.proofs.Laws.{Lawful}
use Rattle.leaps.proofs.Chips as chips
use Rattle.leaps.proofs.Chips.{ChipLaws}
use Rattle.r6501q_state.specs.declared.state.State.{State}
use Rattle.r6501q_state.specs.State.{well_formed}
use Rattle.r6501q_state.specs.Pins.{driven_word}
use Rattle.r6501q_clock.specs.declared.Ended.{Ended}
use Rattle.std.specs.Prelude.{None, Ok, Err}
use Rattle.stops.specs.declared.Stop.{Stop}
use Rattle.stops.specs.Stops.{stop_number}
use Rattle.r6501q_clock.specs.Clock.{Clocked, halt_stop, ended_with, finished, clock_of}
use Rattle.memory_writes.specs.Commit.{put_write, committed}
use Rattle.r6501q_clock.proofs.Ends.{done_clock, done_room, done_formed, commit_length, stop_either}
use Rattle.r6501q_events.specs.Gaps.{clocks_of, gap_of, pass_of}
use Rattle.r6501q_events.proofs.Passing.{pass_driven, pass_zero, pass_add, pass_clock}
use Rattle.r6501q_events.proofs.Gaps.{gap_le, gap_no_input, gap_clock, gap_no_event, gap_event, gap_passed}
use Rattle.r6501q_chip.specs.R6501q.{end_of, clock_outcome, r6501q, system}

-- what holds of each end of a clock holds of the end that the theory sees, and of a stop likewise
module _ (halt : Option ℕ) (s : State) (codes memory : List ℕ) (free : Bool) where
  along_done : (P : ClockEnd State → Type 0)
      → ((e : Ended) → clock_of s codes memory free ≡ Ok e → P (end_of halt memory e))
      → (d : ClockEnd State) → clock_outcome halt memory (clock_of s codes memory free) ≡ ended d → P d
  along_done P h d q = by_clocked (clock_of s codes memory free) refl q
    where
      Ends : ClockOutcome State → Type 0
      Ends (stopped number) = Unit {0}
      Ends (ended end) = P end

      held : (x : ClockOutcome State) → Ends x → x ≡ ended d → P d
      held x p e = rw e at p

      by_clocked : (x : Clocked) → clock_of s codes memory free ≡ x → clock_outcome halt memory x ≡ ended d → P d
      by_clocked (Err stop) e z = held (stopped (stop_number stop)) tt z
      by_clocked (Ok end) e z = held (ended (end_of halt memory end)) (h end e) z

  along_stopped : (number : ℕ) → clock_outcome halt memory (clock_of s codes memory free) ≡ stopped number
      → is_stop number ≡ true
  along_stopped number q = by_clocked (clock_of s codes memory free) refl q
    where
      Stops : ClockOutcome State → Type 0
      Stops (stopped k) = is_stop k ≡ true
      Stops (ended end) = Unit {0}

      held : (x : ClockOutcome State) → Stops x → x ≡ stopped number → is_stop number ≡ true
      held x p e = rw e at p

      by_clocked : (x : Clocked) → clock_of s codes memory free ≡ x → clock_outcome halt memory x ≡ stopped number
          → is_stop number ≡ true
      by_clocked (Err stop) e z =
          held (stopped (stop_number stop))
          (stop_either (λ (k : Stop). is_stop (stop_number k) ≡ true) refl refl s codes memory free stop e) z
      by_clocked (Ok end) e z = held (ended (end_of halt memory end)) tt z

-- the stop that a clock which is done ends in, 12 or none, is its own
halt_stop_lem : (t : Bool) → stop_of (cond t halt_stop 0) ≡ cond t halt_stop 0
unfolding stop_of
halt_stop_lem true = refl
halt_stop_lem false = refl

-- the first clock of a gap
module _ (n : ℕ) (s : State) (clocks memory : List ℕ) (free : Bool) (inside : 0 < (gap_of n s clocks).0) where
  gap_clocked : clock_of s [] memory free
      ≡ Ok (ended_with (record { state = pass_of s (clocks_of 1); writes = no_writes }) None)
  unfolding clock_of finished
  gap_clocked =
      rw (
        gap_clock n s clocks inside memory,
        pass_driven s 1,
        eq-eqb (driven_word s.peripherals) (driven_word s.peripherals) refl,
      )

  -- and writes nothing, the halt address least of all
  gap_outcome : (halt : Option ℕ) → clock_outcome halt memory (clock_of s [] memory free)
      ≡ ended (record {
        state = pass_of s (clocks_of 1);
        memory = memory;
        differs = false;
        word = driven_word s.peripherals;
        stop = 0;
      })
  unfolding committed put_write
  gap_outcome halt = rw (gap_clocked, pass_driven s 1, unwritten halt no_writes refl)

pub laws : (halt : Option ℕ) → ChipLaws (r6501q halt)
laws halt = record {
  done_clock = λ s codes memory free d q.
      along_done halt s codes memory free (λ (x : ClockEnd State). x.state.clock ≡ s.clock + 1)
      (λ e h. done_clock s codes memory free e h) d q;
  done_formed = λ s codes memory free d f q.
      along_done halt s codes memory free (λ (x : ClockEnd State). well_formed x.state ≡ true)
      (λ e h. done_formed s codes memory free e f h) d q;
  done_memory = λ s codes memory free d q.
      along_done halt s codes memory free (λ (x : ClockEnd State). length x.memory ≡ length memory)
      (λ e h. commit_length memory e.writes) d q;
  done_room = λ s codes memory free d q.
      along_done halt s codes memory free (λ (x : ClockEnd State). x.differs ≡ true → free ≡ true)
      (λ e h. done_room s codes memory free e h) d q;
  done_stop = λ s codes memory free d q.
      along_done halt s codes memory free (λ (x : ClockEnd State). stop_of x.stop ≡ x.stop)
      (λ e h. halt_stop_lem (halts halt e.writes)) d q;
  stopped_stop = along_stopped halt;
  gap_input = gap_no_input;
  gap_quiet = gap_no_event;
  gap_word = λ (s : State). driven_word s.peripherals;
  gap_outcome = λ n s clocks memory free h. gap_outcome n s clocks memory free h halt;
  gap_le = gap_le;
  gap_passed = λ g n s clocks. gap_passed n s g clocks;
  gap_event = gap_event;
  pass_zero = pass_zero;
  pass_add = λ g h s. pass_add s g h;
  pass_clock = λ g s. pass_clock s g;
}

pub lawful : (halt : Option ℕ) → Lawful (system halt)
lawful halt = chips.lawful (r6501q halt) (laws halt)
