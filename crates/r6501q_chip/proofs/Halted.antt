-- Document 02, U4, "Stop where a byte is written", said of plain clocks: where 12 is the stop, what a halt address
-- changes, and what the writes that a clock tells are to memory and to leaps.
use Rattle.std.specs.Prelude.{None, Option}
use mathlib.Core.Path.{◌≡◌, refl, sym, ap, ◌∙◌}
use mathlib.Core.Bool.{Bool, true, false, ◌&&◌, not, cond, false≢true}
use mathlib.Core.List.{List, [], ◌∷◌}
use Prim.Native.Nat.{ℕ, zero, suc, ◌+◌, ◌<◌}
use native.Mathlib.Omega.{arith}
use lib.Dec.{ltb, eqb}
use lib.ListN.{length, take, set}
use borrow.Author.Tests.{eq-eqb, eqb-true, eqb-false, lt-ltb, le-ltb, ltb-true, ltb-false}
use Rattle.std.specs.Prelude.{Ok, Err}
use Rattle.bits.proofs.Cond.{cond_no}
use Rattle.stops.specs.declared.Stop.{Stop}
use Rattle.stops.specs.Stops.{stop_number}
use Rattle.pin_lists.specs.PinLists.{pins_right, input_count}
use Rattle.cpu_access.specs.declared.stack.Write.{Write}
use Rattle.cpu_access.specs.declared.stack.Writes.{Writes}
use Rattle.cpu_access.specs.Stack.{no_writes}
use Rattle.cpu_access.specs.Halt.{halts}
use Rattle.cpu_access.proofs.Told.{told, in_turn, each_told, unwritten}
use Rattle.leaps.specs.Leaps.{plains}
use Rattle.leaps.specs.World.{stopped_at, after, input_count_in, running_in, plain_of}
use Rattle.r6501q_state.specs.declared.state.State.{State}
use Rattle.r6501q_state.specs.Inputs.{last_pin}
use Rattle.r6501q_state.specs.Pins.{driven_word}
use Rattle.r6501q_clock.specs.Clock.{Clocked, halt_stop, finished, clock_of}
use Rattle.memory_writes.specs.Commit.{put_write, committed}
use Rattle.r6501q_clock.proofs.Ends.{stop_either}
use Rattle.r6501q_events.specs.Events.{has_input, event_of}
use Rattle.r6501q_events.specs.Gaps.{gap_of}
use Rattle.r6501q_events.proofs.Gaps.{gap_clock, gap_event}
use Rattle.r6501q_events.proofs.Passing.{pass_driven}
use Rattle.r6501q_chip.specs.R6501q.{World, clock_outcome, r6501q, plain, system}

-- ---- what a clock tells

-- the writes of a clock that is done; nothing where it stops
abbrev pub told_by : Clocked → Writes
told_by (Err stop) = no_writes
told_by (Ok e) = e.writes

-- what the next clock comes to: no halt address has a part in it
abbrev pub clock_in : World → Clocked
clock_in w =
    clock_of w.state (take (input_count (w.state.clock + 1) w.input_clocks) w.input_codes) w.memory
    (ltb w.written (length w.output_clocks))

-- the next clock is done and writes the halt address
abbrev pub writes_halt : Option ℕ → World → Bool
writes_halt halt w = running_in w && halts halt (told_by (clock_in w))

-- ---- the stop

twelve_itself : (t : Bool) → eqb (cond t halt_stop 0) 12 ≡ t
twelve_itself true = refl
twelve_itself false = refl

-- A plain clock stops with 12 just where it is done and writes the halt address: 6 and 7 come first, and a clock not
-- done writes nothing.
pub stop_twelve : (halt : Option ℕ) (w : World) → w.stop ≡ 0 → eqb (plain halt w).stop 12 ≡ writes_halt halt w
unfolding plain_of
stop_twelve halt w on = rw (eq-eqb w.stop 0 on) (by_clock (clock_in w) refl)
  where
    by_clock : (x : Clocked) → clock_in w ≡ x
        → eqb (after (r6501q halt) w (input_count_in (r6501q halt) w) (clock_outcome halt w.memory x)).stop 12
        ≡ halts halt (told_by x)
    by_clock (Err stop) e =
        stop_either (λ (k : Stop). eqb (stop_number k) 12 ≡ false) refl refl w.state _ w.memory _ stop e
        ∙ sym (unwritten halt no_writes refl)
    by_clock (Ok e) d = twelve_itself (halts halt e.writes)

-- ---- with a halt address and with none

stop_chosen : (t : Bool) (w : World) → stopped_at (cond t halt_stop 0) w ≡ cond t (stopped_at halt_stop w) (stopped_at 0 w)
stop_chosen true w = refl
stop_chosen false w = refl

-- "a plain clock with such a write is done, then stops with 12"; every other one is what it is with no halt address
pub plain_halts : (halt : Option ℕ) (w : World)
    → plain halt w ≡ cond (writes_halt halt w) (stopped_at halt_stop (plain None w)) (plain None w)
unfolding plain_of halts
plain_halts halt w = by_running (running_in w) refl
  where
    none : World
    none = plain None w

    by_clock : (x : Clocked) → let inputs = input_count_in (r6501q halt) w in
        after (r6501q halt) w inputs (clock_outcome halt w.memory x)
        ≡ cond (halts halt (told_by x))
        (stopped_at halt_stop (after (r6501q None) w inputs (clock_outcome None w.memory x)))
        (after (r6501q None) w inputs (clock_outcome None w.memory x))
    by_clock (Err stop) = sym (cond_no (halts halt no_writes) _ _ (unwritten halt no_writes refl))
    by_clock (Ok e) =
        stop_chosen (halts halt e.writes)
        (after (r6501q None) w (input_count_in (r6501q halt) w) (clock_outcome None w.memory (Ok e)))

    by_running : (t : Bool) → running_in w ≡ t
        → cond t (after (r6501q halt) w (input_count_in (r6501q halt) w) (clock_outcome halt w.memory (clock_in w))) w
        ≡ cond (t && halts halt (told_by (clock_in w)))
        (stopped_at halt_stop
        (cond t (after (r6501q None) w (input_count_in (r6501q None) w)
        (clock_outcome None w.memory (clock_in w))) w))
        (cond t (after (r6501q None) w (input_count_in (r6501q None) w)
        (clock_outcome None w.memory (clock_in w))) w)
    by_running true e = by_clock (clock_in w)
    by_running false e = refl

-- after a stop nothing is done
stopped_plain : (halt : Option ℕ) (w : World) → running_in w ≡ false → plain halt w ≡ w
unfolding plain_of
stopped_plain halt w e = rw e

stopped_plains : (halt : Option ℕ) (n : ℕ) (w : World) → running_in w ≡ false → plains (system halt) n w ≡ w
unfolding plains
stopped_plains halt zero w e = refl
stopped_plains halt (suc n) w e = rw (stopped_plain halt w e) (stopped_plains halt n w e)

ltb_suc : (k n : ℕ) → ltb (suc k) (suc n) ≡ ltb k n
ltb_suc k n = by_test (ltb k n) refl
  where
    by_test : (t : Bool) → ltb k n ≡ t → ltb (suc k) (suc n) ≡ t
    by_test true e = lt-ltb (suc k) (suc n) (omega (arith, ltb-true k n e))
    by_test false e = le-ltb (suc k) (suc n) (omega (arith, ltb-false k n e))

-- the clocks, of n with no halt address, before the first that writes it; n where none does
abbrev pub clocks_before : Option ℕ → ℕ → World → ℕ
clocks_before halt zero w = 0
clocks_before halt (suc n) w = cond (writes_halt halt w) 0 (suc (clocks_before halt n (plain None w)))

-- n plain clocks with a halt address: those with none up to the first that writes it, that one included, and the stop
-- 12; where none of the n writes it, those with none
pub plains_halt : (halt : Option ℕ) (n : ℕ) (w : World)
    → plains (system halt) n w
    ≡ cond (ltb (clocks_before halt n w) n)
    (stopped_at halt_stop (plains (system None) (suc (clocks_before halt n w)) w))
    (plains (system None) n w)
unfolding plains
plains_halt halt zero w = refl
plains_halt halt (suc n) w = by_test (writes_halt halt w) refl (plains_halt halt n (plain None w))
  where
    v : World
    v = plain None w

    k : ℕ
    k = clocks_before halt n v

    by_test : (t : Bool) → writes_halt halt w ≡ t
        → plains (system halt) n v
        ≡ cond (ltb k n) (stopped_at halt_stop (plains (system None) (suc k) v)) (plains (system None) n v)
        → plains (system halt) n (plain halt w)
        ≡ cond (ltb (cond (writes_halt halt w) 0 (suc k)) (suc n))
        (stopped_at halt_stop (plains (system None) (cond (writes_halt halt w) 0 (suc k)) v))
        (plains (system None) n v)
    by_test true e later =
        rw (plain_halts halt w, e, lt-ltb 0 (suc n) (omega arith)) (stopped_plains halt n (stopped_at halt_stop v) refl)
    by_test false e later = rw (plain_halts halt w, e, ltb_suc k n) later

-- no clock before it writes it, and it does
pub before_unwritten : (halt : Option ℕ) (n : ℕ) (w : World) (j : ℕ) → j < clocks_before halt n w
    → writes_halt halt (plains (system None) j w) ≡ false
unfolding plains
before_unwritten halt zero w j h = absurd (omega arith)
before_unwritten halt (suc n) w j h = by_test (writes_halt halt w) refl j h (before_unwritten halt n (plain None w))
  where
    v : World
    v = plain None w

    by_test : (t : Bool) → writes_halt halt w ≡ t → (j : ℕ) → j < cond t 0 (suc (clocks_before halt n v))
        → ((i : ℕ) → i < clocks_before halt n v → writes_halt halt (plains (system None) i v) ≡ false)
        → writes_halt halt (plains (system None) j w) ≡ false
    by_test true e j h later = absurd (omega arith)
    by_test false e zero h later = e
    by_test false e (suc j) h later = later j (omega arith)

pub first_written : (halt : Option ℕ) (n : ℕ) (w : World) → clocks_before halt n w < n
    → writes_halt halt (plains (system None) (clocks_before halt n w) w) ≡ true
unfolding plains
first_written halt zero w h = absurd (omega arith)
first_written halt (suc n) w h = by_test (writes_halt halt w) refl h (first_written halt n (plain None w))
  where
    k : ℕ
    k = clocks_before halt n (plain None w)

    by_test : (t : Bool) → writes_halt halt w ≡ t → cond t 0 (suc k) < suc n
        → (k < n → writes_halt halt (plains (system None) k (plain None w)) ≡ true)
        → writes_halt halt (plains (system None) (cond t 0 (suc k)) w) ≡ true
    by_test true e h later = e
    by_test false e h later = later (omega arith)

-- with no halt address nothing stops with 12
plain_none : (w : World) → eqb w.stop 12 ≡ false → eqb (plain None w).stop 12 ≡ false
unfolding halts
plain_none w other = by_running (running_in w) refl
  where
    never : (t : Bool) → (t && false) ≡ false
    never true = refl
    never false = refl

    by_running : (t : Bool) → running_in w ≡ t → eqb (plain None w).stop 12 ≡ false
    by_running true e = stop_twelve None w (eqb-true w.stop 0 e) ∙ never (running_in w)
    by_running false e = rw (stopped_plain None w e) other

pub none_twelve : (n : ℕ) (w : World) → eqb w.stop 12 ≡ false → eqb (plains (system None) n w).stop 12 ≡ false
unfolding plains
none_twelve zero w other = other
none_twelve (suc n) w other = none_twelve n (plain None w) (plain_none w other)

-- n plain clocks stop with 12 just where one of them writes the halt address: the last that is done, and no earlier one
pub plains_twelve : (halt : Option ℕ) (n : ℕ) (w : World) → w.stop ≡ 0
    → eqb (plains (system halt) n w).stop 12 ≡ ltb (clocks_before halt n w) n
plains_twelve halt n w on = rw (plains_halt halt n w) (by_test (ltb (clocks_before halt n w) n))
  where
    by_test : (t : Bool)
        → eqb (cond t (stopped_at halt_stop (plains (system None) (suc (clocks_before halt n w)) w))
        (plains (system None) n w)).stop 12 ≡ t
    by_test true = refl
    by_test false = none_twelve n w (rw on refl)

-- ---- memory

-- a write told, put into memory: at 40h or above
abbrev pub stored_in : Write → List ℕ → List ℕ
stored_in x memory = cond (ltb x.address 0x40) memory (set memory x.address x.value)

put_stored : (x : Write) (memory : List ℕ) → put_write true x memory ≡ stored_in x memory
unfolding put_write
put_stored x memory = by_test (ltb x.address 0x40)
  where
    by_test : (t : Bool)
        → cond (true && not t) (set memory x.address x.value) memory
        ≡ cond t memory (set memory x.address x.value)
    by_test true = refl
    by_test false = refl

turns_same : (l : List Write) (memory : List ℕ) → in_turn (put_write true) l memory ≡ in_turn stored_in l memory
turns_same [] memory = refl
turns_same (x ∷ later) memory =
    turns_same later (put_write true x memory) ∙ ap (in_turn stored_in later) (put_stored x memory)

no_put : (x : Write) (memory : List ℕ) → put_write false x memory ≡ memory
unfolding put_write
no_put x memory = refl

committed_told : (memory : List ℕ) (w : Writes) → committed memory w ≡ in_turn stored_in (told w) memory
unfolding committed
committed_told memory w = each_told put_write no_put w memory ∙ turns_same (told w) memory

-- memory after a clock is memory before it with exactly the writes told, in order
pub memory_told : (halt : Option ℕ) (w : World) → running_in w ≡ true
    → (plain halt w).memory ≡ in_turn stored_in (told (told_by (clock_in w))) w.memory
unfolding plain_of
memory_told halt w e = rw e (by_clock (clock_in w))
  where
    by_clock : (x : Clocked)
        → (after (r6501q halt) w (input_count_in (r6501q halt) w) (clock_outcome halt w.memory x)).memory
        ≡ in_turn stored_in (told (told_by x)) w.memory
    by_clock (Err stop) = refl
    by_clock (Ok ended) = committed_told w.memory ended.writes

-- ---- leaps

no_inputs : (clock : ℕ) → pins_right last_pin clock [] [] ≡ true
unfolding pins_right
no_inputs clock = refl

gap_untold : (s : State) (memory : List ℕ) (free : Bool) → 0 < (gap_of 1 s []).0
    → told_by (clock_of s [] memory free) ≡ no_writes
unfolding clock_of finished
gap_untold s memory free inside =
    rw (
      gap_clock 1 s [] inside memory,
      pass_driven s 1,
      eq-eqb (driven_word s.peripherals) (driven_word s.peripherals) refl,
    )

-- "a leap never passes it": a clock that is no event clock tells no write
pub quiet_untold : (s : State) (codes memory : List ℕ) (free : Bool) → event_of s codes ≡ false
    → told_by (clock_of s codes memory free) ≡ no_writes
unfolding event_of has_input input_count
quiet_untold s (code ∷ codes) memory free e = absurd (false≢true (sym e))
quiet_untold s [] memory free e = by_gap (eqb (gap_of 1 s []).0 0) refl
  where
    by_gap : (t : Bool) → eqb (gap_of 1 s []).0 0 ≡ t → told_by (clock_of s [] memory free) ≡ no_writes
    by_gap true z =
        absurd (false≢true
        (sym e ∙ gap_event 1 s [] [] (no_inputs s.clock) (omega arith) (eqb-true (gap_of 1 s []).0 0 z)))
    by_gap false z = gap_untold s memory free (omega (arith, eqb-false (gap_of 1 s []).0 0 z))
