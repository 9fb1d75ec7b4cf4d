-- 01, Machine state: memory's "bytes at 0 to 3Fh, the registers, are never touched". What a clock comes to is the same
-- whatever stands there.
use Rattle.std.specs.Prelude.{Option}
use mathlib.Core.Path.{◌≡◌, refl, sym, ap, ◌∙◌}
use mathlib.Core.Bool.{Bool, true, false, ◌&&◌, not, cond}
use mathlib.Core.List.{List, []}
use Prim.Native.Nat.{ℕ}
use lib.Dec.{ltb}
use lib.ListN.{length, take, set}
use Rattle.bits.proofs.Cond.{cond_along}
use Rattle.memory.specs.Memory.{register_end, is_register, with_untouched}
use Rattle.memory.proofs.Untouched.{untouched_byte, untouched_set}
use Rattle.cpu_access.specs.declared.stack.Write.{Write}
use Rattle.cpu_access.specs.declared.stack.Writes.{Writes}
use Rattle.cpu_access.specs.Bus.{memory_byte, nmi_vector, irq_vector}
use Rattle.cpu_access.specs.Accesses.{Accesses}
use Rattle.cpu_access.proofs.Performed.{SameAbove, performed_same}
use Rattle.cpu.specs.InstructionAccesses.{instruction_accesses, reset_accesses, interrupt_accesses}
use Rattle.r6501q_state.specs.declared.state.State.{State}
use Rattle.r6501q_state.specs.Pins.{driven_word}
use Rattle.r6501q_cpu.specs.Processor.{registers_of, register_file, performed_in, whole_instruction, reset_start, nmi_start}
use Rattle.r6501q_cpu.specs.Processor.{irq_start, start_of, processor_of}
use Rattle.r6501q_clock.specs.Clock.{Clocked}
use Rattle.std.specs.Prelude.{Ok, Err}
use Rattle.r6501q_clock.specs.Clock.{before_cpu, recorded, clock_of}
use Rattle.memory_writes.specs.Commit.{put_write, committed}
use Rattle.leaps.specs.World.{after, input_count_in, running_in, plain_of}
use Rattle.leaps.proofs.Along.{Unaffected}
use Rattle.r6501q_chip.specs.R6501q.{World, clock_outcome, r6501q, plain, system}

module _ (m m' : List ℕ) (same : SameAbove m m') where
  -- ---- step 4, and the clock
  reads_same : {A : Type 0} (s : State) (t : Accesses A) → performed_in s m' t ≡ performed_in s m t
  reads_same s t = performed_same (register_file s.last.ports) m m' same t s.peripherals []

  start_same : (s : State) → start_of s m' ≡ start_of s m
  unfolding start_of reset_start nmi_start irq_start whole_instruction
  start_same s =
      let r = registers_of s.cpu in
      rw (
        reads_same s (reset_accesses r),
        reads_same s (interrupt_accesses nmi_vector r),
        reads_same s (interrupt_accesses irq_vector r),
        reads_same s (instruction_accesses r),
      )

  processor_same : (s : State) → processor_of s m' ≡ processor_of s m
  unfolding processor_of
  processor_same s = rw (start_same s)

  -- what a clock comes to, its writes among it
  pub clock_same : (s : State) (codes : List ℕ) (free : Bool) → clock_of s codes m' free ≡ clock_of s codes m free
  unfolding clock_of
  clock_same s codes free = ap (recorded (driven_word s.peripherals) free) (processor_same (before_cpu s codes))

-- ---- the first 40h bytes replaced

-- a world with other bytes at 0 to 3Fh of its memory
abbrev pub world_with_untouched : List ℕ → World → World
world_with_untouched first w = record {
  state = w.state;
  memory = with_untouched first w.memory;
  input_clocks = w.input_clocks;
  input_codes = w.input_codes;
  output_clocks = w.output_clocks;
  output_words = w.output_words;
  read = w.read;
  written = w.written;
  stop = w.stop;
}

module _ (first : List ℕ) (whole : length first ≡ register_end) where
  untouched_same : (m : List ℕ) → SameAbove m (with_untouched first m)
  unfolding memory_byte
  untouched_same m a h = untouched_byte first m a whole h

  -- the writes of a clock touch no byte there
  put_untouched : (there : Bool) (w : Write) (m : List ℕ)
      → put_write there w (with_untouched first m) ≡ with_untouched first (put_write there w m)
  unfolding put_write
  put_untouched there w m = by_place there (is_register w.address) refl
    where
      by_place : (t r : Bool) → is_register w.address ≡ r
          → cond (t && not r) (set (with_untouched first m) w.address w.value) (with_untouched first m)
          ≡ with_untouched first (cond (t && not r) (set m w.address w.value) m)
      by_place true true e = refl
      by_place true false e = untouched_set first m w.address w.value whole e
      by_place false r e = refl

  committed_untouched : (m : List ℕ) (w : Writes)
      → committed (with_untouched first m) w ≡ with_untouched first (committed m w)
  unfolding committed
  committed_untouched m w =
      rw (
        put_untouched (ltb 0 w.count) w.first m,
        put_untouched (ltb 1 w.count) w.second,
        put_untouched (ltb 2 w.count) w.third,
      )

  after_untouched : (halt : Option ℕ) (w : World) (inputs : ℕ) (c : Clocked)
      → after (r6501q halt) (world_with_untouched first w) inputs (clock_outcome halt (with_untouched first w.memory) c)
      ≡ world_with_untouched first (after (r6501q halt) w inputs (clock_outcome halt w.memory c))
  after_untouched halt w inputs (Err stop) = refl
  after_untouched halt w inputs (Ok e) = rw (committed_untouched w.memory e.writes)

  -- Memory at 0 to 3Fh is neither read nor written by a plain clock: with other bytes there, all that it comes to is
  -- the same, and these bytes come back as they were.
  pub plain_untouched : (halt : Option ℕ) (w : World)
      → plain halt (world_with_untouched first w) ≡ world_with_untouched first (plain halt w)
  unfolding plain_of
  plain_untouched halt w =
      let inputs = input_count_in (r6501q halt) w in
      let free = ltb w.written (length w.output_clocks) in
      let clocked = clock_of w.state (take inputs w.input_codes) w.memory free in
      ap (λ (c : Clocked). cond (running_in w)
      (after (r6501q halt) (world_with_untouched first w) inputs (clock_outcome halt (with_untouched first w.memory) c))
      (world_with_untouched first w))
      (clock_same w.memory (with_untouched first w.memory) (untouched_same w.memory) w.state
      (take inputs w.input_codes)
      free)
      ∙ sym (cond_along (world_with_untouched first) (running_in w)
      (after (r6501q halt) w inputs (clock_outcome halt w.memory clocked))
      w (sym (after_untouched halt w inputs clocked)) refl)

  -- nor by gaps
  pub unaffected : (halt : Option ℕ) → Unaffected (system halt) (world_with_untouched first)
  unaffected halt = record {
    plain = plain_untouched halt;
    pass = λ g w. refl;
    gap = λ n w. refl;
    running = λ w. refl;
    clock = λ w. refl;
  }
