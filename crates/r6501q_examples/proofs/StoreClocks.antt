-- 02, U6, of whole clocks: what the clocks of a store tell. A store's start tells no write, nor do the clocks between;
-- the last tells just the byte that waited, and with RES low nothing is told.
use Rattle.std.specs.Prelude.{Some}
use mathlib.Core.Path.{◌≡◌, refl, ap, ◌∙◌}
use mathlib.Core.Bool.{Bool, true, false, ◌&&◌, not, cond}
use Prim.Native.Nat.{ℕ, ◌+◌, ◌<◌}
use lib.Dec.{ltb, eqb}
use lib.ListN.{length, take}
use Rattle.std.specs.Prelude.{Some}
use Rattle.bits.proofs.Cond.{cond_map}
use Rattle.pin_lists.specs.PinLists.{input_count}
use Rattle.cpu_opcodes.specs.Decode.{decode_of}
use Rattle.cpu_opcodes.specs.declared.Entry.{Entry}
use Rattle.cpu_access.specs.declared.stack.Write.{Write}
use Rattle.cpu_access.specs.declared.stack.Writes.{Writes}
use Rattle.cpu_access.specs.Stack.{no_writes, one_write}
use Rattle.cpu_access.specs.Waiting.{byte_waits}
use Rattle.cpu.proofs.Laws.{stores_of}
use Rattle.r6501q_state.specs.declared.state.State.{State}
use Rattle.r6501q_state.specs.Pins.{driven_word}
use Rattle.r6501q_cpu.specs.declared.Next.{Next}
use Rattle.std.specs.Prelude.{Ok, is_some}
use Rattle.std.specs.Bool.{then_some}
use Rattle.r6501q_cpu.specs.Processor.{Processed}
use Rattle.r6501q_cpu.specs.Processor.{irq_due, opcode_at, byte_put, processor_of}
use Rattle.r6501q_cpu.proofs.Stores.{instruction_starts, instruction_begun, clock_waits, waited_less, byte_put_lem}
use Rattle.r6501q_cpu.proofs.Stores.{held_writes}
use Rattle.r6501q_clock.specs.Clock.{before_cpu, finished, recorded, clock_of}
use Rattle.r6501q_chip.specs.R6501q.{World}
use Rattle.r6501q_chip.proofs.Halted.{told_by, clock_in}

-- the state that steps 1 to 3 of the next clock leave
abbrev pub ready_in : World → State
ready_in w = before_cpu w.state (take (input_count (w.state.clock + 1) w.input_clocks) w.input_codes)

-- the clock needs a record and none is free: 7, and it is not done
abbrev pub full_in : World → Next → Bool
full_in w n =
    not (eqb (driven_word n.state.peripherals) (driven_word w.state.peripherals))
    && not (ltb w.written (length w.output_clocks))

never_told : (t : Bool) → cond {A = Writes} t no_writes no_writes ≡ no_writes
never_told true = refl
never_told false = refl

some_where : (t : Bool) (n : ℕ) → is_some (then_some t n) ≡ t
some_where true n = refl
some_where false n = refl

module _ (w : World) where
  -- a clock tells what step 4 writes, unless it is not done
  pub told_by_lem : (n : Next) → processor_of (ready_in w) w.memory ≡ Ok n
      → told_by (clock_in w) ≡ cond (full_in w n) no_writes n.writes
  unfolding clock_of finished
  told_by_lem n e =
      let word = driven_word n.state.peripherals in
      let free = ltb w.written (length w.output_clocks) in
      let differs = not (eqb word (driven_word w.state.peripherals)) in
      ap (λ (x : Processed). told_by (recorded (driven_word w.state.peripherals) free x)) e
      ∙ cond_map told_by (is_some (then_some differs word) && not free) _ _
      ∙ ap (λ (t : Bool). cond (t && not free) no_writes n.writes) (some_where differs word)

  untold : (n : Next) → processor_of (ready_in w) w.memory ≡ Ok n → n.writes ≡ no_writes
      → told_by (clock_in w) ≡ no_writes
  untold n e none = told_by_lem n e ∙ ap (λ (x : Writes). cond (full_in w n) no_writes x) none ∙ never_told (full_in w n)

  -- "A store's start": its row is e
  pub start_untold : (e : Entry) → (ready_in w).last.res ≡ true → (ready_in w).cpu.wait ≡ 0
      → (ready_in w).due.reset ≡ false → (ready_in w).due.nmi ≡ false
      → irq_due (ready_in w) ≡ false → decode_of (opcode_at (ready_in w) w.memory) ≡ Some e → stores_of e ≡ true
      → told_by (clock_in w) ≡ no_writes
  start_untold e high over reset nmi irq d store =
      let begun = instruction_begun (ready_in w) w.memory e d in
      untold begun.next (instruction_starts (ready_in w) w.memory high over reset nmi irq ∙ begun.done)
      (begun.writes store)

  -- the clocks between
  pub between_untold : (ready_in w).last.res ≡ true → 0 < (ready_in w).cpu.wait
      → (byte_waits (ready_in w).cpu.waiting && eqb (ready_in w).cpu.wait 1) ≡ false → told_by (clock_in w) ≡ no_writes
  between_untold high some more =
      untold _ (clock_waits (ready_in w) w.memory high some ∙ waited_less (ready_in w) more) refl

  -- the put
  pub put_told : (x : Write) → (ready_in w).last.res ≡ true → (ready_in w).cpu.wait ≡ 1 → (ready_in w).cpu.waiting ≡ Some x
      → told_by (clock_in w) ≡ cond (full_in w (byte_put (ready_in w) x)) no_writes (one_write x)
  unfolding byte_put
  put_told x high last waits = told_by_lem (byte_put (ready_in w) x) (byte_put_lem (ready_in w) w.memory x high last waits)

  -- a dropped byte
  pub dropped_untold : (ready_in w).last.res ≡ false → told_by (clock_in w) ≡ no_writes
  dropped_untold low = untold _ (held_writes (ready_in w) w.memory low) refl
