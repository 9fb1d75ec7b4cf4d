-- What a clock that is done keeps, and the stop of a clock that is not done.
use mathlib.Core.Path.{◌≡◌, refl, sym, subst, ◌∙◌}
use mathlib.Core.Bool.{Bool, true, false, cond, ◌&&◌, not, false≢true}
use mathlib.Core.List.{List}
use Prim.Native.Nat.{ℕ, ◌+◌}
use lib.Dec.{ltb, eqb}
use lib.ListN.{length, set, length-set}
use Rattle.std.specs.Prelude.{Option, None, Some, is_some, Ok, Err}
use Rattle.std.specs.Bool.{then_some}
use Rattle.bits.proofs.Cond.{cond_both}
use Rattle.memory.specs.Memory.{is_register}
use Rattle.stops.specs.declared.Stop.{Stop}
use Rattle.stops.specs.declared.Stop.TheVariants.{Undefined, Full}
use Rattle.r6501q_state.specs.declared.state.State.{State}
use Rattle.r6501q_state.specs.State.{well_formed}
use Rattle.r6501q_state.specs.Pins.{driven_word}
use Rattle.cpu_access.specs.declared.stack.Write.{Write}
use Rattle.cpu_access.specs.declared.stack.Writes.{Writes}
use Rattle.r6501q_cpu.specs.declared.Next.{Next}
use Rattle.r6501q_cpu.specs.Processor.{Processed, processor_of}
use Rattle.r6501q_cpu.proofs.Undefined.{processor_stop}
use Rattle.r6501q_cpu.proofs.Ranges.{Ends, processor_formed, processor_clock}
use Rattle.r6501q_clock.specs.declared.Ended.{Ended}
use Rattle.r6501q_clock.specs.Clock.{Clocked, ended_with, finished, recorded, before_cpu, clock_of}
use Rattle.memory_writes.specs.Commit.{put_write, committed}
use Rattle.r6501q_clock.proofs.Ranges.{before_cpu_formed, before_cpu_clock}

-- of a clock that is done
abbrev pub Finishes : (Ended → Type 0) → Clocked → Type 0
Finishes P (Err stop) = Unit {0}
Finishes P (Ok e) = P e

-- what holds of the state that the CPU leaves holds of the clock's end, and a record that is needed has room
module _ (P : State → Type 0) where
  finish_ends : (next : Next) (word : Option ℕ) (free : Bool) → P next.state
      → Finishes (λ e. P e.state × (is_some e.output ≡ true → free ≡ true)) (finished next word free)
  unfolding finished
  finish_ends next (Some word) true h = (h, λ _. refl)
  finish_ends next (Some word) false h = tt
  finish_ends next None free h = (h, λ e. absurd (false≢true e))

  clock_ends : (s : State) (codes memory : List ℕ) (free : Bool)
      → Ends (λ n. P n.state) (processor_of (before_cpu s codes) memory)
      → Finishes (λ e. P e.state × (is_some e.output ≡ true → free ≡ true)) (clock_of s codes memory free)
  unfolding clock_of
  clock_ends s codes memory free h = by_processed (processor_of (before_cpu s codes) memory) h
    where
      by_processed : (x : Processed) → Ends (λ n. P n.state) x
          → Finishes (λ e. P e.state × (is_some e.output ≡ true → free ≡ true))
          (recorded (driven_word s.peripherals) free x)
      by_processed (Err stop) k = tt
      by_processed (Ok next) k = finish_ends next _ free k

-- "Clock plus 1"
pub done_clock : (s : State) (codes memory : List ℕ) (free : Bool) (e : Ended) → clock_of s codes memory free ≡ Ok e
    → e.state.clock ≡ s.clock + 1
done_clock s codes memory free e d =
    let m = clock_ends (λ t. t.clock ≡ s.clock + 1) s codes memory free
    (along (processor_of (before_cpu s codes) memory) (processor_clock (before_cpu s codes) memory)) in
    (rw d at m).0
  where
    along : (x : Processed) → Ends (λ n. n.state.clock ≡ (before_cpu s codes).clock) x
        → Ends (λ n. n.state.clock ≡ s.clock + 1) x
    along (Err stop) h = tt
    along (Ok n) h = h ∙ before_cpu_clock s codes

-- a record that is put has room
pub done_room : (s : State) (codes memory : List ℕ) (free : Bool) (e : Ended) → clock_of s codes memory free ≡ Ok e
    → is_some e.output ≡ true → free ≡ true
done_room s codes memory free e d =
    let m = clock_ends (λ t. Unit {0}) s codes memory free (nothing (processor_of (before_cpu s codes) memory)) in
    (rw d at m).1
  where
    nothing : (x : Processed) → Ends (λ n. Unit {0}) x
    nothing (Err stop) = tt
    nothing (Ok n) = tt

-- every field stays in its range
pub done_formed : (s : State) (codes memory : List ℕ) (free : Bool) (e : Ended) → well_formed s ≡ true
    → clock_of s codes memory free ≡ Ok e
    → well_formed e.state ≡ true
done_formed s codes memory free e f d =
    let m = clock_ends (λ t. well_formed t ≡ true) s codes memory free
    (processor_formed (before_cpu s codes) memory (before_cpu_formed s codes f)) in
    (rw d at m).0

-- a commit keeps the memory's length
put_length : (there : Bool) (w : Write) (m : List ℕ) → length (put_write there w m) ≡ length m
unfolding put_write
put_length there w m =
    cond_both (λ (l : List ℕ). length l ≡ length m) (there && not (is_register w.address))
    (set m w.address w.value) m (λ _. length-set m w.address w.value) (λ _. refl)

pub commit_length : (m : List ℕ) (w : Writes) → length (committed m w) ≡ length m
unfolding committed
commit_length m w =
    let one = put_write (ltb 0 w.count) w.first m in
    let two = put_write (ltb 1 w.count) w.second one in
    put_length (ltb 2 w.count) w.third two ∙ put_length (ltb 1 w.count) w.second one
    ∙ put_length (ltb 0 w.count) w.first m

-- what holds of 6 and of 7 holds of a stop
pub stop_either : (P : Stop → Type 0) → P Undefined → P Full
    → (s : State) (codes memory : List ℕ) (free : Bool) (stop : Stop)
    → clock_of s codes memory free ≡ Err stop → P stop
unfolding clock_of finished
stop_either P six seven s codes memory free stop e = by_processed (processor_of (before_cpu s codes) memory) refl e
  where
    Stops : Clocked → Type 0
    Stops (Err k) = P k
    Stops (Ok d) = Unit {0}

    by_full : (t : Bool) (d : Ended) → Stops (cond t (Err Full) (Ok d))
    by_full true d = seven
    by_full false d = tt

    by_stop : (x : Clocked) → Stops x → x ≡ Err stop → P stop
    by_stop x h q = rw q at h

    by_processed : (x : Processed) → processor_of (before_cpu s codes) memory ≡ x
        → recorded (driven_word s.peripherals) free x ≡ Err stop → P stop
    by_processed (Err k) p q =
        by_stop (Err k) (subst P (sym (processor_stop (before_cpu s codes) memory k p)) six) q
    by_processed (Ok next) p q =
        let word = driven_word next.state.peripherals in
        let due = then_some (not (eqb word (driven_word s.peripherals))) word in
        by_stop (cond (is_some due && not free) (Err Full) (Ok (ended_with next due)))
        (by_full (is_some due && not free) (ended_with next due)) q
