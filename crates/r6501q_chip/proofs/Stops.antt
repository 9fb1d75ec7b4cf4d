-- 01, What is handed back: "6 | the next clock would start an undefined opcode", said of a plain clock.
use Rattle.std.specs.Prelude.{None, Option, Some}
use Rattle.cpu_access.specs.declared.stack.Write.{Write}
use mathlib.Core.Path.{◌≡◌, refl, ap, ◌∙◌}
use mathlib.Core.Bool.{Bool, true, false, ◌&&◌, not, cond}
use mathlib.Core.List.{List}
use Prim.Native.Nat.{ℕ}
use lib.Dec.{ltb, eqb}
use lib.ListN.{length, take}
use borrow.Author.Tests.{eq-eqb}
use Rattle.std.specs.Prelude.{Option, Some, None, Ok, Err}
use Rattle.bits.proofs.Cond.{cond_yes, cond_both}
use Rattle.stops.specs.Stops.{stop_number}
use Rattle.cpu_access.specs.Halt.{halts}
use Rattle.cpu_opcodes.specs.declared.Entry.{Entry}
use Rattle.cpu_opcodes.specs.Decode.{decode_of}
use Rattle.leaps.specs.World.{after, input_count_in, running_in, plain_of}
use Rattle.r6501q_state.specs.declared.state.State.{State}
use Rattle.r6501q_state.specs.Pins.{driven_word}
use Rattle.r6501q_cpu.specs.declared.Next.{Next}
use Rattle.r6501q_cpu.specs.Processor.{waited_by, whole_instruction, opcode_at, irq_due, start_of, processor_of, Processed}
use Rattle.r6501q_cpu.proofs.Undefined.{undefined_opcode, defined_opcode}
use Rattle.r6501q_clock.specs.Clock.{halt_stop, before_cpu, finished, recorded, clock_of}
use Rattle.r6501q_chip.specs.R6501q.{World, clock_outcome, r6501q, plain}

abbrev pub is_undefined : Option Entry → Bool
is_undefined None = true
is_undefined (Some e) = false

-- of a state after steps 1 to 3: RES is high, wait 0, neither reset nor NMI due, no IRQ, and the opcode at PC is
-- undefined
abbrev pub starts_undefined : State → List ℕ → Bool
starts_undefined s memory =
    s.last.res && not (ltb 0 s.cpu.wait) && not s.due.reset && not s.due.nmi && not (irq_due s)
    && is_undefined (decode_of (opcode_at s memory))

abbrev stops_with_six : Processed → Bool
stops_with_six (Err stop) = eqb (stop_number stop) 6
stops_with_six (Ok n) = false

instruction_undefined : (s : State) (memory : List ℕ)
    → stops_with_six (whole_instruction s memory) ≡ is_undefined (decode_of (opcode_at s memory))
instruction_undefined s memory = by_opcode (decode_of (opcode_at s memory)) refl
  where
    done : (e : Entry) → decode_of (opcode_at s memory) ≡ Some e → (p : Processed)
        → whole_instruction s memory ≡ p → stops_with_six p ≡ false
    done e d (Err stop) u = absurd (defined_opcode s memory e stop d u)
    done e d (Ok n) u = refl

    by_opcode : (d : Option Entry) → decode_of (opcode_at s memory) ≡ d
        → stops_with_six (whole_instruction s memory) ≡ is_undefined d
    by_opcode None d = ap stops_with_six (undefined_opcode s memory d)
    by_opcode (Some e) d = done e d (whole_instruction s memory) refl

-- a clock after the first is done
waited_done : (s : State) (v : Option Write) → stops_with_six (waited_by s v) ≡ false
waited_done s None = refl
waited_done s (Some w) =
    cond_both (λ (p : Processed). stops_with_six p ≡ false) (eqb s.cpu.wait 1) _ _ (λ _. refl) (λ _. refl)

processor_undefined : (s : State) (memory : List ℕ) → stops_with_six (processor_of s memory) ≡ starts_undefined s memory
unfolding processor_of start_of
processor_undefined s memory =
    by_tests s.last.res (ltb 0 s.cpu.wait) s.due.reset s.due.nmi (irq_due s) _
    (waited_done s s.cpu.waiting) _ _ _ _
    (whole_instruction s memory) (instruction_undefined s memory)
  where
    by_tests : (h z r m q : Bool) (x : Processed) → stops_with_six x ≡ false → (b c d e : Next) (i : Processed)
        → stops_with_six i ≡ is_undefined (decode_of (opcode_at s memory))
        → stops_with_six (cond h (cond z x (cond r (Ok b)
        (cond m (Ok c) (cond q (Ok d) i)))) (Ok e))
        ≡ (h && not z && not r && not m && not q && is_undefined (decode_of (opcode_at s memory)))
    by_tests false z r m q x done b c d e i u = refl
    by_tests true true r m q x done b c d e i u = done
    by_tests true false true m q x done b c d e i u = refl
    by_tests true false false true q x done b c d e i u = refl
    by_tests true false false false true x done b c d e i u = refl
    by_tests true false false false false x done b c d e i u = u

-- a clock that is not undefined does not stop with 6
halt_not_six : (t : Bool) → eqb (cond t halt_stop 0) 6 ≡ false
halt_not_six true = refl
halt_not_six false = refl

by_record : (halt : Option ℕ) (w : World) (inputs : ℕ) (n : Next) (word : Option ℕ) (free : Bool)
    → eqb (after (r6501q halt) w inputs (clock_outcome halt w.memory (finished n word free))).stop 6 ≡ false
unfolding finished
by_record halt w inputs n (Some word) true = halt_not_six (halts halt n.writes)
by_record halt w inputs n (Some word) false = refl
by_record halt w inputs n None free = halt_not_six (halts halt n.writes)

by_end : (halt : Option ℕ) (w : World) (inputs : ℕ) (free : Bool) (p : Processed)
    → eqb (after (r6501q halt) w inputs
    (clock_outcome halt w.memory (recorded (driven_word w.state.peripherals) free p))).stop 6 ≡ stops_with_six p
by_end halt w inputs free (Err stop) = refl
by_end halt w inputs free (Ok n) = by_record halt w inputs n _ free

-- A plain clock stops with 6 just where its steps 1 to 3 leave such a state.
pub stop_six : (halt : Option ℕ) (w : World) → w.stop ≡ 0
    → eqb (plain halt w).stop 6
    ≡ starts_undefined (before_cpu w.state (take (input_count_in (r6501q halt) w) w.input_codes)) w.memory
unfolding plain_of clock_of
stop_six halt w running =
    let inputs = input_count_in (r6501q halt) w in
    let free = ltb w.written (length w.output_clocks) in
    let s = before_cpu w.state (take inputs w.input_codes) in
    let clocked = clock_of w.state (take inputs w.input_codes) w.memory free in
    ap (λ (v : World). eqb v.stop 6) (cond_yes (running_in w)
    (after (r6501q halt) w inputs (clock_outcome halt w.memory clocked)) w (eq-eqb w.stop 0 running))
    ∙ by_end halt w inputs free (processor_of s w.memory) ∙ processor_undefined s w.memory
