-- Questions and answers of an instruction: one round of `instruction_from`, and that its bound is never met.
use mathlib.Core.Path.{◌≡◌, refl}
use mathlib.Core.List.{List, [], ◌∷◌, ◌++◌}
use Prim.Native.Nat.{ℕ, zero, suc, ◌+◌, ◌≤◌, ◌<◌}
use native.Mathlib.Omega.{arith}
use lib.ListN.{length, length-append}
use Rattle.std.specs.Prelude.{Err}
use Rattle.std.specs.declared.ops.ControlFlow.TheVariants.{Continue, Break}
use Rattle.stops.specs.declared.Stop.TheVariants.{Undefined}
use Rattle.r6501q_state.specs.declared.state.Peripherals.{Peripherals}
use Rattle.r6501q_state.specs.declared.state.State.{State}
use Rattle.r6501q_registers.specs.declared.read.Reading.{Reading}
use Rattle.cpu.specs.declared.Ask.{Ask}
use Rattle.cpu.specs.declared.Outcome.{Outcome}
use Rattle.cpu.specs.declared.Outcome.TheVariants as outcome
use Rattle.cpu.specs.InstructionInCode.{instruction_of}
use Rattle.cpu.proofs.Laws.{asks_end}
use Rattle.r6501q_cpu.specs.Processor.{Processed, registers_of}
use Rattle.r6501q_cpu.specs.Asking.{round_by, after_round, round_of, instruction_from, answered_instruction}

module _ (spent : Processed) (s : State) (p : Peripherals) (answers memory : List ℕ) where
  -- the last round
  pub round_over : (n : ℕ) (x : Processed) → 0 < n → round_of s p answers memory ≡ Break x
      → instruction_from spent n s p answers memory ≡ x
  unfolding instruction_from
  round_over zero x h e = absurd (omega arith)
  round_over (suc n) x h e = rw (e)

  -- a round with a question
  pub round_answered : (n m : ℕ) (r : Reading) → n ≡ suc m → round_of s p answers memory ≡ Continue r
      → instruction_from spent n s p answers memory
      ≡ instruction_from spent m s r.peripherals (answers ++ (r.value ∷ [])) memory
  unfolding instruction_from
  round_answered n m r h e = rw (h, e)

-- one round, whatever goes on after it
module _ (s : State) (p : Peripherals) (answers memory : List ℕ) (go_on go_on' : Reading → Processed) where
  same_round : ((q : Ask) (r : Reading) → instruction_of (registers_of s.cpu) answers memory ≡ outcome.Asked q
      → go_on r ≡ go_on' r)
      → after_round go_on (round_of s p answers memory) ≡ after_round go_on' (round_of s p answers memory)
  unfolding round_of
  same_round same = by_outcome (instruction_of (registers_of s.cpu) answers memory) refl
    where
      by_outcome : (o : Outcome) → instruction_of (registers_of s.cpu) answers memory ≡ o
          → after_round go_on (round_by s p o) ≡ after_round go_on' (round_by s p o)
      by_outcome outcome.Undefined e = refl
      by_outcome (outcome.Asked q) e = same q _ e
      by_outcome (outcome.Done w) e = refl

-- with five answers a round is the last, so that neither a larger bound nor what stands for a spent one changes
-- anything
more_rounds : (spent other : Processed) (k n : ℕ) (s : State) (p : Peripherals) (answers memory : List ℕ)
    → 6 ≤ suc n + length answers
    → instruction_from spent (suc (n + k)) s p answers memory ≡ instruction_from other (suc n) s p answers memory
unfolding instruction_from
more_rounds spent other k zero s p answers memory h =
    same_round s p answers memory _ _
    (λ q r e. absurd (asks_end (registers_of s.cpu) answers memory (omega arith) q e))
more_rounds spent other k (suc n) s p answers memory h =
    same_round s p answers memory _ _
    (λ q r e. (let m : suc n + k ≡ suc (n + k) = omega arith in
    rw m (more_rounds spent other k n s r.peripherals (answers ++ (r.value ∷ [])) memory
    (rw (length-append answers (r.value ∷ [])) (omega arith)))))

-- no instruction asks more than five times: what stands for a sixth question is never met
pub bound_unmet :
    (spent : Processed) (k : ℕ) (s : State) (memory : List ℕ)
    → instruction_from spent (6 + k) s s.peripherals [] memory ≡ answered_instruction s memory
unfolding answered_instruction
bound_unmet spent k s memory =
    let e : 6 + k ≡ suc (5 + k) = omega arith in
    rw e (more_rounds spent (Err Undefined) k 5 s s.peripherals [] memory (omega arith))
