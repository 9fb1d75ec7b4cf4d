-- The single-clock call, by its parts.
use Rattle.std.specs.Prelude.{Option}
use mathlib.Core.Path.{◌≡◌, refl, ap}
use mathlib.Core.List.{List}
use Prim.Native.Nat.{ℕ}
use native.Mathlib.Omega.{arith}
use lib.ListN.{length}
use borrow.Author.Tests.{eq-eqb, ne_eqb}
use Rattle.refusals.specs.Refusals.{refusal_of}
use Rattle.refusals.proofs.Accepted.{Accepted, accepted}
use Rattle.leaps.specs.Leaps.{moved_of}
use Rattle.leaps.specs.CallLists.{step_of}
use Rattle.leaps.specs.Calls.{call_start, handed_back_of}
use Rattle.r6501q_state.specs.declared.state.State.{State}
use Rattle.r6501q_state.specs.State.{well_formed}
use Rattle.r6501q_advance.specs.declared.Progress.{Progress}
use Rattle.r6501q_advance.specs.declared.lent.SummedMemory.{SummedMemory}
use Rattle.r6501q_advance.specs.declared.lent.LentLists.{LentLists}
use Rattle.r6501q_chip.specs.R6501q.{World, r6501q_limits, plain, machine}
use Rattle.r6501q_advance.specs.World.{world_of, Going}
use Rattle.r6501q_step.specs.Calls.{handed, begin, refusal_result, progress_result, leaps_from}

module _ (s : State) (memory clocks codes times words : List ℕ)
    (good : refusal_of r6501q_limits (well_formed s) s.clock (length memory) clocks codes (length times)
    (length words) 1 ≡ 0) where
  -- the lists of a call that is not refused are pairs
  pub pairs : Accepted r6501q_limits (well_formed s) s.clock (length memory) clocks codes (length times) (length words) 1
  pairs = accepted r6501q_limits (well_formed s) s.clock (length memory) clocks codes (length times) (length words) 1 good

  -- it may go on
  pub begins : (lists : LentLists) → Going (begin s) lists
  begins lists = record {
    clock = omega (arith, pairs.most);
    read = omega arith;
    written = omega arith;
    stop = refl;
  }

  -- and hands back what its clock leaves
  pub steps : (halt : Option ℕ) (p : Progress) (later : SummedMemory) (lists : LentLists)
      → world_of p later lists ≡ plain halt (call_start s memory clocks codes times words)
      → handed (progress_result (leaps_from s.clock p.state.clock) p) later.bytes.now lists.outputclocks.now
      lists.outputwords.now
      ≡ step_of (machine halt) (call_start s memory clocks codes times words)
  unfolding step_of moved_of
  steps halt p later lists e =
      rw (eq-eqb _ 0 good) (ap (λ (w : World). handed_back_of (leaps_from s.clock w.state.clock) w) e)

-- a call that is refused hands back what it got
pub refuses : (halt : Option ℕ) (s : State) (memory clocks codes times words : List ℕ) (number : ℕ)
    → number
    ≡ refusal_of r6501q_limits (well_formed s) s.clock (length memory) clocks codes (length times) (length words) 1
    → (number ≡ 0 → ⊥)
    → handed (refusal_result number s) memory times words
    ≡ step_of (machine halt) (call_start s memory clocks codes times words)
unfolding step_of
refuses halt s memory clocks codes times words number e some = rw (← e, ne_eqb number 0 some)
