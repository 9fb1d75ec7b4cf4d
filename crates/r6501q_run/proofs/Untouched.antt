-- 01, Machine state: memory's "bytes at 0 to 3Fh, the registers, are never touched": neither read nor written by a run.
use Rattle.std.specs.Prelude.{Option}
use mathlib.Core.Path.{◌≡◌, refl, sym}
use mathlib.Core.Bool.{cond}
use mathlib.Core.List.{List}
use Prim.Native.Nat.{ℕ, ◌≤◌}
use lib.Dec.{eqb}
use lib.ListN.{length}
use Rattle.bits.proofs.Cond.{cond_along}
use Rattle.memory.specs.Memory.{register_end, with_untouched}
use Rattle.memory.proofs.Untouched.{untouched_length}
use Rattle.leaps.specs.Leaps.{plains, moved_of, run}
use Rattle.leaps.specs.CallLists.{handed_run, step_of, run_of}
use Rattle.leaps.specs.Calls.{handed_back_of, refusal_in, refused_call}
use Rattle.leaps.proofs.Along.{plains_along, run_along, moved_along}
use Rattle.r6501q_chip.specs.R6501q.{World, Handed, r6501q, plain, system, machine}
use Rattle.r6501q_chip.proofs.Untouched.{world_with_untouched, plain_untouched, unaffected}

-- what a call hands back, with other bytes at 0 to 3Fh of the memory
abbrev pub handed_with_untouched : List ℕ → Handed → Handed
handed_with_untouched first h = record {
  result = h.result;
  memory = with_untouched first h.memory;
  output_clocks = h.output_clocks;
  output_words = h.output_words;
}

-- Two memories that agree from 40h on: the same results and records, the same bytes from 40h on, and each its own bytes
-- below.
module _ (halt : Option ℕ) (first : List ℕ) (whole : length first ≡ register_end) where
  pub plains_untouched : (n : ℕ) (w : World)
      → plains (system halt) n (world_with_untouched first w) ≡ world_with_untouched first (plains (system halt) n w)
  plains_untouched = plains_along (system halt) (world_with_untouched first) (unaffected first whole halt)

  pub run_untouched : (n : ℕ) (w : World) → register_end ≤ length w.memory
      → run_of (machine halt) n (world_with_untouched first w) ≡ handed_with_untouched first (run_of (machine halt) n w)
  unfolding run_of
  run_untouched n w h =
      rw (
        untouched_length first w.memory whole h,
        run_along (system halt) (world_with_untouched first) (unaffected first whole halt) n w,
      )
      (sym (cond_along (handed_with_untouched first) (eqb (refusal_in (r6501q halt) n w) 0)
      (handed_run (machine halt) (run (system halt) n w)) (refused_call (r6501q halt) n w) refl refl))

  pub step_untouched : (w : World) → register_end ≤ length w.memory
      → step_of (machine halt) (world_with_untouched first w) ≡ handed_with_untouched first (step_of (machine halt) w)
  unfolding step_of
  step_untouched w h =
      rw (
        untouched_length first w.memory whole h,
        plain_untouched first whole halt w,
        moved_along (system halt) (world_with_untouched first) (unaffected first whole halt) w (plain halt w),
      )
      (sym (cond_along (handed_with_untouched first) (eqb (refusal_in (r6501q halt) 1 w) 0)
      (handed_back_of (moved_of (system halt) w (plain halt w)) (plain halt w)) (refused_call (r6501q halt) 1 w) refl refl))
