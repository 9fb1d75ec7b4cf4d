-- Document 02, U4, of a call: where it tells 12.
use Rattle.std.specs.Prelude.{Option}
use mathlib.Core.Path.{◌≡◌, refl, ap, subst, ◌∙◌}
use mathlib.Core.Bool.{Bool, true, false, ◌&&◌, cond}
use Prim.Native.Nat.{ℕ}
use native.Mathlib.Omega.{arith}
use lib.Dec.{ltb, eqb}
use lib.ListN.{length}
use borrow.Author.Tests.{eqb-true}
use Rattle.leaps.specs.Leaps.{plains, leap_count}
use Rattle.leaps.specs.CallLists.{Call, single_clock, run_for, count_of, call_of, plain_run_of}
use Rattle.leaps.specs.Calls.{stop_of, handed_back_of, refusal_in, refused_call, Room}
use Rattle.leaps.proofs.Calls as theory
use Rattle.leaps.proofs.Calls.{refusal_no_stop}
use Rattle.r6501q_state.specs.State.{well_formed}
use Rattle.r6501q_chip.specs.R6501q.{World, Handed, r6501q_limits, r6501q, system, machine}
use Rattle.r6501q_chip.proofs.Halted.{clocks_before, plains_twelve}
use Rattle.r6501q_leap.proofs.Laws.{laws}
use Rattle.r6501q_run.proofs.Fair.{single_run}

-- the number of a refusal is not 12
no_stop_twelve : (number : ℕ) → stop_of number ≡ 0 → eqb number 12 ≡ false
unfolding stop_of
no_stop_twelve number none = by_test (eqb number 12) refl
  where
    by_test : (t : Bool) → eqb number 12 ≡ t → t ≡ false
    by_test true e = absurd (omega (arith, subst (λ (k : ℕ). stop_of k ≡ 0) (eqb-true number 12 e) none))
    by_test false e = refl

refusal_not_twelve : (halt : Option ℕ) (n : ℕ) (w : World) → eqb (refusal_in (r6501q halt) n w) 12 ≡ false
refusal_not_twelve halt n w =
    no_stop_twelve (refusal_in (r6501q halt) n w)
    (refusal_no_stop r6501q_limits (well_formed w.state) w.state.clock (length w.memory) w.input_clocks
    w.input_codes
    (length w.output_clocks) (length w.output_words) n)

plain_run_twelve : (halt : Option ℕ) (n : ℕ) (w : World) → w.stop ≡ 0
    → eqb (plain_run_of (machine halt) n w).result.number 12
    ≡ (eqb (refusal_in (r6501q halt) n w) 0 && ltb (clocks_before halt n w) n)
unfolding plain_run_of
plain_run_twelve halt n w on = by_test (eqb (refusal_in (r6501q halt) n w) 0)
  where
    by_test : (t : Bool)
        → eqb (cond t (handed_back_of (leap_count (system halt) n w) (plains (system halt) n w))
        (refused_call (r6501q halt) n w)).result.number 12
        ≡ (t && ltb (clocks_before halt n w) n)
    by_test true = plains_twelve halt n w on
    by_test false = refusal_not_twelve halt n w

-- A call, single clock or run, tells 12 just where it is not refused and one of its clocks writes the halt address: the
-- first that does is the last that it does (`plains_halt`, `before_unwritten`, `first_written` of
-- r6501q_chip/proofs/Halted.antt).
pub call_twelve : (halt : Option ℕ) (c : Call) (w : World) → Room w → w.stop ≡ 0
    → eqb (call_of (machine halt) c w).result.number 12
    ≡ (eqb (refusal_in (r6501q halt) (count_of c) w) 0 && ltb (clocks_before halt (count_of c) w) (count_of c))
unfolding call_of count_of
call_twelve halt single_clock w room on =
    ap (λ (h : Handed). eqb h.result.number 12) (single_run halt w) ∙ plain_run_twelve halt 1 w on
call_twelve halt (run_for n) w room on =
    ap (λ (h : Handed). eqb h.result.number 12) (theory.runs_plainly (r6501q halt) (laws halt) n w room)
    ∙ plain_run_twelve halt n w on
