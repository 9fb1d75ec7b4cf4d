-- The run in code, leap by leap.
use Rattle.std.specs.Prelude.{Option}
use mathlib.Core.Path.{◌≡◌, refl, sym, ap, ◌∙◌}
use mathlib.Core.Bool.{true, false}
use mathlib.Core.List.{List}
use Prim.Native.Nat.{ℕ, ◌+◌, ◌-◌, ◌≤◌, ◌<◌}
use native.Mathlib.Nat.{zero-add, add-zero, add_assoc}
use native.Mathlib.Omega.{arith}
use lib.Dec.{ltb, eqb}
use lib.ListN.{length, drop, length-drop}
use borrow.Author.Tests.{ltb-true, lt-ltb, le-ltb, eq-eqb, ne_eqb}
use Rattle.bits.proofs.Cond.{cond_both, one_where_le, and_left, and_right}
use Rattle.counters.specs.declared.time.Clocks.{Clocks}
use Rattle.refusals.specs.Refusals.{last_clock, refusal_of}
use Rattle.refusals.proofs.Accepted.{accepted}
use Rattle.std.specs.Prelude.{None, is_none}
use Rattle.stops.proofs.Numbers.{number_none, none_true}
use Rattle.leaps.specs.Leaps.{Run, leap_of, left_after, moved_of, run}
use Rattle.leaps.specs.World.{running_in, pass_in}
use Rattle.leaps.specs.CallLists.{handed_run, run_of, plain_run_of}
use Rattle.leaps.specs.Calls.{call_start, handed_back_of}
use Rattle.leaps.proofs.Laws.{run_leap, run_over}
use Rattle.leaps.proofs.Chips.{plain_advances}
use Rattle.leaps.proofs.Calls as theory
use Rattle.r6501q_state.specs.declared.state.State.{State}
use Rattle.r6501q_state.specs.State.{well_formed}
use Rattle.r6501q_events.specs.Gaps.{clocks_of, gap_of}
use Rattle.r6501q_events.proofs.Gaps.{gap_le}
use Rattle.r6501q_events.proofs.Passing.{pass_clock}
use Rattle.r6501q_advance.specs.declared.Progress.{Progress}
use Rattle.r6501q_advance.specs.declared.lent.LentLists.{LentLists}
use Rattle.r6501q_chip.specs.R6501q.{World, r6501q_limits, r6501q, plain, system, machine}
use Rattle.r6501q_advance.specs.World.{world_with, Going}
use Rattle.r6501q_step.specs.Calls.{handed, begin, refusal_result, progress_result, leaps_from}
use Rattle.r6501q_leap.specs.declared.Leaped.{Leaped}
use Rattle.r6501q_leap.specs.RunInCode.{passed_by, goes_on, run_from, run_ended, begin_run, Leaping, LeapingOn}
use Rattle.r6501q_leap.proofs.Laws.{laws, lawful}

-- the gap of a world
abbrev gap_in : ℕ → World → ℕ
gap_in n w = (gap_of n w.state w.input_clocks).0

-- how far a leap goes
pub record Leapt (n : ℕ) (w v : World) : Type 0 where
  pub clock : v.state.clock + (n - (gap_in n w + 1)) ≤ w.state.clock + n
  pub read : v.read ≤ w.read + length w.input_clocks
  pub memory : length v.memory ≡ length w.memory
  pub output_clocks : length v.output_clocks ≡ length w.output_clocks
  pub output_words : length v.output_words ≡ length w.output_words
  pub written : w.written ≤ length w.output_clocks → v.written ≤ length w.output_clocks

pub leap_goes : (halt : Option ℕ) (n : ℕ) (w : World) → Leapt n w (leap_of (system halt) n w)
unfolding leap_of
leap_goes halt n w =
    let g = gap_in n w in
    let at = pass_in (r6501q halt) g w in
    let passed = pass_clock w.state g in
    cond_both (Leapt n w) (ltb g n) (plain halt at) at
    (λ e. let less = ltb-true g n e in let a = plain_advances (r6501q halt) (laws halt) at in
    record {
      clock = omega (arith, a.clock);
      read = a.read;
      memory = a.memory;
      output_clocks = a.output_clocks;
      output_words = a.output_words;
      written = a.written;
    })
    (λ e. let most = gap_le n w.state w.input_clocks in
    record {
      clock = omega arith;
      read = omega arith;
      memory = refl;
      output_clocks = refl;
      output_words = refl;
      written = λ h. h;
    })

-- one leap of a run
pub leap_run : (halt : Option ℕ) (n leaps : ℕ) (w v : World) → 0 < n → running_in w ≡ true → v ≡ leap_of (system halt) n w
    → ◌≡◌ {A = Run World}
    (record {
      world = (run (system halt) (n - (gap_in n w + 1)) v).world;
      leaps = leaps + leaps_from w.state.clock v.state.clock + (run (system halt) (n - (gap_in n w + 1)) v).leaps;
    })
    (record { world = (run (system halt) n w).world; leaps = leaps + (run (system halt) n w).leaps })
unfolding moved_of
leap_run halt n leaps w v h z e = rw (run_leap (system halt) (lawful halt) n w h z, e, add_assoc)

module _ (halt : Option ℕ) (memory clocks codes times words memory' times' words' : List ℕ) (p q : Progress) (n : ℕ)
    (l : Leaping p n clocks codes times words)
    (e : world_with q memory' clocks codes times' words'
    ≡ leap_of (system halt) n (world_with p memory clocks codes times words)) where
  abbrev w : World
  w = world_with p memory clocks codes times words

  went : Leapt n w (world_with q memory' clocks codes times' words')
  went = rw e (leap_goes halt n w)

  -- and what holds at its end
  pub leaping_on : Leaping q (n - (gap_in n w + 1)) clocks codes times' words'
  leaping_on = record {
    clock = omega (arith, went.clock, l.clock);
    read = omega (arith, went.read, l.read, length-drop p.read clocks);
    inputs = l.inputs;
    outputs = went.output_clocks ∙ l.outputs ∙ sym went.output_words;
    written = rw went.output_clocks (went.written l.written);
  }

-- a run that goes on no more
pub run_ended_lem : (halt : Option ℕ) (l : Leaped) (memory clocks codes times words : List ℕ) → goes_on l ≡ false
    → run_ended l memory clocks codes times words ≡ run_from halt l memory clocks codes times words
run_ended_lem halt l memory clocks codes times words e =
    rw (
      run_over (system halt) (lawful halt) l.left.0 (world_with l.progress memory clocks codes times words)
          (rw (number_none l.progress.stop) e),
      add-zero l.leaps,
    )

-- the run by leaps is the run by plain clocks, with document 01's count, from any start
pub runs_plainly : (halt : Option ℕ) (n : ℕ) (s : State) (memory clocks codes times words : List ℕ)
    → run_of (machine halt) n (call_start s memory clocks codes times words)
    ≡ plain_run_of (machine halt) n (call_start s memory clocks codes times words)
runs_plainly halt n s memory clocks codes times words =
    theory.runs_plainly (r6501q halt) (laws halt) n (call_start s memory clocks codes times words)
    (record { output_clocks = omega arith; output_words = omega arith })

-- a refused call
pub run_refused : (halt : Option ℕ) (n : ℕ) (s : State) (memory clocks codes times words : List ℕ) (number : ℕ)
    → number
    ≡ refusal_of r6501q_limits (well_formed s) s.clock (length memory) clocks codes (length times) (length words) n
    → (number ≡ 0 → ⊥)
    → handed (refusal_result number s) memory times words
    ≡ run_of (machine halt) n (call_start s memory clocks codes times words)
unfolding run_of
run_refused halt n s memory clocks codes times words number e some = rw (← e, ne_eqb number 0 some)

module _ (s : State) (n : ℕ) (memory clocks codes times words : List ℕ)
    (good : refusal_of r6501q_limits (well_formed s) s.clock (length memory) clocks codes (length times)
    (length words) n ≡ 0) where
  abbrev start : World
  start = call_start s memory clocks codes times words

  -- a call that is not refused may leap
  pub leaping_begins : Leaping (begin s) n clocks codes times words
  leaping_begins =
      let a = accepted r6501q_limits (well_formed s) s.clock (length memory) clocks codes (length times)
      (length words) n good in
      record { clock = a.most; read = omega arith; inputs = a.inputs; outputs = a.outputs; written = omega arith }

  -- its leaps are no more than its clocks, which fit
  pub begins_bound : 0 + n ≤ last_clock
  begins_bound =
      let a = accepted r6501q_limits (well_formed s) s.clock (length memory) clocks codes (length times)
      (length words) n good in
      omega (arith, a.most)

  -- and hands back what its leaps leave
  pub runs : (halt : Option ℕ) (l : Leaped) (memory' times' words' : List ℕ)
      → run_ended l memory' clocks codes times' words' ≡ run_from halt (begin_run s n) memory clocks codes times words
      → handed (progress_result l.leaps l.progress) memory' times' words' ≡ run_of (machine halt) n start
  unfolding run_of
  runs halt l memory' times' words' e =
      rw (eq-eqb _ 0 good) (ap (handed_run (machine halt)) e
      ∙ ap (λ k. handed_back_of k (run (system halt) n start).world) (zero-add (run (system halt) n start).leaps))

-- ---- the code's parts

-- a gap leaves the clock within its width
pub gap_fits : (p : Progress) (n : ℕ) (clocks codes times words : List ℕ) (gap : Clocks)
    → Leaping p n clocks codes times words
    → gap ≡ gap_of n p.state (drop p.read clocks) → p.state.clock + gap.0 ≤ last_clock
gap_fits p n clocks codes times words gap l e =
    let same : gap.0 ≡ (gap_of n p.state (drop p.read clocks)).0 = ap (λ (g : Clocks). g.0) e in
    omega (arith, l.clock, gap_le n p.state (drop p.read clocks))

-- an event clock that is reached may be done
pub passed_goes : (p : Progress) (n : ℕ) (lists : LentLists) (gap : Clocks) → LeapingOn p n lists → p.stop ≡ None
    → gap.0 < n → Going (passed_by gap p) lists
passed_goes p n lists gap l on h = record {
  clock = omega (arith, l.clock, pass_clock p.state gap.0);
  read = l.read;
  written = l.written;
  stop = on;
}

-- a leap that reaches its event clock, and one that ends before
pub leap_reaches : (halt : Option ℕ) (n : ℕ) (w : World) (gap : Clocks) → gap ≡ gap_of n w.state w.input_clocks
    → gap.0 < n
    → plain halt (pass_in (r6501q halt) gap.0 w) ≡ leap_of (system halt) n w
unfolding leap_of
leap_reaches halt n w gap e h = rw (← e, lt-ltb gap.0 n h)

pub leap_falls_short : (halt : Option ℕ) (n : ℕ) (w : World) (gap : Clocks) → gap ≡ gap_of n w.state w.input_clocks
    → n ≤ gap.0
    → pass_in (r6501q halt) gap.0 w ≡ leap_of (system halt) n w
unfolding leap_of
leap_falls_short halt n w gap e h = rw (← e, le-ltb gap.0 n h)

-- a leap more of a run
module _ (halt : Option ℕ) (memory clocks codes times words memory' times' words' : List ℕ) (at r : Leaped)
    (l : Leaping at.progress at.left.0 clocks codes times words) (some : 0 < at.left.0)
    (on : at.progress.stop ≡ None)
    (bound : at.leaps + at.left.0 ≤ last_clock)
    (e : world_with r.progress memory' clocks codes times' words'
    ≡ leap_of (system halt) at.left.0 (world_with at.progress memory clocks codes times words))
    (left : r.left
    ≡ clocks_of (left_after (system halt) at.left.0 (world_with at.progress memory clocks codes times words)))
    (leaps : r.leaps ≡ at.leaps + leaps_from at.progress.state.clock r.progress.state.clock) where
  abbrev before : World
  before = world_with at.progress memory clocks codes times words

  pub later_run : run_from halt r memory' clocks codes times' words' ≡ run_from halt at memory clocks codes times words
  later_run =
      rw (left, leaps)
      (leap_run halt at.left.0 at.leaps before (world_with r.progress memory' clocks codes times' words') some
      (rw on refl) e)

  pub later_leaping : Leaping r.progress r.left.0 clocks codes times' words'
  later_leaping =
      rw left (leaping_on halt memory clocks codes times words memory' times' words' at.progress r.progress
      at.left.0 l e)

  fewer : r.left.0 ≡ at.left.0 - (gap_in at.left.0 before + 1)
  fewer = ap (λ (k : Clocks). k.0) left

  pub later_bound : (r.leaps + r.left.0 ≤ last_clock) × (r.left.0 < at.left.0)
  later_bound = (
    omega (arith, fewer, leaps, one_where_le (ltb at.progress.state.clock r.progress.state.clock)),
    omega (arith, fewer),
  )

-- clocks are left and nothing has stopped
pub goes_some : (l : Leaped) → goes_on l ≡ true → 0 < l.left.0
goes_some l e = ltb-true 0 l.left.0 (and_left (ltb 0 l.left.0) (is_none l.progress.stop) e)

pub goes_unstopped : (l : Leaped) → goes_on l ≡ true → l.progress.stop ≡ None
goes_unstopped l e = none_true l.progress.stop (and_right (ltb 0 l.left.0) (is_none l.progress.stop) e)
