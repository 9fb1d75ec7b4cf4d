-- A span that goes on through ticks: an instruction of it, or a byte put in it, is a leap of the run, and so is each
-- tick on a clock on which the CPU does not act.
use Rattle.std.specs.Prelude.{None, Option, Some}
use mathlib.Core.Path.{◌≡◌, refl, sym, ap, subst, ◌∙◌}
use mathlib.Core.Bool.{Bool, true, false, false≢true}
use mathlib.Core.List.{List, []}
use Prim.Native.Nat.{ℕ, zero, suc, ◌+◌, ◌-◌, ◌≤◌, ◌<◌}
use native.Mathlib.Nat.{add-zero, add_assoc}
use native.Mathlib.Omega.{arith}
use lib.Dec.{ltb}
use lib.ListN.{length, drop}
use borrow.Author.Tests.{ltb-true, ltb-false, lt-ltb, le-ltb, eq-eqb, ne_eqb}
use Rattle.bits.specs.Bits.{one_where}
use Rattle.bits.proofs.Cond.{cond_both, one_where_le}
use Rattle.cpu_effects.specs.declared.Writing.TheVariants.{Nothing, Stored}
use Rattle.cpu_effects.specs.Effects.{pushes_of, waiting_of}
use Rattle.cpu_access.specs.declared.stack.Write.{Write}
use Rattle.cpu_access.specs.declared.stack.Writes.{Writes}
use Rattle.cpu_access.specs.Stack.{one_write, no_writes}
use Rattle.cpu_effects.specs.declared.Worked.{Worked}
use Rattle.cpu.specs.declared.Outcome.TheVariants as outcome
use Rattle.cpu.specs.declared.work.Work.{Work}
use Rattle.cpu.specs.InstructionInCode.{instruction_of}
use Rattle.cpu.specs.Work.{WithinSpan, next_work}
use Rattle.leaps.specs.Leaps.{System, leap_of, left_after, ByLeaps, no_leap, one_more}
use Rattle.leaps.specs.World.{pass_in, put_record, done_in, plain_of}
use Rattle.r6501q_state.specs.declared.state.Peripherals.{Peripherals}
use Rattle.r6501q_state.specs.declared.state.State.{State}
use Rattle.r6501q_state.specs.Pins.{driven_word}
use Rattle.r6501q_events.specs.Gaps.{clocks_of, counting_a, until_cpu, gap_of, pass_of}
use Rattle.std.specs.Prelude.{None, Ok}
use Rattle.r6501q_clock.specs.Clock.{ended_with, clock_of}
use Rattle.memory_writes.specs.Commit.{committed}
use Rattle.r6501q_unseen.specs.declared.Ticking.{Ticking}
use Rattle.r6501q_unseen.specs.Unseen.{peripherals_clocks, ticks_next, ticks_in, Unseen, on_tick, ticking_of}
use Rattle.r6501q_unseen.proofs.TickClocks.{on_tick_lem, peripherals_add, ticks_add}
use Rattle.r6501q_unseen.proofs.Laws.{ticks_one, first_tick, ticks_most}
use Rattle.r6501q_advance.specs.declared.Progress.{Progress}
use Rattle.r6501q_chip.specs.R6501q.{World, r6501q, system}
use Rattle.r6501q_advance.specs.World.{world_with}
use Rattle.r6501q_spans.specs.Spans.{begin_work, none_waiting, next_working}
use Rattle.r6501q_span_work.specs.Work.{work_after}
use Rattle.cpu_access.specs.Halt.{ends_span}
use Rattle.r6501q_span_reads.specs.Steady.{outcome_within}
use Rattle.r6501q_spans.specs.Spans.{put_work}
use Rattle.r6501q_span_work.specs.Work.{memory_after, work_put}
use Rattle.r6501q_span_work.specs.Work.{memory_put, WorkedOn}
use Rattle.r6501q_spans.specs.Ticked.{AloneSeen, ticked_state}
use Rattle.r6501q_spans.specs.declared.Working.{Working}
use Rattle.cpu_access.proofs.Ends.{ends_neither}
use Rattle.r6501q_span_reads.proofs.SteadyReads.{within_done}
use Rattle.r6501q_spans.proofs.Ticked.{waited, byte_waiting, ticked_left_b, ticked_no_input, ticked_clock}
use Rattle.r6501q_spans.proofs.Ticked.{ticked_waits, tick_gap, cpu_gap, ticked_passed, ticked_none, until_start}
use Rattle.r6501q_spans.proofs.Ticked.{instruction_there, until_put, byte_there}
use Rattle.r6501q_leap.specs.declared.Leaped.{Leaped}
use Rattle.r6501q_fast.specs.declared.RanOn.{RanOn}
use Rattle.cpu_attempts.specs.Attempts as attempts
use Rattle.r6501q_fast.specs.Instructions as instructions
use Rattle.r6501q_fast.specs.Instructions.{ByInstructions, shared_by, RunsOn}
use Rattle.r6501q_fast.proofs.Instructions.{shared_most}
use Rattle.r6501q_span_leaps.specs.Ticked.{SpanBegun, shared_in, leaps_to, ticked_to, EndFits, StepsOn}
use Rattle.r6501q_span_leaps.specs.Spanned.{Spanned}
use Rattle.r6501q_leap.proofs.Runs.{leap_reaches}
use Rattle.r6501q_span_leaps.proofs.Spanned.{work_either, put_either, room_after, room_put, no_end, same_memory}

-- clocks waited one after the other
waited_again : (v : Working) (e d : ℕ) → e < d → waited (waited (waited v e) 1) (d - (e + 1)) ≡ waited v d
waited_again v e d h =
    let wait : v.work.wait - e - 1 - (d - (e + 1)) ≡ v.work.wait - d = omega arith in
    let gone : v.work.gone.0 + e + 1 + (d - (e + 1)) ≡ v.work.gone.0 + d = omega arith in
    rw (wait, gone)

until_later : (s : State) (v : Working) (e d : ℕ) → until_cpu (ticked_state s v).cpu ≡ d
    → until_cpu (ticked_state s (waited v e)).cpu ≡ d - e
unfolding until_cpu
until_later s v e d u = omega (arith, u)

-- the event clock of a step that was done, or none
pub shares_none : (t : Ticking) (v r : Working) → r.work.gone.0 ≤ v.work.gone.0 → shared_in t v r ≡ 0
unfolding shared_in
shares_none t v r h = rw (le-ltb v.work.gone.0 r.work.gone.0 h)

pub shares_one : (t : Ticking) (v r : Working) → v.work.gone.0 < r.work.gone.0
    → shared_in t v r ≡ one_where (on_tick t r.work.gone.0)
unfolding shared_in
shares_one t v r h = rw (lt-ltb v.work.gone.0 r.work.gone.0 h)

-- each leap takes a clock at least
leaps_clocks : {W : Type 0} (S : System W) {n : ℕ} {w : W} {k m : ℕ} {v : W} → ByLeaps S n w k m v → k + m ≤ n
leaps_clocks S no_leap = omega arith
leaps_clocks S (one_more before on some reached) = omega (arith, leaps_clocks S before, some)

module _ (halt : Option ℕ) (at : Leaped) (clocks : List ℕ) (span : ℕ) (on : at.progress.stop ≡ None)
    (a : AloneSeen at.left.0 at.progress.state (drop at.progress.read clocks) span) where
  abbrev s : State
  s = at.progress.state

  abbrev rest : List ℕ
  rest = drop at.progress.read clocks

  abbrev world_at : Working → List ℕ → List ℕ → List ℕ → List ℕ → World
  world_at v memory codes times words =
      let p : Progress = record {
        state = ticked_state at.progress.state v;
        read = at.progress.read;
        written = at.progress.written;
        stop = at.progress.stop;
      } in
      world_with p memory clocks codes times words

  -- `at` with the span's clocks gone so far is reached by so many whole leaps
  abbrev Reached : ℕ → List ℕ → Working → List ℕ → Type 0
  Reached made memory₀ v memory = (codes times words : List ℕ)
      → ByLeaps (system halt) at.left.0 (world_with at.progress memory₀ clocks codes times words)
      made (at.left.0 - v.work.gone.0) (world_at v memory codes times words)

  -- one leap more: a gap of e clocks, and the event clock after them, which comes to `next`
  module _ (v : Working) (e : ℕ) (inside : v.work.gone.0 + e < span)
      (gap-there : (gap_of (at.left.0 - v.work.gone.0) (ticked_state s v) rest).0 ≡ e)
      (passed : pass_of (ticked_state s v) (clocks_of e) ≡ ticked_state s (waited v e))
      (memory : List ℕ) (next : Working) (writes : Writes)
      (acts : (free : Bool) → clock_of (ticked_state s (waited v e)) [] memory free
      ≡ Ok (ended_with (record { state = ticked_state s next; writes = writes }) None))
      (neither : ends_span halt writes ≡ false) (gone : next.work.gone.0 ≡ v.work.gone.0 + e + 1) where
    abbrev n : ℕ
    n = at.left.0 - v.work.gone.0

    module _ (codes times words : List ℕ) where
      abbrev before : World
      before = world_at v memory codes times words

      event_plain : plain_of (r6501q halt) (pass_in (r6501q halt) e before)
          ≡ world_at next (committed memory writes) codes times words
      unfolding plain_of put_record
      event_plain =
          rw (
            on,
            passed,
            ticked_no_input at.left.0 s rest span a (waited v e) inside,
            acts (ltb at.progress.written (length times)),
            add-zero at.progress.read,
            add-zero at.progress.written,
            (ends_neither halt writes neither).1,
          )

      event_done : done_in (r6501q halt) (pass_in (r6501q halt) e before) ≡ true
      unfolding done_in
      event_done =
          rw (
            on,
            passed,
            ticked_no_input at.left.0 s rest span a (waited v e) inside,
            acts (ltb at.progress.written (length times)),
          )

      event_leap : leap_of (system halt) n before ≡ world_at next (committed memory writes) codes times words
      event_leap =
          sym (leap_reaches halt n before (clocks_of e) (ap clocks_of (sym gap-there)) (omega (arith, a.left)))
          ∙ event_plain

      event_left : left_after (system halt) n before ≡ at.left.0 - next.work.gone.0
      event_left = omega (arith, gap-there, gone)

    reached_more : (made : ℕ) (memory₀ : List ℕ) → Reached made memory₀ v memory
        → Reached (made + 1) memory₀ next (committed memory writes)
    reached_more made memory₀ so_far codes times words =
        rw (← event_leap codes times words, ← event_left codes times words)
        (one_more (so_far codes times words) (rw on refl) (omega (arith, gap-there, a.left))
        (rw gap-there (event_done codes times words)))

  -- a tick on a clock on which the CPU does not act: nothing is written
  reached_tick : (v : Working) (d : ℕ) → until_cpu (ticked_state s v).cpu ≡ d → v.work.gone.0 + d < span
      → counting_a (ticked_state s v).peripherals.control s.last.ports ≡ true
      → (ticked_state s v).peripherals.countera.count < d
      → (made : ℕ) (memory₀ memory : List ℕ) → Reached made memory₀ v memory
      → Reached (made + 1) memory₀ (waited (waited v (ticked_state s v).peripherals.countera.count) 1) memory
  unfolding pushes_of
  reached_tick v d until inside counts early made memory₀ memory so_far =
      let n = at.left.0 in
      let e = (ticked_state s v).peripherals.countera.count in
      let u = waited v e in
      let later : 0 < until_cpu (ticked_state s u).cpu = omega (arith, until_later s v e d until) in
      let waits = ticked_waits n s rest span a u (omega arith) memory later in
      rw (same_memory memory Nothing refl) at
      (reached_more v e (omega arith) (tick_gap n s rest span a v d until inside counts early)
      (ticked_passed n s rest span a v d until inside e (omega arith) (λ _. omega arith))
      memory (waited u 1) no_writes
      (ticked_clock n s rest span a u (omega arith) memory (waited u 1) no_writes (omega arith) waits)
      (no_end halt Nothing refl) refl made memory₀ so_far)

  -- ---- the clock that the CPU acts on, and every tick before it

  -- the CPU acts after d clocks, and that clock comes to `next`
  pub record Acting (memory : List ℕ) (next : Working) (writes : Writes) (v : Working) (d : ℕ) : Type 0 where
    pub until : until_cpu (ticked_state s v).cpu ≡ d
    pub inside : v.work.gone.0 + d < span
    pub acts : (free : Bool) → clock_of (ticked_state s (waited v d)) [] memory free
        ≡ Ok (ended_with (record { state = ticked_state s next; writes = writes }) None)
    pub gone : next.work.gone.0 ≡ v.work.gone.0 + d + 1

  module _ (memory₀ memory : List ℕ) (next : Working) (writes : Writes) (neither : ends_span halt writes ≡ false) where
    abbrev Ends : Working → ℕ → ℕ → Type 0
    Ends v d made =
        Reached (made + 1 + ticks_in d s.last.ports (ticked_state s v).peripherals) memory₀ next
        (committed memory writes)

    -- no tick comes before it
    acts_first : (v : Working) (d made : ℕ) → Acting memory next writes v d
        → (counting_a (ticked_state s v).peripherals.control s.last.ports ≡ true
        → d ≤ (ticked_state s v).peripherals.countera.count)
        → Reached made memory₀ v memory → Ends v d made
    acts_first v d made c none so_far =
        let n = at.left.0 in
        rw (ticked_none n s rest span a v d c.until c.inside d (omega arith) none, add-zero (made + 1))
        (reached_more v d c.inside (cpu_gap n s rest span a v d c.until c.inside none)
        (ticked_passed n s rest span a v d c.until c.inside d (omega arith) none)
        memory next writes c.acts neither c.gone made memory₀ so_far)

    -- a tick comes first
    module _ (v : Working) (d : ℕ) (c : Acting memory next writes v d)
        (counts : counting_a (ticked_state s v).peripherals.control s.last.ports ≡ true)
        (early : (ticked_state s v).peripherals.countera.count < d) where
      abbrev first : ℕ
      first = (ticked_state s v).peripherals.countera.count

      abbrev after : Working
      after = waited (waited v first) 1

      less : d - first - 1 ≡ d - (first + 1)
      less = omega arith

      still_acting : Acting memory next writes after (d - (first + 1))
      still_acting = record {
        until = until_later s (waited v first) 1 (d - first) (until_later s v first d c.until) ∙ less;
        inside = omega (arith, c.inside);
        acts = λ free.
            ap (λ (u : Working). clock_of (ticked_state s u) [] memory free) (waited_again v first d early)
            ∙ c.acts free;
        gone = omega (arith, c.gone);
      }

      tick_more : ticks_in d s.last.ports (ticked_state s v).peripherals
          ≡ 1 + ticks_in (d - (first + 1)) s.last.ports (ticked_state s after).peripherals
      tick_more =
          let gone = v.work.gone.0 in
          let ports = s.last.ports in
          let here = (ticked_state s v).peripherals in
          let b = ticked_left_b at.left.0 s rest span a v (omega (arith, c.inside)) in
          let tick = first_tick ports here counts (λ r. omega (arith, b r, early, c.inside)) in
          let together : gone + (first + 1) ≡ gone + first + 1 = omega arith in
          let whole : d ≡ first + 1 + (d - (first + 1)) = omega arith in
          let later : peripherals_clocks (first + 1) ports here ≡ (ticked_state s after).peripherals =
          sym (peripherals_add gone (first + 1) ports s.peripherals) ∙ rw together in
          ap (λ (k : ℕ). ticks_in k ports here) whole ∙ ticks_add (first + 1) (d - (first + 1)) ports here
          ∙ rw (tick, later)

    reached_acts : (most : ℕ) (v : Working) (d made : ℕ) → d ≤ most → Acting memory next writes v d
        → Reached made memory₀ v memory → Ends v d made
    reached_acts zero v d made enough c so_far = acts_first v d made c (λ e. omega arith) so_far
    reached_acts (suc most) v d made enough c so_far =
        tick_or_not (counting_a (ticked_state s v).peripherals.control s.last.ports)
        (ltb (ticked_state s v).peripherals.countera.count d) refl refl
        (λ counts early. reached_acts most (waited (waited v (ticked_state s v).peripherals.countera.count) 1)
        (d - ((ticked_state s v).peripherals.countera.count + 1)) (made + 1) (omega arith)
        (still_acting v d c counts early)
        (reached_tick v d c.until c.inside counts early made memory₀ memory so_far))
      where
        tick_or_not : (r l : Bool) → counting_a (ticked_state s v).peripherals.control s.last.ports ≡ r
            → ltb (ticked_state s v).peripherals.countera.count d ≡ l
            → (counting_a (ticked_state s v).peripherals.control s.last.ports ≡ true
            → (ticked_state s v).peripherals.countera.count < d
            → Ends (waited (waited v (ticked_state s v).peripherals.countera.count) 1)
            (d - ((ticked_state s v).peripherals.countera.count + 1)) (made + 1))
            → Ends v d made
        tick_or_not true true e f tick =
            let early = ltb-true (ticked_state s v).peripherals.countera.count d f in
            rw (tick_more v d c e early, ← add_assoc (made + 1) 1) (tick e early)
        tick_or_not true false e f tick =
            acts_first v d made c (λ _. ltb-false (ticked_state s v).peripherals.countera.count d f) so_far
        tick_or_not false l e f tick = acts_first v d made c (λ k. absurd (false≢true (sym e ∙ k))) so_far

  -- ---- the count of the leaps

  -- A leap for each clock that the CPU acts on (`leaps`) and for each tick, but for those on which both come
  -- (`shared`), which are one event clock.
  pub record LeaptTo (memory₀ : List ℕ) (v : Working) (shared : ℕ) (memory : List ℕ) : Type 0 where
    pub made : ℕ
    pub counted : made + shared ≡ v.work.leaps + ticks_in v.work.gone.0 s.last.ports s.peripherals
    pub leapt : Reached made memory₀ v memory

  -- the CPU acts after d clocks: on that clock a tick comes too, or none
  leapt_acts : (memory₀ memory : List ℕ) (next : Working) (writes : Writes) → ends_span halt writes ≡ false
      → (v : Working) (d shared : ℕ)
      → Acting memory next writes v d → next.work.leaps ≡ v.work.leaps + 1 → LeaptTo memory₀ v shared memory
      → LeaptTo memory₀ next
      (shared + one_where
      (ticks_next s.last.ports (peripherals_clocks (v.work.gone.0 + d) s.last.ports s.peripherals)))
      (committed memory writes)
  leapt_acts memory₀ memory next writes neither v d shared c leaps so_far =
      let gone = v.work.gone.0 in
      let ports = s.last.ports in
      let before = ticks_add gone d ports s.peripherals in
      let last : ticks_in next.work.gone.0 ports s.peripherals
      ≡ ticks_in (gone + d) ports s.peripherals
      + one_where (ticks_next ports (peripherals_clocks (gone + d) ports s.peripherals)) =
      rw c.gone (ticks_one (gone + d) ports s.peripherals) in
      record {
        made = so_far.made + 1 + ticks_in d ports (ticked_state s v).peripherals;
        counted = omega (arith, so_far.counted, before, last, leaps);
        leapt = reached_acts memory₀ memory next writes neither d v d so_far.made (omega arith) c so_far.leapt;
      }

  -- by an instruction
  pub leapt_next : (w : Work) (shared : ℕ) (memory₀ memory : List ℕ) → LeaptTo memory₀ (none_waiting w) shared memory
      → (worked : Worked) → w.gone.0 + w.wait < span
      → outcome_within s w.registers memory ≡ outcome.Done worked
      → ends_span halt (pushes_of worked.writing) ≡ false
      → LeaptTo memory₀ (next_working w worked)
      (shared + one_where
      (ticks_next s.last.ports (peripherals_clocks (w.gone.0 + w.wait) s.last.ports s.peripherals)))
      (committed memory (pushes_of worked.writing))
  leapt_next w shared memory₀ memory so_far worked inside e q =
      let n = at.left.0 in
      let v = none_waiting w in
      let writes = pushes_of worked.writing in
      let starts = instruction_there n s rest span a w inside memory worked e (ends_neither halt writes q).0 in
      let acting : Acting memory (next_working w worked) writes v w.wait = record {
        until = until_start s w;
        inside = inside;
        acts =
            ticked_clock n s rest span a (waited v w.wait) inside memory (next_working w worked) writes (omega arith)
            starts;
        gone = refl;
      } in
      leapt_acts memory₀ memory (next_working w worked) writes q v w.wait shared acting refl so_far

  -- by a byte that is put
  pub leapt_put : (w : Work) (x : Write) (shared : ℕ) (memory₀ memory : List ℕ)
      → LeaptTo memory₀ (byte_waiting w x) shared memory
      → 0 < w.wait → w.gone.0 + w.wait ≤ span → ends_span halt (one_write x) ≡ false
      → LeaptTo memory₀ (put_work w)
      (shared
      + one_where (ticks_next s.last.ports
      (peripherals_clocks (w.gone.0 + (w.wait - 1)) s.last.ports s.peripherals)))
      (committed memory (one_write x))
  leapt_put w x shared memory₀ memory so_far some fits q =
      let n = at.left.0 in
      let v = byte_waiting w x in
      let d = w.wait - 1 in
      let inside : w.gone.0 + (w.wait - 1) < span = omega arith in
      let puts = byte_there s w x a.res some memory (ends_neither halt (one_write x) q).0 in
      let acting : Acting memory (put_work w) (one_write x) v d = record {
        until = until_put s w x;
        inside = inside;
        acts = ticked_clock n s rest span a (waited v d) inside memory (put_work w) (one_write x) (omega arith) puts;
        gone = omega arith;
      } in
      leapt_acts memory₀ memory (put_work w) (one_write x) q v d shared acting refl so_far

  -- ---- the clocks with a tick, as `ticking` has them

  module _ (ticking : Ticking)
      (ticks : (g : ℕ) → g < span
      → ticks_next s.last.ports (peripherals_clocks g s.last.ports s.peripherals)
      ≡ on_tick ticking (g + 1)) where
    -- an instruction that leaves no byte waiting
    pub leapt_pushing : (w : Work) (shared : ℕ) (memory₀ memory : List ℕ)
        → LeaptTo memory₀ (none_waiting w) shared memory
        → (worked : Worked) → w.gone.0 + w.wait < span
        → instruction_of w.registers [] memory ≡ outcome.Done worked → waiting_of worked.writing ≡ None
        → ends_span halt (pushes_of worked.writing) ≡ false
        → LeaptTo memory₀ (none_waiting (next_work w worked))
        (shared + one_where (on_tick ticking (w.gone.0 + w.wait + 1)))
        (committed memory (pushes_of worked.writing))
    leapt_pushing w shared memory₀ memory so_far worked inside e none q =
        rw (none, ticks (w.gone.0 + w.wait) inside) at
        (leapt_next w shared memory₀ memory so_far worked inside (within_done s w.registers memory worked e) q)

    -- the byte that waits
    pub leapt_putting : (w : Work) (x : Write) (shared : ℕ) (memory₀ memory : List ℕ)
        → LeaptTo memory₀ (byte_waiting w x) shared memory
        → 0 < w.wait → w.gone.0 + w.wait ≤ span → ends_span halt (one_write x) ≡ false
        → LeaptTo memory₀ (put_work w) (shared + one_where (on_tick ticking (w.gone.0 + w.wait)))
        (committed memory (one_write x))
    leapt_putting w x shared memory₀ memory so_far some fits q =
        let last : w.gone.0 + (w.wait - 1) + 1 ≡ w.gone.0 + w.wait = omega arith in
        rw (ticks (w.gone.0 + (w.wait - 1)) (omega arith), last)
        at (leapt_put w x shared memory₀ memory so_far some fits q)

    -- a store, and its byte put
    pub leapt_storing : (w : Work) (shared : ℕ) (memory₀ memory : List ℕ)
        → LeaptTo memory₀ (none_waiting w) shared memory
        → (worked : Worked) (x : Write) → w.gone.0 + w.wait + worked.length ≤ span → 1 < worked.length
        → instruction_of w.registers [] memory ≡ outcome.Done worked → worked.writing ≡ Stored x
        → ends_span halt (one_write x) ≡ false
        → LeaptTo memory₀ (put_work (next_work w worked))
        (shared + one_where (on_tick ticking (w.gone.0 + w.wait + 1))
        + one_where (on_tick ticking (put_work (next_work w worked)).work.gone.0))
        (committed memory (one_write x))
    unfolding pushes_of waiting_of
    leapt_storing w shared memory₀ memory so_far worked x inside long e z q =
        let start = w.gone.0 + w.wait in
        let pushes : pushes_of worked.writing ≡ no_writes = rw z in
        let waits : waiting_of worked.writing ≡ Some x = rw z in
        let begun =
        leapt_next w shared memory₀ memory so_far worked (omega arith) (within_done s w.registers memory worked e)
        (rw pushes (no_end halt Nothing refl)) in
        leapt_putting (next_work w worked) x (shared + one_where (on_tick ticking (start + 1))) memory₀ memory
        (rw (pushes, waits, same_memory memory Nothing refl, ticks start (omega arith)) at begun) (omega arith)
        (omega arith) q

    -- instructions one after the other
    pushing_shared : (shared k start : ℕ)
        → shared + (k + shared_by ticking start start) ≡ shared + k + one_where (on_tick ticking start)
    unfolding shared_by
    pushing_shared shared k start = rw (eq-eqb start start refl) (omega arith)

    storing_shared : (shared k start later : ℕ) → start < later
        → shared + (k + shared_by ticking start later)
        ≡ shared + k + one_where (on_tick ticking start) + one_where (on_tick ticking later)
    unfolding shared_by
    storing_shared shared k start later h = rw (ne_eqb later start (λ e. omega (arith, h, e))) (omega arith)

    pub leapt_ran : (w : Work) (counted : ℕ) (memory₀ memory : List ℕ) → LeaptTo memory₀ (none_waiting w) counted memory
        → {w' : Work} {memory' : List ℕ} {k : ℕ} → ByInstructions halt span ticking w memory w' memory' k
        → LeaptTo memory₀ (none_waiting w') (counted + k) memory'
    leapt_ran w counted memory₀ memory so_far instructions.none = rw (add-zero counted) so_far
    leapt_ran w counted memory₀ memory so_far
        (instructions.more {v} {w'} {before} {memory'} {shared} ran (attempts.pushing worked inside e z q)) =
        rw (pushing_shared counted shared (v.gone.0 + v.wait + 1))
        (leapt_pushing v (counted + shared) memory₀ before (leapt_ran w counted memory₀ memory so_far ran) worked inside
        e z q)
    leapt_ran w counted memory₀ memory so_far
        (instructions.more {v} {w'} {before} {memory'} {shared} ran (attempts.storing worked x fits long e z q)) =
        rw (storing_shared counted shared (v.gone.0 + v.wait + 1) (v.gone.0 + v.wait + 1 + (worked.length - 1))
        (omega (arith, long)))
        (leapt_storing v (counted + shared) memory₀ before (leapt_ran w counted memory₀ memory so_far ran) worked x fits
        long e z q)

    -- the next step of the CPU, whatever it comes to
    pub leapt_worked : (w : Work) (shared : ℕ) (memory₀ memory : List ℕ) → w.gone.0 ≤ span
        → LeaptTo memory₀ (none_waiting w) shared memory
        → LeaptTo memory₀ (work_after halt s span w memory)
        (shared + shared_in ticking (none_waiting w) (work_after halt s span w memory))
        (memory_after halt s span w memory)
    leapt_worked w shared memory₀ memory room so_far =
        work_either halt s span w memory
        (λ (v : Working) (memory' : List ℕ). LeaptTo memory₀ v (shared + shared_in ticking (none_waiting w) v) memory')
        room
        (rw (shares_none ticking (none_waiting w) (none_waiting w) (omega arith), add-zero shared) so_far)
        (λ worked inside e q.
        rw (
          shares_one ticking (none_waiting w) (next_working w worked) (omega arith),
          ← ticks (w.gone.0 + w.wait) inside,
        )
        (leapt_next w shared memory₀ memory so_far worked inside e q))

    pub leapt_puts : (w : Work) (x : Write) (shared : ℕ) (memory₀ memory : List ℕ) → w.gone.0 ≤ span
        → LeaptTo memory₀ (byte_waiting w x) shared memory
        → LeaptTo memory₀ (work_put halt span w x) (shared + shared_in ticking (byte_waiting w x) (work_put halt span w x))
        (memory_put halt span w x memory)
    leapt_puts w x shared memory₀ memory room so_far =
        put_either halt span w x memory
        (λ (v : Working) (memory' : List ℕ). LeaptTo memory₀ v (shared + shared_in ticking (byte_waiting w x) v) memory')
        room
        (rw (shares_none ticking (byte_waiting w x) (byte_waiting w x) (omega arith), add-zero shared) so_far)
        (λ some fits q.
        rw (shares_one ticking (byte_waiting w x) (put_work w) (omega arith))
        (leapt_putting w x shared memory₀ memory so_far some fits q))

-- ---- a span from its start to its end

-- at its start nothing is gone
begin_same : (at : Leaped) (n : ℕ) (clocks : List ℕ) (span : ℕ) → AloneSeen n at.progress.state clocks span
    → ticked_to at (begin_work at.progress.state) 0 ≡ at
unfolding peripherals_clocks ticks_in
begin_same at n clocks span a =
    let all : at.left.0 - 0 ≡ at.left.0 = omega arith in
    rw (a.status, add-zero at.progress.state.clock, all, add-zero at.leaps)

-- no step goes back
goes_after : (halt : Option ℕ) (s : State) (span : ℕ) (w : Work) (memory : List ℕ) → w.gone.0 ≤ span
    → w.gone.0 ≤ (work_after halt s span w memory).work.gone.0
goes_after halt s span w memory room =
    work_either halt s span w memory (λ (v : Working) (memory' : List ℕ). w.gone.0 ≤ v.work.gone.0) room
    (omega arith)
    (λ worked inside e q. omega arith)

goes_put : (halt : Option ℕ) (span : ℕ) (w : Work) (x : Write) → w.gone.0 ≤ span
    → w.gone.0 ≤ (work_put halt span w x).work.gone.0
goes_put halt span w x room =
    put_either halt span w x [] (λ (v : Working) (memory' : List ℕ). w.gone.0 ≤ v.work.gone.0) room (omega arith)
    (λ some fits q. omega arith)

shares_most : (t : Ticking) (v r : Working) → v.work.gone.0 ≤ r.work.gone.0
    → v.work.gone.0 + shared_in t v r ≤ r.work.gone.0
unfolding shared_in
shares_most t v r h =
    cond_both (λ (k : ℕ). v.work.gone.0 + k ≤ r.work.gone.0) (ltb v.work.gone.0 r.work.gone.0)
    (one_where (on_tick t r.work.gone.0)) 0
    (λ e. omega (arith, ltb-true v.work.gone.0 r.work.gone.0 e, one_where_le (on_tick t r.work.gone.0)))
    (λ e. omega arith)

pub shares_at_most : (t : Ticking) (v r : Working) (shared : ℕ) → shared ≡ shared_in t v r → shared ≤ 1
unfolding shared_in
shares_at_most t v r shared e =
    rw e
    (cond_both (λ (k : ℕ). k ≤ 1) (ltb v.work.gone.0 r.work.gone.0) (one_where (on_tick t r.work.gone.0)) 0
    (λ _. one_where_le (on_tick t r.work.gone.0)) (λ _. omega arith))

-- the clocks with a tick, of a span
pub ticks_of_lem : (span ports : ℕ) (p : Peripherals) (t : Ticking) → t ≡ ticking_of ports p → span ≤ 2147483647 → (g : ℕ)
    → g < span
    → ticks_next ports (peripherals_clocks g ports p) ≡ on_tick t (g + 1)
ticks_of_lem span ports p t e short g h = on_tick_lem g ports p (omega arith) ∙ ap (λ (u : Ticking). on_tick u (g + 1)) (sym e)

pub some_period : (ports : ℕ) (p : Peripherals) (t : Ticking) → t ≡ ticking_of ports p → 0 < t.period
unfolding ticking_of
some_period ports p t e =
    rw e
    (cond_both (λ (u : Ticking). 0 < u.period) (counting_a p.control ports)
    (record { first = p.countera.count + 1; period = p.countera.latch + 1 })
    (record { first = 4294967295; period = 1 })
    (λ _. omega arith) (λ _. omega arith))

-- what holds after each step of the CPU
pub record Within (halt : Option ℕ) (at : Leaped) (clocks : List ℕ) (span : ℕ) (memory₀ memory : List ℕ) (v : Working)
    (shared : ℕ) : Type 0 where
  pub begun : SpanBegun at clocks span
  pub leapt : LeaptTo halt at clocks span begun.on begun.alone memory₀ v shared memory
  pub room : WithinSpan v.work span
  pub shares : shared ≤ v.work.gone.0
  pub kept : length memory ≡ length memory₀

module _ (halt : Option ℕ) (at : Leaped) (clocks : List ℕ) (span : ℕ) (memory₀ : List ℕ) where
  abbrev start : State
  start = at.progress.state

  abbrev ports : ℕ
  ports = at.progress.state.last.ports

  abbrev here : Peripherals
  here = at.progress.state.peripherals

  pub within_begins : SpanBegun at clocks span
      → Within halt at clocks span memory₀ memory₀ (begin_work at.progress.state) 0
  unfolding ticks_in
  within_begins b = record {
    begun = b;
    leapt = record {
      made = 0;
      counted = refl;
      leapt = λ codes times words.
          subst (λ (l : Leaped). ByLeaps (system halt) at.left.0
          (world_with at.progress memory₀ clocks codes times words) 0 l.left.0
          (world_with l.progress memory₀ clocks codes times words))
          (sym (begin_same at at.left.0 (drop at.progress.read clocks) span b.alone)) no_leap;
    };
    room = record { gone = omega arith; leaps = omega arith };
    shares = omega arith;
    kept = refl;
  }

  -- a step of the CPU, with `t` the clocks with a tick
  module _ (t : Ticking)
      (ticks : (g : ℕ) → g < span → ticks_next ports (peripherals_clocks g ports here) ≡ on_tick t (g + 1)) where
    within_after : (memory memory' : List ℕ) (w : Work) (shared : ℕ) (v : Working)
        → Within halt at clocks span memory₀ memory (none_waiting w) shared
        → v ≡ work_after halt start span w memory → memory' ≡ memory_after halt start span w memory → length memory'
        ≡ length memory
        → Within halt at clocks span memory₀ memory' v (shared + shared_in t (none_waiting w) v)
    within_after memory memory' w shared v i e m k =
        let b = i.begun in
        record {
          begun = b;
          leapt =
              rw (e, m)
              (leapt_worked halt at clocks span b.on b.alone t ticks w shared memory₀ memory i.room.gone
              i.leapt);
          room = rw e (room_after halt start span w memory i.room);
          shares =
              omega (
                arith,
                i.shares,
                shares_most t (none_waiting w) v (rw e (goes_after halt start span w memory i.room.gone)),
              );
          kept = k ∙ i.kept;
        }

    within_put : (memory memory' : List ℕ) (w : Work) (x : Write) (shared : ℕ) (v : Working)
        → Within halt at clocks span memory₀ memory (byte_waiting w x) shared
        → v ≡ work_put halt span w x → memory' ≡ memory_put halt span w x memory → length memory' ≡ length memory
        → Within halt at clocks span memory₀ memory' v (shared + shared_in t (byte_waiting w x) v)
    within_put memory memory' w x shared v i e m k =
        let b = i.begun in
        record {
          begun = b;
          leapt =
              rw (e, m)
              (leapt_puts halt at clocks span b.on b.alone t ticks w x shared memory₀ memory i.room.gone
              i.leapt);
          room = rw e (room_put halt span w x i.room);
          shares =
              omega (
                arith,
                i.shares,
                shares_most t (byte_waiting w x) v (rw e (goes_put halt span w x i.room.gone)),
              );
          kept = k ∙ i.kept;
        }

    within_on : (memory memory' : List ℕ) (w : Work) (waits : Option Write) (shared : ℕ) (v : Working)
        → Within halt at clocks span memory₀ memory (record { work = w; waiting = waits }) shared
        → WorkedOn halt start span w waits memory v memory' → length memory' ≡ length memory
        → Within halt at clocks span memory₀ memory' v (shared + shared_in t (record { work = w; waiting = waits }) v)
    within_on memory memory' w None shared v i o k = within_after memory memory' w shared v i o.0 o.1 k
    within_on memory memory' w (Some x) shared v i o k =
        within_put memory memory' w x shared v i o.0 o.1 k

    pub within_goes : (memory memory' : List ℕ) (u v : Working) (shared : ℕ)
        → Within halt at clocks span memory₀ memory u shared
        → WorkedOn halt start span u.work u.waiting memory v memory' → length memory' ≡ length memory
        → Within halt at clocks span memory₀ memory' v (shared + shared_in t u v)
    within_goes memory memory' u v shared i o k = within_on memory memory' u.work u.waiting shared v i o k

    within_ran : (memory memory' : List ℕ) (w : Work) (waits : Option Write) (shared : ℕ) (r : RanOn)
        → Within halt at clocks span memory₀ memory (record { work = w; waiting = waits }) shared
        → RunsOn halt span t w waits memory r memory' → WithinSpan r.working.work span
        → length memory' ≡ length memory
        → Within halt at clocks span memory₀ memory' r.working (shared + r.shared)
    within_ran memory memory' w None shared r i o room k =
        let b = i.begun in
        let none : r.working ≡ none_waiting r.working.work =
        ap (λ (x : Option Write). record { work = r.working.work; waiting = x }) o.1 in
        record {
          begun = b;
          leapt =
              rw none
              (leapt_ran halt at clocks span b.on b.alone t ticks w shared memory₀ memory i.leapt o.0);
          room = room;
          shares = omega (arith, i.shares, shared_most halt span t w memory o.0);
          kept = k ∙ i.kept;
        }
    within_ran memory memory' w (Some x) shared r i o room k = rw (o.0, o.1, add-zero shared) i

    pub within_steps : (memory memory' : List ℕ) (v : Working) (shared : ℕ) (r : RanOn)
        → Within halt at clocks span memory₀ memory v shared → StepsOn halt start span t v memory r memory'
        → Within halt at clocks span memory₀ memory' r.working (shared + r.shared)
    within_steps memory memory' v shared r i o =
        let ran =
        within_ran memory o.between v.work v.waiting shared o.middle i o.ran o.room o.kept in
        let all : shared + r.shared ≡ shared + o.middle.shared + shared_in t o.middle.working r.working =
        rw o.shared (omega arith) in
        rw all
        (within_goes o.between memory' o.middle.working r.working (shared + o.middle.shared) ran o.step
        o.keeps)

  -- what is handed back at its end
  module _ (memory : List ℕ) (v : Working) (shared : ℕ) (i : Within halt at clocks span memory₀ memory v shared) where
    made_so : i.leapt.made ≡ leaps_to at v - shared
    made_so = omega (arith, i.leapt.counted)

    made_most : i.leapt.made + (at.left.0 - v.work.gone.0) ≤ at.left.0
    made_most = leaps_clocks (system halt) (i.leapt.leapt [] [] [])

    pub within_ends : Spanned halt at memory₀ (ticked_to at v shared) memory clocks
    within_ends =
        let left = i.begun.alone.left in
        record {
          made = i.leapt.made;
          by_leaps = i.leapt.leapt;
          leaps = rw made_so;
          clock = omega (arith, left, i.room.gone);
          bound = omega (arith, left, i.room.gone, made_so, made_most);
          left = omega arith;
          read = refl;
          written = refl;
        }

    pub ending : at.progress.state.clock + at.left.0 ≤ 4294967295 → at.leaps + at.left.0 ≤ 4294967295
        → Unseen v.work.gone.0 ports here → EndFits at v shared
    ending clock leaps unseen =
        let left = i.begun.alone.left in
        record {
          clock = omega (arith, clock, left, i.room.gone);
          left = omega (arith, left, i.room.gone);
          unseen = unseen;
          all = omega (arith, i.begun.short, i.room.gone, i.room.leaps, ticks_most v.work.gone.0 ports here);
          fewer = omega (arith, i.leapt.counted);
          leaps = omega (arith, leaps, made_so, made_most, left, i.room.gone);
        }
