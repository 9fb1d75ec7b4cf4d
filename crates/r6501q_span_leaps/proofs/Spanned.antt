-- A step of the CPU in a span is done, or nothing happens; after the leaps of a span the run ahead is the same.
use Rattle.std.specs.Prelude.{Option}
use mathlib.Core.Path.{◌≡◌, refl, sym}
use mathlib.Core.Bool.{Bool, true, false, ◌&&◌, not, cond}
use mathlib.Core.List.{List, []}
use Prim.Native.Nat.{ℕ, ◌+◌, ◌-◌, ◌≤◌, ◌<◌}
use native.Mathlib.Nat.{add-zero, add_assoc}
use native.Mathlib.Omega.{arith}
use lib.Dec.{ltb, leb}
use borrow.Author.Tests.{ltb-true, leb-true, leb-false, not-true}
use Rattle.bits.proofs.Cond.{cond_both, and_left, and_right}
use Rattle.cpu_effects.specs.declared.Writing.{Writing}
use Rattle.cpu_effects.specs.declared.Writing.TheVariants.{Nothing}
use Rattle.cpu_effects.specs.Effects.{pushes_of}
use Rattle.cpu_access.specs.declared.stack.Write.{Write}
use Rattle.cpu_access.specs.Stack.{one_write}
use Rattle.cpu_effects.specs.declared.Worked.{Worked}
use Rattle.cpu.specs.declared.Outcome.{Outcome}
use Rattle.cpu.specs.declared.Outcome.TheVariants as outcome
use Rattle.cpu.specs.declared.work.Work.{Work}
use Rattle.cpu.specs.Work.{WithinSpan}
use Rattle.leaps.specs.Leaps.{run, no_leap}
use Rattle.leaps.proofs.Laws.{by_leaps_run}
use Rattle.r6501q_state.specs.declared.state.State.{State}
use Rattle.std.specs.Prelude.{Ok}
use Rattle.memory_writes.specs.Commit.{put_write, committed}
use Rattle.r6501q_chip.specs.R6501q.{system}
use Rattle.r6501q_advance.specs.World.{world_with}
use Rattle.r6501q_spans.specs.Spans.{none_waiting}
use Rattle.r6501q_span_work.specs.Work.{continued_by, committed_by, work_by, memory_by}
use Rattle.cpu_access.specs.Halt.{ends_span}
use Rattle.r6501q_span_reads.specs.Steady.{outcome_within}
use Rattle.r6501q_spans.specs.Spans.{next_working, put_work}
use Rattle.r6501q_span_work.specs.Work.{work_after, memory_after, puts_within, work_put}
use Rattle.r6501q_span_work.specs.Work.{memory_put}
use Rattle.r6501q_spans.specs.declared.Working.{Working}
use Rattle.cpu_access.proofs.Ends.{no_writes_end}
use Rattle.r6501q_spans.proofs.Ticked.{byte_waiting}
use Rattle.r6501q_leap.specs.declared.Leaped.{Leaped}
use Rattle.r6501q_leap.specs.RunInCode.{run_from, Leaping}
use Rattle.r6501q_span_leaps.specs.Spanned.{Spanned}
use Rattle.r6501q_leap.proofs.Laws.{lawful}

-- the next instruction is a leap, or nothing happens
pub work_either : (halt : Option ℕ) (s : State) (span : ℕ) (w : Work) (memory : List ℕ) (P : Working → List ℕ → Type 0)
    → w.gone.0 ≤ span → P (none_waiting w) memory
    → ((worked : Worked) → w.gone.0 + w.wait < span → outcome_within s w.registers memory ≡ outcome.Done worked
    → ends_span halt (pushes_of worked.writing) ≡ false
    → P (next_working w worked) (committed memory (pushes_of worked.writing)))
    → P (work_after halt s span w memory) (memory_after halt s span w memory)
unfolding work_after memory_after continued_by committed_by
work_either halt s span w memory P room none next = by_test (leb (span - w.gone.0) w.wait) refl
  where
    by_writes : (worked : Worked) → w.gone.0 + w.wait < span
        → outcome_within s w.registers memory ≡ outcome.Done worked → (t : Bool)
        → ends_span halt (pushes_of worked.writing) ≡ t
        → P (cond t (none_waiting w) (next_working w worked))
        (cond t memory (committed memory (pushes_of worked.writing)))
    by_writes worked inside e true q = none
    by_writes worked inside e false q = next worked inside e q

    by_outcome : (o : Outcome) → w.gone.0 + w.wait < span → outcome_within s w.registers memory ≡ o
        → P (work_by halt w o) (memory_by halt memory o)
    by_outcome outcome.Undefined inside e = none
    by_outcome (outcome.Asked ask) inside e = none
    by_outcome (outcome.Done worked) inside e =
        by_writes worked inside e (ends_span halt (pushes_of worked.writing)) refl

    by_test : (t : Bool) → leb (span - w.gone.0) w.wait ≡ t
        → P (cond t (none_waiting w) (work_by halt w (outcome_within s w.registers memory)))
        (cond t memory (memory_by halt memory (outcome_within s w.registers memory)))
    by_test true q = none
    by_test false q =
        by_outcome (outcome_within s w.registers memory)
        (omega (arith, leb-false (span - w.gone.0) w.wait q, room)) refl

-- the byte that waits is put by a leap, or nothing happens
pub put_either : (halt : Option ℕ) (span : ℕ) (w : Work) (x : Write) (memory : List ℕ) (P : Working → List ℕ → Type 0)
    → w.gone.0 ≤ span
    → P (byte_waiting w x) memory
    → (0 < w.wait → w.gone.0 + w.wait ≤ span → ends_span halt (one_write x) ≡ false
    → P (put_work w) (committed memory (one_write x)))
    → P (work_put halt span w x) (memory_put halt span w x memory)
unfolding work_put memory_put puts_within
put_either halt span w x memory P room none put = by_test (puts_within halt span w x) refl
  where
    some : Bool
    some = ltb 0 w.wait

    fits : Bool
    fits = leb w.wait (span - w.gone.0)

    by_test : (t : Bool) → puts_within halt span w x ≡ t
        → P (cond t (put_work w) (byte_waiting w x)) (cond t (committed memory (one_write x)) memory)
    by_test true q =
        let within = and_left (some && fits) (not (ends_span halt (one_write x))) q in
        let least = ltb-true 0 w.wait (and_left some fits within) in
        let most = leb-true w.wait (span - w.gone.0) (and_right some fits within) in
        put least (omega (arith, room)) (not-true _ (and_right (some && fits) (not (ends_span halt (one_write x))) q))
    by_test false q = none

-- what is gone stays within the span, and each leap takes a clock at least
pub room_after : (halt : Option ℕ) (s : State) (span : ℕ) (w : Work) (memory : List ℕ) → WithinSpan w span
    → WithinSpan (work_after halt s span w memory).work span
room_after halt s span w memory room =
    work_either halt s span w memory (λ (v : Working) (memory' : List ℕ). WithinSpan v.work span) room.gone room
    (λ worked inside e q. record { gone = omega arith; leaps = omega (arith, room.leaps) })

pub room_put : (halt : Option ℕ) (span : ℕ) (w : Work) (x : Write) → WithinSpan w span
    → WithinSpan (work_put halt span w x).work span
room_put halt span w x room =
    put_either halt span w x [] (λ (v : Working) (memory' : List ℕ). WithinSpan v.work span) room.gone room
    (λ some fits q. record { gone = fits; leaps = omega (arith, room.leaps) })

-- an instruction that writes nothing pushes neither to a register nor at the halt address, and leaves memory as it is
pub no_end : (halt : Option ℕ) (w : Writing) → w ≡ Nothing → ends_span halt (pushes_of w) ≡ false
unfolding pushes_of
no_end halt w e = rw e (no_writes_end halt)

pub same_memory : (memory : List ℕ) (w : Writing) → w ≡ Nothing → committed memory (pushes_of w) ≡ memory
unfolding committed put_write pushes_of
same_memory memory w e = rw e

-- where there is no span nothing is done
pub no_span : (halt : Option ℕ) (at : Leaped) (memory clocks : List ℕ) → Spanned halt at memory at memory clocks
no_span halt at memory clocks = record {
  made = 0;
  by_leaps = λ codes times words. no_leap;
  leaps = sym (add-zero at.leaps);
  clock = omega arith;
  bound = omega arith;
  left = omega arith;
  read = refl;
  written = refl;
}

-- an instruction takes a clock at least, or the loop is over
pub fewer_left : (span gone later : ℕ) → later ≤ span → cond (ltb gone later) (span - later + 1) 0 < span - gone + 1
fewer_left span gone later h =
    cond_both (λ (k : ℕ). k < span - gone + 1) (ltb gone later) (span - later + 1) 0
    (λ e. let less = ltb-true gone later e in omega arith) (λ e. omega arith)

-- after the leaps of a span the same run is ahead, and what holds at each leap's start holds further on
module _ (halt : Option ℕ) (at r : Leaped) (memory memory' clocks codes times words : List ℕ)
    (z : Spanned halt at memory r memory' clocks) where
  pub run_later : run_from halt r memory' clocks codes times words ≡ run_from halt at memory clocks codes times words
  run_later =
      let w = world_with at.progress memory clocks codes times words in
      let v = world_with r.progress memory' clocks codes times words in
      rw (
        by_leaps_run (system halt) (lawful halt) (z.by_leaps codes times words),
        z.leaps,
        add_assoc at.leaps z.made (run (system halt) r.left.0 v).leaps,
      )

  pub leaping_later : Leaping at.progress at.left.0 clocks codes times words
      → Leaping r.progress r.left.0 clocks codes times words
  leaping_later l = record {
    clock = omega (arith, z.clock, l.clock);
    read = omega (arith, z.read, l.read);
    inputs = l.inputs;
    outputs = l.outputs;
    written = omega (arith, z.written, l.written);
  }
