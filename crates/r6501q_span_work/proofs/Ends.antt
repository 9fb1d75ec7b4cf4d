-- What a clock of a span leaves: an instruction that pushes nothing, a byte put.
use Rattle.std.specs.Prelude.{Option}
use mathlib.Core.Path.{◌≡◌, refl, ap}
use mathlib.Core.Bool.{Bool, true, false, ◌&&◌, not}
use mathlib.Core.List.{List}
use Prim.Native.Nat.{ℕ, ◌-◌}
use lib.Dec.{ltb, leb}
use Rattle.bits.proofs.Cond.{and_both}
use Rattle.cpu_access.specs.declared.stack.Write.{Write}
use Rattle.cpu_access.specs.Stack.{no_writes, one_write}
use Rattle.cpu_effects.specs.declared.Worked.{Worked}
use Rattle.cpu_effects.specs.Effects.{pushes_of}
use Rattle.cpu.specs.declared.work.Work.{Work}
use Rattle.cpu_access.specs.Halt.{ends_span}
use Rattle.cpu_access.proofs.Ends.{no_writes_end}
use Rattle.memory_writes.specs.Commit.{put_write, committed}
use Rattle.r6501q_spans.specs.Spans.{next_working}
use Rattle.r6501q_span_work.specs.Work.{continued_by, committed_by, puts_within}

and_first : (a b : Bool) → a ≡ false → (a && b) ≡ false
and_first a b e = rw e refl

and_second : (a b : Bool) → a ≡ true → b ≡ false → (a && b) ≡ false
and_second a b e f = rw (e, f) refl

-- an instruction that pushes nothing goes on, and leaves memory as it is
pub nothing_pushed : (halt : Option ℕ) (w : Work) (memory : List ℕ) (worked : Worked) → pushes_of worked.writing
    ≡ no_writes
    → (continued_by halt w worked ≡ next_working w worked) × (committed_by halt memory worked ≡ memory)
unfolding continued_by committed_by committed put_write
nothing_pushed halt w memory worked e = (rw (e, no_writes_end halt) refl, rw (e, no_writes_end halt) refl)

-- a byte is put within the span, or it is not
module _ (halt : Option ℕ) (span : ℕ) (w : Work) (x : Write) where
  abbrev clock_within : Bool
  clock_within = ltb 0 w.wait && leb w.wait (span - w.gone.0)

  pub puts_within_lem : clock_within ≡ true → ends_span halt (one_write x) ≡ false → puts_within halt span w x ≡ true
  unfolding puts_within
  puts_within_lem within none = and_both clock_within (not (ends_span halt (one_write x))) within (ap not none)

  pub puts_not : clock_within ≡ true → ends_span halt (one_write x) ≡ true → puts_within halt span w x ≡ false
  unfolding puts_within
  puts_not within ends = and_second clock_within (not (ends_span halt (one_write x))) within (ap not ends)

  pub puts_later : clock_within ≡ false → puts_within halt span w x ≡ false
  unfolding puts_within
  puts_later later = and_first clock_within (not (ends_span halt (one_write x))) later
