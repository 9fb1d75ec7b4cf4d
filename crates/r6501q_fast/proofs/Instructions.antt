-- Instructions one after the other keep within the span, and each takes a clock at least.
use mathlib.Core.Path.{◌≡◌, refl}
use mathlib.Core.Bool.{Bool, true, false, cond}
use mathlib.Core.List.{List}
use Prim.Native.Nat.{ℕ, ◌+◌, ◌-◌, ◌≤◌, ◌<◌}
use native.Mathlib.Omega.{arith}
use lib.Dec.{eqb}
use borrow.Author.Tests.{eq-eqb}
use Rattle.bits.specs.Bits.{one_where}
use Rattle.bits.proofs.Cond.{one_where_le}
use Rattle.r6501q_unseen.specs.declared.Ticking.{Ticking}
use Rattle.r6501q_unseen.specs.Unseen.{on_tick}
use Rattle.cpu.specs.declared.work.Work.{Work}
use Rattle.cpu.specs.Work.{WithinSpan}
use Rattle.std.specs.Prelude.{None, Option, Some}
use Rattle.cpu_attempts.specs.Attempts.{Instructed, pushing, storing, Tries, unchanged, whole}
use Rattle.r6501q_fast.specs.Instructions.{ByInstructions}
use Rattle.r6501q_fast.specs.Instructions.{none, more}
use Rattle.r6501q_fast.specs.Instructions.{shared_by}

pub starts_within : (w : Work) (span : ℕ) → w.wait < span - w.gone.0 → w.gone.0 + w.wait < span
starts_within w span h = omega (arith, h)

at_most : (b : Bool) (k : ℕ) → k ≤ 1 → cond b 0 k ≤ 1
at_most true k h = omega arith
at_most false k h = h

pub shared_two : (t : Ticking) (start gone : ℕ) → shared_by t start gone ≤ 2
unfolding shared_by
shared_two t start gone =
    omega (
      arith,
      one_where_le (on_tick t start),
      at_most (eqb gone start) (one_where (on_tick t gone)) (one_where_le (on_tick t gone)),
    )

-- an attempt that gave a work is one instruction, and one that gave none left memory as it was
pub done : {halt : Option ℕ} {span : ℕ} {w w' : Work} {memory memory' : List ℕ}
    → Tries halt span w memory (Some w') memory' → Instructed halt span w memory w' memory'
done (whole i) = i

pub left : {halt : Option ℕ} {span : ℕ} {w : Work} {memory memory' : List ℕ}
    → Tries halt span w memory None memory' → memory' ≡ memory
left unchanged = refl

pub instructed_within : {halt : Option ℕ} {span : ℕ} {w w' : Work} {memory memory' : List ℕ} → WithinSpan w span
    → Instructed halt span w memory w' memory' → WithinSpan w' span
instructed_within room (pushing worked inside e z q) =
    record { gone = omega (arith, inside); leaps = omega (arith, room.leaps) }
instructed_within room (storing worked x fits long e z q) =
    record { gone = omega (arith, fits, long); leaps = omega (arith, room.leaps, long) }

pub instructed_less : {halt : Option ℕ} {span : ℕ} {w w' : Work} {memory memory' : List ℕ} → w.gone.0 + w.wait < span
    → Instructed halt span w memory w' memory' → span - w'.gone.0 < span - w.gone.0
instructed_less inside (pushing worked i e z q) = omega (arith, inside)
instructed_less inside (storing worked x fits long e z q) = omega (arith, inside, fits, long)

module _ (halt : Option ℕ) (span : ℕ) (ticking : Ticking) (start : Work) (memory₀ : List ℕ) where
  -- an instruction acts on one clock, or on two, and takes as many at least
  pub shared_most : {w : Work} {memory : List ℕ} {shared : ℕ}
      → ByInstructions halt span ticking start memory₀ w memory shared → shared + start.gone.0 ≤ w.gone.0
  unfolding shared_by
  shared_most none = omega arith
  shared_most (more {v} so_far (pushing worked inside e z q)) =
      let here = one_where_le (on_tick ticking (v.gone.0 + v.wait + 1)) in
      let same = eq-eqb (v.gone.0 + v.wait + 1) (v.gone.0 + v.wait + 1) refl in
      rw same (omega (arith, shared_most so_far, here))
  shared_most (more {v} so_far (storing worked x fits long e z q)) =
      let here = one_where_le (on_tick ticking (v.gone.0 + v.wait + 1)) in
      let there =
      at_most (eqb (v.gone.0 + v.wait + 1 + (worked.length - 1)) (v.gone.0 + v.wait + 1))
      (one_where (on_tick ticking (v.gone.0 + v.wait + 1 + (worked.length - 1))))
      (one_where_le (on_tick ticking (v.gone.0 + v.wait + 1 + (worked.length - 1)))) in
      omega (arith, shared_most so_far, here, there, long)
