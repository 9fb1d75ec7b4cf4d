-- Instructions of a span one after the other, and the clocks that they act on.
use Rattle.cpu_access.specs.declared.stack.Write.{Write}
use Rattle.std.specs.Prelude.{◌≡◌, cond, List, ℕ, ◌+◌, eqb, None, Option, Some}
use Rattle.bits.specs.Bits.{one_where}
use Rattle.cpu.specs.declared.work.Work.{Work}
use Rattle.r6501q_unseen.specs.declared.Ticking.{Ticking}
use Rattle.r6501q_unseen.specs.Unseen.{on_tick}
use Rattle.cpu_attempts.specs.Attempts.{Instructed}
use Rattle.r6501q_fast.specs.declared.RanOn.{RanOn}

-- of the clocks that one instruction acts on, its start and the clock of a store's byte, those that have a tick too
unfoldable pub shared_by : Ticking → ℕ → ℕ → ℕ
shared_by t start gone = one_where (on_tick t start) + cond (eqb gone start) 0 (one_where (on_tick t gone))

-- instructions one after the other, and how many of the clocks that they act on have a tick too
pub data ByInstructions (halt : Option ℕ) (span : ℕ) (t : Ticking) (w : Work) (memory : List ℕ) : Work → List ℕ → ℕ
    → Type 0 where
  none : ByInstructions halt span t w memory w memory 0
  more : {v w' : Work} {before memory' : List ℕ} {shared : ℕ} → ByInstructions halt span t w memory v before shared
      → Instructed halt span v before w' memory'
      → ByInstructions halt span t w memory w' memory' (shared + shared_by t (v.gone.0 + v.wait + 1) w'.gone.0)

-- the same with the byte that waits: where one does, nothing is done
abbrev pub RunsOn : Option ℕ → ℕ → Ticking → Work → Option Write → List ℕ → RanOn → List ℕ → Type 0
RunsOn halt span t w None memory r memory' =
    ByInstructions halt span t w memory r.working.work memory' r.shared × (r.working.waiting ≡ None)
RunsOn halt span t w (Some x) memory r memory' =
    (r ≡ record { working = record { work = w; waiting = Some x }; shared = 0 }) × (memory' ≡ memory)
