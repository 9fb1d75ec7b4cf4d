-- The CPU's steps in a span: an instruction that starts in it, or the byte that waits put.
use Rattle.std.specs.Prelude.{◌≡◌, Bool, ◌&&◌, not, cond, List, ℕ, ◌-◌, ltb, leb, None, Option, Some}
use Rattle.r6501q_state.specs.declared.state.State.{State}
use Rattle.cpu_access.specs.declared.stack.Write.{Write}
use Rattle.cpu_access.specs.Stack.{one_write}
use Rattle.cpu_access.specs.Halt.{ends_span}
use Rattle.cpu_effects.specs.declared.Worked.{Worked}
use Rattle.cpu_effects.specs.Effects.{pushes_of}
use Rattle.cpu.specs.declared.Outcome.{Outcome}
use Rattle.cpu.specs.declared.Outcome.TheVariants.{Undefined, Asked, Done}
use Rattle.cpu.specs.declared.work.Work.{Work}
use Rattle.memory_writes.specs.Commit.{committed}
use Rattle.r6501q_span_reads.specs.Steady.{outcome_within}
use Rattle.r6501q_spans.specs.declared.Working.{Working}
use Rattle.r6501q_spans.specs.Spans.{none_waiting, next_working, put_work}

-- ---- no byte waits: instructions

-- a store only begins to wait here, whatever its address
unfoldable pub continued_by : Option ℕ → Work → Worked → Working
continued_by halt w worked =
    cond (ends_span halt (pushes_of worked.writing)) (none_waiting w) (next_working w worked)

unfoldable pub committed_by : Option ℕ → List ℕ → Worked → List ℕ
committed_by halt memory worked =
    cond (ends_span halt (pushes_of worked.writing)) memory (committed memory (pushes_of worked.writing))

-- an instruction that still asks for a register, or is undefined, is left to the clock's own rules
abbrev pub work_by : Option ℕ → Work → Outcome → Working
work_by halt w Undefined = none_waiting w
work_by halt w (Asked ask) = none_waiting w
work_by halt w (Done worked) = continued_by halt w worked

abbrev pub memory_by : Option ℕ → List ℕ → Outcome → List ℕ
memory_by halt memory Undefined = memory
memory_by halt memory (Asked ask) = memory
memory_by halt memory (Done worked) = committed_by halt memory worked

-- the next instruction, if it starts within the span
unfoldable pub work_after : Option ℕ → State → ℕ → Work → List ℕ → Working
work_after halt s span w memory =
    cond (leb (span - w.gone.0) w.wait) (none_waiting w) (work_by halt w (outcome_within s w.registers memory))

unfoldable pub memory_after : Option ℕ → State → ℕ → Work → List ℕ → List ℕ
memory_after halt s span w memory =
    cond (leb (span - w.gone.0) w.wait) memory (memory_by halt memory (outcome_within s w.registers memory))

-- ---- a byte waits: it is put

-- its clock lies within the span, and it is not left to the clock's own rules
unfoldable pub puts_within : Option ℕ → ℕ → Work → Write → Bool
puts_within halt span w x =
    (ltb 0 w.wait && leb w.wait (span - w.gone.0)) && not (ends_span halt (one_write x))

unfoldable pub work_put : Option ℕ → ℕ → Work → Write → Working
work_put halt span w x = cond (puts_within halt span w x) (put_work w) (record { work = w; waiting = Some x })

unfoldable pub memory_put : Option ℕ → ℕ → Work → Write → List ℕ → List ℕ
memory_put halt span w x memory = cond (puts_within halt span w x) (committed memory (one_write x)) memory

abbrev pub WorkedOn : Option ℕ → State → ℕ → Work → Option Write → List ℕ → Working → List ℕ → Type 0
WorkedOn halt s span w None memory r memory' =
    (r ≡ work_after halt s span w memory) × (memory' ≡ memory_after halt s span w memory)
WorkedOn halt s span w (Some x) memory r memory' =
    (r ≡ work_put halt span w x) × (memory' ≡ memory_put halt span w x memory)
