-- The CPU at work in a span.
use Rattle.std.specs.Prelude.{ℕ, ◌+◌, ◌-◌, ◌≤◌}
use Rattle.cpu_effects.specs.declared.Worked.{Worked}
use Rattle.cpu.specs.declared.work.Work.{Work}

-- what is gone lies in the span, and each leap took a clock at least
pub record WithinSpan (w : Work) (span : ℕ) : Type 0 where
  pub gone : w.gone.0 ≤ span
  pub leaps : w.leaps ≤ w.gone.0

-- an instruction more: the clocks waited for it, and the one that it starts on
abbrev pub next_work : Work → Worked → Work
next_work w worked = record {
  registers = worked.registers;
  wait = worked.length - 1;
  gone = record { 0 = w.gone.0 + w.wait + 1 };
  leaps = w.leaps + 1;
}

-- a store's last clock: the clocks waited, on the last of which its byte is put
abbrev pub waited_out : Work → Work
waited_out w = record {
  registers = w.registers;
  wait = 0;
  gone = record { 0 = w.gone.0 + w.wait };
  leaps = w.leaps + 1;
}
