-- The leaps of a span that goes on through ticks.
use Rattle.std.specs.Prelude.{◌≡◌, cond, List, ℕ, ◌+◌, ◌-◌, ◌≤◌, ltb, drop, length, Option, None}
use Rattle.bits.specs.Bits.{one_where}
use Rattle.cpu.specs.Work.{WithinSpan}
use Rattle.r6501q_state.specs.declared.state.State.{State}
use Rattle.r6501q_events.specs.Gaps.{clocks_of}
use Rattle.r6501q_unseen.specs.declared.Ticking.{Ticking}
use Rattle.r6501q_unseen.specs.Unseen.{ticks_in, Unseen, on_tick}
use Rattle.r6501q_spans.specs.declared.Working.{Working}
use Rattle.r6501q_span_work.specs.Work.{WorkedOn}
use Rattle.r6501q_spans.specs.Ticked.{AloneSeen, ticked_state}
use Rattle.r6501q_fast.specs.declared.RanOn.{RanOn}
use Rattle.r6501q_fast.specs.Instructions.{RunsOn}
use Rattle.r6501q_leap.specs.declared.Leaped.{Leaped}

-- at its start nothing has stopped, and in the span only the CPU does what can be seen
pub record SpanBegun (at : Leaped) (input_clocks : List ℕ) (span : ℕ) : Type 0 where
  pub on : at.progress.stop ≡ None
  pub alone : AloneSeen at.left.0 at.progress.state (drop at.progress.read input_clocks) span
  pub short : span ≤ 2147483647

-- the CPU's event clock, if there was one from `v` to `r`, is a tick's too
unfoldable pub shared_in : Ticking → Working → Working → ℕ
shared_in t v r = cond (ltb v.work.gone.0 r.work.gone.0) (one_where (on_tick t r.work.gone.0)) 0

-- the clocks that the CPU acted on, and the ticks
abbrev pub leaps_to : Leaped → Working → ℕ
leaps_to at v =
    v.work.leaps + ticks_in v.work.gone.0 at.progress.state.last.ports at.progress.state.peripherals

-- the run after the leaps of a span: one for each clock that the CPU acted on and for each tick, those on which both
-- came counted once
abbrev pub ticked_to : Leaped → Working → ℕ → Leaped
ticked_to at v shared = record {
  progress = record {
    state = ticked_state at.progress.state v;
    read = at.progress.read;
    written = at.progress.written;
    stop = at.progress.stop;
  };
  left = clocks_of (at.left.0 - v.work.gone.0);
  leaps = at.leaps + (leaps_to at v - shared);
}

-- what `spanned_to` asks
pub record EndFits (at : Leaped) (v : Working) (shared : ℕ) : Type 0 where
  pub clock : at.progress.state.clock + v.work.gone.0 ≤ 4294967295
  pub left : v.work.gone.0 ≤ at.left.0
  pub unseen : Unseen v.work.gone.0 at.progress.state.last.ports at.progress.state.peripherals
  pub all : leaps_to at v ≤ 4294967295
  pub fewer : shared ≤ leaps_to at v
  pub leaps : at.leaps + (leaps_to at v - shared) ≤ 4294967295

-- the leaps of a span that began with the state s, further on from `v`: instructions by their opcodes (`middle`,
-- `between`), then one more step of the CPU, with how many of the clocks that it acted on had a tick too
pub record StepsOn (halt : Option ℕ) (s : State) (span : ℕ) (t : Ticking) (v : Working) (memory : List ℕ) (r : RanOn)
    (memory' : List ℕ) : Type 0 where
  pub middle : RanOn
  pub between : List ℕ
  pub ran : RunsOn halt span t v.work v.waiting memory middle between
  pub step : WorkedOn halt s span middle.working.work middle.working.waiting between r.working memory'
  pub shared : r.shared ≡ middle.shared + shared_in t middle.working r.working
  pub room : WithinSpan middle.working.work span
  pub fewer : middle.shared ≤ middle.working.work.gone.0
  pub kept : length between ≡ length memory
  pub keeps : length memory' ≡ length between
