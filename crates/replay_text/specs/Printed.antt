-- What a replay prints: the lines of its records, then the end line.
use Rattle.std.specs.Prelude.{List, ℕ, take}
use Rattle.record_text.specs.Lines.{outcome_lines}
use Rattle.replay_text.specs.declared.printed.Replay.{Replay}

abbrev pub printed : Replay → List ℕ
printed r = outcome_lines (take r.written r.times) (take r.written r.words) r.end.done r.end.number
