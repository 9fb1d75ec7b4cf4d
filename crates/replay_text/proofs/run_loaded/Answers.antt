use Rattle.std.proofs.Common.{rules, ◌≤◌, length}
use mathlib.Core.Path.{refl}
use Rattle.replay_text.proofs.Laws.{written_clocks, lines_of_run}
use Rattle.replay_text.proofs.run_loaded.Goals as goal

pub invariant_of-result : goal.invariant_of-result
invariant_of-result c =
    let within : c.run-result.result.written ≤ length c.run-result.new.outputclocks =
    written_clocks c.args.memory.now c.requires.memory_len c.fresh_state.result c.run-result.result
    c.run-result.new.memory c.run-result.new.outputclocks c.run-result.new.outputwords c.fresh_state.ensures
    c.run-result.ensures.outputwords_value_2 refl refl in
    search rules

pub returns : goal.returns
returns c =
    lines_of_run c.args.memory.now c.requires.memory_len c.fresh_state.result c.run-result.result
    c.run-result.new.memory c.run-result.new.outputclocks c.run-result.new.outputwords c.fresh_state.ensures
    c.run-result.ensures.outputwords_value_2 refl refl
