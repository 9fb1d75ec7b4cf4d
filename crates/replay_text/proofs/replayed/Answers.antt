use mathlib.Core.Path.{refl, ◌∙◌}
use Rattle.tape.specs.Tapes.{load_result, fault_number}
use Rattle.tape.proofs.Laws.{some_fault}
use Rattle.replay_text.specs.Replay.{zero_memory}
use Rattle.replay_text.proofs.Laws.{replay_refused, replay_ran}
use Rattle.replay_text.proofs.replayed.Goals as goal

pub returns-in-Ok : goal.returns-in-Ok
unfolding zero_memory
returns-in-Ok c =
    c.run_loaded.ensures ∙ replay_ran c.args.tape.now c.load.new.memory _ c.in-Ok.ensures refl

pub returns-in-Err : goal.returns-in-Err
unfolding zero_memory
returns-in-Err c =
    let fault = c.in-Err.error.fault in
    c.refused.ensures
    ∙ replay_refused c.args.tape.now c.load.new.memory (load_result (fault_number fault) c.in-Err.error.place)
    c.in-Err.ensures (some_fault fault)
