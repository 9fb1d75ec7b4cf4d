use mathlib.Core.Path.{sym}
use native.Mathlib.Omega.{arith}
use lib.Seq.{take_all, length-take-le}
use Rattle.replay_text.specs.Replay.{tape_length}
use Rattle.replay_text.proofs.replay_input.Goals as goal

pub returns-then-input-le-TAPE_LENGTH : goal.returns-then-input-le-TAPE_LENGTH
returns-then-input-le-TAPE_LENGTH c =
    let input = c.args.input.now in
    rw (take_all tape_length input c.if-input-le-TAPE_LENGTH.true) (record {
      text_after = c.replay.ensures.text_after;
      upper_bound = c.replay.ensures.upper_bound;
    })

pub slice_bounds-replay-end : goal.slice_bounds-replay-end
slice_bounds-replay-end c = sym (length-take-le tape_length c.args.input.now
    (omega (arith, c.if-input-le-TAPE_LENGTH.false)))
