use Rattle.r6501q_chip.specs.R6501q.{World}
use Rattle.r6501q_advance.specs.World.{world_of}
use Rattle.r6501q_advance.proofs.Worlds.{summed_kept, still_lent_kept}
use Rattle.r6501q_leap.proofs.Runs.{gap_fits, passed_goes, leap_reaches, leap_falls_short}
use Rattle.r6501q_leap.proofs.leap.Goals as goal

pub pass_progress-passed-requires : goal.pass_progress-passed-requires
pass_progress-passed-requires c = gap_fits _ _ _ _ _ _ _ c.requires.leaping
    c.requires.gap_value

pub advance-requires : goal.advance-requires
advance-requires c =
    let goes =
    passed_goes _ _ _ _ c.requires.leaping c.requires.stop_value c.if-gap-left.true in
    rw c.pass_progress-passed.ensures goes

pub returns-then-gap-left : goal.returns-then-gap-left
returns-then-gap-left c =
    let at = c.args in
    let start : World = world_of at.p at.memory.now at.lists.now in record {
      world = rw (
        c.advance.ensures.world,
        c.pass_progress-passed.ensures,
      )
          (leap_reaches at.halt at.left.0 start at.gap c.requires.gap_value c.if-gap-left.true);
      summed = c.advance.ensures.summed;
      still_lent = c.advance.ensures.still_lent;
    }

pub returns : goal.returns
returns c =
    let at = c.args in
    let start : World = world_of at.p at.memory.now at.lists.now in record {
      world = rw c.pass_progress-passed.ensures
          (leap_falls_short at.halt at.left.0 start at.gap c.requires.gap_value c.if-gap-left.false);
      summed = summed_kept at.memory.now;
      still_lent = still_lent_kept at.lists.now;
    }
