use mathlib.Core.Path.{◌≡◌, refl, sym, ap, ◌∙◌}
use Prim.Native.Nat.{◌+◌, ◌≤◌}
use native.Mathlib.Omega.{arith}
use lib.ListN.{length, drop}
use lib.Seq.{drop-drop}
use Rattle.stops.specs.Stops.{number_of}
use Rattle.cpu_access.specs.Halt.{halts}
use Rattle.r6501q_advance.proofs.Worlds.{plain_stops, plain_moves, halted_number, input_count_fits}
use Rattle.r6501q_advance.proofs.Worlds.{summed_kept, still_lent_kept}
use Rattle.r6501q_advance.proofs.advance.Goals as goal

pub outcome_from-clocked-requires : goal.outcome_from-clocked-requires
outcome_from-clocked-requires c =
    let going = c.requires in
    let lists = c.args.lists.now in (
      going.clock,
      rw c.input_count_from-inputs.ensures
          (input_count_fits _ _ lists.inputclocks.now lists.inputcodes.now going.read lists.inputs),
    )

pub complete-requires : goal.complete-requires
complete-requires c =
    let going = c.requires in
    let lists = c.args.lists.now in
    let due = c.input_count_from-inputs in
    let fits : c.args.p.read + due.result ≤ length lists.inputcodes.now =
    rw due.ensures (input_count_fits _ _ lists.inputclocks.now lists.inputcodes.now going.read lists.inputs) in
    (omega (arith, fits), omega (arith, going.written))

pub returns-in-Err : goal.returns-in-Err
returns-in-Err c =
    let at = c.args in
    let outcome =
    sym c.outcome_from-clocked.ensures ∙ c.in-Err.is in record {
      world = rw c.stop_at.ensures (plain_stops at.halt _ _ _ (ap number_of c.requires.stop)
          c.input_count_from-inputs.ensures _ outcome refl);
      summed = summed_kept at.memory.now;
      still_lent = still_lent_kept at.lists.now;
    }

pub returns-in-Ok : goal.returns-in-Ok
returns-in-Ok c =
    let at = c.args in
    let due = c.input_count_from-inputs in
    let outcome = sym c.outcome_from-clocked.ensures
    ∙ c.in-Ok.is in
    let lists = at.lists.now in
    let clocks = drop-drop due.result at.p.read lists.inputclocks.now in
    let codes = drop-drop due.result at.p.read lists.inputcodes.now in record {
      world = rw (
        c.complete.ensures.value,
        c.complete.ensures.bytes_after,
        c.complete.ensures.still_lent.inputclocks,
        c.complete.ensures.still_lent.inputcodes,
        c.complete.ensures.outputclocks_after,
        c.complete.ensures.outputwords_after,
        halted_number (halts at.halt c.in-Ok.ended.writes),
        ← clocks,
        ← codes,
      )
          (plain_moves at.halt _ _ _ (ap number_of c.requires.stop) due.ensures _ outcome refl);
      summed = c.complete.ensures.summed;
      still_lent = c.complete.ensures.still_lent;
    }
