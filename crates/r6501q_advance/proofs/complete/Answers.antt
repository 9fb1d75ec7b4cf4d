use mathlib.Core.Path.{refl, ◌∙◌}
use Rattle.page_sums.proofs.Sums.{sixteen_after}
use Rattle.r6501q_advance.proofs.Worlds.{put_any, progress_done}
use Rattle.r6501q_advance.proofs.complete.Goals as goal

pub invariant_of-memory : goal.invariant_of-memory
invariant_of-memory c =
    let at = c.args.memory.now in record {
      sixteen_bits = rw c.commit.ensures.sums_after
          (sixteen_after 0 at.sums.now at.bytes.now c.commit.new.memory);
    }

pub returns : goal.returns
returns c =
    let at = c.args in
    let put = c.put_record-written.ensures in record {
      value = progress_done at.halt at.ended at.inputs at.p _ refl refl put.value c.stop_after.ensures;
      bytes_after = c.commit.ensures.memory_after;
      outputclocks_after = put.outputclocks_after;
      outputwords_after = put.outputwords_after ∙ put_any _ _ _ _;
      summed = record {
        bytes = refl;
        sums = refl;
        sums_after = c.commit.ensures.sums_after;
      };
      still_lent = record {
        inputclocks = refl;
        inputcodes = refl;
        outputs = record { outputclocks = refl; outputwords = refl };
      };
    }
