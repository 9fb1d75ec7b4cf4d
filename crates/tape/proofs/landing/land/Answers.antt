use Rattle.tape.proofs.MemoryLaws.{put_back, sums_back}
use Rattle.tape_records.specs.Digits.{bytes_of}
use Rattle.memory.specs.Memory.{register_end}
use Rattle.tape.proofs.landing.land.Goals as goal

pub returns : goal.returns
returns c =
    let at = c.args in
    let back = put_back at.address at.memory.now c.put_bytes.new.part c.requires.0 register_end
    (bytes_of at.digits.now) c.put_bytes.ensures.part_after in record {
      memory_after = back;
      sums_after = sums_back at.address at.memory.now c.put_bytes.new.part c.requires.0 at.sums.now c.put_bytes.new.sums
          c.put_bytes.ensures.sums_after;
    }
