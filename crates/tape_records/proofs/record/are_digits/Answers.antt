use Rattle.tape_records.specs.Records.{are_digits}
use Rattle.tape_records.proofs.record.are_digits.Goals as goal

pub returns : goal.returns
unfolding are_digits
returns c = rw (c.all_digits.ensures, c.part.ensures)
