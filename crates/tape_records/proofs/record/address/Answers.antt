use Rattle.tape_records.specs.Records.{address_of}
use lib.ListN.{length, length-take}
use mathlib.Core.Path.{ap}
use native.Mathlib.Omega.{arith}
use Rattle.tape_records.proofs.record.address.Goals as goal

pub number-requires : goal.number-requires
number-requires c = omega (arith, simp length-take at (ap length c.part.ensures))

pub returns : goal.returns
unfolding address_of
returns c = rw (c.number.ensures, c.part.ensures)
