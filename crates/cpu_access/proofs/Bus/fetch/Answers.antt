use Rattle.cpu_access.specs.Bus.{fetch_of}
use Rattle.cpu_access.proofs.Bus.fetch.Goals as goal

pub returns : goal.returns
unfolding fetch_of
returns c = rw (← c.read-got.ensures, ← c.next_address.ensures)
