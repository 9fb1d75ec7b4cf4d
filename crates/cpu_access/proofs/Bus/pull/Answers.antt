use Rattle.std.proofs.Common.{refl}
use Rattle.cpu_access.specs.Stack.{pull_of}
use Rattle.cpu_access.proofs.Bus.pull.Goals as goal

pub returns : goal.returns
unfolding pull_of
returns c = rw (c.read-got.ensures, c.stack_address.ensures, c.up-above.ensures)
    refl
