use mathlib.Core.Path.{ap, ◌∙◌}
use Rattle.cpu_opcodes.specs.Decode.{decode_of}
use Rattle.cpu_attempts.proofs.Tried.{no_operation_tries}
use Rattle.cpu_high_opcodes.proofs.opcodes_e0.Goals as goal

pub returns-in-234-clause-tries : goal.returns-in-234-clause-tries
unfolding decode_of
returns-in-234-clause-tries c =
    rw c.no_operation.ensures
    (no_operation_tries c.args.start _ (ap decode_of (c.requires ∙ c.in-234.is)))
