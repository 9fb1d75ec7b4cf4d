use mathlib.Core.Path.{◌≡◌, ◌∙◌, refl, ap}
use native.Mathlib.Nat.{zero-add}
use Rattle.std.proofs.Common.{None}
use Rattle.std.proofs.Math.ListN.{get_or}
use Rattle.bits.specs.Lists.{tabulate}
use Rattle.bits.proofs.Tables.{get_d_tabulate}
use Rattle.cpu_opcodes.specs.Decode.{decode_of}
use Rattle.cpu_opcodes.specs.declared.table.TheConstants.{TABLE}
use Rattle.cpu_opcodes.proofs.decode.Goals as goal

-- `decode` meets its contract: the table is the list of what the rows say, one computed test over all 256. Assumes
-- nothing.
pub returns : goal.returns
unfolding decode_of
returns c =
    let table : TABLE ≡ tabulate decode_of 256 0 = refl in
    ap (λ t. get_or t c.args.opcode None) table
    ∙ get_d_tabulate decode_of 256 0 c.args.opcode None c.ranges.opcode.fits
    ∙ ap decode_of (zero-add c.args.opcode)
