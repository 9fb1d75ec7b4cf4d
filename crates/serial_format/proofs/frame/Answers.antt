use Prim.Native.Nat.{◌≤◌, ◌+◌, ◌*◌, ◌%◌}
use Rattle.bits.specs.Lists.{bits_of}
use mathlib.Core.Path.{sym}
use Rattle.serial_format.proofs.Frames.{ending_le, frame_le, frame_number}
use native.Mathlib.Omega.{arith}
use Rattle.serial_format.proofs.Frames.{values_pos, values_le, data_lt}
use borrow.Author.Rules.{rules}
use Rattle.serial_format.proofs.frame.Goals as goal
use Rattle.serial_format.proofs.frame.Goals.{After-frame_ending-ending}

pub nonzero_rem-data : goal.nonzero_rem-data
nonzero_rem-data c = rw c.data_values-values.ensures (values_pos _)

pub overflow_cast-data-2 : goal.overflow_cast-data-2
overflow_cast-data-2 c = rw c.data_values-values.ensures (record { fits = data_lt _ _ })

-- the frame's parts fit
fits : (c : After-frame_ending-ending)
    → (c.args.byte % c.data_values-values.result + c.data_values-values.result * c.frame_ending-ending.result) * 2
    ≤ 2046
fits c =
    frame_le c.args.byte c.frame_ending-ending.result c.data_values-values.result
    (rw c.data_values-values.ensures (values_pos _)) (rw c.data_values-values.ensures (values_le _))
    (rw c.frame_ending-ending.ensures (ending_le c.args.sccr (bits_of 8 (c.args.byte % c.data_values-values.result))))

pub overflow_mul-result : goal.overflow_mul-result
overflow_mul-result c = omega (arith, fits (goal.at.overflow_mul-result c).After-frame_ending-ending)

pub overflow_add-result : goal.overflow_add-result
overflow_add-result c = omega (arith, fits (goal.at.overflow_add-result c).After-frame_ending-ending)

pub overflow_mul-result-2 : goal.overflow_mul-result-2
overflow_mul-result-2 c = omega (arith, fits (goal.at.overflow_mul-result-2 c).After-frame_ending-ending)

pub returns : goal.returns
returns c = rw (c.frame_ending-ending.ensures, c.data_values-values.ensures) (sym (frame_number _ _ (search rules)))
