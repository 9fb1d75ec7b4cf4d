use Rattle.std.specs.Slice.Iter.{chunks_exact_rest, chunks_exact_size}
use Rattle.page_sums.specs.PageSums.{total_of}
use Rattle.tape_records.specs.Digits.{bytes_of}
use Prim.Native.Nat.{◌+◌}
use mathlib.Core.Path.{◌≡◌}
use Rattle.tape_records.proofs.digits.byte_sum.Given as goal

abbrev pub invariant-loop-pair : goal.invariant-loop-pair
invariant-loop-pair l = (chunks_exact_size l.pair-iterator ≡ 2)
    × (l.sum + total_of (bytes_of (chunks_exact_rest l.pair-iterator)) ≡ total_of (bytes_of l.digits))
