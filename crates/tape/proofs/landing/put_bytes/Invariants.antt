use Rattle.tape.specs.Tapes.{put_from}
use Rattle.tape_records.specs.Digits.{bytes_of}
use Rattle.memory.specs.Memory.{register_end}
use Rattle.page_sums.specs.PageSums.{sums_after_part}
use lib.ListN.{length, drop}
use Prim.Native.Nat.{◌*◌, ◌-◌, ◌≤◌}
use mathlib.Core.Path.{◌≡◌}
use Rattle.tape.proofs.landing.put_bytes.Given as goal

abbrev pub invariant-loop-k : goal.invariant-loop-k
invariant-loop-k l = (length l.part ≡ length l.initial.part)
    × (register_end - l.address ≤ l.k)
    × (put_from (register_end - l.address) l.k (bytes_of (drop (2 * l.k) l.digits)) l.part
    ≡ put_from (register_end - l.address) 0 (bytes_of l.digits) l.initial.part)
    × (l.sums ≡ sums_after_part l.address l.initial.sums l.initial.part l.part)
