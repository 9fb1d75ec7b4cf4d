use mathlib.Core.Path.{◌≡◌}
use Prim.Native.Nat.{◌≤◌}
use lib.ListN.{length, take}
use lib.Seq.{sets}
use Rattle.record_text.proofs.put_characters.Given as goal

abbrev pub invariant-loop-i : goal.invariant-loop-i
invariant-loop-i l = (l.text ≡ sets l.initial.text l.at (take l.i l.characters)) × (l.i ≤ length l.characters)
    × (length l.text ≡ length l.initial.text)
