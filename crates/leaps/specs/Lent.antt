-- The lent lists of a call, as its contract names them: each as the call finds it, `.entry`, and as it leaves it,
-- `.exit`. An input list is lent to be read, and is the same at both.
use Rattle.std.specs.Prelude.{List, ℕ}
use Rattle.std.specs.Borrow.{Bor, MutBor}
use denote.Triple.Both.{Both}
use Rattle.leaps.specs.World.{WorldOf}
use Rattle.leaps.specs.Calls.{call_start}

abbrev pub Lent : Type 0
Lent = Both (MutBor (List ℕ)) (MutBor (List ℕ))

abbrev pub LentToRead : Type 0
LentToRead = Both (Bor (List ℕ)) (Bor (List ℕ))

-- the start of a call: the state given, and the lists at its entry
abbrev pub at_entry : {S : Type 0} → S → Lent → LentToRead → LentToRead → Lent → Lent → WorldOf S
at_entry s memory input_clocks input_codes output_clocks output_words =
    call_start s memory.entry.now input_clocks.entry.now input_codes.entry.now output_clocks.entry.now
    output_words.entry.now
