-- What an opcode means: the entry of its row, and none where it has no row (01, Instructions: "The other 73 are
-- undefined").
use Rattle.std.specs.Prelude.{cond, List, [], ◌∷◌, ℕ, ◌+◌, eqb, Option, Some, None}
use Rattle.cpu_opcodes.specs.InstructionSet.{Row, rows}
use Rattle.cpu_opcodes.specs.declared.Entry.{Entry}

-- the entry of the first row with opcode o
abbrev pub look_up : ℕ → List Row → Option Entry
look_up o [] = None
look_up o (r ∷ rs) = cond (eqb o r.opcode) (Some r.entry) (look_up o rs)

unfoldable pub decode_of : ℕ → Option Entry
decode_of o = look_up o rows

-- 1 where an opcode is defined
abbrev pub defined : Option Entry → ℕ
defined None = 0
defined (Some e) = 1

-- how many of a list are defined
abbrev pub count_defined : List (Option Entry) → ℕ
count_defined [] = 0
count_defined (d ∷ ds) = defined d + count_defined ds
