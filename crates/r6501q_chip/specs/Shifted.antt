-- The shifted clock of the R6501Q.
use Rattle.std.specs.Prelude.{ℕ, ◌+◌}
use Rattle.r6501q_state.specs.declared.state.State.{State}

-- a state with its clock k later, alike in all else
abbrev pub shifted_state : ℕ → State → State
shifted_state k s = record {
  cpu = s.cpu;
  due = s.due;
  peripherals = s.peripherals;
  external = s.external;
  last = s.last;
  clock = s.clock + k;
}
