-- The shifted clock of the state that a host holds.
use Rattle.std.specs.Prelude.{ℕ, ◌+◌}
use Rattle.r6501q_host.specs.declared.HostState.{HostState}

-- a state with its clock k later, alike in all else
abbrev pub host_shifted : ℕ → HostState → HostState
host_shifted k h = record {
  cpu = h.cpu;
  due = h.due;
  peripherals = h.peripherals;
  external = h.external;
  last = h.last;
  clock = h.clock + k;
}
