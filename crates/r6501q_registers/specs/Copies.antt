-- Records with one part set anew, all others kept. No rule stands here.
use Rattle.std.specs.Prelude.{ℕ}
use Rattle.r6501q_state.specs.declared.state.Control.{Control}
use Rattle.r6501q_state.specs.declared.state.Peripherals.{Peripherals}
use Rattle.r6501q_state.specs.Copies.{with_ports}

abbrev pub latched_b : Peripherals → ℕ → Peripherals
latched_b p v = with_ports p (record { a = p.ports.a; b = v; c = p.ports.c; d = p.ports.d })

abbrev pub latched_c : Peripherals → ℕ → Peripherals
latched_c p v = with_ports p (record { a = p.ports.a; b = p.ports.b; c = v; d = p.ports.d })

abbrev pub latched_d : Peripherals → ℕ → Peripherals
latched_d p v = with_ports p (record { a = p.ports.a; b = p.ports.b; c = p.ports.c; d = v })

abbrev pub with_ier : Control → ℕ → Control
with_ier c v = record { ifr = c.ifr; ier = v; mcr = c.mcr; sccr = c.sccr; scsr = c.scsr }

abbrev pub with_mcr : Control → ℕ → Control
with_mcr c v = record { ifr = c.ifr; ier = c.ier; mcr = v; sccr = c.sccr; scsr = c.scsr }

abbrev pub with_sccr : Control → ℕ → Control
with_sccr c v = record { ifr = c.ifr; ier = c.ier; mcr = c.mcr; sccr = v; scsr = c.scsr }
