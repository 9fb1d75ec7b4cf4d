-- Port A's drive, pin by pin (01, Pin lists; 02, U1).
use mathlib.Core.Path.{◌≡◌, refl, ◌∙◌}
use mathlib.Core.Bool.{Bool, true, false, cond}
use Rattle.bits.specs.Bits.{bit, with_bit}
use Rattle.bits.proofs.Bits.{bit_put, bit_above, bit_below}
use Rattle.serial_format.specs.Format.{transmitter_shifts}
use Rattle.serial_transmitter.specs.Transmitter.{line, shift_clock}
use Rattle.r6501q_state.specs.declared.state.Peripherals.{Peripherals}
use Rattle.r6501q_state.specs.Pins.{drive_a}

module _ (p : Peripherals) where
  -- "PA6 is the transmitter's line .. while SCCR7 is set", in either mode
  pub line_driven : bit 7 p.control.sccr ≡ true → bit 6 (drive_a p) ≡ line p.transmitter
  unfolding drive_a
  line_driven on = rw on (by (transmitter_shifts p.control.sccr))
    where
      by : (shifts : Bool)
          → bit 6
          (cond shifts (with_bit 4 (shift_clock p.transmitter) (with_bit 6 (line p.transmitter) p.ports.a))
          (with_bit 6 (line p.transmitter) p.ports.a)) ≡ line p.transmitter
      by true =
          bit_above 4 1 (with_bit 6 (line p.transmitter) p.ports.a) (shift_clock p.transmitter)
          ∙ bit_put 6 p.ports.a (line p.transmitter)
      by false = bit_put 6 p.ports.a (line p.transmitter)

  -- "PA4's drive is its clock", of a transmitter that is on and in shift-register mode
  pub clock_driven : bit 7 p.control.sccr ≡ true → transmitter_shifts p.control.sccr ≡ true
      → bit 4 (drive_a p) ≡ shift_clock p.transmitter
  unfolding drive_a
  clock_driven on shifts =
      rw (on, shifts) (bit_put 4 (with_bit 6 (line p.transmitter) p.ports.a) (shift_clock p.transmitter))

  -- else PA4's drive is its latch, and with SCCR7 clear port A's is
  pub latch_driven : bit 7 p.control.sccr ≡ true → transmitter_shifts p.control.sccr ≡ false
      → bit 4 (drive_a p) ≡ bit 4 p.ports.a
  unfolding drive_a
  latch_driven on frame = rw (on, frame) (bit_below 1 4 p.ports.a (line p.transmitter))

  pub latches_driven : bit 7 p.control.sccr ≡ false → drive_a p ≡ p.ports.a
  unfolding drive_a
  latches_driven off = rw off refl
