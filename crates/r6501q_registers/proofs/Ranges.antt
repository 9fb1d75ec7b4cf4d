-- Reads and writes keep the ranges of what stands behind the registers.
use mathlib.Core.Path.{◌≡◌, refl}
use mathlib.Core.Bool.{true, false}
use Prim.Native.Nat.{ℕ, ◌<◌, ◌≤◌}
use native.Mathlib.Nat.{lt_of_le_of_lt}
use native.Mathlib.Omega.{arith}
use lib.Dec.{eqb}
use Rattle.bits.specs.Bits.{bit, with_bit}
use Rattle.bits.proofs.Cond.{cond_both}
use Rattle.bits.proofs.Bits.{bit_within}
use Rattle.counters.specs.Counters.{lower_a, upper_a, lower_b, upper_b, copy_b}
use Rattle.serial.proofs.Ranges.{transmitter_under_fits, receiver_under_fits}
use Rattle.r6501q_state.specs.declared.state.Peripherals.{Peripherals}
use Rattle.r6501q_state.specs.State.{peripherals_fit}
use Rattle.r6501q_state.specs.Copies.{with_counter_a, with_counter_b, with_control, flagged, scsr_set, latched_a}
use Rattle.r6501q_state.specs.Control.{mode_b}
use Rattle.r6501q_state.proofs.Ranges.{InPeripherals, in_peripherals, fit_peripherals, flagged_in}
use Rattle.r6501q_registers.specs.Copies.{latched_b, latched_c, latched_d, with_ier}
use Rattle.r6501q_registers.specs.Read.{received_read, after_read}
use Rattle.r6501q_registers.specs.Write.{loaded_b, start_b, start_a, write_data, write_scsr, entering, write_sccr}
use Rattle.r6501q_registers.specs.Write.{write_mcr, kept_flag, kept_flags, write_of}

-- a bit cleared makes no number larger
cleared_le : (k x : ℕ) → with_bit k false x ≤ x
unfolding with_bit
cleared_le k x = let h = bit_within k x in omega arith

cleared_lt : (k ifr : ℕ) → ifr < 64 → with_bit k false ifr < 64
cleared_lt k ifr h = lt_of_le_of_lt (cleared_le k ifr) h

kept_lt : (k v ifr : ℕ) → ifr < 64 → kept_flag k v ifr < 64
unfolding kept_flag
kept_lt k v ifr h = cond_both (λ n. n < 64) (bit k v) ifr (with_bit k false ifr) (λ _. h) (λ _. cleared_lt k ifr h)

flags_lt : (v ifr : ℕ) → ifr < 64 → kept_flags v ifr < 64
unfolding kept_flags
flags_lt v ifr h = kept_lt 3 v _ (kept_lt 2 v _ (kept_lt 1 v _ (kept_lt 0 v ifr h)))

-- what keeps flags and progress keeps the ranges
same_in : (p q : Peripherals) → q.control.ifr ≡ p.control.ifr → q.transmitter ≡ p.transmitter
    → q.receiver ≡ p.receiver → InPeripherals p → InPeripherals q
same_in p q e f g i = record { ifr = rw e i.ifr; transmitter = rw f i.transmitter; receiver = rw g i.receiver }

-- 01, Registers: reads
pub read_fits : (p : Peripherals) (at : ℕ) → peripherals_fit p ≡ true → peripherals_fit (after_read p at) ≡ true
unfolding after_read
read_fits p at e =
    let i = in_peripherals p e in
    fit_peripherals _ (cond_both InPeripherals (eqb at 0x1C) (flagged p (with_bit 5 false p.control.ifr)) _
    (λ _. flagged_in p _ (cleared_lt 5 _ i.ifr) i)
    (λ _. cond_both InPeripherals (eqb at 0x18) (flagged p (with_bit 4 false p.control.ifr)) _
    (λ _. flagged_in p _ (cleared_lt 4 _ i.ifr) i)
    (λ _. cond_both InPeripherals (eqb at 0x17) (scsr_set p (received_read p.control.scsr)) p
    (λ _. same_in p _ refl refl refl i) (λ _. i))))

start_b_in : (p : Peripherals) (v : ℕ) → InPeripherals p → InPeripherals (start_b p v)
unfolding start_b
start_b_in p v i =
    cond_both InPeripherals (eqb (mode_b p.control.mcr) 1) _ (loaded_b p v)
    (λ _. record { ifr = cleared_lt 5 _ i.ifr; transmitter = i.transmitter; receiver = i.receiver })
    (λ _. record { ifr = cleared_lt 5 _ i.ifr; transmitter = i.transmitter; receiver = i.receiver })

start_a_in : (p : Peripherals) (v : ℕ) → InPeripherals p → InPeripherals (start_a p v)
unfolding start_a
start_a_in p v i = record { ifr = cleared_lt 4 _ i.ifr; transmitter = i.transmitter; receiver = i.receiver }

sccr_in : (p : Peripherals) (v : ℕ) → InPeripherals p → InPeripherals (write_sccr p v)
unfolding entering
sccr_in p v i = record {
  ifr = i.ifr;
  transmitter = transmitter_under_fits p.control.sccr v p.transmitter i.transmitter;
  receiver = receiver_under_fits p.control.sccr v p.receiver i.receiver;
}

-- 01, Registers: writes
pub write_fits : (p : Peripherals) (at v : ℕ) → peripherals_fit p ≡ true → peripherals_fit (write_of p at v) ≡ true
unfolding write_of entering
write_fits p at v e =
    let i = in_peripherals p e in
    fit_peripherals _ (cond_both InPeripherals (eqb at 0x1E) (start_b p v) _ (λ _. start_b_in p v i)
    (λ _. cond_both InPeripherals (eqb at 0x1D) (with_counter_b p (copy_b (upper_b p.counterb v))) _
    (λ _. same_in p _ refl refl refl i)
    (λ _. cond_both InPeripherals (eqb at 0x1C) (with_counter_b p (lower_b p.counterb v)) _
    (λ _. same_in p _ refl refl refl i)
    (λ _. cond_both InPeripherals (eqb at 0x1A) (start_a p v) _ (λ _. start_a_in p v i)
    (λ _. cond_both InPeripherals (eqb at 0x19) (with_counter_a p (upper_a p.countera v)) _
    (λ _. same_in p _ refl refl refl i)
    (λ _. cond_both InPeripherals (eqb at 0x18) (with_counter_a p (lower_a p.countera v)) _
    (λ _. same_in p _ refl refl refl i)
    (λ _. cond_both InPeripherals (eqb at 0x17) (write_data p v) _ (λ _. same_in p _ refl refl refl i)
    (λ _. cond_both InPeripherals (eqb at 0x16) (write_scsr p v) _ (λ _. same_in p _ refl refl refl i)
    (λ _. cond_both InPeripherals (eqb at 0x15) (write_sccr p v) _ (λ _. sccr_in p v i)
    (λ _. cond_both InPeripherals (eqb at 0x14) (write_mcr p v) _ (λ _. same_in p _ refl refl refl i)
    (λ _. cond_both InPeripherals (eqb at 0x12) (with_control p (with_ier p.control v)) _
    (λ _. same_in p _ refl refl refl i)
    (λ _. cond_both InPeripherals (eqb at 0x10) (flagged p (kept_flags v p.control.ifr)) _
    (λ _. flagged_in p _ (flags_lt v _ i.ifr) i)
    (λ _. cond_both InPeripherals (eqb at 0x03) (latched_d p v) _ (λ _. same_in p _ refl refl refl i)
    (λ _. cond_both InPeripherals (eqb at 0x02) (latched_c p v) _ (λ _. same_in p _ refl refl refl i)
    (λ _. cond_both InPeripherals (eqb at 0x01) (latched_b p v) _ (λ _. same_in p _ refl refl refl i)
    (λ _. cond_both InPeripherals (eqb at 0x00) (latched_a p v) p (λ _. same_in p _ refl refl refl i)
    (λ _. i)))))))))))))))))
