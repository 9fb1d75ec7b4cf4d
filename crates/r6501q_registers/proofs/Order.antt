-- The effect of a read, and a write of any register: either may come first.
use mathlib.Core.Path.{◌≡◌, refl, ap, ◌∙◌, sym}
use mathlib.Core.Bool.{Bool, false}
use Prim.Native.Nat.{ℕ, ◌+◌, ◌-◌, ◌<◌}
use native.Mathlib.Omega.{arith}
use lib.Dec.{eqb}
use Rattle.bits.specs.Bits.{bit, with_bit}
use Rattle.bits.proofs.Cond.{cond_along}
use Rattle.bits.proofs.Bits.{put_swap}
use Rattle.counters.specs.Counters.{lower_a, upper_a, lower_b, upper_b, copy_b}
use Rattle.r6501q_state.specs.declared.state.Peripherals.{Peripherals}
use Rattle.r6501q_state.specs.Copies.{with_counter_a, with_counter_b, with_control, with_sent, flagged, scsr_set, latched_a}
use Rattle.r6501q_state.specs.Control.{mode_b}
use Rattle.r6501q_registers.specs.Copies.{latched_b, latched_c, latched_d, with_ier}
use Rattle.r6501q_registers.specs.Read.{received_read, after_read}
use Rattle.r6501q_registers.specs.Write.{loaded_b, start_b, start_a, write_data, write_scsr, entering, write_sccr}
use Rattle.r6501q_registers.specs.Write.{write_mcr, kept_flag, kept_flags, write_of}

-- a function of what stands behind the registers, and the writes of each address: what f makes of p written is q
-- written
record Rows (f : Peripherals → Peripherals) (p q : Peripherals) (v : ℕ) : Type 0 where
  at_1e : f (start_b p v) ≡ start_b q v
  at_1d : f (with_counter_b p (copy_b (upper_b p.counterb v))) ≡ with_counter_b q (copy_b (upper_b q.counterb v))
  at_1c : f (with_counter_b p (lower_b p.counterb v)) ≡ with_counter_b q (lower_b q.counterb v)
  at_1a : f (start_a p v) ≡ start_a q v
  at_19 : f (with_counter_a p (upper_a p.countera v)) ≡ with_counter_a q (upper_a q.countera v)
  at_18 : f (with_counter_a p (lower_a p.countera v)) ≡ with_counter_a q (lower_a q.countera v)
  at_17 : f (write_data p v) ≡ write_data q v
  at_16 : f (write_scsr p v) ≡ write_scsr q v
  at_15 : f (write_sccr p v) ≡ write_sccr q v
  at_14 : f (write_mcr p v) ≡ write_mcr q v
  at_12 : f (with_control p (with_ier p.control v)) ≡ with_control q (with_ier q.control v)
  at_10 : f (flagged p (kept_flags v p.control.ifr)) ≡ flagged q (kept_flags v q.control.ifr)
  at_03 : f (latched_d p v) ≡ latched_d q v
  at_02 : f (latched_c p v) ≡ latched_c q v
  at_01 : f (latched_b p v) ≡ latched_b q v
  at_00 : f (latched_a p v) ≡ latched_a q v
  other : f p ≡ q

along : (f : Peripherals → Peripherals) (p q : Peripherals) (at v : ℕ) → Rows f p q v
    → f (write_of p at v) ≡ write_of q at v
unfolding write_of
along f p q at v r =
    cond_along f (eqb at 0x1E) (start_b p v) _ r.at_1e
    (cond_along f (eqb at 0x1D) (with_counter_b p (copy_b (upper_b p.counterb v))) _ r.at_1d
    (cond_along f (eqb at 0x1C) (with_counter_b p (lower_b p.counterb v)) _ r.at_1c
    (cond_along f (eqb at 0x1A) (start_a p v) _ r.at_1a
    (cond_along f (eqb at 0x19) (with_counter_a p (upper_a p.countera v)) _ r.at_19
    (cond_along f (eqb at 0x18) (with_counter_a p (lower_a p.countera v)) _ r.at_18
    (cond_along f (eqb at 0x17) (write_data p v) _ r.at_17
    (cond_along f (eqb at 0x16) (write_scsr p v) _ r.at_16
    (cond_along f (eqb at 0x15) (write_sccr p v) _ r.at_15
    (cond_along f (eqb at 0x14) (write_mcr p v) _ r.at_14
    (cond_along f (eqb at 0x12) (with_control p (with_ier p.control v)) _ r.at_12
    (cond_along f (eqb at 0x10) (flagged p (kept_flags v p.control.ifr)) _ r.at_10
    (cond_along f (eqb at 0x03) (latched_d p v) _ r.at_03
    (cond_along f (eqb at 0x02) (latched_c p v) _ r.at_02
    (cond_along f (eqb at 0x01) (latched_b p v) _ r.at_01
    (cond_along f (eqb at 0x00) (latched_a p v) p r.at_00 r.other)))))))))))))))

-- flags and status made anew, each from what it was: the effect of any read is of this kind
abbrev renewed : (ℕ → ℕ) → (ℕ → ℕ) → Peripherals → Peripherals
renewed flags status p = scsr_set (flagged p (flags p.control.ifr)) (status p.control.scsr)

-- what writes do to flags and status may come before that or after it
record Commuting (flags status : ℕ → ℕ) : Type 0 where
  kept : (v x : ℕ) → flags (kept_flags v x) ≡ kept_flags v (flags x)
  flag_a : (x : ℕ) → flags (with_bit 4 false x) ≡ with_bit 4 false (flags x)
  flag_b : (x : ℕ) → flags (with_bit 5 false x) ≡ with_bit 5 false (flags x)
  written : (x : ℕ) (on off : Bool) → status (with_bit 5 on (with_bit 4 off x)) ≡ with_bit 5 on (with_bit 4 off (status x))
  sent : (x : ℕ)
      → status (with_bit 7 false (with_bit 6 false (with_bit 5 false x)))
      ≡ with_bit 7 false (with_bit 6 false (with_bit 5 false (status x)))

module _ (flags status : ℕ → ℕ) (k : Commuting flags status) where
  abbrev renew : Peripherals → Peripherals
  renew = renewed flags status

  start_b_order : (p : Peripherals) (v : ℕ) → renew (start_b p v) ≡ start_b (renew p) v
  unfolding start_b
  start_b_order p v =
      cond_along renew (eqb (mode_b p.control.mcr) 1) _ (loaded_b p v)
      (rw (k.flag_b p.control.ifr)) (rw (k.flag_b p.control.ifr))

  start_a_order : (p : Peripherals) (v : ℕ) → renew (start_a p v) ≡ start_a (renew p) v
  unfolding start_a
  start_a_order p v = ap (flagged (start_a (renew p) v)) (k.flag_a p.control.ifr)

  write_order : (p : Peripherals) (at v : ℕ) → renew (write_of p at v) ≡ write_of (renew p) at v
  unfolding entering
  write_order p at v = along renew p (renew p) at v record {
    at_1e = start_b_order p v;
    at_1d = refl;
    at_1c = refl;
    at_1a = start_a_order p v;
    at_19 = refl;
    at_18 = refl;
    at_17 = ap (λ s. with_sent (scsr_set (renew p) s) v) (k.sent p.control.scsr);
    at_16 = ap (scsr_set (renew p)) (k.written p.control.scsr (bit 5 v) (bit 4 v));
    at_15 = refl;
    at_14 = refl;
    at_12 = refl;
    at_10 = ap (flagged (renew p)) (k.kept v p.control.ifr);
    at_03 = refl;
    at_02 = refl;
    at_01 = refl;
    at_00 = refl;
    other = refl;
  }

-- two bits may be put in either order
swap : (j k x : ℕ) (on off : Bool) → j < k → with_bit k off (with_bit j on x) ≡ with_bit j on (with_bit k off x)
swap j k x on off h =
    let e : k - (1 + j) + (1 + j) ≡ k = omega arith in sym (rw e at (put_swap (k - (1 + j)) j x on off))

-- a flag above those that a write of 10h clears may be cleared before it or after it
flag_kept : (j k v x : ℕ) → j < k → with_bit k false (kept_flag j v x) ≡ kept_flag j v (with_bit k false x)
unfolding kept_flag
flag_kept j k v x h = cond_along (with_bit k false) (bit j v) x (with_bit j false x) refl (swap j k x false false h)

flags_kept_lem : (k v x : ℕ) → 3 < k → with_bit k false (kept_flags v x) ≡ kept_flags v (with_bit k false x)
unfolding kept_flags
flags_kept_lem k v x h =
    flag_kept 3 k v _ h ∙ ap (kept_flag 3 v) (flag_kept 2 k v _ (omega arith)
    ∙ ap (kept_flag 2 v) (flag_kept 1 k v _ (omega arith) ∙ ap (kept_flag 1 v) (flag_kept 0 k v x (omega arith))))

-- a bit of the status above the receiver's four may be put before they are cleared or after it
put_received : (k x : ℕ) (on : Bool) → 3 < k → with_bit k on (received_read x) ≡ received_read (with_bit k on x)
put_received k x on h =
    swap 3 k _ false on h ∙ ap (with_bit 3 false) (swap 2 k _ false on (omega arith)
    ∙ ap (with_bit 2 false)
    (swap 1 k _ false on (omega arith) ∙ ap (with_bit 1 false) (swap 0 k x false on (omega arith))))

-- a read of 1Ch: counter B's flag cleared
clear_b : Commuting (with_bit 5 false) (λ x. x)
clear_b = record {
  kept = λ v x. flags_kept_lem 5 v x (omega arith);
  flag_a = λ x. swap 4 5 x false false (omega arith);
  flag_b = λ x. refl;
  written = λ x on off. refl;
  sent = λ x. refl;
}

-- a read of 18h: counter A's flag cleared
clear_a : Commuting (with_bit 4 false) (λ x. x)
clear_a = record {
  kept = λ v x. flags_kept_lem 4 v x (omega arith);
  flag_a = λ x. refl;
  flag_b = λ x. sym (swap 4 5 x false false (omega arith));
  written = λ x on off. refl;
  sent = λ x. refl;
}

-- a read of 17h: the receiver's four bits of the status cleared
clear_received : Commuting (λ x. x) received_read
clear_received = record {
  kept = λ v x. refl;
  flag_a = λ x. refl;
  flag_b = λ x. refl;
  written =
      λ x on off. sym
      (ap (with_bit 5 on) (put_received 4 x off (omega arith)) ∙ put_received 5 (with_bit 4 off x) on (omega arith));
  sent = λ x. sym (ap (λ y. with_bit 7 false (with_bit 6 false y)) (put_received 5 x false (omega arith))
      ∙ ap (with_bit 7 false) (put_received 6 (with_bit 5 false x) false (omega arith))
      ∙ put_received 7 (with_bit 6 false (with_bit 5 false x)) false (omega arith));
}

-- 01, Registers: what a read clears no write sets, and no write's doing hangs on it
pub read_write_commute : (p : Peripherals) (a v b : ℕ) → after_read (write_of p a v) b ≡ write_of (after_read p b) a v
unfolding after_read
read_write_commute p a v b =
    let write : Peripherals → Peripherals = λ q. write_of q a v in
    sym (cond_along write (eqb b 0x1C) (flagged p (with_bit 5 false p.control.ifr)) _
    (sym (write_order _ _ clear_b p a v))
    (cond_along write (eqb b 0x18) (flagged p (with_bit 4 false p.control.ifr)) _
    (sym (write_order _ _ clear_a p a v))
    (cond_along write (eqb b 0x17) (scsr_set p (received_read p.control.scsr)) p
    (sym (write_order _ _ clear_received p a v)) refl)))
