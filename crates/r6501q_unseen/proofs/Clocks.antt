-- Steps 2 and 3 of n clocks between which no port level changes, in closed form, where their ticks cannot be seen.
use mathlib.Core.Path.{◌≡◌, refl, sym, ap, ◌∙◌}
use mathlib.Core.Bool.{Bool, true, false, ◌&&◌, not, cond}
use Prim.Native.Nat.{ℕ, zero, suc, ◌+◌, ◌*◌, ◌/◌, ◌%◌, ◌^◌, ◌≤◌, ◌<◌, min}
use native.Mathlib.Nat.{zero-add, sub-zero}
use native.Mathlib.Omega.{arith}
use lib.Dec.{eqb}
use borrow.Author.Tests.{eqb-true, not-true}
use Rattle.bits.specs.Bits.{bit, with_bit, set_where, flip_where}
use Rattle.bits.proofs.Cond.{and_left, and_right}
use Rattle.counters.specs.declared.a.CounterA.{CounterA}
use Rattle.counters.specs.declared.b.CounterB.{CounterB}
use Rattle.counters.specs.Counters.{clock_a, counts_a, down_a, counts_through_a, pass_a, pass_b, ticks_of}
use Rattle.counters.proofs.Gaps.{pass_add_b}
use Rattle.r6501q_state.specs.declared.state.Peripherals.{Peripherals}
use Rattle.r6501q_state.specs.Copies.{with_counter_a, with_counter_b}
use Rattle.r6501q_state.specs.Control.{mode_a}
use Rattle.r6501q_state.specs.Pins.{drive_a, drive_d, driven_word}
use Rattle.r6501q_clock.specs.Clock.{count_a, sent_by, heard_by, peripherals_clock}
use Rattle.r6501q_events.specs.Gaps.{clocks_of, counting_a, counting_b}
use Rattle.r6501q_events.proofs.Quiet.{no_rise, above_zero, counted_b_quiet, peripherals_quiet}
use Rattle.r6501q_unseen.specs.Ticks.{underflows_in, counter_after, unseen_sends, sent_after, unseen_listens}
use Rattle.r6501q_unseen.specs.Ticks.{heard_after, underflow_unseen, unseen_ticks}
use Rattle.r6501q_unseen.specs.Unseen.{peripherals_clocks, ticks_next, ticks_in, SameSeen, Unseen}
use Rattle.r6501q_unseen.proofs.CounterA.{step_a, counter_more, counter_same, ticks_closed, ticks_fewer}
use Rattle.r6501q_unseen.proofs.CounterA.{ticks_within}
use Rattle.r6501q_unseen.proofs.Transmission.{send_tick_lem, send_less, send_more, send_none, send_drive}
use Rattle.r6501q_unseen.proofs.Reception.{heard_next, hear_tick, hear_less, hear_more, hear_none}

-- ---- ticks that cannot be seen

pub record Hidden (ticks ports : ℕ) (p : Peripherals) : Type 0 where
  pub flag : 0 < ticks → underflow_unseen p.control ≡ true
  pub sends : ticks ≤ unseen_sends p.transmitter p.control.sccr p.control.scsr
  pub listens : ticks ≤ unseen_listens p.receiver p.control.sccr (bit 7 ports)

pub hidden : (ticks ports : ℕ) (p : Peripherals) → ticks ≤ unseen_ticks ports p → Hidden ticks ports p
unfolding unseen_ticks
hidden ticks ports p = by_test (underflow_unseen p.control) refl
  where
    by_test : (t : Bool) → underflow_unseen p.control ≡ t → ticks ≤ unseen_ticks ports p → Hidden ticks ports p
    by_test true e h =
        let k : ticks
        ≤ min (unseen_sends p.transmitter p.control.sccr p.control.scsr)
        (unseen_listens p.receiver p.control.sccr (bit 7 ports)) =
        rw e at h in
        record { flag = λ _. e; sends = omega arith; listens = omega arith }
    by_test false e h =
        let k : ticks ≤ 0 = rw e at h in
        record { flag = λ z. absurd (omega arith); sends = omega arith; listens = omega arith }

-- ---- one clock

-- without a tick
abbrev quiet_step : ℕ → Peripherals → Peripherals
quiet_step ports p =
    with_counter_b (with_counter_a p (step_a (counting_a p.control ports) p.countera))
    (pass_b p.counterb (counting_b p.control) (clocks_of 1))

stepped_quiet : (counting : Bool) (c : CounterA) → (counting && eqb c.count 0) ≡ false
    → pass_a c counting (clocks_of 1) ≡ step_a counting c
unfolding pass_a down_a
stepped_quiet true c e = rw e
stepped_quiet false c e = refl

quiet_clock : (ports : ℕ) (p : Peripherals) → ticks_next ports p ≡ false
    → (counting_b p.control ≡ true → 0 < p.counterb.count)
    → peripherals_clock p ports ports ≡ quiet_step ports p
unfolding ticks_next
quiet_clock ports p e b =
    peripherals_quiet p ports (above_zero (counting_a p.control ports) p.countera.count e) b
    ∙ rw (stepped_quiet (counting_a p.control ports) p.countera e)

-- with a tick that cannot be seen
abbrev tick_step : ℕ → Peripherals → Peripherals
tick_step ports p = record {
  ports = p.ports;
  countera = step_a (counting_a p.control ports) p.countera;
  counterb = pass_b p.counterb (counting_b p.control) (clocks_of 1);
  control = p.control;
  serial = p.serial;
  transmitter = sent_after 1 p.transmitter p.control.sccr;
  receiver = heard_next p.receiver p.control.sccr (bit 7 ports);
}

set_already : (x : ℕ) → bit 4 x ≡ true → with_bit 4 true x ≡ x
unfolding with_bit
set_already x e = let k = eqb-true (x / 2 ^ 4 % 2) 1 e in omega arith

counted_a_tick : (ports : ℕ) (p : Peripherals) → ticks_next ports p ≡ true → underflow_unseen p.control ≡ true
    → count_a p ports ports
    ≡ record { peripherals = with_counter_a p (step_a (counting_a p.control ports) p.countera); ticks = ticks_of true }
unfolding ticks_next underflow_unseen count_a counting_a counts_through_a clock_a down_a set_where flip_where
counted_a_tick ports p e u =
    let counting : counts_a (mode_a p.control.mcr p.control.sccr) false (not (bit 4 ports)) ≡ true =
    and_left _ (eqb p.countera.count 0) e in
    let zero-count : eqb p.countera.count 0 ≡ true = and_right (counting_a p.control ports) _ e in
    let flag : bit 4 p.control.ifr ≡ true =
    and_left _ (not (eqb (mode_a p.control.mcr p.control.sccr) 1)) u in
    let mode : eqb (mode_a p.control.mcr p.control.sccr) 1 ≡ false =
    not-true _ (and_right (bit 4 p.control.ifr) _ u) in
    rw (no_rise 4 ports, counting, zero-count, mode, set_already p.control.ifr flag)

sent_tick : (p : Peripherals) → 0 < unseen_sends p.transmitter p.control.sccr p.control.scsr
    → sent_by p (ticks_of true)
    ≡ record {
      ports = p.ports;
      countera = p.countera;
      counterb = p.counterb;
      control = p.control;
      serial = p.serial;
      transmitter = sent_after 1 p.transmitter p.control.sccr;
      receiver = p.receiver;
    }
unfolding sent_by
sent_tick p h = rw (send_tick_lem p.transmitter p.control.sccr p.control.scsr p.serial.sent h)

heard_tick : (ports : ℕ) (p : Peripherals) → 0 < unseen_listens p.receiver p.control.sccr (bit 7 ports)
    → heard_by p (ticks_of true) ports ports
    ≡ record {
      ports = p.ports;
      countera = p.countera;
      counterb = p.counterb;
      control = p.control;
      serial = p.serial;
      transmitter = p.transmitter;
      receiver = heard_next p.receiver p.control.sccr (bit 7 ports);
    }
unfolding heard_by
heard_tick ports p h =
    rw (
      no_rise 4 ports,
      hear_tick p.receiver p.control.sccr p.control.scsr p.serial.received (bit 7 ports) h,
    )

tick_clock : (ticks ports : ℕ) (p : Peripherals) → ticks_next ports p ≡ true → Hidden (suc ticks) ports p
    → (counting_b p.control ≡ true → 0 < p.counterb.count) → peripherals_clock p ports ports ≡ tick_step ports p
unfolding peripherals_clock
tick_clock ticks ports p e h b =
    let a = with_counter_a p (step_a (counting_a p.control ports) p.countera) in
    let c = with_counter_b a (pass_b p.counterb (counting_b p.control) (clocks_of 1)) in
    let sends : 0 < unseen_sends p.transmitter p.control.sccr p.control.scsr = let k = h.sends in
    omega arith in
    let listens : 0 < unseen_listens p.receiver p.control.sccr (bit 7 ports) = let k = h.listens in
    omega arith in
    rw (counted_a_tick ports p e (h.flag (omega arith)), counted_b_quiet a ports b, sent_tick c sends)
    (heard_tick ports _ listens)

-- ---- n clocks

abbrev pub after_clocks : ℕ → ℕ → ℕ → Peripherals → Peripherals
after_clocks n ticks ports p = record {
  ports = p.ports;
  countera = counter_after n (counting_a p.control ports) p.countera;
  counterb = pass_b p.counterb (counting_b p.control) (clocks_of n);
  control = p.control;
  serial = p.serial;
  transmitter = sent_after ticks p.transmitter p.control.sccr;
  receiver = heard_after ticks p.receiver p.control.sccr (bit 7 ports);
}

pass_none : (c : CounterB) (counting : Bool) → pass_b c counting (clocks_of 0) ≡ c
unfolding pass_b
pass_none c true = rw (sub-zero c.count)
pass_none c false = refl

after_none : (ports : ℕ) (p : Peripherals) → after_clocks 0 0 ports p ≡ p
after_none ports p =
    rw (
      counter_same (counting_a p.control ports) p.countera,
      pass_none p.counterb (counting_b p.control),
      send_none p.transmitter p.control.sccr,
      hear_none p.receiver p.control.sccr (bit 7 ports),
    )

pass_more : (n : ℕ) (c : CounterB) (counting : Bool)
    → pass_b (pass_b c counting (clocks_of 1)) counting (clocks_of n) ≡ pass_b c counting (clocks_of (suc n))
pass_more n c counting =
    let e : 1 + n ≡ suc n = omega arith in
    pass_add_b c counting 1 n ∙ ap (λ (k : ℕ). pass_b c counting (clocks_of k)) e

after_quiet : (n ticks ports : ℕ) (p : Peripherals)
    → after_clocks n ticks ports (quiet_step ports p) ≡ after_clocks (suc n) ticks ports p
after_quiet n ticks ports p =
    rw (counter_more n (counting_a p.control ports) p.countera, pass_more n p.counterb (counting_b p.control))

after_tick : (n ticks ports : ℕ) (p : Peripherals) → 0 < unseen_listens p.receiver p.control.sccr (bit 7 ports)
    → after_clocks n ticks ports (tick_step ports p) ≡ after_clocks (suc n) (suc ticks) ports p
after_tick n ticks ports p h =
    rw (
      counter_more n (counting_a p.control ports) p.countera,
      pass_more n p.counterb (counting_b p.control),
      send_more ticks p.transmitter p.control.sccr,
      hear_more ticks p.receiver p.control.sccr (bit 7 ports) h,
    )

passed_left : (n : ℕ) (c : CounterB) (counting : Bool) → counting ≡ true → suc n ≤ c.count
    → n ≤ (pass_b c counting (clocks_of 1)).count
unfolding pass_b
passed_left n c counting e h = rw e (omega arith)

hidden_less : (ticks ports : ℕ) (p : Peripherals) → Hidden (suc ticks) ports p → Hidden ticks ports (tick_step ports p)
hidden_less ticks ports p h = record {
  flag = λ z. h.flag (omega arith);
  sends =
      let k = h.sends in
      let l = send_less p.transmitter p.control.sccr p.control.scsr (omega arith) in
      omega arith;
  listens =
      let k = h.listens in
      let l = hear_less p.receiver p.control.sccr (bit 7 ports) (omega arith) in
      omega arith;
}

-- the closed form of n clocks whose ticks cannot be seen, and in which B does not underflow
pub peripherals_closed : (n ports : ℕ) (p : Peripherals) → Hidden (ticks_in n ports p) ports p
    → (counting_b p.control ≡ true → n ≤ p.counterb.count)
    → peripherals_clocks n ports p ≡ after_clocks n (ticks_in n ports p) ports p
unfolding peripherals_clocks ticks_in
peripherals_closed zero ports p = λ h b. sym (after_none ports p)
peripherals_closed (suc n) ports p = by_test (λ q. peripherals_closed n ports q) (ticks_next ports p) refl
  where
    Closed : Type 0
    Closed = peripherals_clocks (suc n) ports p ≡ after_clocks (suc n) (ticks_in (suc n) ports p) ports p

    above_b : (counting_b p.control ≡ true → suc n ≤ p.counterb.count) → counting_b p.control ≡ true
        → 0 < p.counterb.count
    above_b b r = let k = b r in omega arith

    left_b : (counting_b p.control ≡ true → suc n ≤ p.counterb.count) → counting_b p.control ≡ true
        → n ≤ (pass_b p.counterb (counting_b p.control) (clocks_of 1)).count
    left_b b r = passed_left n p.counterb (counting_b p.control) r (b r)

    by_test : ((q : Peripherals) → Hidden (ticks_in n ports q) ports q
        → (counting_b q.control ≡ true → n ≤ q.counterb.count)
        → peripherals_clocks n ports q ≡ after_clocks n (ticks_in n ports q) ports q)
        → (t : Bool) → ticks_next ports p ≡ t → Hidden (ticks_in (suc n) ports p) ports p
        → (counting_b p.control ≡ true → suc n ≤ p.counterb.count) → Closed
    by_test step false e h b =
        let w : peripherals_clock p ports ports ≡ quiet_step ports p = quiet_clock ports p e (above_b b) in
        let ticks : ticks_in (suc n) ports p ≡ ticks_in n ports (quiet_step ports p) = rw (e, w) (zero-add _) in
        let fewer : Hidden (ticks_in n ports (quiet_step ports p)) ports p = rw ticks at h in
        let rest : Hidden (ticks_in n ports (quiet_step ports p)) ports (quiet_step ports p) =
        record { flag = fewer.flag; sends = fewer.sends; listens = fewer.listens } in
        ap (peripherals_clocks n ports) w
        ∙ step (quiet_step ports p) rest (left_b b)
        ∙ after_quiet n (ticks_in n ports (quiet_step ports p)) ports p
        ∙ ap (λ (t : ℕ). after_clocks (suc n) t ports p) (sym ticks)
    by_test step true e h b =
        let fewer : Hidden (suc (ticks_in n ports (peripherals_clock p ports ports))) ports p =
        let d : ticks_in (suc n) ports p ≡ suc (ticks_in n ports (peripherals_clock p ports ports)) = rw e (omega arith) in
        rw d at h in
        let w : peripherals_clock p ports ports ≡ tick_step ports p = tick_clock _ ports p e fewer (above_b b) in
        let ticks : ticks_in (suc n) ports p ≡ suc (ticks_in n ports (tick_step ports p)) = rw (e, w) (omega arith) in
        let here : Hidden (suc (ticks_in n ports (tick_step ports p))) ports p = rw ticks at h in
        let rest : Hidden (ticks_in n ports (tick_step ports p)) ports (tick_step ports p) = hidden_less _ ports p here in
        ap (peripherals_clocks n ports) w
        ∙ step (tick_step ports p) rest (left_b b)
        ∙ after_tick n (ticks_in n ports (tick_step ports p)) ports p (let k = here.listens in omega arith)
        ∙ ap (λ (t : ℕ). after_clocks (suc n) t ports p) (sym ticks)

-- ---- nothing is seen

seen_same : (n ticks ports : ℕ) (p : Peripherals) → Hidden ticks ports p → SameSeen p (after_clocks n ticks ports p)
unfolding driven_word drive_a drive_d
seen_same n ticks ports p h = record {
  ports = refl;
  control = refl;
  serial = refl;
  word = rw (send_drive ticks p.transmitter p.control.sccr p.control.scsr p.ports.a h.sends) refl;
}

pub unseen : (n ports : ℕ) (p : Peripherals) → ticks_in n ports p ≤ unseen_ticks ports p
    → (counting_b p.control ≡ true → n ≤ p.counterb.count) → Unseen n ports p
unseen n ports p t b = record { same = same; counter_b = b; ticks = t }
  where
    same : (k : ℕ) → k ≤ n → SameSeen p (peripherals_clocks k ports p)
    same k h =
        let fewer : Hidden (ticks_in k ports p) ports p =
        hidden (ticks_in k ports p) ports p (let f = ticks_fewer k n ports p h in omega arith) in
        let closed = peripherals_closed k ports p fewer (λ r. let m = b r in omega arith) in
        rw closed (seen_same k (ticks_in k ports p) ports p fewer)

-- fewer clocks are unseen too
pub unseen_fewer : (k n ports : ℕ) (p : Peripherals) → k ≤ n → Unseen n ports p → Unseen k ports p
unseen_fewer k n ports p h u = record {
  same = λ j l. u.same j (omega arith);
  counter_b = λ r. let m = u.counter_b r in omega arith;
  ticks = let f = ticks_fewer k n ports p h in let t = u.ticks in omega arith;
}

-- and have the closed form
pub hidden_in : (n ports : ℕ) (p : Peripherals) → Unseen n ports p → Hidden (ticks_in n ports p) ports p
hidden_in n ports p u = hidden (ticks_in n ports p) ports p u.ticks

pub unseen_closed : (n ports : ℕ) (p : Peripherals) → Unseen n ports p
    → peripherals_clocks n ports p ≡ after_clocks n (ticks_in n ports p) ports p
unseen_closed n ports p u = peripherals_closed n ports p (hidden_in n ports p u) u.counter_b

-- the clocks before the tick that follows those which cannot be seen, and before B's underflow
pub unseen_before : (n ports : ℕ) (p : Peripherals)
    → (counting_a p.control ports ≡ true → n ≤ p.countera.count + unseen_ticks ports p * (p.countera.latch + 1))
    → (counting_b p.control ≡ true → n ≤ p.counterb.count) → Unseen n ports p
unseen_before n ports p a b =
    unseen n ports p (rw (ticks_closed n ports p) (by_test (counting_a p.control ports) refl)) b
  where
    by_test : (t : Bool) → counting_a p.control ports ≡ t
        → cond t (underflows_in n p.countera) 0 ≤ unseen_ticks ports p
    by_test true e = ticks_within n (unseen_ticks ports p) p.countera (a e)
    by_test false e = omega arith
