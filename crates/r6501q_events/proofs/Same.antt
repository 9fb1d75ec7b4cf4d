-- Levels that are found the same are the same, and RES low changes no field of a state just where the tests say so.
use Rattle.std.specs.Prelude.{None, Option, Some}
use Rattle.cpu_access.specs.declared.stack.Write.{Write}
use mathlib.Core.Path.{◌≡◌, refl, sym, ap}
use mathlib.Core.Bool.{Bool, true, false, ◌&&◌, not, beq, false≢true}
use lib.Dec.{eqb}
use borrow.Author.Tests.{eqb-true, eq-eqb, not-true}
use Rattle.bits.proofs.Cond.{and_left, and_right}
use Rattle.cpu_access.specs.Waiting.{byte_waits}
use Rattle.serial_transmitter.specs.declared.Transmitter.{Transmitter}
use Rattle.serial_receiver.specs.declared.Receiver.{Receiver}
use Rattle.serial_transmitter.specs.Transmitter.{idle_transmitter}
use Rattle.serial_receiver.specs.Receiver.{idle_receiver}
use Rattle.r6501q_state.specs.declared.state.Ports.{Ports}
use Rattle.r6501q_state.specs.declared.state.Control.{Control}
use Rattle.r6501q_state.specs.declared.state.Levels.{Levels}
use Rattle.r6501q_state.specs.declared.state.State.{State}
use Rattle.r6501q_state.specs.State.{fresh_ports, fresh_control}
use Rattle.r6501q_state.specs.Pins.{reset_of}
use Rattle.r6501q_events.specs.Events.{same_levels, ports_fresh, control_fresh, transmitter_idle, receiver_idle, is_reset}

beq_true : (a b : Bool) → beq a b ≡ true → a ≡ b
beq_true true true e = refl
beq_true false false e = refl
beq_true true false e = sym e
beq_true false true e = e

beq_same : (a : Bool) → beq a a ≡ true
beq_same true = refl
beq_same false = refl

-- ---- levels

pub same_levels_lem : (a b : Levels) → same_levels a b ≡ true → a ≡ b
unfolding same_levels
same_levels_lem a b e =
    let ports = eqb a.ports b.ports in
    let nmi = beq a.nmi b.nmi in
    let res = beq a.res b.res in
    let p : a.ports ≡ b.ports = eqb-true _ _ (and_left ports nmi (and_left (ports && nmi) res e)) in
    let q : a.nmi ≡ b.nmi = beq_true _ _ (and_right ports nmi (and_left (ports && nmi) res e)) in
    let r : a.res ≡ b.res = beq_true _ _ (and_right (ports && nmi) res e) in
    λ i. record { ports = p i; nmi = q i; res = r i }

pub levels_same : (a b : Levels) → a ≡ b → same_levels a b ≡ true
unfolding same_levels
levels_same a b e = rw e (simp (eq-eqb b.ports b.ports refl, beq_same b.nmi, beq_same b.res))

-- ---- RES low

ports_fresh_lem : (p : Ports) → ports_fresh p ≡ true → p ≡ fresh_ports
unfolding ports_fresh
ports_fresh_lem p e =
    let a = eqb p.a 0xFF in
    let b = eqb p.b 0xFF in
    let c = eqb p.c 0xFF in
    let d = eqb p.d 0xFF in
    let abc = and_left (a && b && c) d e in
    let ab = and_left (a && b) c abc in
    λ i. record {
      a = eqb-true p.a 0xFF (and_left a b ab) i;
      b = eqb-true p.b 0xFF (and_right a b ab) i;
      c = eqb-true p.c 0xFF (and_right (a && b) c abc) i;
      d = eqb-true p.d 0xFF (and_right (a && b && c) d e) i;
    }

control_fresh_lem : (c : Control) → control_fresh c ≡ true → c ≡ fresh_control
unfolding control_fresh
control_fresh_lem c e =
    let ifr = eqb c.ifr 0 in
    let ier = eqb c.ier 0 in
    let mcr = eqb c.mcr 0 in
    let sccr = eqb c.sccr 0 in
    let scsr = eqb c.scsr 0x40 in
    let four = and_left (ifr && ier && mcr && sccr) scsr e in
    let three = and_left (ifr && ier && mcr) sccr four in
    let two = and_left (ifr && ier) mcr three in
    λ i. record {
      ifr = eqb-true c.ifr 0 (and_left ifr ier two) i;
      ier = eqb-true c.ier 0 (and_right ifr ier two) i;
      mcr = eqb-true c.mcr 0 (and_right (ifr && ier) mcr three) i;
      sccr = eqb-true c.sccr 0 (and_right (ifr && ier && mcr) sccr four) i;
      scsr = eqb-true c.scsr 0x40 (and_right (ifr && ier && mcr && sccr) scsr e) i;
    }

transmitter_idle_lem : (t : Transmitter) → transmitter_idle t ≡ true → t ≡ idle_transmitter
unfolding transmitter_idle
transmitter_idle_lem t e =
    let left = eqb t.left 0 in
    let phase = eqb t.phase 0 in
    let register = eqb t.register 0 in
    let two = and_left (left && phase) register e in
    λ i. record {
      left = eqb-true t.left 0 (and_left left phase two) i;
      phase = eqb-true t.phase 0 (and_right left phase two) i;
      register = eqb-true t.register 0 (and_right (left && phase) register e) i;
    }

receiver_idle_lem : (r : Receiver) → receiver_idle r ≡ true → r ≡ idle_receiver
unfolding receiver_idle
receiver_idle_lem r e =
    let sub = eqb r.subinterval 0 in
    let half = not r.half in
    let left = eqb r.left 0 in
    let register = eqb r.register 0 in
    let three = and_left (sub && half && left) register e in
    let two = and_left (sub && half) left three in
    λ i. record {
      subinterval = eqb-true r.subinterval 0 (and_left sub half two) i;
      half = not-true r.half (and_right sub half two) i;
      left = eqb-true r.left 0 (and_right (sub && half) left three) i;
      register = eqb-true r.register 0 (and_right (sub && half && left) register e) i;
    }

none_waits : (v : Option Write) → byte_waits v ≡ false → v ≡ None
none_waits None e = refl
none_waits (Some w) e = absurd (false≢true (sym e))

-- where the tests pass, RES low changes no field
pub reset_same : (s : State) → is_reset s ≡ true → reset_of s ≡ s
unfolding is_reset reset_of
reset_same s e =
    let over = eqb s.cpu.wait 0 in
    let none = not (byte_waits s.cpu.waiting) in
    let wait = over && none in
    let reset = s.due.reset in
    let nmi = not s.due.nmi in
    let ports = ports_fresh s.peripherals.ports in
    let control = control_fresh s.peripherals.control in
    let transmitter = transmitter_idle s.peripherals.transmitter in
    let receiver = receiver_idle s.peripherals.receiver in
    let six = and_left (wait && reset && nmi && ports && control && transmitter) receiver e in
    let five = and_left (wait && reset && nmi && ports && control) transmitter six in
    let four = and_left (wait && reset && nmi && ports) control five in
    let three = and_left (wait && reset && nmi) ports four in
    let two = and_left (wait && reset) nmi three in
    sym (λ i. record {
      cpu = record {
        a = s.cpu.a;
        x = s.cpu.x;
        y = s.cpu.y;
        sp = s.cpu.sp;
        p = s.cpu.p;
        pc = s.cpu.pc;
        wait = eqb-true s.cpu.wait 0 (and_left over none (and_left wait reset two)) i;
        waiting = none_waits s.cpu.waiting (not-true _ (and_right over none (and_left wait reset two))) i;
      };
      due =
          record {
            reset = and_right wait reset two i;
            nmi = not-true s.due.nmi (and_right (wait && reset) nmi three) i;
          };
      peripherals = record {
        ports = ports_fresh_lem s.peripherals.ports (and_right (wait && reset && nmi) ports four) i;
        countera = s.peripherals.countera;
        counterb = s.peripherals.counterb;
        control = control_fresh_lem s.peripherals.control (and_right (wait && reset && nmi && ports) control five) i;
        serial = s.peripherals.serial;
        transmitter =
            transmitter_idle_lem s.peripherals.transmitter
            (and_right (wait && reset && nmi && ports && control) transmitter six) i;
        receiver =
            receiver_idle_lem s.peripherals.receiver
            (and_right (wait && reset && nmi && ports && control && transmitter) receiver e) i;
      };
      external = s.external;
      last = s.last;
      clock = s.clock;
    })

-- and where RES low changes no field, they pass
pub same_reset : (s : State) → reset_of s ≡ s → is_reset s ≡ true
unfolding is_reset ports_fresh control_fresh transmitter_idle receiver_idle reset_of
same_reset s e = ap is_reset (sym e)
