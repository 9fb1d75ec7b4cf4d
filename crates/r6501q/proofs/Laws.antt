-- What crosses comes back as it was, and a refused call hands back the host's own state.
use Rattle.std.specs.Prelude.{None, Option, Some}
use Rattle.cpu_access.specs.declared.stack.Write.{Write}
use mathlib.Core.Path.{◌≡◌, refl, sym, ap, ◌∙◌}
use mathlib.Core.Bool.{Bool, true, false, ◌&&◌, ◌||◌, cond}
use mathlib.Core.List.{List}
use Prim.Native.Nat.{ℕ}
use native.Mathlib.Omega.{arith}
use lib.Dec.{leb, eqb}
use lib.ListN.{length}
use borrow.Author.Tests.{leb-true, eqb-true, eqb-false, eq-eqb}
use Rattle.bits.specs.Bits.{one_where}
use Rattle.bits.proofs.Cond.{and_left, and_right, and_both, cond_both}
use Rattle.memory.specs.Memory.{memory_length}
use Rattle.refusals.specs.Refusals.{refusal_of}
use Rattle.leaps.specs.CallLists.{Call, single_clock, run_for, count_of, call_of, step_of, run_of}
use Rattle.leaps.specs.Calls.{refused_handed, refusal_in}
use Rattle.r6501q_state.specs.declared.state.State.{State}
use Rattle.r6501q_state.specs.State.{well_formed}
use Rattle.r6501q_chip.specs.R6501q.{World, Handed, r6501q, machine}
use Rattle.cpu_access.specs.Stack.{write_at}
use Rattle.r6501q_host.specs.declared.HostWaiting.{HostWaiting}
use Rattle.r6501q_host.specs.declared.HostDue.{HostDue}
use Rattle.r6501q_host.specs.declared.HostPeripherals.{HostPeripherals}
use Rattle.r6501q_host.specs.declared.HostLevels.{HostLevels}
use Rattle.r6501q_host.specs.declared.HostState.{HostState}
use Rattle.r6501q_host.specs.Host.{flag_of, is_flag, waiting_from_host, levels_from_host, state_from_host, waiting_fits}
use Rattle.r6501q_host.specs.Host.{flags_fit, halt_of, host_waiting, host_levels, host_state}
use Rattle.r6501q.specs.Calls.{HostWorld, host_well_formed, world_from_host, host_handed_of, host_refusal_of, host_call}
use Rattle.r6501q.specs.CallLists.{host_called}

-- a flag of the library, to the host and back
pub flag_kept : (b : Bool) → flag_of (one_where b) ≡ b
flag_kept true = refl
flag_kept false = refl

pub flag_fits : (b : Bool) → is_flag (one_where b) ≡ true
flag_fits true = refl
flag_fits false = refl

-- a flag of the host, to the library and back
pub flag_back : (b : ℕ) → is_flag b ≡ true → one_where (flag_of b) ≡ b
flag_back b e =
    cond_both (λ (x : ℕ). x ≡ b) (eqb b 1) 1 0 (λ (h : eqb b 1 ≡ true). sym (eqb-true b 1 h))
    (λ (h : eqb b 1 ≡ false). omega (arith, leb-true b 1 e, eqb-false b 1 h))

-- a byte waiting, or none, to the host and back, and of the host, to the library and back
pub waiting_kept : (w : Option Write) → waiting_from_host (host_waiting w) ≡ w
unfolding waiting_from_host host_waiting
waiting_kept None = refl
waiting_kept (Some w) = refl

pub waiting_fits_lem : (w : Option Write) → waiting_fits (host_waiting w) ≡ true
unfolding waiting_fits host_waiting
waiting_fits_lem None = refl
waiting_fits_lem (Some w) = refl

pub waiting_back : (h : HostWaiting) → waiting_fits h ≡ true → host_waiting (waiting_from_host h) ≡ h
unfolding waiting_fits waiting_from_host host_waiting
waiting_back h e = by_test (eqb h.there 1) refl e
  where
    there : Bool
    there = eqb h.there 0

    address : Bool
    address = eqb h.address 0

    value : Bool
    value = eqb h.value 0

    by_test : (t : Bool) → eqb h.there 1 ≡ t → (t || (there && address && value)) ≡ true
        → host_waiting (cond t (Some (write_at h.address h.value)) None) ≡ h
    by_test true q z = sym (λ i. record { there = eqb-true h.there 1 q i; address = h.address; value = h.value })
    by_test false q z =
        let both = and_left (there && address) value z in
        sym (λ i. record {
          there = eqb-true h.there 0 (and_left there address both) i;
          address = eqb-true h.address 0 (and_right there address both) i;
          value = eqb-true h.value 0 (and_right (there && address) value z) i;
        })

-- a state of the library, to the host and back
pub state_kept : (s : State) → state_from_host (host_state s) ≡ s
unfolding state_from_host host_state
state_kept s = simp (flag_kept, waiting_kept)

-- what the library hands over fits
pub state_fits : (s : State) → flags_fit (host_state s) ≡ true
unfolding flags_fit host_state
state_fits s = simp (flag_fits, waiting_fits_lem)

-- a state of the host, to the library and back
pub host_kept : (h : HostState) → flags_fit h ≡ true → host_state (state_from_host h) ≡ h
unfolding state_from_host host_state flags_fit
host_kept h e =
    let waits = waiting_fits h.cpu.waiting in
    let due = is_flag h.due.reset && is_flag h.due.nmi in
    let parts = is_flag h.peripherals.counterb.turnc && is_flag h.peripherals.receiver.half in
    let external = is_flag h.external.nmi && is_flag h.external.res in
    let last = is_flag h.last.nmi && is_flag h.last.res in
    let four = and_left (waits && due && parts && external) last e in
    let three = and_left (waits && due && parts) external four in
    let two = and_left (waits && due) parts three in
    let a = and_right waits due two in
    let b = and_right (waits && due) parts three in
    let c = and_right (waits && due && parts) external four in
    let d = and_right (waits && due && parts && external) last e in
    rw (
      waiting_back h.cpu.waiting (and_left waits due two),
      flag_back h.due.reset (and_left _ _ a),
      flag_back h.due.nmi (and_right (is_flag h.due.reset) _ a),
      flag_back h.peripherals.counterb.turnc (and_left _ _ b),
      flag_back h.peripherals.receiver.half (and_right (is_flag h.peripherals.counterb.turnc) _ b),
      flag_back h.external.nmi (and_left _ _ c),
      flag_back h.external.res (and_right (is_flag h.external.nmi) _ c),
      flag_back h.last.nmi (and_left _ _ d),
      flag_back h.last.res (and_right (is_flag h.last.nmi) _ d),
    )

-- ---- refusals

-- a flag above 1, or a none that is not 0, 0, 0, is number 2, and everything is as it was
pub flag_refused : (call : World → Handed) (n : ℕ) (w : HostWorld) → flags_fit w.state ≡ false
    → length w.memory ≡ memory_length
    → host_call call n w ≡ refused_handed 2 w
unfolding host_call refusal_of
flag_refused call n w e m = rw (e, eq-eqb _ _ m)

-- the clock crosses as it is
same_clock : (h : HostState) → (state_from_host h).clock ≡ h.clock
unfolding state_from_host
same_clock h = refl

library_refused : (halt : Option ℕ) (c : Call) (v : World) → eqb (refusal_in (r6501q halt) (count_of c) v) 0 ≡ false
    → call_of (machine halt) c v ≡ refused_handed (refusal_in (r6501q halt) (count_of c) v) v
unfolding call_of count_of step_of run_of
library_refused halt single_clock v e = rw e
library_refused halt (run_for n) v e = rw e

-- A refused exported call, single clock or run, hands back the very state that it got, the lists as they were, and the
-- number of the first row of the table that is so, what does not fit being a state that is not well-formed. No halt
-- address changes that.
pub exported_refused : (halt : ℕ) (c : Call) (w : HostWorld)
    → eqb (host_refusal_of (host_well_formed w.state) (count_of c) w) 0 ≡ false
    → host_called halt c w ≡ refused_handed (host_refusal_of (host_well_formed w.state) (count_of c) w) w
unfolding host_call
exported_refused halt c w e = by_flags (flags_fit w.state) refl
  where
    n : ℕ
    n = count_of c

    by_flags : (t : Bool) → flags_fit w.state ≡ t
        → host_called halt c w ≡ refused_handed (host_refusal_of (host_well_formed w.state) n w) w
    by_flags true f =
        let number : refusal_in (r6501q (halt_of halt)) n (world_from_host w)
        ≡ host_refusal_of (host_well_formed w.state) n w = rw (f, same_clock w.state) in
        let v = world_from_host w in
        let library : host_called halt c w ≡ host_handed_of (call_of (machine (halt_of halt)) c v) = rw f in
        let back : host_handed_of (refused_handed (refusal_in (r6501q (halt_of halt)) n v) v)
        ≡ refused_handed (refusal_in (r6501q (halt_of halt)) n v) w = rw (host_kept w.state f) in
        library ∙ ap host_handed_of (library_refused (halt_of halt) c v (ap (λ (k : ℕ). eqb k 0) number ∙ e)) ∙ back
        ∙ ap (λ (k : ℕ). refused_handed k w) number
    by_flags false f = rw f
