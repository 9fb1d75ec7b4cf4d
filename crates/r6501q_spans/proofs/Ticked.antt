-- A state in a span that goes on through ticks: its next event clock is a tick before the CPU acts, or the clock that
-- the CPU acts on, with a tick or without; and that clock changes nothing that can be seen but the CPU's.
use Rattle.std.specs.Prelude.{Some}
use mathlib.Core.Path.{◌≡◌, refl, sym, ap, ◌∙◌}
use mathlib.Core.Bool.{Bool, true, false, ◌&&◌, ◌||◌, not, cond, false≢true}
use mathlib.Core.List.{List, [], ◌∷◌}
use Prim.Native.Nat.{ℕ, ◌+◌, ◌-◌, ◌≤◌, ◌<◌, min}
use native.Mathlib.Nat.{add_assoc, lt_of_lt_of_le}
use native.Mathlib.Omega.{arith}
use lib.Dec.{ltb, eqb}
use borrow.Author.Tests.{eqb-true, eq-eqb, not-true, not-false}
use Rattle.bits.specs.Bits.{bit}
use Rattle.bits.proofs.Cond.{and_left, and_right}
use Rattle.cpu_alu.specs.Status.{packed, unpacked}
use Rattle.cpu_alu.proofs.Flags.{unpacked_packed}
use Rattle.counters.specs.declared.time.Clocks.{Clocks}
use Rattle.r6501q_state.specs.declared.state.Peripherals.{Peripherals}
use Rattle.r6501q_state.specs.declared.state.State.{State}
use Rattle.r6501q_state.specs.Pins.{driven_word, levels_of}
use Rattle.r6501q_state.specs.Control.{pending}
use Rattle.cpu_access.specs.declared.stack.Write.{Write}
use Rattle.cpu_access.specs.declared.stack.Writes.{Writes}
use Rattle.cpu_access.specs.Stack.{one_write, no_writes}
use Rattle.cpu_access.specs.Waiting.{byte_waits}
use Rattle.cpu_access.specs.Accesses.{peripherals_written}
use Rattle.memory.specs.Memory.{is_register}
use Rattle.cpu_effects.specs.declared.Worked.{Worked}
use Rattle.cpu_effects.specs.Effects.{pushes_of}
use Rattle.cpu.specs.declared.Ask.{Ask}
use Rattle.std.specs.Prelude.{None, Ok, Err}
use Rattle.std.specs.declared.ops.ControlFlow.TheVariants.{Continue, Break}
use Rattle.stops.specs.declared.Stop.TheVariants.{Undefined}
use Rattle.cpu.specs.declared.Outcome.{Outcome}
use Rattle.cpu.specs.declared.Outcome.TheVariants as outcome
use Rattle.cpu.specs.declared.work.Work.{Work}
use Rattle.cpu.specs.InstructionInCode.{instruction_of}
use Rattle.r6501q_cpu.specs.Processor.{Processed}
use Rattle.r6501q_cpu.specs.Processor.{irq_due, byte_put, processor_of}
use Rattle.r6501q_cpu.specs.Asking.{put_register, registers_after, round_of, instruction_from, answered_instruction}
use Rattle.r6501q_cpu.proofs.Asks.{round_over, round_answered}
use Rattle.r6501q_cpu.proofs.Answered.{instruction_answered}
use Rattle.r6501q_cpu.proofs.Ranges.{never_both}
use Rattle.r6501q_cpu.proofs.Stores.{clock_waits, waited_less, instruction_starts, byte_put_lem}
use Rattle.pin_lists.specs.PinLists.{input_count}
use Rattle.r6501q_events.specs.Events.{levels_change, reset_changes}
use Rattle.r6501q_events.specs.Gaps.{clocks_of, counting_a, counting_b, to_input, to_change, to_underflow_a, to_underflow_b}
use Rattle.r6501q_events.specs.Gaps.{to_reset}
use Rattle.r6501q_events.specs.Gaps.{until_cpu, to_cpu, gap_of, wait_after, pass_counters, pass_of}
use Rattle.r6501q_events.proofs.Same.{same_levels_lem}
use Rattle.r6501q_events.proofs.Quiet.{not_put, not_over, before_cpu_peripherals}
use Rattle.r6501q_events.proofs.Gaps.{no_event, no_input_next}
use Rattle.r6501q_clock.specs.Clock.{before_cpu, ended_with, finished, clock_of}
use Rattle.r6501q_unseen.specs.Unseen.{peripherals_clocks, ticks_in, SameSeen, Unseen}
use Rattle.r6501q_unseen.proofs.TickClocks.{peripherals_add}
use Rattle.r6501q_unseen.proofs.Laws.{peripherals_one, none_ticks, unseen_left_b, peripherals_pass}
use Rattle.r6501q_spans.specs.declared.Working.{Working}
use Rattle.r6501q_spans.specs.Spans.{only_cpu, none_waiting, put_work}
use Rattle.cpu_access.specs.Halt.{writes_register}
use Rattle.r6501q_span_reads.specs.Steady.{steady_ask, steady_answer}
use Rattle.r6501q_span_reads.specs.Steady.{answered_once, outcome_within}
use Rattle.r6501q_spans.specs.Spans.{next_working}
use Rattle.r6501q_spans.specs.Ticked.{AloneSeen, ticked_state}
use Rattle.bits.proofs.Cond.{either_false}
use Rattle.r6501q_span_reads.proofs.SteadyReads.{is_done, steady_answer_lem}

-- ---- no write at a register's address

pub no_registers : (p : Peripherals) (w : Writes) → writes_register w ≡ false → registers_after p w ≡ p
unfolding writes_register registers_after put_register
no_registers p w e =
    let later = either_false
    ((ltb 0 w.count && is_register w.first.address) || (ltb 1 w.count && is_register w.second.address)) _
    e in
    let first = either_false (ltb 0 w.count && is_register w.first.address) _ later.0 in
    rw (first.0, first.1, later.1)

pub not_register : (x : Write) → writes_register (one_write x) ≡ false → is_register x.address ≡ false
unfolding writes_register
not_register x e = by_test (is_register x.address) e
  where
    by_test : (t : Bool) → ((t || false) || false) ≡ false → t ≡ false
    by_test true z = z
    by_test false z = z

-- so many clocks later, of its wait
abbrev pub waited : Working → ℕ → Working
waited v d = record {
  work =
      record {
        registers = v.work.registers;
        wait = v.work.wait - d;
        gone = clocks_of (v.work.gone.0 + d);
        leaps = v.work.leaps;
      };
  waiting = v.waiting;
}

-- the clock after, with the wait as before it
abbrev pub counted : Working → Working
counted v = record {
  work =
      record {
        registers = v.work.registers;
        wait = v.work.wait;
        gone = clocks_of (v.work.gone.0 + 1);
        leaps = v.work.leaps;
      };
  waiting = v.waiting;
}

-- ---- any state in the span

module _ (n : ℕ) (s : State) (clocks : List ℕ) (span : ℕ) (a : AloneSeen n s clocks span) (v : Working)
    (within : v.work.gone.0 ≤ span) where
  abbrev at : State
  at = ticked_state s v

  abbrev same : SameSeen s.peripherals at.peripherals
  same = a.unseen.same v.work.gone.0 within

  pub ticked_driven : driven_word (ticked_state s v).peripherals ≡ driven_word s.peripherals
  ticked_driven = same.word

  ticked_levels : levels_of (ticked_state s v) ≡ levels_of s
  unfolding levels_of
  ticked_levels = rw ticked_driven

  ticked_change : levels_change (ticked_state s v) ≡ false
  unfolding levels_change
  ticked_change = rw ticked_levels a.change

  -- counter B does not underflow in the rest of it
  pub ticked_left_b : counting_b (ticked_state s v).peripherals.control ≡ true
      → span - v.work.gone.0 ≤ (ticked_state s v).peripherals.counterb.count
  ticked_left_b = unseen_left_b span s.last.ports s.peripherals a.unseen v.work.gone.0 within

  pub ticked_irq : irq_due (ticked_state s v) ≡ false
  unfolding irq_due
  ticked_irq = rw (same.control, a.flags) (never_both (not (bit 2 (packed v.work.registers.status))))

-- ---- the next clock of a state in the span

-- the distance to the next input, with clocks gone
pub input_later : (n span clock gone : ℕ) (clocks : List ℕ) → span ≤ n → span ≤ to_input n clock clocks
    → span - gone ≤ to_input (n - gone) (clock + gone) clocks
unfolding to_input
input_later n span clock gone [] h k = omega arith
input_later n span clock gone (t ∷ ts) h k = omega arith

module _ (n : ℕ) (s : State) (clocks : List ℕ) (span : ℕ) (a : AloneSeen n s clocks span) (v : Working)
    (inside : v.work.gone.0 < span) where
  -- the next clock has no input
  pub ticked_no_input : input_count (s.clock + v.work.gone.0 + 1) clocks ≡ 0
  ticked_no_input =
      no_input_next (n - v.work.gone.0) (s.clock + v.work.gone.0) clocks
      (omega (arith, input_later n span s.clock v.work.gone.0 clocks a.left a.input))

  levels_last : levels_of (ticked_state s v) ≡ s.last
  unfolding levels_change
  levels_last =
      ticked_levels n s clocks span a v (omega arith) ∙ same_levels_lem (levels_of s) s.last (not-false _ a.change)

  -- steps 1 to 3
  ticked_ready : before_cpu (ticked_state s v) [] ≡ ticked_state s (counted v)
  ticked_ready =
      before_cpu_peripherals (ticked_state s v) levels_last (λ e. absurd (false≢true (sym e ∙ a.res)))
      ∙ rw (
        ← peripherals_one v.work.gone.0 s.last.ports s.peripherals,
        add_assoc s.clock v.work.gone.0 1,
      )

  -- steps 1 to 5, by what step 4 comes to: the word stays
  pub ticked_clock : (memory : List ℕ) (next : Working) (writes : Writes) → next.work.gone.0 ≤ span
      → processor_of (ticked_state s (counted v)) memory
      ≡ Ok (record { state = ticked_state s next; writes = writes })
      → (free : Bool) → clock_of (ticked_state s v) [] memory free
      ≡ Ok (ended_with (record { state = ticked_state s next; writes = writes }) None)
  unfolding clock_of finished
  ticked_clock memory next writes within acts free =
      rw (
        ticked_ready,
        acts,
        ticked_driven n s clocks span a next within,
        ticked_driven n s clocks span a v (omega arith),
        eq-eqb (driven_word s.peripherals) (driven_word s.peripherals) refl,
      )

  -- where the CPU acts later, it waits
  pub ticked_waits : (memory : List ℕ) → 0 < until_cpu (ticked_state s v).cpu
      → processor_of (ticked_state s (counted v)) memory
      ≡ Ok (record { state = ticked_state s (waited v 1); writes = no_writes })
  unfolding until_cpu
  ticked_waits memory later =
      let waits = byte_waits v.waiting in
      let some = not_over true _ v.work.wait (λ _. later) refl in
      clock_waits (ticked_state s (counted v)) memory a.res some
      ∙ waited_less (ticked_state s (counted v)) (not_put true waits v.work.wait (λ _. later))

-- ---- the gap before the next event clock, and the gap passed

pub at_least : (t : Bool) (k n least : ℕ) → least ≤ n → (t ≡ true → least ≤ k) → least ≤ cond t k n
at_least true k n least h f = f refl
at_least false k n least h f = h

-- of seven distances the last is the least
pub last_least : (n i c a b r t : ℕ) → t ≤ n → t ≤ i → t ≤ c → t ≤ a → t ≤ b → t ≤ r
    → min n (min i (min c (min a (min b (min r t))))) ≡ t
last_least n i c a b r t hn hi hc ha hb hr = omega arith

-- of seven distances the fourth is the least
fourth_least : (n i c b r t e : ℕ) → e ≤ n → e ≤ i → e ≤ c → e ≤ b → e ≤ r → e ≤ t
    → min n (min i (min c (min e (min b (min r t))))) ≡ e
fourth_least n i c b r t e hn hi hc hb hr ht = omega arith

-- d: the clocks before the CPU acts
module _ (n : ℕ) (s : State) (clocks : List ℕ) (span : ℕ) (a : AloneSeen n s clocks span) (v : Working) (d : ℕ)
    (until : until_cpu (ticked_state s v).cpu ≡ d) (inside : v.work.gone.0 + d < span) where
  abbrev left : ℕ
  left = n - v.work.gone.0

  abbrev there : State
  there = ticked_state s v

  abbrev counts : Bool
  counts = counting_a (ticked_state s v).peripherals.control s.last.ports

  -- the distances but counter A's
  cpu_there : to_cpu left there ≡ d
  unfolding to_cpu
  cpu_there = rw (a.res, until)

  reset_there : to_reset left there ≡ left
  unfolding to_reset reset_changes
  reset_there = rw a.res

  change_there : to_change left there ≡ left
  unfolding to_change
  change_there = rw (ticked_change n s clocks span a v (omega arith))

  rest : span - v.work.gone.0 ≤ left
  rest = omega (arith, a.left)

  input_there : span - v.work.gone.0 ≤ to_input left there.clock clocks
  input_there = input_later n span s.clock v.work.gone.0 clocks a.left a.input

  underflow_b_there : span - v.work.gone.0 ≤ to_underflow_b left there
  unfolding to_underflow_b
  underflow_b_there =
      at_least (counting_b there.peripherals.control) there.peripherals.counterb.count left
      (span - v.work.gone.0) rest
      (ticked_left_b n s clocks span a v (omega arith))

  -- a tick comes first
  pub tick_gap : counting_a (ticked_state s v).peripherals.control s.last.ports ≡ true
      → (ticked_state s v).peripherals.countera.count < d
      → (gap_of (n - v.work.gone.0) (ticked_state s v) clocks).0 ≡ (ticked_state s v).peripherals.countera.count
  unfolding gap_of to_underflow_a
  tick_gap e h =
      rw e
      (fourth_least left (to_input left there.clock clocks) (to_change left there) (to_underflow_b left there)
      (to_reset left there) (to_cpu left there)
      there.peripherals.countera.count (omega (arith, rest)) (omega (arith, input_there))
      (omega (arith, change_there, rest))
      (omega (arith, underflow_b_there)) (omega (arith, reset_there, rest)) (omega (arith, cpu_there)))

  -- the CPU acts first, or on the clock of the tick
  pub cpu_gap : (counting_a (ticked_state s v).peripherals.control s.last.ports ≡ true
      → d ≤ (ticked_state s v).peripherals.countera.count)
      → (gap_of (n - v.work.gone.0) (ticked_state s v) clocks).0 ≡ d
  unfolding gap_of to_underflow_a
  cpu_gap h =
      let t = cpu_there in
      let underflow = at_least counts there.peripherals.countera.count left d (omega (arith, rest)) h in
      last_least left (to_input left there.clock clocks) (to_change left there) (to_underflow_a left there)
      (to_underflow_b left there) (to_reset left there) (to_cpu left there)
      (omega (arith, t, rest)) (omega (arith, t, input_there)) (omega (arith, t, change_there, rest))
      (omega (arith, t, underflow)) (omega (arith, t, underflow_b_there)) (omega (arith, t, reset_there, rest))
      ∙ t

  -- e clocks before the next event clock
  module _ (e : ℕ) (before : e ≤ d) (none : counting_a (ticked_state s v).peripherals.control s.last.ports
      ≡ true → e ≤ (ticked_state s v).peripherals.countera.count) where
    none_b : counting_b there.peripherals.control ≡ true → e ≤ there.peripherals.counterb.count
    none_b r = omega (arith, ticked_left_b n s clocks span a v (omega arith) r)

    pub ticked_passed : pass_of (ticked_state s v) (clocks_of e) ≡ ticked_state s (waited v e)
    unfolding pass_of wait_after
    ticked_passed =
        let on : pass_counters there.peripherals s.last.ports (clocks_of e)
        ≡ peripherals_clocks (v.work.gone.0 + e) s.last.ports s.peripherals =
        sym (peripherals_pass e s.last.ports there.peripherals none none_b)
        ∙ sym (peripherals_add v.work.gone.0 e s.last.ports s.peripherals) in
        rw (a.res, on, add_assoc s.clock v.work.gone.0 e)

    pub ticked_none : ticks_in e s.last.ports (ticked_state s v).peripherals ≡ 0
    ticked_none = none_ticks e s.last.ports there.peripherals none none_b

-- ---- an instruction starts

pub until_start : (s : State) (w : Work) → until_cpu (ticked_state s (none_waiting w)).cpu ≡ w.wait
unfolding until_cpu
until_start s w = omega arith

module _ (n : ℕ) (s : State) (clocks : List ℕ) (span : ℕ) (a : AloneSeen n s clocks span) (w : Work)
    (inside : w.gone.0 + w.wait < span)
    (memory : List ℕ) (worked : Worked) (done : outcome_within s w.registers memory ≡ outcome.Done worked)
    (in_memory : writes_register (pushes_of worked.writing) ≡ false) where
  abbrev begun : State
  begun = ticked_state s (counted (waited (none_waiting w) w.wait))

  abbrev next : Processed
  next =
      Ok (record { state = ticked_state s (next_working w worked); writes = pushes_of worked.writing })

  -- the round that ends it
  round_there : (answers : List ℕ) → instruction_of w.registers answers memory ≡ outcome.Done worked
      → round_of begun begun.peripherals answers memory ≡ Break next
  unfolding round_of
  round_there answers e =
      rw (
        unpacked_packed w.registers.status,
        e,
        no_registers begun.peripherals (pushes_of worked.writing) in_memory,
      )

  -- a round that asks for a register whose value stays
  asks_there : (ask : Ask) → instruction_of w.registers [] memory ≡ outcome.Asked ask → steady_ask ask ≡ true
      → round_of begun begun.peripherals [] memory
      ≡ Continue (record { value = steady_answer s ask; peripherals = begun.peripherals })
  unfolding round_of
  asks_there ask e t =
      let seen = a.unseen.same (w.gone.0 + w.wait + 1) (omega arith) in
      rw (
        unpacked_packed w.registers.status,
        e,
        steady_answer_lem s.peripherals begun.peripherals seen s.last.ports ask t,
      )

  ends_there : answered_instruction begun memory ≡ next
  unfolding answered_instruction outcome_within
  ends_there = by_outcome (instruction_of w.registers [] memory) refl done
    where
      by_ask : (ask : Ask) → instruction_of w.registers [] memory ≡ outcome.Asked ask → (t : Bool)
          → steady_ask ask ≡ t
          → cond t (instruction_of w.registers (steady_answer s ask ∷ []) memory) (outcome.Asked ask)
          ≡ outcome.Done worked
          → instruction_from (Err Undefined) 6 begun begun.peripherals [] memory ≡ next
      by_ask ask e true t d =
          round_answered _ begun begun.peripherals [] memory 6 5 _ refl (asks_there ask e t)
          ∙ round_over _ begun begun.peripherals (steady_answer s ask ∷ []) memory 5 _ (omega arith)
          (round_there (steady_answer s ask ∷ []) d)
      by_ask ask e false t d = absurd (false≢true (ap is_done d))

      by_outcome : (o : Outcome) → instruction_of w.registers [] memory ≡ o
          → answered_once s w.registers memory o ≡ outcome.Done worked
          → instruction_from (Err Undefined) 6 begun begun.peripherals [] memory ≡ next
      by_outcome outcome.Undefined e d = absurd (false≢true (ap is_done d))
      by_outcome (outcome.Asked ask) e d = by_ask ask e (steady_ask ask) refl d
      by_outcome (outcome.Done x) e d =
          round_over _ begun begun.peripherals [] memory 6 _ (omega arith) (round_there [] (e ∙ d))

  pub instruction_there : processor_of (ticked_state s (counted (waited (none_waiting w) w.wait))) memory
      ≡ Ok (record { state = ticked_state s (next_working w worked); writes = pushes_of worked.writing })
  instruction_there =
      let irq = ticked_irq n s clocks span a (counted (waited (none_waiting w) w.wait)) (omega arith) in
      instruction_starts begun memory a.res (omega arith) a.reset a.nmi irq
      ∙ instruction_answered begun memory
      ∙ ends_there

-- ---- a byte is put

abbrev pub byte_waiting : Work → Write → Working
byte_waiting w x = record { work = w; waiting = Some x }

pub until_put : (s : State) (w : Work) (x : Write) → until_cpu (ticked_state s (byte_waiting w x)).cpu ≡ w.wait - 1
unfolding until_cpu
until_put s w x = refl

module _ (s : State) (w : Work) (x : Write) (high : s.last.res ≡ true) (some : 0 < w.wait) (memory : List ℕ)
    (in_memory : writes_register (one_write x) ≡ false) where
  abbrev last : State
  last = ticked_state s (counted (waited (byte_waiting w x) (w.wait - 1)))

  put_there : byte_put last x ≡ record { state = ticked_state s (put_work w); writes = one_write x }
  unfolding byte_put peripherals_written
  put_there =
      let gone : w.gone.0 + (w.wait - 1) + 1 ≡ w.gone.0 + w.wait = omega arith in
      rw (not_register x in_memory, gone)

  pub byte_there : processor_of (ticked_state s (counted (waited (byte_waiting w x) (w.wait - 1)))) memory
      ≡ Ok (record { state = ticked_state s (put_work w); writes = one_write x })
  byte_there = byte_put_lem last memory x high (omega arith) refl ∙ ap Ok put_there

-- ---- a span's start

-- where only the CPU may act, no input comes and no level changes, and nothing is seen of the rest
pub alone_seen : (n : ℕ) (s : State) (clocks : List ℕ) (span : ℕ) → only_cpu s ≡ true → 0 < span → span ≤ n
    → span ≤ to_input n s.clock clocks → span ≤ to_change n s → Unseen span s.last.ports s.peripherals
    → AloneSeen n s clocks span
unfolding only_cpu to_change
alone_seen n s clocks span e some left input change unseen =
    let high = s.last.res in
    let undisturbed = high && not s.due.reset && not s.due.nmi in
    let none = not (pending s.peripherals.control) in
    let kept = eqb (packed (unpacked s.cpu.p)) s.cpu.p in
    let neither = and_left (undisturbed && none) kept e in
    let dues = and_left undisturbed none neither in
    let first = and_left (high && not s.due.reset) (not s.due.nmi) dues in
    record {
      res = and_left high (not s.due.reset) first;
      reset = not-true s.due.reset (and_right high (not s.due.reset) first);
      nmi = not-true s.due.nmi (and_right (high && not s.due.reset) (not s.due.nmi) dues);
      flags = not-true (pending s.peripherals.control) (and_right undisturbed none neither);
      status = eqb-true _ _ (and_right (undisturbed && none) kept e);
      left = left;
      input = input;
      change = no_event (levels_change s) n (lt_of_lt_of_le some change);
      unseen = unseen;
    }

pub span_alone : (n : ℕ) (s : State) (clocks : List ℕ) (input change near room r : Clocks) → only_cpu s ≡ true
    → input ≡ clocks_of (to_input n s.clock clocks) → change ≡ clocks_of (to_change n s)
    → near ≡ clocks_of (min input.0 change.0)
    → room ≡ clocks_of (min n near.0) → r.0 ≤ room.0 → Unseen r.0 s.last.ports s.peripherals → 0 < r.0
    → AloneSeen n s clocks r.0
span_alone n s clocks input change near room r e p q i k h unseen some =
    let number : Clocks → ℕ = λ c. c.0 in
    let p' = ap number p in
    let q' = ap number q in
    let i' = ap number i in
    let k' = ap number k in
    alone_seen n s clocks r.0 e some (omega arith) (omega arith) (omega arith) unseen
