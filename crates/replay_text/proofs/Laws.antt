-- A replay is never refused by the call, and what it prints is what 100 plain clocks come to.
use Rattle.std.specs.Prelude.{None}
use mathlib.Core.Path.{◌≡◌, refl, ap, ◌∙◌}
use mathlib.Core.Bool.{true}
use mathlib.Core.List.{List, [], ◌∷◌}
use Prim.Native.Nat.{ℕ, ◌≤◌}
use native.Mathlib.Omega.{arith}
use lib.ListN.{length, take, replicate}
use borrow.Author.Tests.{eq-eqb, ne_eqb}
use Rattle.memory.specs.Memory.{memory_length}
use Rattle.pin_lists.specs.PinLists.{code_right, rest_right, pins_right, input_count}
use Rattle.refusals.proofs.Accepted.{accepts}
use Rattle.leaps.specs.Leaps.{plains, leap_count}
use Rattle.leaps.specs.CallLists.{plain_run_of}
use Rattle.leaps.specs.Calls.{call_start, handed_back_of, refusal_in, Fit}
use Rattle.leaps.proofs.Laws.{plains_kept}
use Rattle.leaps.proofs.Chips.{plain_fits, no_gap_event}
use Rattle.r6501q_state.specs.declared.state.State.{State}
use Rattle.r6501q_state.specs.State.{fresh, well_formed}
use Rattle.r6501q_state.specs.Inputs.{last_pin, res_high}
use Rattle.r6501q_state.proofs.Ranges.{fresh_formed}
use Rattle.r6501q_step.specs.declared.CallResult.{CallResult}
use Rattle.r6501q_chip.specs.R6501q.{World, Handed, r6501q_limits, r6501q, system, machine}
use Rattle.r6501q_step.specs.Calls.{handed}
use Rattle.r6501q_chip.proofs.Released.{old_start}
use Rattle.r6501q_leap.proofs.Laws.{laws, lawful}
use Rattle.r6501q_run.proofs.Held.{released_plains}
use Rattle.tape.specs.Tapes.{LoadResult, loaded, load_of}
use Rattle.record_text.specs.Lines.{end_line, outcome_lines}
use Rattle.replay_text.specs.Replay.{zero_memory, free_records, replay_start, lines_of, ran_of, replay_of}

fresh_clock : fresh.clock ≡ 0
unfolding fresh
fresh_clock = refl

-- the pin list is right
release_right : pins_right last_pin fresh.clock (1 ∷ []) (res_high ∷ []) ≡ true
unfolding fresh pins_right rest_right code_right
release_right = refl

module _ (memory : List ℕ) (whole : length memory ≡ memory_length) where
  -- where the clocks lead to
  abbrev ended : World
  ended = plains (system None) 100 (replay_start memory)

  not_refused : refusal_in (r6501q None) 100 (replay_start memory) ≡ 0
  not_refused =
      accepts r6501q_limits (well_formed fresh) fresh.clock (length memory) (1 ∷ []) (res_high ∷ [])
      (length free_records) (length free_records) 100
      (record {
        memory = whole;
        state = fresh_formed;
        inputs = refl;
        outputs = refl;
        most = omega (arith, fresh_clock);
        pins = release_right;
      })

  start_fits : Fit (r6501q None) (replay_start memory)
  start_fits =
      record { memory = whole; state = fresh_formed; pins = release_right; outputs = refl; written = omega arith }

  -- every plain clock keeps it so
  ended_fits : Fit (r6501q None) ended
  ended_fits =
      plains_kept (system None) (lawful None) (Fit (r6501q None)) (plain_fits (r6501q None) (laws None))
      (no_gap_event (r6501q None) (laws None)) 100 (replay_start memory) start_fits

  module _ (s : State) (result : CallResult) (memory' times words : List ℕ) (new : s ≡ fresh) {clocks codes : List ℕ}
      (e : handed result memory' times words
      ≡ plain_run_of (machine None) 100 (call_start s memory clocks codes (replicate 100 0) (replicate 100 0)))
      (at : clocks ≡ 1 ∷ []) (high : codes ≡ res_high ∷ []) where
    -- what the call hands back
    back : handed result memory' times words ≡ handed_back_of (leap_count (system None) 100 (replay_start memory)) ended
    unfolding plain_run_of free_records
    back = (rw (new, at, high) at e) ∙ rw (eq-eqb (refusal_in (r6501q None) 100 (replay_start memory)) 0 not_refused)

    pub written_clocks : result.written ≤ length times
    written_clocks =
        let n = ap (λ (h : Handed). h.result.written) back in
        let l = ap (λ (h : Handed). length h.output_clocks) back in
        omega (arith, ended_fits.written)

    pub written_words : result.written ≤ length words
    written_words =
        let n = ap (λ (h : Handed). h.result.written) back in
        let l = ap (λ (h : Handed). length h.output_words) back in
        omega (arith, ended_fits.written, ended_fits.outputs)

    pub lines_of_run : outcome_lines (take result.written times) (take result.written words) result.state.clock
        result.number ≡ ran_of memory
    unfolding ran_of
    lines_of_run =
        ap (λ (h : Handed). outcome_lines (take h.result.written h.output_clocks)
        (take h.result.written h.output_words) h.result.state.clock h.result.number) back

-- 02, U8: what is printed is "what it was" from the old start with no inputs; inputs read are not printed
pub printed_before : (memory : List ℕ)
    → ran_of memory ≡ lines_of (plains (system None) 100 (old_start memory [] [] free_records free_records))
unfolding ran_of input_count
printed_before memory = ap lines_of (released_plains None memory [] [] free_records free_records refl 99 (omega arith))

module _ (tape memory : List ℕ) (result : LoadResult) (e : loaded result memory ≡ load_of tape zero_memory) where
  pub replay_refused : (result.number ≡ 0 → ⊥) → end_line 0 result.number ≡ replay_of tape
  unfolding replay_of
  replay_refused some = rw (← e, ne_eqb result.number 0 some)

  pub replay_ran : result.number ≡ 0 → ran_of memory ≡ replay_of tape
  unfolding replay_of
  replay_ran none = rw (← e, eq-eqb result.number 0 none)
