-- 01, Run and leaps: "A run hands on the rest of the input list from its first unread entry." A run over the rest is
-- the run over the whole, but for the inputs that were read before.
use Rattle.std.specs.Prelude.{Option}
use mathlib.Core.Path.{◌≡◌, refl, sym, ap, ◌∙◌}
use mathlib.Core.Bool.{true, false}
use mathlib.Core.List.{List}
use Prim.Native.Nat.{ℕ, ◌+◌, ◌-◌, ◌≤◌, ◌<◌}
use native.Mathlib.Nat.{zero-add, add-zero, add_assoc}
use native.Mathlib.Omega.{arith}
use lib.ListN.{length, take, drop, length-drop}
use lib.Seq.{drop-drop}
use Rattle.bits.proofs.Cond.{cond_along}
use Rattle.refusals.specs.Refusals.{last_clock}
use Rattle.leaps.specs.Leaps.{Run, leap_of, left_after, run}
use Rattle.leaps.specs.Chip.{ChipRules, ClockOutcome, stopped, ended}
use Rattle.leaps.specs.World.{WorldOf, after, input_count_in, outcome_in, plain_of, running_in, system_of}
use Rattle.leaps.proofs.Along.{Unaffected, run_along}
use Rattle.r6501q_events.specs.Gaps.{clocks_of}
use Rattle.r6501q_chip.specs.R6501q.{World, r6501q, system}
use Rattle.r6501q_advance.specs.World.{world_with}
use Rattle.r6501q_step.specs.Calls.{leaps_from}
use Rattle.r6501q_advance.proofs.Worlds.{lent_part}
use Rattle.r6501q_leap.specs.declared.Leaped.{Leaped}
use Rattle.r6501q_leap.specs.RunInCode.{goes_on, run_from, run_ended, Leaping}
use Rattle.r6501q_span_leaps.specs.Spanned.{Spanned}
use Rattle.r6501q_leap.proofs.Runs.{goes_some, goes_unstopped, later_run, later_leaping, later_bound, run_ended_lem}
use Rattle.r6501q_span_leaps.proofs.Spanned.{run_later, leaping_later}

module _ {S : Type 0} (k : ℕ) where
  -- k more inputs were read before
  abbrev pub read_before : WorldOf S → WorldOf S
  read_before w = record {
    state = w.state;
    memory = w.memory;
    input_clocks = w.input_clocks;
    input_codes = w.input_codes;
    output_clocks = w.output_clocks;
    output_words = w.output_words;
    read = k + w.read;
    written = w.written;
    stop = w.stop;
  }

  abbrev pub run_before : Run (WorldOf S) → Run (WorldOf S)
  run_before r = record { world = read_before r.world; leaps = r.leaps }

  -- no clock, gap or count sees how many
  module _ (C : ChipRules S) where
    after_read : (w : WorldOf S) (inputs : ℕ) (o : ClockOutcome S)
        → read_before (after C w inputs o) ≡ after C (read_before w) inputs o
    after_read w inputs (stopped number) = refl
    after_read w inputs (ended d) = rw (add_assoc k w.read inputs)

    plain_read : (w : WorldOf S) → plain_of C (read_before w) ≡ read_before (plain_of C w)
    unfolding plain_of
    plain_read w =
        sym (cond_along read_before (running_in w) (after C w (input_count_in C w) (outcome_in C w (input_count_in C w))) w
        (after_read w (input_count_in C w) (outcome_in C w (input_count_in C w))) refl)

    pub read_unaffected : Unaffected (system_of C) read_before
    read_unaffected = record {
      plain = plain_read;
      pass = λ g w. refl;
      gap = λ n w. refl;
      running = λ w. refl;
      clock = λ w. refl;
    }

-- a run that goes on over the rest, nothing read of it yet
abbrev pub unread : Leaped → Leaped
unread l = record {
  progress = record {
    state = l.progress.state;
    read = 0;
    written = l.progress.written;
    stop = l.progress.stop;
  };
  left = l.left;
  leaps = l.leaps;
}

-- and one that has read k inputs more, those before the rest
abbrev pub read_all : ℕ → Leaped → Leaped
read_all k l = record {
  progress = record {
    state = l.progress.state;
    read = k + l.progress.read;
    written = l.progress.written;
    stop = l.progress.stop;
  };
  left = l.left;
  leaps = l.leaps;
}

-- the run over the rest
rest_run : (halt : Option ℕ) (l : Leaped) (memory clocks codes times words : List ℕ)
    → run_from halt l memory clocks codes times words
    ≡ run_before l.progress.read
    (run_from halt (unread l) memory (drop l.progress.read clocks) (drop l.progress.read codes) times words)
rest_run halt l memory clocks codes times words =
    let k = l.progress.read in
    let rest : World =
    world_with (unread l).progress memory (drop k clocks) (drop k codes) times words in
    let before : World = world_with l.progress memory clocks codes times words in
    let same : before ≡ read_before k rest = rw (add-zero k) in
    ap {B = Run World} (λ (r : Run World). record { world = r.world; leaps = l.leaps + r.leaps })
    (ap (run (system halt) l.left.0) same
    ∙ run_along (system halt) (read_before k) (read_unaffected k (r6501q halt)) l.left.0 rest)

-- what the loop keeps: the run of what is left, over the rests of the lists, is that of the start
module _ (halt : Option ℕ) (start : Leaped) (memory₀ input_clocks input_codes times₀ words₀ : List ℕ) where
  -- the inputs before the rest
  abbrev pub read_to : List ℕ → ℕ
  read_to clocks = length input_clocks - length clocks

  pub record RunSoFar (memory times words : List ℕ) (at : Leaped) (clocks codes : List ℕ) : Type 0 where
    pub run : run_before (read_to clocks) (run_from halt at memory clocks codes times words)
        ≡ run_from halt start memory₀ input_clocks input_codes times₀ words₀
    pub clocks_rest : clocks ≡ drop (read_to clocks) input_clocks
    pub codes_rest : codes ≡ drop (read_to clocks) input_codes
    pub within : length clocks ≤ length input_clocks
    pub leaping : Leaping at.progress at.left.0 clocks codes times words
    pub bound : at.leaps + at.left.0 ≤ last_clock

  pub run_so_far_begins : Leaping start.progress start.left.0 input_clocks input_codes times₀ words₀
      → start.leaps + start.left.0 ≤ last_clock → RunSoFar memory₀ times₀ words₀ start input_clocks input_codes
  run_so_far_begins l b =
      let none : read_to input_clocks ≡ 0 = omega arith in
      record {
        run = rw (none, zero-add);
        clocks_rest = rw none;
        codes_rest = rw none;
        within = omega arith;
        leaping = l;
        bound = b;
      }

  module _ {memory times words : List ℕ} {at : Leaped} {clocks codes : List ℕ}
      (k : RunSoFar memory times words at clocks codes) where
    -- one leap
    module _ {memory' times' words' : List ℕ} (r : Leaped) (on : goes_on at ≡ true)
        (e : world_with r.progress memory' clocks codes times' words'
        ≡ leap_of (system halt) at.left.0 (world_with at.progress memory clocks codes times words))
        (left : r.left
        ≡ clocks_of (left_after (system halt) at.left.0 (world_with at.progress memory clocks codes times words)))
        (leaps : r.leaps ≡ at.leaps + leaps_from at.progress.state.clock r.progress.state.clock) where
      fits : (r.leaps + r.left.0 ≤ last_clock) × (r.left.0 < at.left.0)
      fits =
          later_bound halt memory clocks codes times words memory' times' words' at r k.leaping
          (goes_some at on) (goes_unstopped at on) k.bound e left leaps

      pub leapt_fewer : r.left.0 < at.left.0
      leapt_fewer = fits.1

      pub leapt : RunSoFar memory' times' words' r clocks codes
      leapt = record {
        run =
            ap (run_before (read_to clocks))
            (later_run halt memory clocks codes times words memory' times' words' at r k.leaping
            (goes_some at on) (goes_unstopped at on) k.bound e left leaps) ∙ k.run;
        clocks_rest = k.clocks_rest;
        codes_rest = k.codes_rest;
        within = k.within;
        leaping =
            later_leaping halt memory clocks codes times words memory' times' words' at r k.leaping
            (goes_some at on) (goes_unstopped at on) k.bound e left leaps;
        bound = fits.0;
      }

    -- the leaps of a span
    pub spanned : {memory' : List ℕ} {r : Leaped} → Spanned halt at memory r memory' clocks
        → RunSoFar memory' times words r clocks codes
    spanned {memory'} {r} z = record {
      run = ap (run_before (read_to clocks)) (run_later halt at r memory memory' clocks codes times words z) ∙ k.run;
      clocks_rest = k.clocks_rest;
      codes_rest = k.codes_rest;
      within = k.within;
      leaping = leaping_later halt at r memory memory' clocks codes times words z k.leaping;
      bound = omega (arith, z.bound, k.bound);
    }

    -- the inputs read are there, and are what the rest and the list differ by
    abbrev from : ℕ
    from = at.progress.read

    pub codes_read : from ≤ length codes
    codes_read = rw (← k.leaping.inputs) k.leaping.read

    clocks_then : drop from clocks ≡ drop (read_to clocks + from) input_clocks
    clocks_then = ap (drop from) k.clocks_rest ∙ drop-drop from (read_to clocks) input_clocks

    codes_then : drop from codes ≡ drop (read_to clocks + from) input_codes
    codes_then = ap (drop from) k.codes_rest ∙ drop-drop from (read_to clocks) input_codes

    -- they are taken from the front of both lists
    pub handed_on : RunSoFar memory times words (unread at) (take (length clocks - from) (drop from clocks))
        (take (length codes - from) (drop from codes))
    handed_on =
        let fewer = length-drop from clocks in
        let so : read_to (drop from clocks) ≡ read_to clocks + from =
        omega (arith, fewer, k.within, k.leaping.read) in
        rw (lent_part clocks from, lent_part codes from) (record {
          run =
              rw (so, add_assoc)
              (ap (run_before (read_to clocks)) (sym (rest_run halt at memory clocks codes times words)) ∙ k.run);
          clocks_rest = rw so clocks_then;
          codes_rest = rw so codes_then;
          within = omega (arith, fewer, k.within);
          leaping = record {
            clock = k.leaping.clock;
            read = omega arith;
            inputs = fewer ∙ ap (λ (n : ℕ). n - from) k.leaping.inputs ∙ sym (length-drop from codes);
            outputs = k.leaping.outputs;
            written = k.leaping.written;
          };
          bound = k.bound;
        })

    -- the loop is over
    pub ended_run : goes_on at ≡ false
        → run_ended (read_all (read_to clocks) at) memory input_clocks input_codes times words
        ≡ run_from halt start memory₀ input_clocks input_codes times₀ words₀
    ended_run over =
        rw (← clocks_then, ← codes_then)
        (ap (run_before (read_to clocks)) (run_ended_lem halt at memory clocks codes times words over) ∙ k.run)
