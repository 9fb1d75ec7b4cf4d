-- Answering question after question comes to the accesses performed one after the other, of any chip whose reads'
-- effects and writes may change places.
use Rattle.std.proofs.Common.{◌≡◌, ℕ, zero, suc, ◌+◌, ◌<◌, ◌≤◌, Bool, true, false, cond, List, [], ◌∷◌, ◌++◌, length, sym, refl, ap, ◌∙◌, append_assoc, append-nil, arith, length-append}
use Rattle.memory.specs.Memory.{is_register}
use Rattle.cpu_access.specs.declared.stack.Write.{Write}
use Rattle.cpu_access.specs.Bus.{memory_byte}
use Rattle.cpu_access.specs.Stack.{write_at}
use Rattle.cpu_access.specs.Accesses.{Accesses, ends, reads, writes, RegisterFile, Performed, byte_after}
use Rattle.cpu_access.specs.Accesses.{value_read, peripherals_read, peripherals_written, performed}
use Rattle.cpu_access.proofs.Asked.{Reply, asks, over, asked}

module _ {P : Type 0} (file : RegisterFile P) where
  -- all writes, in their order
  unfoldable pub all_written : P → List Write → P
  all_written p [] = p
  all_written p (w ∷ ws) = all_written (peripherals_written file p w.address w.value) ws

  pub all_more : (p : P) (ws : List Write) (w : Write)
      → all_written p (ws ++ (w ∷ [])) ≡ peripherals_written file (all_written p ws) w.address w.value
  unfolding all_written
  all_more p [] w = refl
  all_more p (v ∷ ws) w = all_more (peripherals_written file p v.address v.value) ws w

  -- a register read
  register_read : {A : Type 0} (memory : List ℕ) (p : P) (before : List Write) (modify : Bool) (a : ℕ)
      (go : ℕ → Accesses A) → is_register a ≡ true
      → performed file memory (file.after_read p a) before (go (file.value p modify a))
      ≡ performed file memory p before (reads modify a go)
  unfolding performed value_read peripherals_read
  register_read memory p before modify a go e = rw e refl

  module _ (commute : (p : P) (a v b : ℕ)
      → file.after_read (file.after_write p a v) b ≡ file.after_write (file.after_read p b) a v) where
    written_read : (p : P) (a v b : ℕ)
        → file.after_read (peripherals_written file p a v) b ≡ peripherals_written file (file.after_read p b) a v
    unfolding peripherals_written
    written_read p a v b = by_place (is_register a)
      where
        by_place : (t : Bool)
            → file.after_read (cond t (file.after_write p a v) p) b
            ≡ cond t (file.after_write (file.after_read p b) a v) (file.after_read p b)
        by_place true = commute p a v b
        by_place false = refl

    all_read : (p : P) (ws : List Write) (b : ℕ)
        → file.after_read (all_written p ws) b ≡ all_written (file.after_read p b) ws
    unfolding all_written
    all_read p [] b = refl
    all_read p (w ∷ ws) b =
        all_read (peripherals_written file p w.address w.value) ws b
        ∙ ap (λ (q : P). all_written q ws) (written_read p w.address w.value b)

    -- `round` says what the accesses come to with the answers so far. `from` goes on from there, with at most so many
    -- rounds: where they are over it finishes, all writes done; where they ask it answers, with the register's value as
    -- the writes so far leave it, and does the read's effect, but not yet the writes.
    module _ {A R : Type 0} (memory : List ℕ) (round : List ℕ → Reply A) (from : ℕ → P → List ℕ → R)
        (finish : Performed P A → R) (most : ℕ)
        (over_from : (n : ℕ) (p : P) (answers : List ℕ) (x : A) (ws : List Write) → round answers ≡ over x ws
        → from (suc n) p answers ≡ finish (record { end = x; peripherals = all_written p ws; writes = ws }))
        (asks_from : (n : ℕ) (p : P) (answers : List ℕ) (modify : Bool) (a : ℕ) (ws : List Write)
        → round answers ≡ asks modify a ws
        → from (suc n) p answers
        ≡ from n (file.after_read p a) (answers ++ (file.value (all_written p ws) modify a ∷ [])))
        (bound : (answers : List ℕ) (modify : Bool) (a : ℕ) (ws : List Write) → round answers ≡ asks modify a ws
        → length answers < most) where
      -- with rounds enough, what is left of the accesses is performed
      abbrev Performs : Accesses A → Type 0
      Performs t = (n : ℕ) (p : P) (answers : List ℕ) (before : List Write) → most ≤ n + length answers
          → ((more : List ℕ) → round (answers ++ more) ≡ asked memory more before t)
          → from (suc n) p answers ≡ finish (performed file memory (all_written p before) before t)

      round_now : (t : Accesses A) (answers : List ℕ) (before : List Write)
          → ((more : List ℕ) → round (answers ++ more) ≡ asked memory more before t)
          → round answers ≡ asked memory [] before t
      round_now t answers before same = rw append-nil at (same [])

      performs_ends : (x : A) → Performs (ends x)
      unfolding performed asked
      performs_ends x n p answers before room same =
          over_from n p answers x before (round_now (ends x) answers before same)

      performs_writes : (a v : ℕ) (t : Accesses A) → Performs t → Performs (writes a v t)
      unfolding performed asked
      performs_writes a v t then n p answers before room same =
          rw (all_more p before (write_at a v)) at (then n p answers (before ++ (write_at a v ∷ [])) room same)

      performs_register : (modify : Bool) (a : ℕ) (go : ℕ → Accesses A) → ((v : ℕ) → Performs (go v))
          → is_register a ≡ true → Performs (reads modify a go)
      unfolding asked
      performs_register modify a go then e zero p answers before room same =
          absurd (let few = bound answers modify a before
          (rw e at (round_now (reads modify a go) answers before same)) in
          omega (arith, few))
      performs_register modify a go then e (suc n) p answers before room same =
          let v = file.value (all_written p before) modify a in
          asks_from (suc n) p answers modify a before (rw e at (round_now (reads modify a go) answers before same))
          ∙ then v n (file.after_read p a) (answers ++ (v ∷ [])) before
          (rw (length-append answers (v ∷ [])) (omega arith))
          (λ more. ap round (append_assoc answers (v ∷ []) more) ∙ rw e at (same (v ∷ more)))
          ∙ ap (λ (q : P). finish (performed file memory q before (go v))) (sym (all_read p before a))
          ∙ ap finish (register_read memory (all_written p before) before modify a go e)

      performs_memory : (modify : Bool) (a : ℕ) (go : ℕ → Accesses A) → ((v : ℕ) → Performs (go v))
          → is_register a ≡ false → Performs (reads modify a go)
      unfolding performed asked value_read peripherals_read
      performs_memory modify a go then e n p answers before room same =
          rw e (then (byte_after before a (memory_byte memory a)) n p answers before room (λ more. rw e at (same more)))

      performs_reads : (modify : Bool) (a : ℕ) (go : ℕ → Accesses A) → ((v : ℕ) → Performs (go v))
          → Performs (reads modify a go)
      performs_reads modify a go then = by_place (is_register a) refl
        where
          by_place : (t : Bool) → is_register a ≡ t → Performs (reads modify a go)
          by_place true e = performs_register modify a go then e
          by_place false e = performs_memory modify a go then e

      pub performs : (t : Accesses A) → Performs t
      performs (ends x) = performs_ends x
      performs (reads modify a go) = performs_reads modify a go (λ v. performs (go v))
      performs (writes a v t) = performs_writes a v t (performs t)
