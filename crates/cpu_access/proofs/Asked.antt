-- Accesses of which the register reads are asked for: with the answers so far they ask once more, or are over.
use Rattle.std.proofs.Common.{◌≡◌, ℕ, Bool, true, false, cond, ltb, List, [], ◌∷◌, ◌++◌, length, drop, refl, add-one, drop_of_length-le, drop-cons, ltb-false, ltb-true}
use Rattle.memory.specs.Memory.{is_register}
use Rattle.cpu_access.specs.declared.Bus.{Bus}
use Rattle.cpu_access.specs.declared.Got.{Got}
use Rattle.cpu_access.specs.declared.stack.Write.{Write}
use Rattle.cpu_access.specs.Bus.{memory_byte, unasked, got, answered, asking, ask_of}
use Rattle.cpu_access.specs.Stack.{write_at}
use Rattle.cpu_access.specs.Accesses.{Accesses, ends, reads, writes, byte_after}

-- what they come to: a question, or their end; with the writes until then
pub data Reply (A : Type 0) : Type 0 where
  asks : (modify : Bool) (address : ℕ) → List Write → Reply A
  over : A → List Write → Reply A

abbrev pub next_answer : {A : Type 0} → (ℕ → List ℕ → Reply A) → Reply A → List ℕ → Reply A
next_answer go none [] = none
next_answer go none (v ∷ answers) = go v answers

-- each register read takes the next answer; where there is none it asks
unfoldable pub asked : {A : Type 0} → List ℕ → List ℕ → List Write → Accesses A → Reply A
asked memory answers before (ends x) = over x before
asked memory answers before (reads modify a go) =
    cond (is_register a) (next_answer (λ v rest. asked memory rest before (go v)) (asks modify a before) answers)
    (asked memory answers before (go (byte_after before a (memory_byte memory a))))
asked memory answers before (writes a v t) = asked memory answers (before ++ (write_at a v ∷ [])) t

-- what follows after the reads that a bus has seen: nothing where an answer was missing, else with the answers that are
-- left
unfoldable pub onwards : {A : Type 0} → List ℕ → List ℕ → List Write → Bus → Accesses A → Reply A
onwards answers memory before b t =
    cond b.missing (asks b.modify b.address before) (asked memory (drop b.used answers) before t)

module _ {A : Type 0} (answers memory : List ℕ) (before : List Write) (modify : Bool) (a : ℕ) (b : Bus)
    (go : ℕ → Accesses A) where
  ask_follows : is_register a ≡ true
      → onwards answers memory before b (reads modify a go)
      ≡ onwards answers memory before (ask_of answers a modify b).bus (go (ask_of answers a modify b).value)
  unfolding onwards asked ask_of
  ask_follows e = rw e (by_answer (ltb b.used (length answers)) refl b.missing refl)
    where
      by_answer : (t : Bool) → ltb b.used (length answers) ≡ t → (m : Bool) → b.missing ≡ m
          → cond m (asks b.modify b.address before)
          (next_answer (λ v rest. asked memory rest before (go v)) (asks modify a before) (drop b.used answers))
          ≡ (let g : Got ℕ = cond t (answered answers b) (got 0 (asking a modify b)) in
          onwards answers memory before g.bus (go g.value))
      by_answer true l true m = rw m
      by_answer true l false m =
          rw (m, drop-cons answers b.used 0 (ltb-true b.used (length answers) l), add-one b.used)
      by_answer false l true m = rw m
      by_answer false l false m = rw (m, drop_of_length-le answers (ltb-false b.used (length answers) l))

  -- a read, by the bus and by itself
  pub read_follows : (v : ℕ) → v ≡ byte_after before a (memory_byte memory a)
      → (let g : Got ℕ = cond (is_register a) (ask_of answers a modify b) (got v b) in
      onwards answers memory before b (reads modify a go) ≡ onwards answers memory before g.bus (go g.value))
  unfolding onwards asked
  read_follows v h = by_place (is_register a) refl
    where
      by_place : (t : Bool) → is_register a ≡ t
          → (let g : Got ℕ = cond t (ask_of answers a modify b) (got v b) in
          onwards answers memory before b (reads modify a go) ≡ onwards answers memory before g.bus (go g.value))
      by_place true e = ask_follows e
      by_place false e = rw (e, h)

-- none is missing yet
pub onwards_unasked : {A : Type 0} (answers memory : List ℕ) (t : Accesses A)
    → onwards answers memory [] unasked t ≡ asked memory answers [] t
unfolding onwards
onwards_unasked answers memory t = refl
