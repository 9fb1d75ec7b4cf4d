-- Document 02, U7: page sums beside the memory.
use Rattle.std.specs.Prelude.{◌≡◌, Bool, ◌&&◌, not, cond, List, [], ◌∷◌, map, ℕ, ◌+◌, ◌*◌, ◌/◌, ◌%◌, ◌<◌, eqb, length, get_or}
use Rattle.std.specs.Prelude.{Result, Ok, Err}
use Rattle.bits.specs.Lists.{tabulate}
use Rattle.memory.specs.Memory.{memory_length}
use Rattle.page_sums.specs.declared.WrongPageList.{WrongPageList}

-- the sum of numbers
unfoldable pub total_of : List ℕ → ℕ
total_of [] = 0
total_of (x ∷ l) = x + total_of l

-- "256 page sums": of the pages of 256 bytes each
abbrev pub page_count : ℕ
page_count = 256

abbrev pub page_length : ℕ
page_length = 256

-- "each modulo 65,536"
abbrev pub sum_modulus : ℕ
sum_modulus = 65536

-- the page of an address
abbrev pub page_of : ℕ → ℕ
page_of address = address / page_length

-- the sum of those bytes that are of page p, of bytes from an address onward
unfoldable pub part_sum : ℕ → ℕ → List ℕ → ℕ
part_sum p address [] = 0
part_sum p address (b ∷ bytes) = cond (eqb (page_of address) p) b 0 + part_sum p (address + 1) bytes

-- the sum of page p of a memory: of its bytes at 256 × p to 256 × p + 255 (`page_bytes` of proofs/Pages.antt)
abbrev pub page_sum : ℕ → List ℕ → ℕ
page_sum p memory = part_sum p 0 memory

-- "changes each sum, right or wrong before, by exactly what its page's bytes change, modulo 65,536": a sum, where its
-- page's bytes summed to `before` and then to `after`. Numbers have no sign: modulo 65,536 to add 65,535 times `before`
-- is to take it off.
unfoldable pub sum_changed : ℕ → ℕ → ℕ → ℕ
sum_changed sum before after = (sum + after + 65535 * before) % sum_modulus

-- sum p of a list
abbrev pub sum_at : List ℕ → ℕ → ℕ
sum_at sums p = get_or sums p 0

-- "each modulo 65,536": every sum of a lent list of 16-bit numbers
abbrev pub SixteenBits : List ℕ → Type 0
SixteenBits sums = (p : ℕ) → sum_at sums p < sum_modulus

-- sum p, where the part of memory from an address onward became another
abbrev pub sum_after : ℕ → List ℕ → List ℕ → List ℕ → ℕ → ℕ
sum_after address sums part later p = sum_changed (sum_at sums p) (part_sum p address part) (part_sum p address later)

-- each sum of a list of any length
unfoldable pub sums_after_part : ℕ → List ℕ → List ℕ → List ℕ → List ℕ
sums_after_part address sums part later = tabulate (sum_after address sums part later) (length sums) 0

-- the sums, where the whole memory became another
abbrev pub sums_after : List ℕ → List ℕ → List ℕ → List ℕ
sums_after sums memory later = sums_after_part 0 sums memory later

-- "Where all are right": each is its page's sum, modulo 65,536
abbrev pub Right : List ℕ → List ℕ → Type 0
Right sums memory = (p : ℕ) → p < length sums → sum_at sums p ≡ page_sum p memory % sum_modulus

-- "the total taken from them in any order of pages": in this order
abbrev pub total_along : List ℕ → List ℕ → ℕ
total_along order sums = total_of (map (sum_at sums) order) % sum_modulus

-- "13: a page list not of 256 sums, like 1 and directly after it": of a call that is lent a memory of so many bytes and
-- so many sums. A memory of another length is 1, which comes before.
unfoldable pub page_list_refused : ℕ → ℕ → Bool
page_list_refused memory sums = eqb memory memory_length && not (eqb sums page_count)

-- what the call for the total hands back: the number, and the total
pub record TotalResult : Type 0 where
  pub number : ℕ
  pub total : ℕ

abbrev pub total_result : ℕ → ℕ → TotalResult
total_result n t = record { number = n; total = t }

-- the call for the total: "a page list not of 256 sums" is 13
unfoldable pub total_call : List ℕ → TotalResult
total_call sums = cond (eqb (length sums) page_count) (total_result 0 (total_of sums % sum_modulus)) (total_result 13 0)

-- the code's answer: 0 and the total, or the refusal's number and 0
abbrev pub told : Result ℕ WrongPageList → TotalResult
told (Ok total) = total_result 0 total
told (Err _) = total_result 13 0
