-- One record: "`;`, count (2 hex digits), address (4), data, check sum (4)" (document 01, "Tape"). Its digits stand
-- directly behind its `;`, and `text` is all that stands behind the `;`, to the end of the tape.
use Rattle.std.specs.Prelude.{Bool, ◌&&◌, ◌||◌, not, cond, List, [], ℕ, ◌+◌, ◌*◌, ◌%◌, ltb, leb, eqb, length, get_or, take, drop}
use Rattle.std.specs.Prelude.{Option, None, Some}
use Rattle.bits.specs.Lists.{all_of}
use Rattle.memory.specs.Memory.{memory_length}
use Rattle.page_sums.specs.PageSums.{total_of}
use Rattle.tape_records.specs.declared.record.Fault.{Fault}
use Rattle.tape_records.specs.declared.record.Fault.TheVariants.{Malformed, CheckSum}
use Rattle.tape_records.specs.Digits.{is_digit, number_of, bytes_of}

-- `;`
abbrev pub mark : ℕ
mark = 59

-- the most data bytes of a record
abbrev pub most_bytes : ℕ
most_bytes = 0x18

-- the digits of count and address
abbrev pub head_length : ℕ
head_length = 6

-- those of a record of n data bytes up to its check sum
abbrev pub body_length : ℕ → ℕ
body_length n = head_length + 2 * n

-- all of them
abbrev pub record_length : ℕ → ℕ
record_length n = body_length n + 4

-- the fields
unfoldable pub byte_count_of : List ℕ → ℕ
byte_count_of text = number_of (take 2 text)

unfoldable pub address_of : List ℕ → ℕ
address_of text = number_of (take 4 (drop 2 text))

unfoldable pub check_sum_of : List ℕ → ℕ
check_sum_of text = number_of (take 4 (drop (body_length (byte_count_of text)) text))

-- "the sum of count, address and data bytes modulo 65,536": of all bytes that stand before the check sum
unfoldable pub sum_of : List ℕ → ℕ
sum_of text = total_of (bytes_of (take (body_length (byte_count_of text)) text)) % 65536

-- no digit of the first n is missing, and each is of 0 to 9, A to F
unfoldable pub are_digits : ℕ → List ℕ → Bool
are_digits n text = leb n (length text) && all_of is_digit (take n text)

-- "a digit missing or not of 0 to 9, A to F; count above 18h; address + count above 65,536". Whatever stands in the
-- count's place is read as the count; its two characters are among those that must be digits.
unfoldable pub malformed : List ℕ → Bool
malformed text =
    not (are_digits (record_length (byte_count_of text)) text)
    || ltb most_bytes (byte_count_of text)
    || ltb memory_length (address_of text + byte_count_of text)

-- the numbers of faults as the code tells them apart, and of one or none
abbrev pub fault_number : Fault → ℕ
fault_number Malformed = 8
fault_number CheckSum = 9

abbrev pub number_in : Option Fault → ℕ
number_in None = 0
number_in (Some fault) = fault_number fault

-- the number of a record's own fault, 0 where it has none: 8 malformed, 9 check sum wrong
unfoldable pub fault_of : List ℕ → ℕ
fault_of text = cond (malformed text) 8 (cond (eqb (sum_of text) (check_sum_of text)) 0 9)

-- the digits of a good record's data
unfoldable pub data_of : List ℕ → List ℕ
data_of text = cond (eqb (fault_of text) 0) (take (2 * byte_count_of text) (drop head_length text)) []

-- "A record's data is given as that part of the tape's own text": of the record whose `;` stands at `place`; none
-- where no good record stands there
unfoldable pub data_at : List ℕ → ℕ → List ℕ
data_at tape place = cond (eqb (get_or tape place 0) mark) (data_of (drop (place + 1) tape)) []
