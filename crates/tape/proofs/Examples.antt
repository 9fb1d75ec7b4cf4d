-- Tapes as text, and what a load makes of those that document 01 gives.
use mathlib.Core.Path.{◌≡◌, refl, ap, ◌∙◌}
use mathlib.Core.List.{List, [] as []ᴸ, ◌∷◌ as ◌∷ᴸ◌}
use Prim.Native.Nat.{ℕ}
use Prim.Native.Char.{code}
use Prim.Native.String.{String, [], ◌∷◌}
use lib.ListN.{length, set}
use Rattle.page_sums.specs.PageSums.{total_of}
use Rattle.tape_records.specs.Digits.{is_digit, value_of, number_from, byte_of, bytes_of}
use Rattle.tape_records.specs.Records.{byte_count_of, address_of, sum_of, check_sum_of, are_digits, malformed, fault_of, data_of}
use Rattle.memory.specs.Memory.{memory_length}
use Rattle.tape.specs.Tapes.{load_result, ended_by, record_by, check_from, check_of, put_from, landed, landed_all}
use Rattle.tape.specs.Tapes.{loaded, load_of}
use Rattle.tape.proofs.Laws.{load_accepted}

-- the codes of a text's characters
abbrev pub chars_of : String → List ℕ
chars_of [] = []ᴸ
chars_of (c ∷ text) = code c ∷ᴸ chars_of text

-- "Given .. it prints": document 01's tape, each record on a line
abbrev pub replay_tape : List ℕ
replay_tape = chars_of ";070200A95585004C040201DE\n;02FFFC000201FF\n;0000030003\n"

pub replay_check : check_of replay_tape ≡ load_result 0 53
unfolding is_digit value_of number_from byte_of bytes_of total_of byte_count_of address_of sum_of check_sum_of are_digits malformed
    fault_of data_of ended_by record_by check_from
replay_check = refl

-- its bytes land at 0200h and at FFFCh
replay_landed : (memory : List ℕ) → landed_all replay_tape memory
    ≡ set (set (set (set (set (set (set (set (set memory 0x200 0xA9) 0x201 0x55) 0x202 0x85) 0x203 0x00) 0x204 0x4C)
    0x205 0x04) 0x206 0x02) 0xFFFC 0x00) 0xFFFD 0x02
unfolding is_digit value_of number_from byte_of bytes_of total_of byte_count_of address_of sum_of check_sum_of are_digits malformed
    fault_of data_of put_from landed landed_all
replay_landed memory = refl

pub replay_load : (memory : List ℕ) → length memory ≡ memory_length → load_of replay_tape memory
    ≡ loaded (load_result 0 53) (set (set (set (set (set (set (set (set (set memory 0x200 0xA9) 0x201 0x55) 0x202
    0x85) 0x203 0x00) 0x204 0x4C) 0x205 0x04) 0x206 0x02) 0xFFFC 0x00) 0xFFFD 0x02)
replay_load memory h =
    load_accepted replay_tape memory h 53 replay_check ∙ ap (loaded (load_result 0 53)) (replay_landed memory)

-- the last record alone is a good tape, and writes nothing
abbrev pub lone_tape : List ℕ
lone_tape = chars_of ";0000010001"

lone_check : check_of lone_tape ≡ load_result 0 11
unfolding is_digit value_of number_from byte_of bytes_of total_of byte_count_of address_of sum_of check_sum_of are_digits malformed
    fault_of ended_by record_by check_from
lone_check = refl

pub lone_load : (memory : List ℕ) → length memory ≡ memory_length
    → load_of lone_tape memory ≡ loaded (load_result 0 11) memory
unfolding value_of number_from byte_count_of landed_all
lone_load memory h = load_accepted lone_tape memory h 11 lone_check
