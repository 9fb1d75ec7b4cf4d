use mathlib.Core.Path.{sym, ◌∙◌}
use mathlib.Core.Bool.{◌||◌}
use Rattle.cpu_opcodes.proofs.Laws.{length_fits_lem}
use Rattle.bits.proofs.Cond.{either_false}
use Rattle.r6501q_span_reads.proofs.known.known_outcome.Goals as goal

pub known_entry-requires : goal.known_entry-requires
known_entry-requires c =
    let operand = c.memory_byte-address.ensures in
    let second = c.next_address-second.ensures in
    let third = c.next_address.ensures in
    let later = either_false (c.is_register.result || c.is_register-2.result) _ c.if-is_register.false in
    let both = either_false c.is_register.result _ later.0 in
    let decodes = rw c.memory_byte.ensures at (sym c.decode.ensures ∙ c.in_ok-entry.was) in
    record {
      first = sym c.is_register.ensures ∙ both.0;
      second = rw second at (sym c.is_register-2.ensures ∙ both.1);
      third = rw (third, second) at (sym c.is_register-3.ensures ∙ later.1);
      opcode = decodes;
      operand = rw second at (sym operand);
      register = sym c.is_register-4.ensures ∙ c.if-not-is_register.false;
      short = (length_fits_lem _ _ decodes).most;
    }
