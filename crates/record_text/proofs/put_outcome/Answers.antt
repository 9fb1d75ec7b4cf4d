use native.Mathlib.Omega.{arith}
use mathlib.Core.Path.{ap, ◌∙◌}
use Rattle.record_text.specs.Lines.{record_lines, end_line, outcome_lines, filled, put_of}
use Rattle.record_text.proofs.Laws.{place_of, put_append, lines_length}
use Rattle.record_text.proofs.put_outcome.Goals as goal

pub put_end-requires : goal.put_end-requires
put_end-requires c = omega (
  arith,
  place_of c.put_records-place.ensures,
  lines_length c.args.times.now c.args.words.now,
)

pub returns : goal.returns
unfolding outcome_lines
returns c = record {
  text_after = c.put_end.ensures.text_after
      ∙ ap (put_of (end_line c.args.end.done c.args.end.number)) c.put_records-place.ensures
      ∙ put_append (record_lines c.args.times.now c.args.words.now) (end_line c.args.end.done c.args.end.number)
      (filled 0 c.args.text.now);
  upper_bound = c.put_end.ensures.upper_bound;
}
