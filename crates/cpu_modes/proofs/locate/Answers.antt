use Rattle.cpu_modes.specs.Modes.{locate_of}
use Rattle.cpu_modes.proofs.locate.Goals as goal

pub returns-in-Implied : goal.returns-in-Implied
unfolding locate_of
returns-in-Implied c = rw (c.in-Implied.is, ← c.no_place.ensures)

pub returns-in-Accumulator : goal.returns-in-Accumulator
unfolding locate_of
returns-in-Accumulator c = rw (c.in-Accumulator.is, ← c.no_place-in-Accumulator.ensures)

pub returns-in-Immediate : goal.returns-in-Immediate
unfolding locate_of
returns-in-Immediate c = rw (c.in-Immediate.is, ← c.next_address.ensures, ← c.place_at.ensures)

pub returns-in-ZeroPage : goal.returns-in-ZeroPage
unfolding locate_of
returns-in-ZeroPage c = rw (c.in-ZeroPage.is, ← c.fetch.ensures, ← c.at_zero_page.ensures)

pub returns-in-ZeroPageX : goal.returns-in-ZeroPageX
unfolding locate_of
returns-in-ZeroPageX c = rw (c.in-ZeroPageX.is, ← c.fetch-in-ZeroPageX.ensures, ← c.at_zero_page_indexed.ensures)

pub returns-in-ZeroPageY : goal.returns-in-ZeroPageY
unfolding locate_of
returns-in-ZeroPageY c = rw (
  c.in-ZeroPageY.is,
  ← c.fetch-in-ZeroPageY.ensures,
  ←
      c.at_zero_page_indexed-in-ZeroPageY.ensures,
)

pub returns-in-Absolute : goal.returns-in-Absolute
unfolding locate_of
returns-in-Absolute c = rw (c.in-Absolute.is, ← c.fetch_address.ensures, ← c.at_absolute.ensures)

pub returns-in-AbsoluteX : goal.returns-in-AbsoluteX
unfolding locate_of
returns-in-AbsoluteX c = rw (c.in-AbsoluteX.is, ← c.fetch_address-in-AbsoluteX.ensures, ← c.at_indexed.ensures)

pub returns-in-AbsoluteY : goal.returns-in-AbsoluteY
unfolding locate_of
returns-in-AbsoluteY c = rw (
  c.in-AbsoluteY.is,
  ← c.fetch_address-in-AbsoluteY.ensures,
  ←
      c.at_indexed-in-AbsoluteY.ensures,
)

pub returns-in-IndexedIndirect : goal.returns-in-IndexedIndirect
unfolding locate_of
returns-in-IndexedIndirect c = rw (
  c.in-IndexedIndirect.is,
  ← c.fetch-in-IndexedIndirect.ensures,
  ←
      c.at_indexed_indirect.ensures,
)

pub returns-in-IndirectIndexed : goal.returns-in-IndirectIndexed
unfolding locate_of
returns-in-IndirectIndexed c = rw (
  c.in-IndirectIndexed.is,
  ← c.fetch-in-IndirectIndexed.ensures,
  ←
      c.at_indirect_indexed.ensures,
)

pub returns-in-Indirect : goal.returns-in-Indirect
unfolding locate_of
returns-in-Indirect c = rw (c.in-Indirect.is, ← c.fetch_address-in-Indirect.ensures, ← c.at_indirect.ensures)

pub returns-in-Relative : goal.returns-in-Relative
unfolding locate_of
returns-in-Relative c = rw (c.in-Relative.is, ← c.fetch-in-Relative.ensures, ← c.relative.ensures)

pub returns-in-ZeroPageRelative : goal.returns-in-ZeroPageRelative
unfolding locate_of
returns-in-ZeroPageRelative c = rw (
  c.in-ZeroPageRelative.is,
  ← c.fetch-in-ZeroPageRelative.ensures,
  ←
      c.at_zero_page-in-ZeroPageRelative.ensures,
)
