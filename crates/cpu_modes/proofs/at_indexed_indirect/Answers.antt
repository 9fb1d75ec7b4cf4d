use Rattle.cpu_modes.proofs.at_indexed_indirect.Goals as goal

pub returns : goal.returns
returns c = rw (
  ← c.zero_page_address-z.ensures,
  ← c.zero_page_pointer-pointer.ensures,
  ← c.place_at.ensures,
)
