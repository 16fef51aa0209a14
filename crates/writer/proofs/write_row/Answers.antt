-- `write_row` meets its contract, by the laws of Spacing.
use Rattle.writer.proofs.Spacing.{numbers_in_bracket}
use Rattle.writer.proofs.Lengths.{bracket_fits}
use Rattle.writer.proofs.write_row.Goals as goal

pub write_spaced-end-requires-clause-m_in_bounds : goal.write_spaced-end-requires-clause-m_in_bounds
write_spaced-end-requires-clause-m_in_bounds c = search bracket_fits

pub returns-clause-laid : goal.returns-clause-laid
returns-clause-laid c = search numbers_in_bracket
