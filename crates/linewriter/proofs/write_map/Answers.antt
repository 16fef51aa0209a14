-- `write_map` meets its contract, by the laws of Spacing.
use Rattle.writer.proofs.Spacing.{numbers_line_written}
use Rattle.numberreader.specs.Reading.{ascii}
use native.Mathlib.Omega.{arith}
use Rattle.writer.proofs.Lengths.{spaced_short}
use Rattle.writer.proofs.Bounds.{largest_bounds}
use Rattle.linewriter.proofs.write_map.Goals as goal

pub write_spaced-end-requires-clause-m_in_bounds : goal.write_spaced-end-requires-clause-m_in_bounds
write_spaced-end-requires-clause-m_in_bounds c = omega (arith, spaced_short c.args.m.now (λ i. omega (arith, c.shared_slice_known-1.given i)))

pub write_spaced-end-requires-clause-numbers_below : goal.write_spaced-end-requires-clause-numbers_below
write_spaced-end-requires-clause-numbers_below c = search largest_bounds

pub returns : goal.returns
unfolding ascii
returns c = search numbers_line_written
