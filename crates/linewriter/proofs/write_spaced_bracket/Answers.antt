-- `write_spaced_bracket` meets its contract, by the laws of Spacing.
use native.Mathlib.Omega.{arith}
use Rattle.writer.proofs.Spacing.{bracket_after_space}
use Rattle.writer.proofs.Lengths.{bracketed_short}
use Rattle.linewriter.proofs.write_spaced_bracket.Goals as goal

pub write_bracketed-requires : goal.write_bracketed-requires
write_bracketed-requires c = (omega arith, omega (arith, bracketed_short c.args.m.now (omega arith) (λ i. omega (arith, c.shared_slice_known-1.given i))))

pub returns-clause-laid : goal.returns-clause-laid
returns-clause-laid c = search bracket_after_space
