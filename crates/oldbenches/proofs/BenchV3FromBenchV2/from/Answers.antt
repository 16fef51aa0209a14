-- The conversion of a bench of the second kind into one of the third meets its contract.
use borrow.Author.Rules.{rules}
use Rattle.oldbenches.specs.OldKinds.{no_sheet_v1, no_sheet_v3, unpointed, without_points}
use Rattle.benchsheets.proofs.BenchSheets.{mapped_is}
use Rattle.oldbenches.proofs.BenchV3FromBenchV2.from.Goals as goal

pub returns : goal.returns
unfolding without_points
returns c = rw (mapped_is _ unpointed _ c.args.old.sheets _ 8 c.map.ensures.items (search rules) no_sheet_v1 no_sheet_v3 (λ p q x y k. search rules))
