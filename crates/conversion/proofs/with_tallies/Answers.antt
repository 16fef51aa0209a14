-- `conversion::with_tallies` meets its contract.
use borrow.Author.Rules.{rules}
use Rattle.sheet.specs.Sheet.{no_sheet}
use Rattle.oldbenches.specs.OldKinds.{no_sheet_v3}
use Rattle.conversion.specs.Conversion.{untallied, with_tallies}
use Rattle.benchsheets.proofs.BenchSheets.{mapped_is}
use Rattle.conversion.proofs.with_tallies.Goals as goal

pub returns : goal.returns
unfolding with_tallies
returns c = rw (mapped_is _ untallied _ c.args.old.sheets _ 8 c.map.ensures.items (search rules) no_sheet_v3 no_sheet (λ p q x y k. search rules))
