-- `image::write_v3` meets its contract.
use mathlib.Core.List.{[]}
use borrow.Author.Rules.{rules}
use Rattle.oldbenches.specs.OldKinds.{no_sheet_v3}
use Rattle.oldbenches.specs.declared.SheetV3.{SheetV3}
use Rattle.benchsheets.proofs.BenchSheets.{mapped_is}
use Rattle.image.proofs.Images.{image_v3_written}
use Rattle.image.proofs.write_v3.Goals as goal

pub returns : goal.returns
returns c = let maps = mapped_is _ (λ (s : SheetV3). s.map) _ c.args.bench.sheets _ 8 c.map-maps.ensures.items (search rules) no_sheet_v3 [] (λ p q x y k. search rules) in
    search image_v3_written
