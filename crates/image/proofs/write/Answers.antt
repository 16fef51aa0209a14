-- `image::write` meets its contract.
use mathlib.Core.List.{[]}
use borrow.Author.Rules.{rules}
use Rattle.sheet.specs.Sheet.{no_sheet}
use Rattle.oldbenches.specs.OldKinds.{no_sheet_v3}
use Rattle.image.specs.InnerSheets.{without_tally}
use Rattle.sheet.specs.declared.Sheet.{Sheet}
use Rattle.benchsheets.proofs.BenchSheets.{mapped_is}
use Rattle.image.proofs.Images.{image_written}
use Rattle.image.proofs.write.Goals as goal

pub returns : goal.returns
unfolding without_tally
returns c = let maps = mapped_is _ (λ (s : Sheet). s.map) _ c.args.bench.sheets _ 8 c.map-maps.ensures.items (search rules) no_sheet [] (λ p q x y k. search rules) in
    let untold = mapped_is _ without_tally _ c.args.bench.sheets _ 8 c.map.ensures.items (search rules) no_sheet no_sheet_v3 (λ p q x y k. search rules) in
    search image_written
