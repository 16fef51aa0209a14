-- `image::read_v1` meets its contract.
use borrow.Author.Rules.{rules}
use Rattle.oldbenches.specs.OldKinds.{no_sheet_v1}
use Rattle.imagepart.proofs.Copies.{tabled_is}
use Rattle.image.specs.Image.{size_in, tally_in, bench_v1_in, sheet_v1_in}
use Rattle.image.proofs.read_v1.Goals as goal

pub returns : goal.returns
unfolding size_in tally_in bench_v1_in
returns c = let sheets = tabled_is _ (sheet_v1_in c.args.bytes.now) _ (λ q i y k. search rules) 8 _ c.from_fn-sheets.ensures.items no_sheet_v1 in
    rw (sheets, c.read_little-n.ensures.0, c.read_little-tally.ensures.0)
