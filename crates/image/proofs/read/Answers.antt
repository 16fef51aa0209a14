-- `image::read` meets its contract.
use borrow.Author.Rules.{rules}
use Rattle.sheet.specs.Sheet.{no_sheet}
use Rattle.imagepart.proofs.Copies.{tabled_is}
use Rattle.image.specs.Image.{size_in, earlier_in, bench_in, sheet_in}
use Rattle.image.proofs.read.Goals as goal

pub returns : goal.returns
unfolding size_in earlier_in bench_in
returns c = let sheets = tabled_is _ (sheet_in c.args.bytes.now) _ (λ q i y k. search rules) 8 _ c.from_fn-sheets.ensures.items no_sheet in
    rw (sheets, c.read_little-n.ensures.0, c.read_little-earlier.ensures.0)
