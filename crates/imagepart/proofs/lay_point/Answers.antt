-- `imagepart::lay_point` meets its contract.
use mathlib.Core.Path.{◌≡◌}
use native.Mathlib.Omega.{arith}
use lib.ListN.{length}
use borrow.Author.Rules.{rules}
use Rattle.imagepart.specs.Parts.{point_bytes}
use Rattle.imagepart.proofs.Steps.{laid_then}
use Rattle.imagepart.proofs.lay_point.Goals as goal

pub returns : goal.returns
unfolding point_bytes
returns c = let p = c.args.point in
    let name : length p.name ≡ 8 = search rules in
    let map : length p.map ≡ 64 = search rules in
    laid_then 8 64 _ _ _ _ _ _ (rw name at c.lay_part.ensures) (rw map at c.lay_part-2.ensures) (omega arith)
