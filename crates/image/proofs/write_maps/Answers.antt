-- `image::write_maps` meets its contract.
use mathlib.Core.List.{[]}
use native.Mathlib.Omega.{arith}
use borrow.Author.Rules.{rules}
use Rattle.imagepart.proofs.Steps.{laying_none, laying_more}
use Rattle.image.proofs.write_maps.Goals as goal

pub loop-s-init : goal.loop-s-init
loop-s-init c = laying_none _ _ _ _ _ (search rules)

pub loop-s-preserved : goal.loop-s-preserved
loop-s-preserved c = laying_more (λ m. m) _ 64 0 _ _ _ [] _ _ c.loop-s.invariant (omega arith) c.requires (omega arith) c.lay_map_of.ensures
