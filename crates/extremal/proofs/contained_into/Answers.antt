-- `contained_into`: the refined copy is the greatest congruence inside, by the laws of Bridges.
use Rattle.extremal.proofs.Bridges.{map_long, copied_canonical, contained_written}
use borrow.Author.Rules.{rules}
use Rattle.extremal.proofs.contained_into.Goals as goal

pub copy-requires : goal.copy-requires
copy-requires c = search (rules, map_long)

pub refine-requires-clause-canonical : goal.refine-requires-clause-canonical
refine-requires-clause-canonical c = let copy = c.copy in
    copied_canonical _ _ c.requires.t copy.ensures

pub returns : goal.returns
returns c = let copy = c.copy in
    let refine = c.refine in
    contained_written _ _ _ c.requires.accepted _ _ c.requires.n_in_bounds (search rules) _ c.requires.t copy.ensures refine.ensures.refined refine.ensures.kept_past
