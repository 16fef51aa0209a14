-- `refine_above` meets its contract: of the elements in use, the others are listed first.
use borrow.Author.Rules.{rules}
use Rattle.algebra.specs.Algebra.{algebra_of}
use Rattle.refinement.proofs.Refinements.{bare_refined}
use Rattle.refinement.proofs.Refinements.{walk_begins}
use Rattle.refinement.proofs.Fronts.{walk_front, represented_front}
use Rattle.refinement.proofs.refine_above.Goals as goal

pub returns-then-is_empty-clause-refined : goal.returns-then-is_empty-clause-refined
returns-then-is_empty-clause-refined c = let a = c.args in
    bare_refined (algebra_of a.n a.arities.now a.cells.now) _ c.requires.canonical (search rules)

pub refine_by-requires-clause-walk : goal.refine_by-requires-clause-walk
refine_by-requires-clause-walk c =
    walk_front (walk_begins c.requires.accepted (represented_front c.requires.represented) (rw c.copy_from_slice.ensures.after at c.sift-left.ensures)
    c.requires.n_in_bounds c.requires.canonical)

pub refine_by-requires-clause-represented : goal.refine_by-requires-clause-represented
refine_by-requires-clause-represented c = represented_front c.requires.represented
