-- `close_with`: the map is copied to 64 bytes, closed there, and copied back.
use mathlib.Core.Path.{refl, sym}
use Rattle.kernel.proofs.Kernels.{names_same}
use Rattle.algebra.proofs.Accepted.{accepted_well_formed}
use Rattle.algebra.specs.Algebra.{algebra_of}
use Rattle.closure.proofs.Starting.{extends_copied, closed_copied}
use native.Mathlib.Omega.{arith}
use Rattle.closure.proofs.close_with.Goals as goal

pub copy-requires-clause-n_in_bounds_2 : goal.copy-requires-clause-n_in_bounds_2
copy-requires-clause-n_in_bounds_2 c = let w = accepted_well_formed (algebra_of c.args.n c.args.arities.now c.args.cells.now) c.requires.accepted in
    omega (arith, w.most, c.identity.auto)

pub copy-requires-2-clause-n_in_bounds : goal.copy-requires-2-clause-n_in_bounds
copy-requires-2-clause-n_in_bounds c = let w = accepted_well_formed (algebra_of c.args.n c.args.arities.now c.args.cells.now) c.requires.accepted in
    omega (arith, w.most, c.identity.auto, c.copy.auto, c.close_with_in-lost.auto)

pub returns-clause-closed : goal.returns-clause-closed
returns-clause-closed c = let n = c.args.n in
    let p = c.requires in
    let k = c.copy.ensures.first in
    let back = c.copy-2.ensures in
    let d = c.close_with_in-lost.ensures in
    closed_copied (algebra_of c.args.n c.args.arities.now c.args.cells.now) c.requires.accepted back.first (extends_copied k back.first p.x_lt_n p.y_lt_n d.closed.good) (λ g good. extends_copied (λ z l. sym (k z l)) (λ z l. refl) p.x_lt_n p.y_lt_n good) d.closed

pub returns-clause-m_after : goal.returns-clause-m_after
returns-clause-m_after c = let n = c.args.n in
    let p = c.requires in
    let k = c.copy.ensures.first in
    let back = c.copy-2.ensures in
    let d = c.close_with_in-lost.ensures in
    omega (arith, d.m_after, names_same n _ _ back.first, names_same n _ _ k)
