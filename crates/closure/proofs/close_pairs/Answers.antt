-- `close_pairs`: the pairs joined above the identity, then all queued elements; the map is copied out.
use Prim.Native.Nat.{◌+◌, ◌*◌}
use mathlib.Core.Path.{refl, sym, ◌∙◌}
use Rattle.equivalence.specs.Equivalence.{byte}
use Rattle.kernel.proofs.Kernels.{identity_within, names_same}
use Rattle.algebra.proofs.Accepted.{accepted_well_formed}
use Rattle.algebra.specs.Algebra.{algebra_of}
use Rattle.closure.proofs.Starting.{accepted_contexts, identity_total, identity_ready, identity_use, identity_begun, sweeping_start, grown_closed, closed_copied}
use native.Mathlib.Omega.{arith}
use lib.ListN.{replicate}
use Rattle.closure.proofs.close_pairs.Goals as goal

pub seed-requires-clause-ready : goal.seed-requires-clause-ready
seed-requires-clause-ready c = identity_ready c.fresh.result (replicate 64 0) (accepted_well_formed (algebra_of c.args.n c.args.arities.now c.args.cells.now) c.requires.accepted).most (omega arith) (omega arith) c.fresh.ensures

pub overflow_sub-stop : goal.overflow_sub-stop
overflow_sub-stop c = omega (arith, (accepted_well_formed (algebra_of c.args.n c.args.arities.now c.args.cells.now) c.requires.accepted).some)

pub close-requires-clause-sweeping : goal.close-requires-clause-sweeping
close-requires-clause-sweeping c = let n = c.args.n in
    let w = accepted_well_formed (algebra_of c.args.n c.args.arities.now c.args.cells.now) c.requires.accepted in
    let first = c.fresh.ensures in
    let d = c.seed.ensures.grown in
    let held = identity_use {live = c.fresh-2.result} {places = c.fresh-3.result} w.most (omega arith) (omega arith) c.fresh-2.ensures c.fresh-3.ensures in
    let total = d.blocks ∙ identity_total n _ (λ x l. first x (omega (arith, w.most, l))) in
    sweeping_start n 0 0 d.ready w.some w.some w.some total

pub close-requires-clause-contexts : goal.close-requires-clause-contexts
close-requires-clause-contexts c = let n = c.args.n in
    let w = accepted_well_formed (algebra_of c.args.n c.args.arities.now c.args.cells.now) c.requires.accepted in
    let first = c.fresh.ensures in
    let d = c.seed.ensures.grown in
    let held = identity_use {live = c.fresh-2.result} {places = c.fresh-3.result} w.most (omega arith) (omega arith) c.fresh-2.ensures c.fresh-3.ensures in
    let total = d.blocks ∙ identity_total n _ (λ x l. first x (omega (arith, w.most, l))) in
    accepted_contexts c.args.arities.now c.requires.accepted (omega (arith, held)) held.below

pub close-requires-clause-in_use : goal.close-requires-clause-in_use
close-requires-clause-in_use c = let n = c.args.n in
    let w = accepted_well_formed (algebra_of c.args.n c.args.arities.now c.args.cells.now) c.requires.accepted in
    let first = c.fresh.ensures in
    let d = c.seed.ensures.grown in
    let held = identity_use {live = c.fresh-2.result} {places = c.fresh-3.result} w.most (omega arith) (omega arith) c.fresh-2.ensures c.fresh-3.ensures in
    let total = d.blocks ∙ identity_total n _ (λ x l. first x (omega (arith, w.most, l))) in
    held

pub close-requires-clause-begun : goal.close-requires-clause-begun
close-requires-clause-begun c = let n = c.args.n in
    let w = accepted_well_formed (algebra_of c.args.n c.args.arities.now c.args.cells.now) c.requires.accepted in
    let first = c.fresh.ensures in
    let d = c.seed.ensures.grown in
    let held = identity_use {live = c.fresh-2.result} {places = c.fresh-3.result} w.most (omega arith) (omega arith) c.fresh-2.ensures c.fresh-3.ensures in
    let total = d.blocks ∙ identity_total n _ (λ x l. first x (omega (arith, w.most, l))) in
    identity_begun (algebra_of c.args.n c.args.arities.now c.args.cells.now) (λ x l. c.fresh-2.ensures x (omega (arith, w.most, l))) (λ x l. d.pushed x l (first x (omega (arith, w.most, l)))) (sym total)

pub copy-requires-clause-n_in_bounds : goal.copy-requires-clause-n_in_bounds
copy-requires-clause-n_in_bounds c = let w = accepted_well_formed (algebra_of c.args.n c.args.arities.now c.args.cells.now) c.requires.accepted in
    omega (arith, w.most)

pub returns-clause-closed : goal.returns-clause-closed
returns-clause-closed c = let n = c.args.n in
    let w = accepted_well_formed (algebra_of c.args.n c.args.arities.now c.args.cells.now) c.requires.accepted in
    let pairs = c.args.pairs.now in
    let below = c.requires.by_index in
    let first = c.fresh.ensures in
    let d = c.seed.ensures in
    let e = c.close.ensures.swept in
    let k = c.copy.ensures in
    let closed = grown_closed (algebra_of c.args.n c.args.arities.now c.args.cells.now) (λ g good. (identity_within n _ g (λ x l. first x (omega (arith, w.most, l))), good)) d.grown e refl
    (λ j l. e.grown.within (byte pairs (2 * j)) (byte pairs (2 * j + 1)) (below (2 * j) (omega arith)) (below (2 * j + 1) l) (d.joins_pairs j l)) in
    closed_copied (algebra_of c.args.n c.args.arities.now c.args.cells.now) c.requires.accepted k.first (λ j l. k.first (byte pairs (2 * j)) (below (2 * j) (omega arith)) ∙ closed.good j l ∙ sym (k.first (byte pairs (2 * j + 1)) (below (2 * j + 1) l))) (λ g good. good) closed

pub returns-clause-m_after : goal.returns-clause-m_after
returns-clause-m_after c = let n = c.args.n in
    let w = accepted_well_formed (algebra_of c.args.n c.args.arities.now c.args.cells.now) c.requires.accepted in
    let first = c.fresh.ensures in
    omega (arith, c.close.ensures.swept.grown.blocks, c.seed.ensures.grown.blocks, identity_total n _ (λ x l. first x (omega (arith, w.most, l))), names_same n _ _ c.copy.ensures.first)
